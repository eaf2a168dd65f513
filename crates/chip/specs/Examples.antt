-- Worked examples on the bench chip, which starts as FFh throughout, with 16 microseconds to program a byte, 1,000 to erase a
-- block and 15 to suspend. Block 1 begins at 400h and block 2 at 600h.
use Rattle.std.specs.Prelude.{◌≡◌, ℕ, ◌+◌, List, [], ◌∷◌, ◌++◌, replicate, Ok, Err, Result}
use Rattle.fault.specs.declared.faults.ChipFault.{ChipFault}
use Rattle.geometry.specs.declared.kinds.TheConstants.{TOP, BOTTOM, BENCH}
use Rattle.geometry.specs.Sets.{none, only}
use Rattle.chip.specs.Flash.{Flash}
use Rattle.chip.specs.Making.{fresh, made}
use Rattle.chip.specs.Writes.{written}
use Rattle.chip.specs.Reads.{answered, seen}
use Rattle.chip.specs.Times.{after}
use Rattle.chip.specs.Resets.{after_reset}
use Rattle.chip.specs.Runs.{Event, write, read, wait, reset}

-- the byte read, or 256 where the read is refused
abbrev pub byte_of : Result ℕ ChipFault → ℕ
byte_of (Ok byte) = byte
byte_of (Err fault) = 256

-- the bytes that are read in a run of events
abbrev pub outcome : Flash → List Event → List ℕ
outcome f [] = []
outcome f (write a byte ∷ cycles) = outcome (written f a byte) cycles
outcome f (read a ∷ cycles) = byte_of (answered f a) ∷ outcome (seen f a) cycles
outcome f (wait n ∷ cycles) = outcome (after n f) cycles
outcome f (reset ∷ cycles) = outcome (after_reset f) cycles

abbrev pub bench_chip : Flash
bench_chip =
    made (record { kind = BENCH; program = 16; erase = 1000; suspend = 15; protected = none; worn = none }) (replicate 32768 0xFF)

abbrev pub unlock : List Event
unlock = write 0x5555 0xAA ∷ write 0x2AAA 0x55 ∷ []

abbrev pub program : ℕ → ℕ → List Event
program a byte = unlock ++ write 0x5555 0xA0 ∷ write a byte ∷ []

abbrev pub erase : ℕ → List Event
erase a = unlock ++ write 0x5555 0x80 ∷ unlock ++ write a 0x30 ∷ []

pub record Example : Type 0 where
  pub cycles : List Event
  pub reads : List ℕ

abbrev pub table : List Example
table =
    -- 41h is programmed at 400h: two reads of the status, a third after 15 microseconds, and 1 microsecond later the cell.
    record {
      cycles = program 0x400 0x41 ++ read 0x400 ∷ read 0x400 ∷ wait 15 ∷ read 0x400 ∷ wait 1 ∷ read 0x400 ∷ [];
      reads = 0x80 ∷ 0xC0 ∷ 0x80 ∷ 0x41 ∷ [];
    }
    -- 41h over 40h has a 1 over a 0: it fails after 300 microseconds, and F0h gives read mode.
    ∷ record {
      cycles = program 0x400 0x40 ++ wait 16 ∷ program 0x400 0x41 ++ wait 300 ∷ read 0x400 ∷ read 0x400 ∷ write 0x0 0xF0 ∷ read 0x400 ∷ [];
      reads = 0xA8 ∷ 0xE8 ∷ 0x40 ∷ [];
    }
    -- Block 1 is erased: the window, the erasing, its last microsecond, and the erased cell.
    ∷ record {
      cycles = program 0x400 0x41 ++ wait 16 ∷ erase 0x400 ++ read 0x400 ∷ read 0x400 ∷ wait 50 ∷ read 0x400 ∷ wait 999 ∷ read 0x400 ∷ wait 1 ∷ read 0x400 ∷ [];
      reads = 0x00 ∷ 0x40 ∷ 0x08 ∷ 0x48 ∷ 0xFF ∷ [];
    }
    -- A second 30h, at 600h, after 49 microseconds: both blocks are erased 2,050 microseconds later, and not 2,049.
    ∷ record {
      cycles = program 0x400 0x41 ++ wait 16 ∷ program 0x600 0x42 ++ wait 16 ∷ erase 0x400 ++ wait 49 ∷ write 0x600 0x30 ∷ wait 2050 ∷ read 0x400 ∷ read 0x600 ∷ [];
      reads = 0xFF ∷ 0xFF ∷ [];
    }
    ∷ record {
      cycles = program 0x400 0x41 ++ wait 16 ∷ program 0x600 0x42 ++ wait 16 ∷ erase 0x400 ++ wait 49 ∷ write 0x600 0x30 ∷ wait 2049 ∷ read 0x400 ∷ read 0x600 ∷ [];
      reads = 0x08 ∷ 0x48 ∷ [];
    }
    -- B0h: after 14 microseconds two reads differ in the toggle bit, and 1 microsecond later they agree.
    ∷ record {
      cycles = erase 0x400 ++ write 0x400 0xB0 ∷ wait 14 ∷ read 0x400 ∷ read 0x400 ∷ wait 1 ∷ read 0x400 ∷ read 0x400 ∷ [];
      reads = 0x00 ∷ 0x40 ∷ 0x80 ∷ 0x80 ∷ [];
    }
    ∷ []

-- every example comes out as the table says
abbrev pub Each : List Example → Type 0
Each [] = Unit {0}
Each (e ∷ es) = (outcome bench_chip e.cycles ≡ e.reads) × Each es

abbrev pub WorkedExamples : Type 0
WorkedExamples = Each table

-- A chip in ID mode: which it is, its device code, and where its block 1 begins, which is protected here and no other is.
pub record Identity : Type 0 where
  pub kind : ℕ
  pub code : ℕ
  pub protected : ℕ

abbrev pub identities : List Identity
identities =
    record { kind = TOP; code = 0x3B; protected = 65536 } ∷ record { kind = BOTTOM; code = 0xBA; protected = 16384 }
    ∷ record { kind = BENCH; code = 0xBA; protected = 0x400 } ∷ []

-- a chip whose block 1 is protected; its cells do not matter in ID mode
abbrev pub guarded_chip : ℕ → Flash
guarded_chip kind = fresh (record { kind = kind; program = 16; erase = 1000; suspend = 15; protected = only 1; worn = none }) []

-- the maker's code 98h, the device code, 00h for block 0 and 01h for block 1, and 00h where A6 or both A1 and A0 are 1
abbrev pub EachIdentity : List Identity → Type 0
EachIdentity [] = Unit {0}
EachIdentity (i ∷ is) =
    (outcome (guarded_chip i.kind)
    (unlock ++ write 0x5555 0x90 ∷ read 0 ∷ read 1 ∷ read 2 ∷ read (i.protected + 2) ∷ read 3 ∷ read 0x40 ∷ [])
    ≡ 0x98 ∷ i.code ∷ 0x00 ∷ 0x01 ∷ 0x00 ∷ 0x00 ∷ [])
    × EachIdentity is

abbrev pub IdentityExamples : Type 0
IdentityExamples = EachIdentity identities
