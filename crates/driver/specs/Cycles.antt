-- The bus of a chip: what a write, a read and time do, as far as all families of chips agree. What is in no row is left open: the driver does without it.
use Rattle.std.specs.Prelude.{◌≡◌, ℕ, ◌-◌, ◌<◌, ◌≤◌, Bool, true, false, not, ◌⊎◌, length, Some, None, Ok, Err, Option, Result, if◌then◌else◌, nat_le, slice_set}
use Rattle.fault.specs.declared.cause.Cause.TheVariants.{AddressOutside, TimeTooLong}
use Rattle.fault.specs.declared.faults.ChipFault.{ChipFault}
use Rattle.fault.specs.Limits.{longest, needs_erase}
use Rattle.geometry.specs.Blocks.{wiped}
use Rattle.part.specs.Meaning.{cell, block, guarded, worn}
use Rattle.driver.specs.Rig.{Job, Burn, Place, Doing, resting, identifying, programming, erasing, stopping, failed, other, start, first_unlock, unlocked, program_setup, erase_setup, erase_first_unlock, erase_unlocked, Rig, does, later, inside, LiesIn, meaning, program_time, erase_time}
use Rattle.driver.specs.Status.{dq6, Status}

-- a chip that does `from` does `to` afterwards, and nothing else has changed
abbrev pub Turns : Rig → Rig → Doing → Doing → Type 0
Turns r s from to = r.doing ≡ from → s ≡ does r to

-- the write is of the byte `what` at the address `at`
abbrev pub Is : ℕ → ℕ → ℕ → ℕ → Type 0
Is a byte at what = (a ≡ at) × (byte ≡ what)

-- a byte that may be programmed at an address: inside, not in a guarded block, with no 1 over a 0
pub record Burnable (r : Rig) (a byte : ℕ) : Type 0 where
  pub within : inside r.sheet a ≡ true
  pub unguarded : guarded (meaning r) (block (meaning r) a) ≡ false
  pub clears : needs_erase (cell (meaning r) a) byte ≡ false

-- The table of commands: a write of a byte at an address inside. In each row b is any block.
pub record Heeds (r : Rig) (a byte : ℕ) (s : Rig) : Type 0 where
  -- A write takes no time, and changes no cell.
  pub only : s ≡ does r s.doing
  -- the two unlocking writes
  pub unlocks : (b : ℕ) → b < length r.sheet.sizes → Is a byte (r.sheet.first b) 0xAA → Turns r s (resting None start) (resting None first_unlock)
  pub has_unlocked : (b : ℕ) → b < length r.sheet.sizes → Is a byte (r.sheet.second b) 0x55 → Turns r s (resting None first_unlock) (resting None unlocked)
  -- ID mode in a zone, and back
  pub identifies : (b : ℕ) → b < length r.sheet.sizes → Is a byte (r.sheet.first b) 0x90 → Turns r s (resting None unlocked) (identifying (r.sheet.zone b))
  pub back : (zone : ℕ) → r.sheet.zone (block (meaning r) a) ≡ zone → byte ≡ 0xF0 → Turns r s (identifying zone) (resting None start)
  -- a program
  pub sets_up : (b : ℕ) → b < length r.sheet.sizes → Is a byte (r.sheet.first b) 0xA0 → Turns r s (resting None unlocked) (resting None program_setup)
  pub programs : Burnable r a byte
      → Turns r s (resting None program_setup) (programming (record { address = a; byte = byte; left = program_time r a; toggle = false }) None)
  -- an erase
  pub sets_up_erase : (b : ℕ) → b < length r.sheet.sizes → Is a byte (r.sheet.first b) 0x80 → Turns r s (resting None unlocked) (resting None erase_setup)
  pub unlocks_erase : (b : ℕ) → b < length r.sheet.sizes → Is a byte (r.sheet.first b) 0xAA → Turns r s (resting None erase_setup) (resting None erase_first_unlock)
  pub has_unlocked_erase : (b : ℕ) → b < length r.sheet.sizes → Is a byte (r.sheet.second b) 0x55
      → Turns r s (resting None erase_first_unlock) (resting None erase_unlocked)
  pub erases : (b : ℕ) → LiesIn r.sheet a b → guarded (meaning r) b ≡ false → byte ≡ 0x30
      → Turns r s (resting None erase_unlocked) (erasing (record { block = b; left = erase_time r b; toggle = false }))
  -- suspend and resume, in the block that is erased
  pub suspends : (j : Job) → LiesIn r.sheet a j.block → byte ≡ 0xB0 → Turns r s (erasing j) (stopping j r.suspend)
  pub resumes : (j : Job) → LiesIn r.sheet a j.block → byte ≡ 0x30 → Turns r s (resting (Some j) start) (erasing j)
  -- reset after a failure
  pub mends : (zone wanted : ℕ) (toggle : Bool) (o : Option Job) → r.sheet.zone (block (meaning r) a) ≡ zone → byte ≡ 0xF0
      → Turns r s (failed zone wanted toggle o) (resting o start)

-- a write cycle: an address outside is refused, and nothing changes
abbrev pub Writes : Rig → ℕ → ℕ → Result (Unit {0}) ChipFault → Rig → Type 0
Writes r a byte (Ok done) s = (inside r.sheet a ≡ true) × Heeds r a byte s
Writes r a byte (Err fault) s = (inside r.sheet a ≡ false) × (fault ≡ record { cause = AddressOutside; place = a }) × (s ≡ r)

-- the toggle bit turned
abbrev pub flip_job : Job → Job
flip_job j = record j { toggle = not j.toggle }

abbrev pub flipped : Doing → Doing
flipped (resting o place) = resting o place
flipped (identifying zone) = identifying zone
flipped (programming p o) = programming (record p { toggle = not p.toggle }) o
flipped (erasing j) = erasing (flip_job j)
flipped (stopping j wait) = stopping (flip_job j) wait
flipped (failed zone wanted toggle o) = failed zone wanted (not toggle) o
flipped other = other

-- a read of the status, which turns the toggle bit
abbrev pub StatusRead : Rig → ℕ → Rig → ℕ → Bool → Bool → Type 0
StatusRead r byte s wanted toggle fails = Status byte wanted toggle fails × (s ≡ does r (flipped r.doing))

-- What a read of an address inside shows.
pub record Shows (r : Rig) (a byte : ℕ) (s : Rig) : Type 0 where
  -- A read changes at most the toggle bit.
  pub only : (s ≡ r) ⊎ (s ≡ does r (flipped r.doing))
  -- the cell, where no erasing is suspended in the block
  pub rests : (o : Option Job) (p : Place) → r.doing ≡ resting o p → ((j : Job) → o ≡ Some j → block (meaning r) a ≡ j.block → ⊥)
      → byte ≡ cell (meaning r) a
  pub stands_still : (j : Job) (p : Place) → r.doing ≡ resting (Some j) p → block (meaning r) a ≡ j.block → dq6 byte ≡ r.sheet.still
  -- 1 where ID mode is asked for a guarded block
  pub identifies : (b : ℕ) → b < length r.sheet.sizes → r.doing ≡ identifying (r.sheet.zone b) → a ≡ r.sheet.guard b
      → byte ≡ (if guarded (meaning r) b then 1 else 0)
  -- the status, where the operation is
  pub programs : (p : Burn) (o : Option Job) → r.doing ≡ programming p o → a ≡ p.address → StatusRead r byte s p.byte p.toggle false
  pub erases : (j : Job) → r.doing ≡ erasing j → block (meaning r) a ≡ j.block → StatusRead r byte s 0xFF j.toggle false
  pub stops : (j : Job) (wait : ℕ) → r.doing ≡ stopping j wait → block (meaning r) a ≡ j.block → StatusRead r byte s 0xFF j.toggle false
  pub has_failed : (zone wanted : ℕ) (toggle : Bool) (o : Option Job) → r.doing ≡ failed zone wanted toggle o → r.sheet.zone (block (meaning r) a) ≡ zone
      → StatusRead r byte s wanted toggle true

-- a read cycle: an address outside is refused, and nothing changes
abbrev pub Reads : Rig → ℕ → Result ℕ ChipFault → Rig → Type 0
Reads r a (Ok byte) s = (inside r.sheet a ≡ true) × Shows r a byte s
Reads r a (Err fault) s = (inside r.sheet a ≡ false) × (fault ≡ record { cause = AddressOutside; place = a }) × (s ≡ r)

-- What n microseconds do.
pub record Elapses (r : Rig) (n : ℕ) (s : Rig) : Type 0 where
  -- The clock moves by n, and the chip stays the same chip.
  pub only : s ≡ later r n s.cells s.doing
  pub rests : (o : Option Job) (p : Place) → r.doing ≡ resting o p → s ≡ later r n r.cells (resting o p)
  -- a program of a byte that may be programmed goes on, and ends
  pub programs : (p : Burn) (o : Option Job) → r.doing ≡ programming p o → n < p.left → s ≡ later r n r.cells (programming (record p { left = p.left - n }) o)
  pub burns : (p : Burn) (o : Option Job) → r.doing ≡ programming p o → Burnable r p.address p.byte → p.left ≤ n → 1 ≤ n
      → worn (meaning r) (block (meaning r) p.address) ≡ false → s ≡ later r n (slice_set r.cells p.address p.byte) (resting o start)
  pub burns_not : (p : Burn) (o : Option Job) → r.doing ≡ programming p o → Burnable r p.address p.byte → p.left ≤ n → 1 ≤ n
      → worn (meaning r) (block (meaning r) p.address) ≡ true
      → s ≡ later r n r.cells (failed (r.sheet.zone (block (meaning r) p.address)) p.byte p.toggle o)
  -- an erase goes on, and ends
  pub erases : (j : Job) → r.doing ≡ erasing j → n < j.left → s ≡ later r n r.cells (erasing (record j { left = j.left - n }))
  pub has_erased : (j : Job) → r.doing ≡ erasing j → j.left ≤ n → worn (meaning r) j.block ≡ false
      → s ≡ later r n (wiped r.sheet.sizes j.block 0xFF r.cells) (resting None start)
  pub has_not_erased : (j : Job) → r.doing ≡ erasing j → j.left ≤ n → worn (meaning r) j.block ≡ true
      → s ≡ later r n r.cells (failed (r.sheet.zone j.block) 0xFF j.toggle None)
  -- a suspension comes nearer, and comes
  pub stops : (j : Job) (wait : ℕ) → r.doing ≡ stopping j wait → n < wait → s ≡ later r n r.cells (stopping j (wait - n))
  pub has_stopped : (j : Job) (wait : ℕ) → r.doing ≡ stopping j wait → wait ≤ n → 1 ≤ n → s ≡ later r n r.cells (resting (Some j) start)

-- the passing of time: a time over the longest is refused, and nothing changes
abbrev pub Passes : Rig → ℕ → Result (Unit {0}) ChipFault → Rig → Type 0
Passes r n (Ok done) s = (nat_le n longest ≡ true) × Elapses r n s
Passes r n (Err fault) s = (nat_le n longest ≡ false) × (fault ≡ record { cause = TimeTooLong; place = n }) × (s ≡ r)
