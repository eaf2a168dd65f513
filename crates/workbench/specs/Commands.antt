-- The command sequences as writes, each an address and a byte, and what a chip makes of writes in a row.
use Rattle.std.specs.Prelude.{ℕ, if◌then◌else◌, List, [], ◌∷◌, ◌++◌, Ok, Err, Result}
use Rattle.fault.specs.declared.cause.Cause.TheVariants.{AddressOutside}
use Rattle.fault.specs.declared.faults.ChipFault.{ChipFault}
use Rattle.geometry.specs.declared.datasheet.Commands.{Commands}
use Rattle.chip.specs.Flash.{Flash, inside}
use Rattle.chip.specs.Writes.{written}

pub record Write : Type 0 where
  pub address : ℕ
  pub byte : ℕ

abbrev pub write : ℕ → ℕ → Write
write a byte = record { address = a; byte = byte }

-- the two unlocking writes
abbrev pub unlock : Commands → List Write
unlock c = write c.first 0xAA ∷ write c.second 0x55 ∷ []

-- a command of three writes
abbrev pub command : Commands → ℕ → List Write
command c byte = unlock c ++ write c.first byte ∷ []

-- the four writes that program a byte
abbrev pub program : Commands → ℕ → ℕ → List Write
program c a byte = command c 0xA0 ++ write a byte ∷ []

-- the six writes that erase the block of an address
abbrev pub erase : Commands → ℕ → List Write
erase c a = command c 0x80 ++ unlock c ++ write a 0x30 ∷ []

-- Writes in a row end at the first that is refused, which is at an address outside.
abbrev pub all_heard : Flash → List Write → Result (Unit {0}) ChipFault
all_heard f [] = Ok tt
all_heard f (w ∷ ws) = if inside f w.address then all_heard f ws else Err (record { cause = AddressOutside; place = w.address })

abbrev pub all_written : Flash → List Write → Flash
all_written f [] = f
all_written f (w ∷ ws) = if inside f w.address then all_written (written f w.address w.byte) ws else f
