-- The making of a chip.
use Rattle.std.specs.Prelude.{◌≡◌, ℕ, Bool, true, false, if◌then◌else◌, List, [], length, replicate, Ok, Err, Result}
use Rattle.fault.specs.declared.cause.Cause.TheVariants.{UnfitMaking}
use Rattle.fault.specs.declared.faults.ChipFault.{ChipFault}
use Rattle.geometry.specs.Plans.{plan_of}
use Rattle.chip.specs.declared.chip.Chip.{Chip}
use Rattle.chip.specs.declared.setup.Setup.{Setup}
use Rattle.chip.specs.declared.unmade.Unmade.{Unmade}
use Rattle.chip.specs.declared.unmade.Unmade.TheVariants.{Refused, Memory}
use Rattle.chip.specs.Setups.{fit, no_chip}
use Rattle.chip.specs.Flash.{Flash, view}
use Rattle.chip.specs.Writes.{read_mode}

-- why a chip is not made of some numbers, or on some memory
abbrev pub unfit : ChipFault
unfit = record { cause = UnfitMaking; place = 0 }

-- what a call answers that only asks whether something fits
abbrev pub fitting : Bool → Result (Unit {0}) ChipFault
fitting fits = if fits then Ok tt else Err unfit

-- what the checking call answers
abbrev pub checked : Setup → ℕ → Result (Unit {0}) ChipFault
checked s len = fitting (fit s len)

-- a chip that has just been made: in read mode, no time passed on it
abbrev pub fresh : Setup → List ℕ → Flash
fresh s cells = record { setup = s; cells = cells; state = read_mode; clock = 0 }

-- a chip made of what does not fit is dead: size 0, no blocks
unfoldable pub made : Setup → List ℕ → Flash
made s cells = if fit s (length cells) then fresh s cells else fresh no_chip []

-- A fresh chip on this memory, or the refusal because it or the numbers do not fit.
abbrev pub MadeOn : Setup → List ℕ → Result Chip ChipFault → Type 0
MadeOn s cells (Ok c) = (fit s (length cells) ≡ true) × (view c ≡ fresh s cells)
MadeOn s cells (Err e) = (fit s (length cells) ≡ false) × (e ≡ unfit)

-- A fresh chip with FFh throughout, or the refusal because the numbers do not fit; if they do there may be no memory for it.
abbrev pub MadeBlank : Setup → Result Chip Unmade → Type 0
MadeBlank s (Ok c) = (fit s (plan_of s.kind).size ≡ true) × (view c ≡ fresh s (replicate (plan_of s.kind).size 0xFF))
MadeBlank s (Err (Refused e)) = (fit s (plan_of s.kind).size ≡ false) × (e ≡ unfit)
MadeBlank s (Err Memory) = fit s (plan_of s.kind).size ≡ true
