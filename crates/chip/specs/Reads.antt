-- The read cycle. A busy or failed chip answers with its status, and each such read flips the toggle bit.
use Rattle.std.specs.Prelude.{ℕ, Bool, true, false, not, if◌then◌else◌, Result}
use Rattle.fault.specs.declared.faults.ChipFault.{ChipFault}
use Rattle.geometry.specs.Plans.{plan_of, sheet_of}
use Rattle.flash.specs.declared.sequence.Mode.TheVariants.{Read, Id}
use Rattle.flash.specs.Identities as identities
use Rattle.flash.specs.Statuses as statuses
use Rattle.chip.specs.declared.state.Phase.{Phase}
use Rattle.chip.specs.declared.state.Phase.TheVariants.{Window, Erasing as Begun}
use Rattle.chip.specs.declared.state.Program.{Program}
use Rattle.chip.specs.declared.state.Erase.{Erase}
use Rattle.chip.specs.declared.state.State.{State}
use Rattle.chip.specs.declared.state.State.TheVariants.{Ready, Programming, Erasing, Suspending, Suspended, Failed}
use Rattle.chip.specs.Flash.{Flash, block_map_of, inside, cell, lies_in}
use Rattle.chip.specs.Writes.{at_address}

-- what ID mode answers
abbrev pub identity : Flash → ℕ → ℕ
identity f a = identities.identity (sheet_of (plan_of f.setup.kind)) (block_map_of f) a

abbrev pub begun : Phase → Bool
begun Window = false
begun Begun = true

abbrev pub erase_status : Erase → ℕ
erase_status e = statuses.erase_status e.toggle (begun e.phase)

-- what a read answers, by what the chip is doing
abbrev pub shown : Flash → State → ℕ → ℕ
shown f (Ready Read place) a = cell f a
shown f (Ready Id place) a = identity f a
shown f (Programming p) a = statuses.status p.byte p.toggle false false
shown f (Erasing e) a = erase_status e
shown f (Suspending e wait) a = erase_status e
shown f (Suspended e) a = if lies_in f e.selected a then statuses.suspended_status else cell f a
shown f (Failed byte toggle) a = statuses.status byte toggle true true

abbrev pub flip_program : Program → Program
flip_program p = record p { toggle = not p.toggle }

abbrev pub flip_erase : Erase → Erase
flip_erase e = record e { toggle = not e.toggle }

-- what the chip does after a read: only the toggle bit changes, and only by a read of the status
abbrev pub flipped : State → State
flipped (Ready mode place) = Ready mode place
flipped (Programming p) = Programming (flip_program p)
flipped (Erasing e) = Erasing (flip_erase e)
flipped (Suspending e wait) = Suspending (flip_erase e) wait
flipped (Suspended e) = Suspended e
flipped (Failed byte toggle) = Failed byte (not toggle)

-- what a read cycle answers, and the chip after it
unfoldable pub answered : Flash → ℕ → Result ℕ ChipFault
answered f a = at_address f a (shown f f.state a)

unfoldable pub seen : Flash → ℕ → Flash
seen f a = if inside f a then record f { state = flipped f.state } else f
