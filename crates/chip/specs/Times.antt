-- Time. Letting n microseconds pass is n steps of one.
use Rattle.std.specs.Prelude.{ℕ, zero, suc, ◌+◌, ◌-◌, ◌%◌, max, Bool, if◌then◌else◌, Some, None, Ok, Err, Option, Result, nat_le}
use Rattle.fault.specs.declared.cause.Cause.TheVariants.{TimeTooLong}
use Rattle.fault.specs.declared.faults.ChipFault.{ChipFault}
use Rattle.fault.specs.Limits.{longest}
use Rattle.geometry.specs.declared.set.BlockSet.{BlockSet}
use Rattle.flash.specs.Erases as erases
use Rattle.flash.specs.Programs.{after_program, program_fails}
use Rattle.chip.specs.declared.state.Phase.{Phase}
use Rattle.chip.specs.declared.state.Phase.TheVariants.{Window, Erasing as Begun}
use Rattle.chip.specs.declared.state.Program.{Program}
use Rattle.chip.specs.declared.state.Erase.{Erase}
use Rattle.chip.specs.declared.state.State.{State}
use Rattle.chip.specs.declared.state.State.TheVariants.{Ready, Programming, Erasing, Suspending, Suspended, Failed}
use Rattle.chip.specs.Flash.{Flash, block_map_of}
use Rattle.chip.specs.Writes.{read_mode}

-- The end of a program.
abbrev pub programmed : Flash → Program → Flash
programmed f p = record f {
  cells = after_program (block_map_of f) f.cells p.address p.byte;
  state = if program_fails (block_map_of f) f.cells p.address p.byte then Failed p.byte p.toggle else read_mode;
}

-- Whether one of the blocks that an erase works on is worn.
abbrev pub spoils : Flash → BlockSet → Bool
spoils f selected = erases.spoils (block_map_of f) selected

-- How long the erasing lasts, by the number of blocks that it works on.
abbrev pub erase_time : Flash → BlockSet → ℕ
erase_time f selected = erases.erase_time (block_map_of f) f.setup.erase selected

-- The end of a phase: the erasing follows the window; the blocks become FFh throughout, or the chip fails.
abbrev pub erased : Flash → Erase → Phase → Flash
erased f e Window = record f { state = Erasing (record e { phase = Begun; left = erase_time f e.selected }) }
erased f e Begun = record f {
  cells = erases.after_erase (block_map_of f) e.selected f.cells;
  state = if spoils f e.selected then Failed 0xFF e.toggle else read_mode;
}

-- the end of what the chip is doing
abbrev pub ended : Flash → State → Flash
ended f (Ready mode place) = f
ended f (Programming p) = programmed f p
ended f (Erasing e) = erased f e e.phase
ended f (Suspending e wait) = record f { state = Suspended e }
ended f (Suspended e) = f
ended f (Failed byte toggle) = f

-- microseconds until what the chip is doing ends by itself, at least one; none where it does not
abbrev pub due : State → Option ℕ
due (Ready mode place) = None
due (Programming p) = Some (max 1 p.left)
due (Erasing e) = Some (max 1 e.left)
due (Suspending e wait) = Some (max 1 wait)
due (Suspended e) = None
due (Failed byte toggle) = None

-- The microseconds that a state lasts, where it ends by itself within n; none where it lasts longer, or does not end by itself.
abbrev pub within : ℕ → Option ℕ → Option ℕ
within n None = None
within n (Some left) = if nat_le left n then Some left else None

-- the same with n microseconds less to go
abbrev pub lowered : ℕ → State → State
lowered n (Ready mode place) = Ready mode place
lowered n (Programming p) = Programming (record p { left = p.left - n })
lowered n (Erasing e) = Erasing (record e { left = e.left - n })
lowered n (Suspending e wait) = Suspending e (wait - n)
lowered n (Suspended e) = Suspended e
lowered n (Failed byte toggle) = Failed byte toggle

-- one microsecond, the count aside: what is due at once ends, and anything else comes one nearer to its end
abbrev pub step_by : Flash → Option ℕ → Flash
step_by f None = f
step_by f (Some d) = if nat_le d 1 then ended f f.state else record f { state = lowered 1 f.state }

abbrev pub step : Flash → Flash
step f = step_by f (due f.state)

unfoldable pub steps : ℕ → Flash → Flash
steps zero f = f
steps (suc n) f = steps n (step f)

abbrev pub with_clock : Flash → ℕ → Flash
with_clock f n = record f { clock = n }

-- one microsecond, which the chip counts
abbrev pub tick : Flash → Flash
tick f = with_clock (step f) ((f.clock + 1) % 4294967296)

-- n microseconds
unfoldable pub passed : ℕ → Flash → Flash
passed zero f = f
passed (suc n) f = passed n (tick f)

-- what the call that passes time answers, and the chip after it
abbrev pub waited : ℕ → Result (Unit {0}) ChipFault
waited n = if nat_le n longest then Ok tt else Err (record { cause = TimeTooLong; place = n })

unfoldable pub after : ℕ → Flash → Flash
after n f = if nat_le n longest then passed n f else f
