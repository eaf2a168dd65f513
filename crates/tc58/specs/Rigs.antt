-- What a chip of this family is to its driver.
use Rattle.std.specs.Prelude.{ℕ, zero, suc, ◌+◌, ◌^◌, Bool, ◌&&◌, List, [], ◌∷◌, length, not, Some, None, Option, ◌==◌, if◌then◌else◌, nat_le, slice_index}
use Rattle.geometry.specs.declared.set.BlockSet.{BlockSet}
use Rattle.geometry.specs.Sets.{has}
use Rattle.geometry.specs.Plans.{plan_of}
use Rattle.flash.specs.declared.sequence.Mode.TheVariants.{Read, Id}
use Rattle.flash.specs.declared.sequence.Place.{Place as ChipPlace}
use Rattle.flash.specs.declared.sequence.Place.TheVariants.{Start, Second, Command, Data, EraseStart, EraseSecond, EraseBlock}
use Rattle.chip.specs.declared.state.Phase.{Phase}
use Rattle.chip.specs.declared.state.Phase.TheVariants.{Window, Erasing as Begun}
use Rattle.chip.specs.declared.state.Erase.{Erase}
use Rattle.chip.specs.declared.state.State.{State}
use Rattle.chip.specs.declared.state.State.TheVariants.{Ready, Programming, Erasing, Suspending, Suspended, Failed}
use Rattle.chip.specs.Flash.{Flash, blocks}
use Rattle.chip.specs.Times.{erase_time}
use Rattle.driver.specs.Rig.{Sheet, Job, Place, Doing, resting, identifying, programming, erasing, stopping, failed, other, start, first_unlock, unlocked, program_setup, erase_setup, erase_first_unlock, erase_unlocked, Rig}

-- for each of n blocks from block `from` on, whether it is in the set
abbrev pub marks : ℕ → ℕ → BlockSet → List Bool
marks from zero set = []
marks from (suc n) set = has set from ∷ marks (from + 1) n set

-- where ID mode shows whether block b is protected: in the block, with A1 alone of the address bits that choose
abbrev pub guard_address : ℕ → ℕ → ℕ
guard_address kind b = slice_index (plan_of kind).starts b + 2 ^ (plan_of kind).choice.middle

-- One pair of command addresses serves all blocks, all blocks are one zone, and DQ6 of a suspended block is 0.
abbrev pub sheet_of : ℕ → Sheet
sheet_of kind = record {
  sizes = (plan_of kind).sizes;
  first = λ b. (plan_of kind).commands.first;
  second = λ b. (plan_of kind).commands.second;
  guard = guard_address kind;
  zone = λ b. 0;
  still = 0;
}

abbrev pub place_of : ChipPlace → Place
place_of Start = start
place_of Second = first_unlock
place_of Command = unlocked
place_of Data = program_setup
place_of EraseStart = erase_setup
place_of EraseSecond = erase_first_unlock
place_of EraseBlock = erase_unlocked

-- the one block of a set, out of blocks 0 to n - 1
abbrev pub sole : ℕ → BlockSet → Option ℕ
sole zero set = None
sole (suc n) set = if set.mask == 2 ^ n then Some n else sole n set

-- microseconds until the end of an erase, the window counted in
abbrev pub left_of : Flash → Erase → Phase → ℕ
left_of f e Window = e.left + erase_time f e.selected
left_of f e Begun = e.left

-- The driver erases one block alone, which is not protected.
abbrev pub job_in : Flash → Erase → Option ℕ → Option Job
job_in f e None = None
job_in f e (Some b) =
    if not (has f.setup.protected b) && nat_le 1 e.left then Some (record { block = b; left = left_of f e e.phase; toggle = e.toggle }) else None

abbrev pub job_of : Flash → Erase → Option Job
job_of f e = job_in f e (sole (length (blocks f)) e.selected)

-- doing this with the erasing of one block; an erase that the driver never brings about is something else
abbrev pub with_job : (Job → Doing) → Option Job → Doing
with_job what (Some j) = what j
with_job what None = other

abbrev pub doing_of : Flash → State → Doing
doing_of f (Ready Read place) = resting None (place_of place)
doing_of f (Ready Id Start) = identifying 0
doing_of f (Ready Id place) = other
doing_of f (Programming p) = programming (record { address = p.address; byte = p.byte; left = p.left; toggle = p.toggle }) None
doing_of f (Erasing e) = with_job erasing (job_of f e)
doing_of f (Suspending e wait) = with_job (λ j. stopping j wait) (job_of f e)
doing_of f (Suspended e) = with_job (λ j. resting (Some j) start) (job_of f e)
doing_of f (Failed byte toggle) = failed 0 byte toggle None

abbrev pub rig_of : Flash → Rig
rig_of f = record {
  sheet = sheet_of f.setup.kind;
  guards = marks 0 (length (blocks f)) f.setup.protected;
  wears = marks 0 (length (blocks f)) f.setup.worn;
  program = f.setup.program;
  erase = f.setup.erase;
  suspend = f.setup.suspend;
  cells = f.cells;
  doing = doing_of f f.state;
  clock = f.clock;
}
