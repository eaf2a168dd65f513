-- What the steps of the driver's calls do to a chip. Each says it of a chip that is ready for the step, and of any chip that it stays the same chip.
use Rattle.std.specs.Prelude.{◌≡◌, ℕ, ◌<◌, Bool, false, not, length, Some, None, Ok, Err, Result, ◌==◌, if◌then◌else◌, slice_set}
use Rattle.geometry.specs.declared.set.BlockSet.{BlockSet}
use Rattle.geometry.specs.Sets.{has}
use Rattle.geometry.specs.Blocks.{start_of}
use Rattle.part.specs.declared.answers.Progress.{Progress}
use Rattle.part.specs.declared.answers.Progress.TheVariants.{Running, Finished, Worn}
use Rattle.part.specs.declared.answers.Standing.{Standing}
use Rattle.part.specs.declared.answers.Standing.TheVariants.{Idle, Running as Runs}
use Rattle.fault.specs.declared.cause.Cause.TheVariants.{Worn as Blocked}
use Rattle.fault.specs.declared.faults.PartFault.{PartFault}
use Rattle.part.specs.Calls.{burn_no}
use Rattle.part.specs.Meaning.{cell, block, guarded, worn}
use Rattle.driver.specs.declared.verdict.Verdict.{Verdict}
use Rattle.driver.specs.declared.verdict.Verdict.TheVariants.{Busy, Done, Failed}
use Rattle.driver.specs.Rig.{Job, resting, identifying, programming, erasing, stopping, failed, start, unlocked, program_setup, erase_setup, erase_unlocked, Rig, does, later, SameChip, meaning, program_time, erase_time}
use Rattle.driver.specs.Status.{dq6, judged}
use Rattle.driver.specs.Calls.{Burns}
use Rattle.driver.specs.Cycles.{Turns, Burnable, Heeds, Shows, Elapses, flip_job}

-- what the look at the end of a pass means
abbrev pub progress_of : Verdict → Progress
progress_of Busy = Running
progress_of Done = Finished
progress_of Failed = Worn

abbrev pub stands_after : ℕ → Verdict → Standing
stands_after b Busy = Runs b
stands_after b Done = Idle
stands_after b Failed = Idle

-- A burn is refused, or only a worn block can still be in its way: then no erasure stands, and the chip is as it was.
pub record Free (r : Rig) (a byte : ℕ) (k : Rig) : Type 0 where
  pub burnable : Burnable r a byte
  pub rests : r.doing ≡ resting None start
  pub no : burn_no (meaning r) a byte ≡ (if worn (meaning r) (block (meaning r) a) then Some Blocked else None)
  pub same : k ≡ r

abbrev pub MayBurn : Rig → ℕ → ℕ → Result (Unit {0}) PartFault → Rig → Type 0
MayBurn r a byte (Ok done) k = Free r a byte k
MayBurn r a byte (Err fault) k = Burns r a byte (Err fault) k

-- the two unlocking writes
pub record Unlocks (r s : Rig) : Type 0 where
  pub only : s ≡ does r s.doing
  pub first : Turns r s (resting None start) (resting None unlocked)
  pub again : Turns r s (resting None erase_setup) (resting None erase_unlocked)

-- the two unlocking writes and a command
pub record Commands (r : Rig) (b byte : ℕ) (s : Rig) : Type 0 where
  pub only : s ≡ does r s.doing
  pub identify : byte ≡ 0x90 → Turns r s (resting None start) (identifying (r.sheet.zone b))
  pub program : byte ≡ 0xA0 → Turns r s (resting None start) (resting None program_setup)
  pub erase : byte ≡ 0x80 → Turns r s (resting None start) (resting None erase_setup)

-- the guard of a block, in ID mode
pub record Asks (r : Rig) (b : ℕ) (answer : Bool) (s : Rig) : Type 0 where
  pub only : s ≡ does r s.doing
  pub asked : r.doing ≡ resting None start → (answer ≡ guarded (meaning r) b) × (s ≡ r)

-- the guards of all blocks
pub record Collects (r : Rig) (guards : BlockSet) (s : Rig) : Type 0 where
  pub only : s ≡ does r s.doing
  pub collected : r.doing ≡ resting None start → ((b : ℕ) → has guards b ≡ guarded (meaning r) b) × (s ≡ r)

-- one microsecond, then one read
pub record Polls (r : Rig) (a wanted : ℕ) (v : Verdict) (s : Rig) : Type 0 where
  pub waited : Rig
  pub seen : ℕ
  pub passes : Elapses r 1 waited
  pub shows : Shows waited a seen s
  pub is : v ≡ judged seen wanted

-- the polls of a program that has begun, up to its end
pub record Ends (r : Rig) (a byte : ℕ) (answer : Bool) (s : Rig) : Type 0 where
  pub same : SameChip r s
  pub ended : Burnable r a byte
      → r.doing ≡ programming (record { address = a; byte = byte; left = program_time r a; toggle = false }) None
      → (answer ≡ not (worn (meaning r) (block (meaning r) a)))
      × (s ≡ later r (program_time r a) (if worn (meaning r) (block (meaning r) a) then r.cells else slice_set r.cells a byte) (resting None start))

-- a program, whole
pub record Programs (r : Rig) (a byte : ℕ) (answer : Bool) (s : Rig) : Type 0 where
  pub same : SameChip r s
  pub done : Burnable r a byte → r.doing ≡ resting None start
      → (answer ≡ not (worn (meaning r) (block (meaning r) a)))
      × (s ≡ later r (program_time r a) (if worn (meaning r) (block (meaning r) a) then r.cells else slice_set r.cells a byte) (resting None start))

-- the beginning of an erase
pub record Erases (r : Rig) (b : ℕ) (s : Rig) : Type 0 where
  pub only : s ≡ does r s.doing
  pub begun : guarded (meaning r) b ≡ false → Turns r s (resting None start) (erasing (record { block = b; left = erase_time r b; toggle = false }))

-- F0h where an operation has failed
abbrev pub Mends : Rig → ℕ → Verdict → Rig → Type 0
Mends r a Busy s = s ≡ r
Mends r a Done s = s ≡ r
Mends r a Failed s = Heeds r a 0xF0 s

-- one read of a chip that was erasing block b, and F0h where the erase has failed
pub record Looks (r : Rig) (b : ℕ) (v : Verdict) (s : Rig) : Type 0 where
  pub only : s ≡ does r s.doing
  pub busy : b < length r.sheet.sizes → (j : Job) → r.doing ≡ erasing j → j.block ≡ b → (v ≡ Busy) × (s ≡ does r (erasing (flip_job j)))
  pub broken : b < length r.sheet.sizes → (toggle : Bool) → r.doing ≡ failed (r.sheet.zone b) 0xFF toggle None → (v ≡ Failed) × (s ≡ does r (resting None start))
  pub done : b < length r.sheet.sizes → r.doing ≡ resting None start → cell (meaning r) (start_of r.sheet.sizes b) ≡ 0xFF → (v ≡ Done) × (s ≡ r)

-- one microsecond, then two reads: whether they agree in the toggle bit
pub record LooksTwice (r : Rig) (a : ℕ) (answer : Bool) (s : Rig) : Type 0 where
  pub waited : Rig
  pub between : Rig
  pub one : ℕ
  pub other : ℕ
  pub passes : Elapses r 1 waited
  pub first : Shows waited a one between
  pub second : Shows between a other s
  pub is : answer ≡ (dq6 one == dq6 other)

-- the erasing is suspended so many microseconds later; only the toggle bit may be another
abbrev pub Halts : Rig → Job → Rig → Type 0
Halts r j s = (toggle : Bool) × (s ≡ later r r.suspend r.cells (resting (Some (record j { toggle = toggle })) start))

-- the wait until the toggle bit stands still
pub record Settles (r : Rig) (a : ℕ) (s : Rig) : Type 0 where
  pub same : SameChip r s
  pub settled : (j : Job) → block (meaning r) a ≡ j.block → r.doing ≡ stopping j r.suspend → Halts r j s

-- the suspending of an erase, whole
pub record Suspends (r : Rig) (b : ℕ) (s : Rig) : Type 0 where
  pub same : SameChip r s
  pub suspended : b < length r.sheet.sizes → (j : Job) → r.doing ≡ erasing j → j.block ≡ b → Halts r j s

-- going on with it
pub record Resumes (r : Rig) (b : ℕ) (s : Rig) : Type 0 where
  pub only : s ≡ does r s.doing
  pub resumed : b < length r.sheet.sizes → (j : Job) → j.block ≡ b → Turns r s (resting (Some j) start) (erasing j)
