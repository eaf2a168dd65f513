-- The worked examples on a chip: the bench chip under its driver is a bench part, and the calls are made by the code.
use Rattle.std.specs.Prelude.{◌≡◌, ℕ, true, false, List, replicate, Some, Ok, Err, Result}
use Rattle.std.specs.List.{slice_get}
use Rattle.geometry.specs.declared.kinds.TheConstants.{BENCH}
use Rattle.geometry.specs.Plans.{plan_of}
use Rattle.geometry.specs.Sets.{has}
use Rattle.chip.specs.declared.setup.Setup.{Setup}
use Rattle.chip.specs.declared.unmade.Unmade.{Unmade}
use Rattle.chip.specs.declared.unmade.Unmade.TheVariants.{Refused, Memory}
use Rattle.chip.specs.Setups.{fit}
use Rattle.chip.specs.Making.{unfit, fresh}
use Rattle.driver.specs.Rig.{meaning}
use Rattle.tc58.specs.Rigs.{rig_of}
use Rattle.part.specs.Meaning.{Meaning}
use Rattle.console.specs.declared.call.Call.{Call}
use Rattle.console.specs.Desks.{Desk, closed}
use Rattle.rehearsal.specs.declared.line.Line.{Line}
use Rattle.rehearsal.specs.Accounts.{run, Performed}
use Rattle.rehearsal.specs.Examples.{Cell, calls, table, BenchPart, Ends}

-- a chip of these numbers under its driver: FFh throughout, no erasure, no time passed
abbrev pub blank_chip : Setup → Meaning
blank_chip s = meaning (rig_of (fresh s (replicate (plan_of s.kind).size 0xFF)))

-- the numbers of a bench chip with blocks 1 and 2 neither protected nor worn
pub record BenchChip (s : Setup) : Type 0 where
  pub kind : s.kind ≡ BENCH
  pub first_open : has s.protected 1 ≡ false
  pub second_open : has s.protected 2 ≡ false
  pub first_sound : has s.worn 1 ≡ false
  pub second_sound : has s.worn 2 ≡ false

-- What is made on a chip of these numbers. It is refused just where they do not fit; where they do, there may be no memory for it.
abbrev pub Made : {X : Type 0} → Setup → (X → Type 0) → Result X Unmade → Type 0
Made s What (Ok x) = (fit s (plan_of s.kind).size ≡ true) × What x
Made s What (Err (Refused e)) = (fit s (plan_of s.kind).size ≡ false) × (e ≡ unfit)
Made s What (Err Memory) = fit s (plan_of s.kind).size ≡ true

-- A closed console on that chip, which is a part that the worked examples speak of.
pub record OnBench (s : Setup) (d : Desk) : Type 0 where
  pub console : d ≡ closed (blank_chip s)
  pub bench : BenchChip s → BenchPart d.part

-- A console on that chip was opened on blocks 1 and 2, and these calls were made on it. If they are an example of the table, then everything was
-- accepted, and its cells hold the bytes of the table.
pub record Came (s : Setup) (list : List Call) (log : List Line) (x : Desk × Line) : Type 0 where
  pub made : Performed list (run (closed (blank_chip s)) (record { first = 1; second = 2 }) x.1 log x.0)
  pub as_told : BenchChip s → (i : ℕ) (cells : List Cell) → slice_get table i ≡ Some (calls list cells) → Ends x.1.reply log x.0 cells
