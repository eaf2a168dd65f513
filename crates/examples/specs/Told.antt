-- What the table of worked examples tells of a chip under its driver.
use Rattle.std.specs.Prelude.{◌≡◌, ℕ, List, Some}
use Rattle.std.specs.List.{slice_get}
use Rattle.part.specs.Meaning.{Meaning}
use Rattle.console.specs.declared.call.Call.{Call}
use Rattle.rehearsal.specs.Examples.{Cell, calls, table, Hold}

-- If these calls are an example of the table, a part holds the bytes that the table names.
abbrev pub AsTold : List Call → Meaning → Type 0
AsTold list m = (i : ℕ) (cells : List Cell) → slice_get table i ≡ Some (calls list cells) → Hold m.cells cells

-- They are one, and it does.
pub record Listed (list : List Call) (m : Meaning) : Type 0 where
  pub number : ℕ
  pub cells : List Cell
  pub listed : slice_get table number ≡ Some (calls list cells)
  pub holds : Hold m.cells cells
