-- What is true of every chip on its bus, whatever it is doing.
use Rattle.std.specs.Prelude.{◌≡◌, ℕ, ◌<◌, ◌≤◌, true, length}
use Rattle.geometry.specs.Blocks.{total, start_of}
use Rattle.geometry.specs.Sets.{largest_set}
use Rattle.flash.specs.Limits.{longest_program, longest_erase, longest_suspension}
use Rattle.driver.specs.Rig.{Sheet, Rig, inside, LiesIn}

-- The addresses that belong to a block lie inside the chip, and in the block its start and the one at which its guard is shown.
pub record Addressed (sheet : Sheet) (b : ℕ) : Type 0 where
  pub first : inside sheet (sheet.first b) ≡ true
  pub second : inside sheet (sheet.second b) ≡ true
  pub guard : LiesIn sheet (sheet.guard b) b
  pub start : LiesIn sheet (start_of sheet.sizes b) b

-- It has as many cells as its blocks have, no more blocks than a set has room for, each guarded or not and worn or not, and its times are inside their limits.
pub record Sound (r : Rig) : Type 0 where
  pub whole : total r.sheet.sizes ≡ length r.cells
  pub small : length r.cells < 4294967296
  pub few : length r.sheet.sizes ≤ largest_set
  pub guards : length r.guards ≡ length r.sheet.sizes
  pub wears : length r.wears ≡ length r.sheet.sizes
  pub clock : r.clock < 4294967296
  pub program_least : 1 ≤ r.program
  pub program_most : r.program ≤ longest_program
  pub erase_least : 1 ≤ r.erase
  pub erase_most : r.erase ≤ longest_erase
  pub suspend_least : 1 ≤ r.suspend
  pub suspend_most : r.suspend ≤ longest_suspension
  pub addressed : (b : ℕ) → b < length r.sheet.sizes → Addressed r.sheet b
