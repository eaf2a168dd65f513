-- What the driver notes of its chip, and what ties the notes to the chip.
use Rattle.std.specs.Prelude.{◌≡◌, ℕ, Bool, true, false, ◌&&◌, length, Some, None, ◌==◌, nat_le, nat_lt}
use Rattle.geometry.specs.Sets.{has}
use Rattle.part.specs.declared.answers.Standing.{Standing}
use Rattle.part.specs.declared.answers.Standing.TheVariants.{Idle, Running, Suspended}
use Rattle.part.specs.Meaning.{guarded}
use Rattle.driver.specs.declared.notes.Notes.{Notes}
use Rattle.driver.specs.Rig.{Job, Place, Doing, resting, erasing, start, Rig, meaning}

-- an erasing of block b, which is one of n blocks, with time left
abbrev pub erases : ℕ → ℕ → Job → Bool
erases n b j = j.block == b && nat_lt b n && nat_le 1 j.left

abbrev pub is_start : Place → Bool
is_start start = true
is_start place = false

-- The chip is at rest where the notes know of no erasure, erases just the block that they say is being erased, and is suspended in the erasing of just
-- the block whose erasure they say is held.
abbrev pub agrees : ℕ → Doing → Standing → Bool
agrees n (resting None place) Idle = is_start place
agrees n (resting (Some j) place) (Suspended b) = is_start place && erases n b j
agrees n (erasing j) (Running b) = erases n b j
agrees n d s = false

pub record Tied (r : Rig) (notes : Notes) : Type 0 where
  -- the notes have just the guarded blocks
  pub knows : (b : ℕ) → has notes.guards b ≡ guarded (meaning r) b
  pub follows : agrees (length r.sheet.sizes) r.doing notes.standing ≡ true
