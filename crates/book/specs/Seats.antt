-- Two books in blocks of a part, and what is meant by a change of some cells.
use Rattle.std.specs.Prelude.{◌≡◌, ℕ, ◌+◌, ◌<◌, ◌≤◌, false, ◌⊎◌, List, length, Some, None, Option, slice_index}
use Rattle.geometry.specs.Blocks.{total}
use Rattle.part.specs.Meaning.{Meaning, count, guarded, with_cells, ticked}
use Rattle.book.specs.Pairs.{Pair, book_size}
use Rattle.book.specs.Finding.{begins, width}

-- Both books are blocks of the part, of one size, and neither is guarded.
pub record Seated (m : Meaning) (b : Pair) : Type 0 where
  pub whole : total m.sizes ≡ length m.cells
  pub current_in : b.current.block < count m
  pub spare_in : b.spare.block < count m
  pub current_start : b.current.start ≡ begins m b.current.block
  pub spare_start : b.spare.start ≡ begins m b.spare.block
  pub current_width : width m b.current.block ≡ book_size b.positions
  pub spare_width : width m b.spare.block ≡ book_size b.positions
  pub distinct : b.current.block ≡ b.spare.block → ⊥
  pub current_open : guarded m b.current.block ≡ false
  pub spare_open : guarded m b.spare.block ≡ false

-- the cells are the same but for k of them from an address on
abbrev pub SameOutside : ℕ → ℕ → List ℕ → List ℕ → Type 0
SameOutside from k xs ys = (a : ℕ) → (a < from) ⊎ (from + k ≤ a) → slice_index ys a ≡ slice_index xs a

-- the cells of k addresses are the same
abbrev pub SameInside : ℕ → ℕ → List ℕ → List ℕ → Type 0
SameInside from k xs ys = (a : ℕ) → from ≤ a → a < from + k → slice_index ys a ≡ slice_index xs a

-- n is m with these cells and the clock moved on
pub record Rewritten (m : Meaning) (cells : List ℕ) (n : Meaning) : Type 0 where
  pub time : ℕ
  pub long : length cells ≡ length m.cells
  pub is : n ≡ ticked (with_cells m cells) time

-- 63 stops
abbrev pub StopsFit : Option ℕ → Type 0
StopsFit None = Unit {0}
StopsFit (Some stops) = stops < 9223372036854775808
