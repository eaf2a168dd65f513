-- What a part means.
use Rattle.std.specs.Prelude.{◌≡◌, ℕ, ◌+◌, ◌%◌, ◌<◌, ◌≤◌, Bool, false, if◌then◌else◌, List, length, Some, None, Option, slice_index, slice_index_or}
use Rattle.geometry.specs.Blocks.{total, block_of}
use Rattle.part.specs.declared.answers.Standing.{Standing}
use Rattle.part.specs.declared.answers.Standing.TheVariants.{Idle, Running, Suspended}
use Rattle.part.specs.declared.answers.Shape.{Shape}

-- an erasure: its block, the microseconds that are left, and whether it runs or is suspended
pub record Erasure : Type 0 where
  pub block : ℕ
  pub left : ℕ
  pub running : Bool

-- its cells; its blocks in a row, by their sizes; for each block whether it is guarded and whether it is worn; at most one
-- erasure; and a clock of microseconds modulo 4,294,967,296
pub record Meaning : Type 0 where
  pub cells : List ℕ
  pub sizes : List ℕ
  pub guards : List Bool
  pub wears : List Bool
  pub erasure : Option Erasure
  pub clock : ℕ

abbrev pub size : Meaning → ℕ
size m = length m.cells

abbrev pub count : Meaning → ℕ
count m = length m.sizes

abbrev pub cell : Meaning → ℕ → ℕ
cell m a = slice_index m.cells a

-- the block that an address lies in
abbrev pub block : Meaning → ℕ → ℕ
block m a = block_of m.sizes a

abbrev pub guarded : Meaning → ℕ → Bool
guarded m b = slice_index_or m.guards b false

abbrev pub worn : Meaning → ℕ → Bool
worn m b = slice_index_or m.wears b false

abbrev pub with_cells : Meaning → List ℕ → Meaning
with_cells m cells = record m { cells = cells }

abbrev pub with_erasure : Meaning → Option Erasure → Meaning
with_erasure m e = record m { erasure = e }

-- the same with the clock moved by n
abbrev pub ticked : Meaning → ℕ → Meaning
ticked m n = record m { clock = (m.clock + n) % 4294967296 }

-- which erasure stands, without its time
abbrev pub standing_of : Option Erasure → Standing
standing_of None = Idle
standing_of (Some e) = if e.running then Running e.block else Suspended e.block

abbrev pub shape_of : Meaning → Shape
shape_of m = record { size = size m; blocks = count m; standing = standing_of m.erasure }

-- an erasure has a block of the part, and time left
abbrev pub ErasureLawful : ℕ → Option Erasure → Type 0
ErasureLawful blocks None = Unit {0}
ErasureLawful blocks (Some e) = (e.block < blocks) × (1 ≤ e.left)

-- What holds of every part: its blocks follow one another from 0 without gap or overlap and end at its size, its size and the number of its blocks
-- are numbers of 32 bits, as its addresses and block numbers are, and each block is known to be guarded or not and worn or not.
pub record Lawful (m : Meaning) : Type 0 where
  pub whole : total m.sizes ≡ length m.cells
  pub small : length m.cells < 4294967296
  pub few : length m.sizes < 4294967296
  pub guards : length m.guards ≡ length m.sizes
  pub wears : length m.wears ≡ length m.sizes
  pub erasure : ErasureLawful (length m.sizes) m.erasure
  pub clock : m.clock < 4294967296
