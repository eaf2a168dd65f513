-- The geometries: for each what its data sheet says, and its blocks with their starts and sizes. They are built from the constants of the source.
use Rattle.std.specs.Prelude.{◌≡◌, ℕ, ◌+◌, ◌<◌, ◌≤◌, Bool, true, false, ◌&&◌, if◌then◌else◌, List, [], ◌∷◌, map, length, Some, None, Option, ◌==◌, nat_le, nat_lt, slice_index}
use Rattle.geometry.specs.declared.block.Block.{Block}
use Rattle.geometry.specs.declared.set.BlockSet.{BlockSet}
use Rattle.geometry.specs.declared.datasheet.Commands.{Commands}
use Rattle.geometry.specs.declared.datasheet.Choice.{Choice}
use Rattle.geometry.specs.declared.datasheet.Sheet.{Sheet}
use Rattle.geometry.specs.declared.kinds.TheConstants.{TOP, BOTTOM, BENCH}
use Rattle.geometry.specs.declared.tables.TheConstants.{TOP_SHEET, TOP_BLOCKS, BOTTOM_SHEET, BOTTOM_BLOCKS, BENCH_SHEET, BENCH_BLOCKS, DEAD_SHEET, DEAD_BLOCKS}
use Rattle.geometry.specs.Sets.{first}

pub record Plan : Type 0 where
  pub size : ℕ
  pub maker : ℕ
  pub code : ℕ
  pub commands : Commands
  pub choice : Choice
  pub starts : List ℕ
  pub sizes : List ℕ

-- the starts and the sizes of the blocks of a table
abbrev pub starts_of : List Block → List ℕ
starts_of blocks = map (λ b. b.start) blocks

abbrev pub sizes_of : List Block → List ℕ
sizes_of blocks = map (λ b. b.size) blocks

-- what a data sheet and a table of blocks say together
abbrev pub plan : Sheet → List Block → Plan
plan sheet blocks = record {
  size = sheet.size;
  maker = sheet.maker;
  code = sheet.code;
  commands = sheet.commands;
  choice = sheet.choice;
  starts = starts_of blocks;
  sizes = sizes_of blocks;
}

-- what the data sheet says beside the blocks
abbrev pub sheet_of : Plan → Sheet
sheet_of p = record { size = p.size; maker = p.maker; code = p.code; commands = p.commands; choice = p.choice }

-- TC58FVT004: the small blocks lie at the top
abbrev pub top : Plan
top = plan TOP_SHEET TOP_BLOCKS

-- TC58FVB004: the same sizes in the reverse order
abbrev pub bottom : Plan
bottom = plan BOTTOM_SHEET BOTTOM_BLOCKS

-- the bench chip: TC58FVB004 with every size divided by 16
abbrev pub bench : Plan
bench = plan BENCH_SHEET BENCH_BLOCKS

-- no chip: size 0, no blocks
abbrev pub dead : Plan
dead = plan DEAD_SHEET DEAD_BLOCKS

-- a plan with the plain number that names its chip
pub record Named : Type 0 where
  pub kind : ℕ
  pub plan : Plan

abbrev pub chips : List Named
chips = record { kind = TOP; plan = top } ∷ record { kind = BOTTOM; plan = bottom } ∷ record { kind = BENCH; plan = bench } ∷ []

-- the plan that a number names, among these
abbrev pub plan_among : ℕ → List Named → Plan
plan_among kind [] = dead
plan_among kind (named ∷ rest) = if kind == named.kind then named.plan else plan_among kind rest

-- The plan of a plain number. Every number that names no chip means no chip.
abbrev pub plan_of : ℕ → Plan
plan_of kind = plan_among kind chips

-- a number names a chip: there are blocks
abbrev pub is_chip : ℕ → Bool
is_chip kind = nat_lt 0 (length (plan_of kind).sizes)

-- the blocks of the chip with a number, as a set
abbrev pub blocks_of : ℕ → BlockSet
blocks_of kind = first (length (plan_of kind).sizes)

-- a table has a plan's blocks: their starts and their sizes, in order
pub record IsTable (p : Plan) (blocks : List Block) : Type 0 where
  pub starts : starts_of blocks ≡ p.starts
  pub sizes : sizes_of blocks ≡ p.sizes

-- an address lies in a block
abbrev pub holds : ℕ → Block → Bool
holds a b = nat_le b.start a && nat_lt a (b.start + b.size)

-- block b of a plan
abbrev pub block_at : Plan → ℕ → Option Block
block_at p b = if nat_lt b (length p.sizes) then Some (record { start = slice_index p.starts b; size = slice_index p.sizes b }) else None

-- The law of blocks as a test over a whole table: each start is where the block before it ends, the first is `from`,
-- no block is empty, and the last one ends at `end`.
abbrev pub contiguous : ℕ → List ℕ → List ℕ → ℕ → Bool
contiguous from [] [] end = from == end
contiguous from [] (w ∷ ws) end = false
contiguous from (s ∷ ss) [] end = false
contiguous from (s ∷ ss) (w ∷ ws) end = s == from && nat_lt 0 w && contiguous (from + w) ss ws end

abbrev pub Contiguous : Plan → Type 0
Contiguous p = contiguous 0 p.starts p.sizes p.size ≡ true

-- The law of blocks in full: the first begins at 0, each other one where the one before it ends, the last ends at the size,
-- and so every address of the chip lies in exactly one block.
pub record LaidOut (p : Plan) : Type 0 where
  pub first : 0 < length p.sizes → slice_index p.starts 0 ≡ 0
  pub next : (b : ℕ) → b + 1 < length p.sizes → slice_index p.starts (b + 1) ≡ slice_index p.starts b + slice_index p.sizes b
  pub last : (b : ℕ) → b + 1 ≡ length p.sizes → slice_index p.starts b + slice_index p.sizes b ≡ p.size
  pub some : (a : ℕ) → a < p.size
      → (b : ℕ) × (b < length p.sizes) × (slice_index p.starts b ≤ a) × (a < slice_index p.starts b + slice_index p.sizes b)
  pub one : (a b c : ℕ) → b < length p.sizes → c < length p.sizes
      → slice_index p.starts b ≤ a → a < slice_index p.starts b + slice_index p.sizes b
      → slice_index p.starts c ≤ a → a < slice_index p.starts c + slice_index p.sizes c → b ≡ c
