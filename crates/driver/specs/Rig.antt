-- A chip as its driver sees it, of whatever family it is: what the data sheet says of it, and what it is doing. This is all that the driver's text and
-- its proofs know of a chip; for each family it is said what of its chip it is. The word "rig" is the driver's own: a chip with what a bus master knows of it.
use Rattle.std.specs.Prelude.{◌≡◌, ℕ, ◌+◌, ◌%◌, Bool, true, false, List, Some, None, Option, if◌then◌else◌, nat_lt}
use Rattle.geometry.specs.Blocks.{total, block_of}
use Rattle.flash.specs.Limits.{window, longest_program, longest_erase}
use Rattle.part.specs.Meaning.{Erasure, Meaning, block, worn}

-- What a data sheet tells a bus master.
pub record Sheet : Type 0 where
  -- the sizes of the blocks, one after the other from address 0
  pub sizes : List ℕ
  -- for each block the two addresses at which its commands are written, and the one at which ID mode shows whether it is guarded
  pub first : ℕ → ℕ
  pub second : ℕ → ℕ
  pub guard : ℕ → ℕ
  -- for each block its zone: the ID mode that was entered by the block, and the status of an operation in it that has failed, are read in all of the zone;
  -- until then a program's status is asked at its address, and an erase's in its block
  pub zone : ℕ → ℕ
  -- DQ6 of a suspended block, the same at every read
  pub still : ℕ

-- the erasing of one block: the microseconds that are left, the window before it counted in, and DQ6 of the next status read
pub record Job : Type 0 where
  pub block : ℕ
  pub left : ℕ
  pub toggle : Bool

-- the programming of one byte
pub record Burn : Type 0 where
  pub address : ℕ
  pub byte : ℕ
  pub left : ℕ
  pub toggle : Bool

-- the place in a command sequence, by what was written last
pub data Place : Type 0 where
  start : Place
  first_unlock : Place
  unlocked : Place
  program_setup : Place
  erase_setup : Place
  erase_first_unlock : Place
  erase_unlocked : Place

pub data Doing : Type 0 where
  -- At rest, beside a suspended erasing or none, and at a place in a command sequence: cells are read.
  resting : Option Job → Place → Doing
  -- ID mode in a zone.
  identifying : ℕ → Doing
  -- Programming, beside a suspended erasing or none.
  programming : Burn → Option Job → Doing
  erasing : Job → Doing
  -- Told to suspend: the erasing stands still, and is suspended after so many microseconds.
  stopping : Job → ℕ → Doing
  -- Failed in a zone, beside a suspended erasing or none: the byte that was to be in the cell, and DQ6 of the next status read.
  failed : ℕ → ℕ → Bool → Option Job → Doing
  -- Anything that the driver never brings about.
  other : Doing

pub record Rig : Type 0 where
  -- What never changes: the data sheet, which blocks are guarded and which are worn, and the microseconds that a byte takes to program, a block to erase
  -- and an erasing to be suspended. The driver is told the sheet, and finds out the guards.
  pub sheet : Sheet
  pub guards : List Bool
  pub wears : List Bool
  pub program : ℕ
  pub erase : ℕ
  pub suspend : ℕ
  -- what changes
  pub cells : List ℕ
  pub doing : Doing
  pub clock : ℕ

-- the same chip doing something else
abbrev pub does : Rig → Doing → Rig
does r d = record r { doing = d }

-- the same chip n microseconds later, with these cells and doing this
abbrev pub later : Rig → ℕ → List ℕ → Doing → Rig
later r n cells d = record r { cells = cells; doing = d; clock = (r.clock + n) % 4294967296 }

-- nothing has changed that never changes
abbrev pub SameChip : Rig → Rig → Type 0
SameChip r s = s ≡ record r { cells = s.cells; doing = s.doing; clock = s.clock }

abbrev pub inside : Sheet → ℕ → Bool
inside sheet a = nat_lt a (total sheet.sizes)

-- address a lies in block b
abbrev pub LiesIn : Sheet → ℕ → ℕ → Type 0
LiesIn sheet a b = (inside sheet a ≡ true) × (block_of sheet.sizes a ≡ b)

-- the erasure of a part, by what the chip is doing
abbrev pub suspended : Option Job → Option Erasure
suspended None = None
suspended (Some j) = Some (record { block = j.block; left = j.left; running = false })

abbrev pub erasure_in : Doing → Option Erasure
erasure_in (resting o place) = suspended o
erasure_in (identifying zone) = None
erasure_in (programming p o) = suspended o
erasure_in (erasing j) = Some (record { block = j.block; left = j.left; running = true })
erasure_in (stopping j wait) = Some (record { block = j.block; left = j.left; running = true })
erasure_in (failed zone wanted toggle o) = suspended o
erasure_in other = None

-- What a driven chip means as a part: its size, blocks, cells, guards, worn blocks, erasure and clock are its chip's.
abbrev pub meaning : Rig → Meaning
meaning r = record {
  cells = r.cells;
  sizes = r.sheet.sizes;
  guards = r.guards;
  wears = r.wears;
  erasure = erasure_in r.doing;
  clock = r.clock;
}

-- how long the programming of a byte at an address, and the erasing of a block with the window before it, last
abbrev pub program_time : Rig → ℕ → ℕ
program_time r a = if worn (meaning r) (block (meaning r) a) then longest_program else r.program

abbrev pub erase_time : Rig → ℕ → ℕ
erase_time r b = window + (if worn (meaning r) b then longest_erase else r.erase)
