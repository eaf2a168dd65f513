-- A chip as its bus sees it, and what its blocks are.
use Rattle.std.specs.Prelude.{ℕ, Bool, List, vec_items, nat_lt, slice_index}
use Rattle.geometry.specs.declared.datasheet.Commands.{Commands}
use Rattle.geometry.specs.declared.set.BlockSet.{BlockSet}
use Rattle.geometry.specs.Plans.{plan_of}
use Rattle.flash.specs.BlockMaps as block_maps
use Rattle.flash.specs.BlockMaps.{BlockMap}
use Rattle.flash.specs.Erases as erases
use Rattle.chip.specs.declared.setup.Setup.{Setup}
use Rattle.chip.specs.declared.state.State.{State}
use Rattle.chip.specs.declared.chip.Chip.{Chip}

-- the numbers it was made with, its cells, what it is doing, and the microseconds passed on it modulo 4,294,967,296
pub record Flash : Type 0 where
  pub setup : Setup
  pub cells : List ℕ
  pub state : State
  pub clock : ℕ

abbrev pub view : Chip → Flash
view c = record { setup = c.setup; cells = vec_items c.cells; state = c.state; clock = c.clock }

-- the sizes of the chip's blocks
abbrev pub blocks : Flash → List ℕ
blocks f = (plan_of f.setup.kind).sizes

abbrev pub size : Flash → ℕ
size f = (plan_of f.setup.kind).size

-- where the chip takes its commands
abbrev pub commands : Flash → Commands
commands f = (plan_of f.setup.kind).commands

abbrev pub inside : Flash → ℕ → Bool
inside f a = nat_lt a (size f)

abbrev pub cell : Flash → ℕ → ℕ
cell f a = slice_index f.cells a

-- the blocks that operations on the cells work on
abbrev pub block_map_of : Flash → BlockMap
block_map_of f = record { sizes = blocks f; protected = f.setup.protected; worn = f.setup.worn }

-- the address lies in a block of the set
abbrev pub lies_in : Flash → BlockSet → ℕ → Bool
lies_in f set a = block_maps.lies_in (block_map_of f) set a

abbrev pub protected : Flash → ℕ → Bool
protected f a = lies_in f f.setup.protected a

abbrev pub worn : Flash → ℕ → Bool
worn f a = lies_in f f.setup.worn a

-- the selected blocks that an erase works on: those that are not protected
abbrev pub erasable : Flash → BlockSet → BlockSet
erasable f selected = erases.erasable (block_map_of f) selected
