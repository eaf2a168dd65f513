-- What an operation on cells knows of a chip's blocks.
use Rattle.std.specs.Prelude.{ℕ, Bool, List}
use Rattle.geometry.specs.declared.set.BlockSet.{BlockSet}
use Rattle.geometry.specs.Blocks.{block_of}
use Rattle.geometry.specs.TableSizes.{sizes}
use Rattle.geometry.specs.Sets.{has, only}
use Rattle.flash.specs.declared.block_map.BlockMap.{BlockMap as Given}

-- the sizes of the blocks one after the other, and which blocks are protected and which worn
pub record BlockMap : Type 0 where
  pub sizes : List ℕ
  pub protected : BlockSet
  pub worn : BlockSet

abbrev pub block_map : Given → BlockMap
block_map g = record { sizes = sizes g.table; protected = g.protected; worn = g.worn }

-- an address lies in a block of the set
abbrev pub lies_in : BlockMap → BlockSet → ℕ → Bool
lies_in g set a = has set (block_of g.sizes a)

abbrev pub is_protected : BlockMap → ℕ → Bool
is_protected g a = lies_in g g.protected a

abbrev pub is_worn : BlockMap → ℕ → Bool
is_worn g a = lies_in g g.worn a

-- the block that an address lies in, as a set
abbrev pub block_alone : BlockMap → ℕ → BlockSet
block_alone g a = only (block_of g.sizes a)
