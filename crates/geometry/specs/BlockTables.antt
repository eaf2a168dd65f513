-- A table of blocks that follow one another.
use Rattle.std.specs.Prelude.{◌≡◌, true, List}
use Rattle.geometry.specs.declared.block.Block.{Block}
use Rattle.geometry.specs.Blocks.{total}
use Rattle.geometry.specs.Plans.{starts_of, sizes_of, contiguous}

-- the first block begins at 0, and each other one where the one before it ends; none is empty
abbrev pub Unbroken : List Block → Type 0
Unbroken blocks = contiguous 0 (starts_of blocks) (sizes_of blocks) (total (sizes_of blocks)) ≡ true
