-- A table of blocks as their sizes.
use Rattle.std.specs.Prelude.{ℕ, List}
use Rattle.geometry.specs.declared.lookup.BlockTable.{BlockTable}
use Rattle.geometry.specs.Plans.{sizes_of}

abbrev pub sizes : BlockTable → List ℕ
sizes table = sizes_of table.blocks.now
