use Rattle.std.proofs.Common.{◌≡◌, ℕ, ◌<◌, cond, ◌&&◌, ltb, length, get_or}
use Rattle.geometry.specs.Blocks.{block_of}
use Rattle.geometry.specs.TableSizes.{sizes}
use Rattle.geometry.specs.Sets.{has}
use Rattle.geometry.proofs.lookup.BlockTable.fill.Given as goal

abbrev pub invariant-loop-number : goal.invariant-loop-number
invariant-loop-number l =
    (k : ℕ) → k < length l.initial.cells
    → get_or l.cells k 0
    ≡ cond (ltb (block_of (sizes l.self) k) l.number && has l.set (block_of (sizes l.self) k))
    l.byte (get_or l.initial.cells k 0)
