-- Blocks in a row, given by their sizes alone: block 0 begins at address 0, and each other one where the one before it ends.
use Rattle.std.specs.Prelude.{ℕ, zero, suc, ◌+◌, ◌-◌, cond, if◌then◌else◌, List, [], ◌∷◌, ◌++◌, map, take, drop, nat_lt}
use Rattle.geometry.specs.declared.set.BlockSet.{BlockSet}
use Rattle.geometry.specs.Sets.{has}

-- how many bytes the blocks have together
abbrev pub total : List ℕ → ℕ
total [] = 0
total (w ∷ ws) = w + total ws

-- where block b begins
abbrev pub start_of : List ℕ → ℕ → ℕ
start_of sizes b = total (take b sizes)

-- the number of the block that an address lies in; past the last block, the number of blocks
abbrev pub block_of : List ℕ → ℕ → ℕ
block_of [] a = 0
block_of (w ∷ ws) a = cond (nat_lt a w) 0 (1 + block_of ws (a - w))

-- the cells with each block of the set filled with v, where `from` is the number of the first block
abbrev pub filled_from : ℕ → List ℕ → BlockSet → ℕ → List ℕ → List ℕ
filled_from from [] set v cells = cells
filled_from from (w ∷ ws) set v cells =
    (if has set from then map (λ _. v) (take w cells) else take w cells) ++ filled_from (from + 1) ws set v (drop w cells)

-- the cells with each block of the set filled with v
unfoldable pub filled : List ℕ → BlockSet → ℕ → List ℕ → List ℕ
filled sizes set v cells = filled_from 0 sizes set v cells

-- the cells with block b set to v throughout
abbrev pub wiped : List ℕ → ℕ → ℕ → List ℕ → List ℕ
wiped [] b v cells = cells
wiped (w ∷ ws) zero v cells = map (λ _. v) (take w cells) ++ drop w cells
wiped (w ∷ ws) (suc b) v cells = take w cells ++ wiped ws b v (drop w cells)
