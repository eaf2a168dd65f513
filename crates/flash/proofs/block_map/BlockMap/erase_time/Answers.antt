use Rattle.std.proofs.Common.{◌≤◌, arith}
use Rattle.std.proofs.lemmas.Nat.{mul-le}
use Rattle.flash.proofs.block_map.BlockMap.erase_time.Goals as goal
use Rattle.flash.proofs.block_map.BlockMap.erase_time.Goals.{then-spoils, else-spoils}

pub overflow_mul-result : goal.overflow_mul-result
overflow_mul-result c =
    let each : c.if-spoils.each ≤ 10000000 =
    elim c.if-spoils.branch [ then-spoils w ↦ omega (arith, w.each-is) | else-spoils w ↦ omega (arith, w.each-is) ] in
    omega (arith, mul-le _ _ 128 10000000 c.count-count.ensures.bound each)
