use Rattle.std.proofs.Common.{◌<◌, ◌≤◌, length, map, ◌∙◌, arith}
use Rattle.std.proofs.lemmas.Result.{err_from_is_err_and}
use Rattle.script.specs.Scripts.{patch}
use Rattle.runner.specs.Memory.{memory_of}
use Rattle.runner.proofs.Filling.{took, refused, all_at_last}
use Rattle.runner.proofs.memory.memory_of.Goals as goal

pub returns-in_err-add : goal.returns-in_err-add
returns-in_err-add c =
    let p = err_from_is_err_and c.from_residual.result c.from_residual.ensures.1 in
    let less : c.loop-patch.patch-index < length c.args.patches.now = omega (arith, c.loop-patch-test.true) in
    rw (p.1, p.2) (refused c.in_err-add.field-0.0 c.args.who c.args.size c.args.patches.now c.loop-patch.patch-index _ c.loop-patch.memory.items
    (memory_of c.args.who c.args.size (map patch c.args.patches.now)) less c.loop-patch.invariant c.in_err-add.ensures)

pub loop-patch-preserved : goal.loop-patch-preserved
loop-patch-preserved c =
    let less : c.loop-patch.patch-index < length c.args.patches.now = omega (arith, c.loop-patch-test.true) in
    took c.args.who c.args.size c.args.patches.now c.loop-patch.patch-index _ c.loop-patch.memory.items c.add.new.memory.items
    (memory_of c.args.who c.args.size (map patch c.args.patches.now)) less c.loop-patch.invariant c.in_ok-add.ensures

pub returns : goal.returns
returns c =
    let end : length c.args.patches.now ≤ c.loop-patch.patch-index = omega (arith, c.loop-patch-test.false) in
    c.loop-patch.invariant ∙ all_at_last c.args.who c.args.size c.args.patches.now c.loop-patch.patch-index c.loop-patch.memory.items end
