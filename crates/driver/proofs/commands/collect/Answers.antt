use Rattle.std.proofs.Common.{◌<◌, sym, ap, ◌∙◌, arith}
use Rattle.geometry.specs.declared.set.BlockSet.{BlockSet}
use Rattle.geometry.specs.Sets.{largest_set, has, union}
use Rattle.part.specs.Meaning.{guarded}
use Rattle.driver.specs.Rig.{Rig, meaning}
use Rattle.driver.proofs.Changing.{does_more}
use Rattle.driver.proofs.Collecting.{with_block, without_block}
use Rattle.driver.proofs.commands.collect.Goals as goal
use Rattle.driver.proofs.commands.collect.Goals.{then-ask, else-ask}

pub loop-block-preserved : goal.loop-block-preserved
loop-block-preserved g c =
    let rig = g.B.Bus.rig in
    let r = rig c.args.bus.now in
    let h = rig c.loop-block.bus in
    let s = rig c.ask.new.bus in
    let i = c.loop-block.block in
    let set = c.loop-block.guards in
    let sound = g.met.B.Bus.sound c.args.bus.now in
    let few : i < largest_set = omega (arith, sound.few, c.loop-block-test.true, c.count-block-end.ensures) in (
      does_more r h s h.doing s.doing c.loop-block.invariant.0 c.ask.ensures.only,
      λ e.
          let inv = c.loop-block.invariant.1 e in
          let k = c.ask.ensures.asked (ap (λ (x : Rig). x.doing) inv.1 ∙ e) in
          let asked = k.0 ∙ ap (λ (x : Rig). guarded (meaning x) i) inv.1 in (
            λ b. elim c.if-ask.branch [
              | then-ask w ↦
                  ap (λ (x : BlockSet). has x b) (w.guards-is ∙ w.union-guards.ensures ∙ ap (union set) w.only.ensures)
                  ∙ with_block set (guarded (meaning r)) i few (sym asked ∙ w.if-ask.true) inv.0 b
              | else-ask w ↦
                  ap (λ (x : BlockSet). has x b) w.guards-is ∙ without_block set (guarded (meaning r)) i (sym asked ∙ w.if-ask.false) inv.0 b
            ],
            k.1 ∙ inv.1,
          ),
    )
