use Rattle.std.proofs.Common.{◌≡◌, ℕ, ◌-◌, refl, sym, ap, ◌∙◌, arith}
use Rattle.driver.specs.Rig.{stopping, later}
use Rattle.driver.proofs.Changing.{later_none}
use Rattle.driver.proofs.Halting.{turned_more, if_not_yet, if_at_last}
use Rattle.driver.proofs.suspend.settle.Goals as goal

pub loop-turn-init : goal.loop-turn-init
loop-turn-init g c =
    let r = g.B.Bus.rig c.args.bus.now in
    let sound = g.met.B.Bus.sound c.args.bus.now in
    let n : r.suspend - 0 ≡ r.suspend = omega arith in (
      refl,
      λ j own e. (
        omega (arith, sound.suspend_least),
        (j.toggle, later_none r (stopping j r.suspend) sound.clock e ∙ ap (λ (k : ℕ). later r 0 r.cells (stopping j k)) (sym n)),
      ),
    )

pub returns-then-still : goal.returns-then-still
returns-then-still g c =
    let rig = g.B.Bus.rig in
    let p = turned_more (rig c.args.bus.now) c.args.address c.loop-turn._turn (rig c.loop-turn.bus) c.loop-turn.invariant c.still.result (rig c.still.new.bus)
    c.still.ensures in
    record { same = p.0; settled = λ j own e. if_at_last (p.1 j own e) c.if-still.true }

pub loop-turn-preserved : goal.loop-turn-preserved
loop-turn-preserved g c =
    let rig = g.B.Bus.rig in
    let p = turned_more (rig c.args.bus.now) c.args.address c.loop-turn._turn (rig c.loop-turn.bus) c.loop-turn.invariant c.still.result (rig c.still.new.bus)
    c.still.ensures in
    (p.0, λ j own e. if_not_yet (p.1 j own e) c.if-still.false)
