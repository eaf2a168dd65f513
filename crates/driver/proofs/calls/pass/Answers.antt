use Rattle.driver.proofs.Ending.{waits, still_tied}
use Rattle.driver.proofs.calls.pass.Goals as goal

pub returns-in-Running-clause-call : goal.returns-in-Running-clause-call
returns-in-Running-clause-call g c t =
    waits (g.B.Bus.rig c.args.bus.now) (g.B.Bus.rig c.pass.new.self) (g.B.Bus.rig c.look-verdict.new.bus) c.args.notes.now c.in-Running.block c.args.n
    c.look-verdict.result (g.met.B.Bus.sound c.args.bus.now) t c.in-Running.is c.pass.result c.in_ok-pass.field-0 c.pass.ensures c.in_ok-pass.was
    c.look-verdict.ensures c.into.result c.into.ensures

pub returns-in-Running-clause-tied : goal.returns-in-Running-clause-tied
returns-in-Running-clause-tied g c t =
    still_tied (g.B.Bus.rig c.args.bus.now) (g.B.Bus.rig c.pass.new.self) (g.B.Bus.rig c.look-verdict.new.bus) c.args.notes.now c.in-Running.block c.args.n
    c.look-verdict.result (g.met.B.Bus.sound c.args.bus.now) t c.in-Running.is c.pass.result c.in_ok-pass.field-0 c.pass.ensures c.in_ok-pass.was
    c.look-verdict.ensures c.stands_after-notes.result c.stands_after-notes.ensures
