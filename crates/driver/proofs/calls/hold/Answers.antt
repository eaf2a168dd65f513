use Rattle.driver.proofs.Halting.{held_tied}
use Rattle.driver.proofs.calls.hold.Goals as goal

pub returns-in-Running-clause-tied : goal.returns-in-Running-clause-tied
returns-in-Running-clause-tied g c t =
    held_tied (g.B.Bus.rig c.args.bus.now) (g.B.Bus.rig c.suspend.new.bus) c.args.notes.now c.in-Running.block t c.in-Running.is c.suspend.ensures
