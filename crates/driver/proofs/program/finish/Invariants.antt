use Rattle.driver.proofs.Polling.{OnTheWay}
use Rattle.driver.proofs.program.finish.Given as goal

abbrev pub invariant-loop-turn : goal.invariant-loop-turn
invariant-loop-turn g l = OnTheWay (g.B.Bus.rig l.initial.bus) l.address l.byte l._turn (g.B.Bus.rig l.bus)
