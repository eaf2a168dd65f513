use Rattle.driver.proofs.Halting.{Waiting}
use Rattle.driver.proofs.suspend.settle.Given as goal

abbrev pub invariant-loop-turn : goal.invariant-loop-turn
invariant-loop-turn g l = Waiting (g.B.Bus.rig l.initial.bus) l.address l._turn (g.B.Bus.rig l.bus)
