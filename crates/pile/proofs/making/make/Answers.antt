use Rattle.pile.proofs.Fitting.{admitted}
use Rattle.pile.proofs.making.make.Goals as goal

pub returns-clause-answered : goal.returns-clause-answered
returns-clause-answered c = admitted _ c.admit.result c.in_ok-admit.field-0 c.in_ok-assemble.field-0 c.admit.ensures.answered c.in_ok-admit.was
