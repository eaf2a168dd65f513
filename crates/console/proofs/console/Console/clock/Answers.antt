use Rattle.std.proofs.Common.{subst}
use Rattle.part.specs.Meaning.{Lawful}
use Rattle.console.specs.Desks.{Desk}
use Rattle.console.proofs.console.Console.clock.Goals as goal

pub returns-clause-lawful : goal.returns-clause-lawful
returns-clause-lawful g c = subst (λ (d : Desk). Lawful d.part) c.self.view_is (g.met.P.Part.lawful c.self.inside.part)
