use Rattle.std.proofs.Common.{◌∷◌, sym, ◌∙◌}
use Rattle.pile.proofs.Fitting.{all_fit}
use Rattle.pile.proofs.making.check.Goals as goal

pub returns-in-None-clause-fit : goal.returns-in-None-clause-fit
returns-in-None-clause-fit c = all_fit (c.args.first.now ∷ c.args.more.now) (sym c.first_unfit.ensures ∙ c.in-None.is)
