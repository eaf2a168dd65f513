use Rattle.rehearsal.proofs.Promised.{promised_of}
use Rattle.rehearsal.proofs.together.rehearse.Goals as goal

pub returns-clause-promise : goal.returns-clause-promise
returns-clause-promise g c =
    promised_of _ _ _ _ _ c.play.ensures.calls c.play-2.ensures.beside c.play.ensures.account c.play-2.ensures.account
