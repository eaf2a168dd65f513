-- When two answers to a request are the same, the microseconds aside.
use Rattle.std.specs.Prelude.{◌≡◌}
use Rattle.rehearsal.specs.Promises.{Same}
use Rattle.script.specs.declared.replies.Reply.{Reply}
use Rattle.script.specs.declared.replies.Reply.TheVariants.{Answer, Quiet, Anew}

abbrev pub SameReply : Reply → Reply → Type 0
SameReply (Answer a) (Answer b) = Same a b
SameReply (Quiet a) (Quiet b) = a ≡ b
SameReply (Answer a) (Quiet b) = ⊥
SameReply (Quiet a) (Answer b) = ⊥
SameReply Anew Anew = Unit {0}
SameReply Anew (Answer b) = ⊥
SameReply Anew (Quiet b) = ⊥
SameReply (Answer a) Anew = ⊥
SameReply (Quiet a) Anew = ⊥
