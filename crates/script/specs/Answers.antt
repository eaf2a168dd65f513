-- The text of the answers.
use Rattle.std.specs.Prelude.{ℕ, ◌-◌, Bool, true, false, List, ◌++◌, length, replicate, Option, Some, None, Result, Ok, Err, codes}
use Rattle.std.specs.Fmt.{decimal, digits}
use Rattle.fault.specs.Causes.{number_of}
use Rattle.fault.specs.declared.faults.ConsoleFault.{ConsoleFault}
use Rattle.console.specs.declared.answers.Said.{Said}
use Rattle.console.specs.declared.answers.Said.TheVariants.{Done, Shows, Finds}
use Rattle.console.specs.declared.answers.Answer.{Answer}
use Rattle.script.specs.declared.replies.Reply.{Reply}
use Rattle.script.specs.declared.replies.Reply.TheVariants as replies

-- a number in hexadecimal capitals with zeros before them, sixteen in all
unfoldable pub sixteen : ℕ → List ℕ
sixteen n = replicate (16 - length (digits 16 true n)) 48 ++ digits 16 true n

abbrev pub shown_text : Option ℕ → List ℕ
shown_text None = codes "empty"
shown_text (Some stops) = sixteen stops

abbrev pub found_text : Option ℕ → List ℕ
found_text None = codes "none"
found_text (Some position) = decimal position

abbrev pub said_text : Said → List ℕ
said_text Done = codes "ok"
said_text (Shows o) = shown_text o
said_text (Finds o) = found_text o

-- what was said, and how long it took
abbrev pub timed : List ℕ → ℕ → List ℕ
timed said us = said ++ (codes " +" ++ (decimal us ++ codes " us"))

abbrev pub refusal_text : ConsoleFault → List ℕ
refusal_text f = codes "refused " ++ (decimal (number_of f.cause) ++ (codes " place " ++ (decimal f.place ++ (codes " position " ++ decimal f.position))))

-- to open, or to one of the five calls
abbrev pub answer_text : Result Answer ConsoleFault → List ℕ
answer_text (Ok x) = timed (said_text x.said) x.us
answer_text (Err f) = refusal_text f

abbrev pub quiet_text : Bool → List ℕ
quiet_text true = codes "yes"
quiet_text false = codes "no"

abbrev pub verdict_text : Bool → List ℕ
verdict_text true = codes "same"
verdict_text false = codes "different"

abbrev pub text_of : Reply → List ℕ
text_of (replies.Answer r) = answer_text r
text_of (replies.Quiet q) = quiet_text q
text_of replies.Anew = codes "ok"
