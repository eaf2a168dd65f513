use Rattle.std.proofs.Common.{sym, ap, ◌∙◌, take}
use Rattle.std.specs.Prelude.{codes}
use Rattle.std.specs.Str.{bytes_eq}
use Rattle.std.proofs.lemmas.Bool.{cond-true, cond-false}
use Rattle.words.specs.Numbers.{numeral_of, number_of}
use Rattle.words.proofs.numbers.number.Goals as goal

pub returns-in-Some-clause-value : goal.returns-in-Some-clause-value
unfolding number_of
returns-in-Some-clause-value c =
    let word = c.args.word.now in
    c.numeral.ensures ∙ ap (numeral_of 16 c.args.most) c.in-Some.ensures.cases.1 ∙ sym (cond-true (bytes_eq (take 2 word) (codes "0x")) _ _ c.in-Some.ensures.cases.0)

pub returns-in-None-clause-value : goal.returns-in-None-clause-value
unfolding number_of
returns-in-None-clause-value c =
    let word = c.args.word.now in
    c.numeral-in-None.ensures ∙ sym (cond-false (bytes_eq (take 2 word) (codes "0x")) _ _ c.in-None.ensures.cases)
