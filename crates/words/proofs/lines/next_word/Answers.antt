use Rattle.std.proofs.Common.{sym, ◌∙◌, arith}
use Rattle.words.proofs.Cutting.{cut, words_again}
use Rattle.words.proofs.lines.next_word.Goals as goal

pub returns-then-end-eq0-clause-law : goal.returns-then-end-eq0-clause-law
returns-then-end-eq0-clause-law c = words_again

pub returns-clause-law : goal.returns-clause-law
returns-clause-law c = words_again

pub returns-clause-some : goal.returns-clause-some
returns-clause-some c =
    let e = cut c.split_at.result.1.now c.place_of-end.result (omega arith) c.place_of-end.ensures.within c.place_of-end.ensures.before c.place_of-end.ensures.there in
    rw (c.split_at-2.ensures.front, c.split_at-2.ensures.back) (sym c.spaces.ensures.same ∙ rw (← c.split_at.ensures.back) e)
