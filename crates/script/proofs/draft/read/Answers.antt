use Rattle.std.proofs.Common.{◌≡◌, ℕ, ◌+◌, ◌-◌, List, [], ◌∷◌, length, drop, refl, sym, ap, subst, ◌∙◌, arith}
use Rattle.std.proofs.lemmas.Result.{err_from_is_err_and}
use Rattle.std.proofs.lemmas.List.{nil_from_length}
use Rattle.script.specs.Scripts.{view, finished, lines_read, lines_of, script_of}
use Rattle.script.proofs.WholeAgain.{scripts_again}
use Rattle.script.proofs.Standing.{steps_stand}
use Rattle.script.proofs.Cutting.{last_line, next_line, some_line, goes_on, fails, is_done}
use Rattle.script.proofs.draft.read.Goals as goal

pub returns-in_err-add-clause-value : goal.returns-in_err-add-clause-value
returns-in_err-add-clause-value c =
    let p = err_from_is_err_and c.from_residual.result c.from_residual.ensures.1 in
    let s = c.split_at.ensures in
    let at = c.place_of.ensures in
    let rest = c.loop-draft.rest.now in
    let cut = some_line rest (drop c.place_of.result rest) c.place_of.result at.within at.before at.there refl in
    let first : lines_of rest ≡ c.split_at.result.0.now ∷ cut.0 = cut.1 ∙ ap (λ (l : List ℕ). l ∷ cut.0) (sym s.front) in
    rw (p.1, p.2) (fails c.in_err-add.field-0.0 c.loop-draft.number (length c.args.text.now - length rest) (view c.loop-draft.draft) rest c.split_at.result.0.now cut.0 (script_of c.args.text.now) first c.in_err-add.ensures c.loop-draft.invariant.rest)

pub loop-draft-preserved : goal.loop-draft-preserved
loop-draft-preserved c =
    let s = c.split_at.ensures in
    let at = c.place_of.ensures in
    let rest = c.loop-draft.rest.now in
    let line = c.split_at.result.0.now in
    let more = c.in-Some.more.now in
    let cases = c.in-Some.ensures.cases in
    let first : lines_of rest ≡ line ∷ lines_of more =
    next_line rest more c.place_of.result c.in-Some.field-0-0.now at.within at.before at.there (sym s.back ∙ cases.0) ∙ ap (λ (l : List ℕ). l ∷ lines_of more) (sym s.front)
    in
    let place : length c.args.text.now - length rest + length line + 1 ≡ length c.args.text.now - length more = omega (arith, s.front_len, s.back_len, cases.1, c.loop-draft.invariant.within) in
    record {
      within = omega (arith, s.back_len, cases.1, c.loop-draft.invariant.within);
      few = omega (arith, s.back_len, cases.1, c.loop-draft.invariant.few);
      rest = subst (λ (a : ℕ). lines_read (c.loop-draft.number + 1) a (view c.add.new.self) (lines_of more) ≡ script_of c.args.text.now) place
          (goes_on c.loop-draft.number (length c.args.text.now - length rest) (view c.loop-draft.draft) (view c.add.new.self) rest more line (script_of c.args.text.now) first c.in_ok-add.ensures c.loop-draft.invariant.rest);
    }

-- what is read of the whole text is what is finished now
done : (c : goal.After-finish) → finished c.loop-draft.number (view c.add.new.self) ≡ script_of c.args.text.now
done c =
    let s = c.split_at.ensures in
    let at = c.place_of.ensures in
    let rest = c.loop-draft.rest.now in
    let line = c.split_at.result.0.now in
    let none : drop c.place_of.result rest ≡ [] = sym s.back ∙ nil_from_length c.split_at.result.1.now c.in_default.ensures.cases in
    let first : lines_of rest ≡ line ∷ [] = last_line rest c.place_of.result at.within at.before none ∙ ap (λ (l : List ℕ). l ∷ []) (sym s.front) in
    is_done c.loop-draft.number (length c.args.text.now - length rest) (view c.loop-draft.draft) (view c.add.new.self) rest line (script_of c.args.text.now) first c.in_ok-add.ensures c.loop-draft.invariant.rest

pub returns-clause-value : goal.returns-clause-value
returns-clause-value c = rw (← done c) c.finish.ensures

pub returns-clause-steps : goal.returns-clause-steps
returns-clause-steps c = steps_stand c.args.text.now c.finish.result (rw (← done c) c.finish.ensures)

pub returns-clause-again : goal.returns-clause-again
returns-clause-again c = scripts_again

pub returns-in_err-add-clause-again : goal.returns-in_err-add-clause-again
returns-in_err-add-clause-again c = scripts_again
