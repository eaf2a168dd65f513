use Rattle.std.proofs.Common.{◌≡◌, ℕ, ◌+◌, ◌-◌, cond, is_some, Option, sym, ap, ◌∙◌, arith}
use Rattle.chip.specs.declared.state.State.{State}
use Rattle.chip.specs.Flash.{view}
use Rattle.chip.specs.Times.{due, lowered, ended, steps}
use Rattle.chip.proofs.Updates.{with_state}
use Rattle.chip.proofs.Passing.{Ends, within_some, outlasted, over, steps_split}
use Rattle.chip.proofs.chip.Chip.run.Goals as goal

pub loop-left-preserved : goal.loop-left-preserved
loop-left-preserved c =
    let f = view c.loop-left.self in
    let left = c.in-Some.left in
    let rest = c.loop-left.rest - left in
    let e : Ends c.loop-left.rest left (due f.state) = within_some c.loop-left.rest left (due f.state) (sym c.in-Some.ensures.over) in
    let n : c.loop-left.rest ≡ left + rest = omega (arith, e.most) in
    let same : c.end_within.new.self ≡ f.state =
    c.in-Some.ensures.rest ∙ ap (λ (o : Option ℕ). cond (is_some o) f.state (lowered c.loop-left.rest f.state)) (sym c.in-Some.ensures.over) in
    c.loop-left.invariant
    ∙ ap (λ (m : ℕ). steps m f) n
    ∙ steps_split left rest f
    ∙ ap (steps rest) (over left f e.due ∙ ap (λ (s : State). ended (with_state f s) s) (sym same) ∙ sym c.end.ensures)

pub returns : goal.returns
returns c =
    let f = view c.loop-left.self in
    let same : c.end_within.new.self ≡ lowered c.loop-left.rest f.state =
    c.in_default.ensures.rest ∙ ap (λ (o : Option ℕ). cond (is_some o) f.state (lowered c.loop-left.rest f.state)) (sym c.in_default.ensures.over) in
    ap (with_state f) same ∙ sym (outlasted c.loop-left.rest f (sym c.in_default.ensures.over)) ∙ sym c.loop-left.invariant
