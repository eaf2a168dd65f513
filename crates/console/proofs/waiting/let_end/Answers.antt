use Rattle.std.proofs.Common.{◌≡◌, ◌<◌, sym, refl, ap, ◌∙◌, subst, arith}
use Rattle.part.specs.declared.answers.Shape.{Shape}
use Rattle.part.specs.Meaning.{Meaning}
use Rattle.console.specs.Waiting.{let_end, ends_worn, is_worn}
use Rattle.console.proofs.Ending.{RunsOn, time_left, running, not_running, goes_on, ended, some_left, left_of}
use Rattle.console.proofs.waiting.let_end.Goals as goal

pub returns-in_default : goal.returns-in_default
returns-in_default g c =
    let m = g.P.Part.means c.args.part.now in
    let n = not_running m (λ b e. c.in_default.not-Running b (ap (λ (x : Shape). x.standing) c.shape.ensures ∙ e)) in
    record { answer = sym n.1; ended = sym n.0 }

pub loop-ended-init : goal.loop-ended-init
loop-ended-init g c = (
  running (g.P.Part.means c.args.part.now) c.in-Running.field-0 (ap (λ (x : Shape). x.standing) (sym c.shape.ensures) ∙ c.in-Running.is),
  refl,
  refl,
)

pub loop-ended-preserved : goal.loop-ended-preserved
loop-ended-preserved g c =
    let m = g.P.Part.means c.args.part.now in
    let k = g.P.Part.means c.loop-ended.part in
    let on = goes_on k c.loop-ended.invariant.0 (sym c.pass_once.ensures.answer ∙ c.in-Running-pass_once.is) in
    let e = sym c.pass_once.ensures.passed in (
      subst RunsOn e on.still,
      subst (λ (x : Meaning). let_end x ≡ let_end m) e (on.same ∙ c.loop-ended.invariant.1),
      subst (λ (x : Meaning). ends_worn x ≡ ends_worn m) e (on.worn_same ∙ c.loop-ended.invariant.2),
    )

pub loop-ended-smaller : goal.loop-ended-smaller
loop-ended-smaller g c =
    let k = g.P.Part.means c.loop-ended.part in
    let r = c.loop-ended.invariant.0 in
    let on = goes_on k r (sym c.pass_once.ensures.answer ∙ c.in-Running-pass_once.is) in
    let e = sym c.pass_once.ensures.passed in
    subst (λ (x : Meaning). time_left x.erasure < time_left k.erasure) e
    (omega (arith, left_of k r, left_of _ on.still, on.less))

pub returns-in_default-pass_once : goal.returns-in_default-pass_once
returns-in_default-pass_once g c =
    let k = g.P.Part.means c.loop-ended.part in
    let r = c.loop-ended.invariant.0 in
    let x = ended k r (some_left k r (g.met.P.Part.lawful c.loop-ended.part)) (λ e. c.in_default-pass_once.not-Running (c.pass_once.ensures.answer ∙ e)) in
    record {
      answer = c.ended_worn.ensures ∙ ap is_worn c.pass_once.ensures.answer ∙ x.1 ∙ c.loop-ended.invariant.2;
      ended = c.pass_once.ensures.passed ∙ x.0 ∙ c.loop-ended.invariant.1;
    }
