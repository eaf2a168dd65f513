use Rattle.std.proofs.Common.{◌≡◌, ℕ, ◌+◌, ◌<◌, true, false, sym, refl, ap, ◌∙◌, subst, arith}
use Rattle.part.specs.Meaning.{Meaning, size, cell}
use Rattle.part.specs.Calls.{stands}
use Rattle.book.specs.Pages.{blank}
use Rattle.book.proofs.Surveying.{blank_none, blank_more, blank_fails}
use Rattle.book.proofs.survey.is_blank.Goals as goal

pub see-requires : goal.see-requires
see-requires g c =
    let e = c.loop-i.invariant.0 in
    let i = c.args.from + c.loop-i.i in
    let l : i < size (g.P.Part.means c.args.part.now) = omega (arith, c.requires.within) in
    record {
      still = subst (λ (x : Meaning). stands x ≡ false) (sym e) c.requires.still;
      within = subst (λ (x : Meaning). i < size x) (sym e) l;
    }

pub loop-i-init : goal.loop-i-init
loop-i-init g c = (refl, blank_none (g.P.Part.means c.args.part.now).cells c.args.from)

pub loop-i-preserved : goal.loop-i-preserved
loop-i-preserved g c =
    let e = c.loop-i.invariant.0 in
    let i = c.args.from + c.loop-i.i in (
      c.see.ensures.same ∙ e,
      blank_more (g.P.Part.means c.args.part.now).cells c.args.from c.loop-i.i c.loop-i.invariant.1
          (ap (λ (x : Meaning). cell x i) (sym e) ∙ sym c.see.ensures.answer ∙ c.if-see.false),
    )

pub returns-then-see : goal.returns-then-see
returns-then-see g c =
    let e = c.loop-i.invariant.0 in
    let i = c.args.from + c.loop-i.i in
    record {
      answer =
          sym (blank_fails (g.P.Part.means c.args.part.now).cells c.args.from c.args.count c.loop-i.i c.loop-i-test.true
          (λ d. c.if-see.true (c.see.ensures.answer ∙ ap (λ (x : Meaning). cell x i) e ∙ d)));
      same = c.see.ensures.same ∙ e;
    }

pub returns : goal.returns
returns g c =
    let n : c.loop-i.i ≡ c.args.count = omega arith in
    record {
      answer = sym (subst (λ (k : ℕ). blank (g.P.Part.means c.args.part.now).cells c.args.from k ≡ true) n c.loop-i.invariant.1);
      same = c.loop-i.invariant.0;
    }
