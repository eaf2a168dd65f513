use Rattle.std.proofs.Common.{◌≡◌, ℕ, ◌+◌, ◌≤◌, true, false, sym, refl, ap, ◌∙◌, subst, arith}
use Rattle.std.proofs.lemmas.Bool.{and_from, and_right}
use Rattle.part.specs.Meaning.{Meaning, size}
use Rattle.part.specs.Calls.{stands}
use Rattle.book.specs.Pages.{page_at, readable_page, readable_pages}
use Rattle.book.proofs.Surveying.{positions_none, positions_more, positions_fail}
use Rattle.book.proofs.survey.is_readable_book.Goals as goal

pub is_readable-requires : goal.is_readable-requires
is_readable-requires g c =
    let m = g.P.Part.means c.args.part.now in
    let e = c.loop-p.invariant.0 ∙ c.is_blank.ensures.same in
    let l : page_at c.args.start (c.loop-p.p + 1) + 64 ≤ size m = omega (arith, c.requires.within) in
    record {
      still = subst (λ (x : Meaning). stands x ≡ false) (sym e) c.requires.still;
      within = subst (λ (x : Meaning). page_at c.args.start (c.loop-p.p + 1) + 64 ≤ size x) (sym e) l;
    }

pub loop-p-init : goal.loop-p-init
loop-p-init g c = (refl, positions_none (g.P.Part.means c.is_blank.new.part).cells c.args.start)

pub loop-p-preserved : goal.loop-p-preserved
loop-p-preserved g c =
    let k = g.P.Part.means c.loop-p.part in
    let s = c.args.start in
    let p = c.loop-p.p in (
      c.is_readable.ensures.same ∙ c.loop-p.invariant.0,
      subst (λ (x : Meaning). readable_pages x.cells s (p + 1) ≡ true) (sym c.is_readable.ensures.same)
          (positions_more k.cells s p c.loop-p.invariant.1 (sym c.is_readable.ensures.answer ∙ c.if-not-is_readable.false)),
    )

pub returns-then-not-is_readable : goal.returns-then-not-is_readable
returns-then-not-is_readable g c =
    let m = g.P.Part.means c.args.part.now in
    let e = c.loop-p.invariant.0 ∙ c.is_blank.ensures.same in
    let p = c.loop-p.p in
    let page : readable_page m.cells (page_at c.args.start (p + 1)) ≡ false =
    ap (λ (x : Meaning). readable_page x.cells (page_at c.args.start (p + 1))) (sym e) ∙ sym c.is_readable.ensures.answer ∙ c.if-not-is_readable.true in
    record {
      answer = sym (and_right _ _ (positions_fail m.cells c.args.start c.args.positions (p + 1) (omega arith) page (omega arith)));
      same = c.is_readable.ensures.same ∙ e;
    }

pub returns : goal.returns
returns g c =
    let m = g.P.Part.means c.args.part.now in
    let e = c.loop-p.invariant.0 ∙ c.is_blank.ensures.same in
    let n : c.loop-p.p ≡ c.args.positions = omega arith in
    record {
      answer =
          sym (and_from _ _ (sym c.is_blank.ensures.answer ∙ c.if-not-is_blank.false)
          (subst (λ (x : Meaning). readable_pages x.cells c.args.start c.args.positions ≡ true) e
          (subst (λ (k : ℕ). readable_pages (g.P.Part.means c.loop-p.part).cells c.args.start k ≡ true) n c.loop-p.invariant.1)));
      same = e;
    }
