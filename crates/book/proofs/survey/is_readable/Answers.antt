use Rattle.std.proofs.Common.{◌≡◌, ℕ, ◌+◌, ◌-◌, ◌*◌, ◌%◌, ◌^◌, ◌<◌, ◌||◌, eqb, sym, refl, ap, ◌∙◌, arith}
use Rattle.std.proofs.lemmas.Nat.{one_shl}
use Rattle.part.specs.Meaning.{Meaning, cell}
use Rattle.book.specs.Pages.{page_at, line_at, used, blank, spelled, fit_line}
use Rattle.book.proofs.Surveying.{page_unfit, page_fit}
use Rattle.book.proofs.survey.is_readable.Goals as goal

pub returns-then-used-gt-LAST_LINE : goal.returns-then-used-gt-LAST_LINE
returns-then-used-gt-LAST_LINE g c =
    let m = g.P.Part.means c.args.part.now in
    record {
      answer =
          sym (page_unfit m.cells (page_at c.args.page.start c.args.page.position) (used c.see-tally.result)
          (ap used (c.see-tally.ensures.answer ∙ ap (cell m) c.tally-at.ensures)) c.if-used-gt-LAST_LINE.true);
      same = c.see-tally.ensures.same;
    }

pub returns : goal.returns
returns g c =
    let m = g.P.Part.means c.args.part.now in
    let xs = m.cells in
    let at = page_at c.args.page.start c.args.page.position in
    let e = c.tally-at.ensures in
    let t = c.see-tally.result in
    let u = used t in
    let few : u < 8 = omega arith in
    let one = c.see-tally.ensures.same in
    let two = c.is_blank-reserved.ensures.same ∙ one in
    let three = c.last_fits-last.ensures.same ∙ two in
    let rest : 8 * (7 - u) ≡ 56 - 8 * u = omega arith in
    let j = g.P.Part.means c.see-tally.new.part in
    let k = g.P.Part.means c.last_fits-last.new.part in
    let begins : c.line_start.result ≡ line_at at (u + 1) = c.line_start.ensures in
    record {
      answer =
          page_fit xs at t u _ c.is_blank-reserved.result c.last_fits-last.result c.is_blank-beyond.result
          (c.see-tally.ensures.answer ∙ ap (cell m) e) refl few
          (ap (λ (v : ℕ). eqb v (256 - 1 * 2 ^ u % 2 ^ 32)) c.from.ensures ∙ ap (λ (n : ℕ). eqb t (256 - n)) (one_shl u 32 (omega arith)))
          (c.is_blank-reserved.ensures.answer ∙ ap (λ (a : ℕ). blank j.cells (a + 1) 7) e ∙ ap (λ (x : Meaning). blank x.cells (at + 1) 7) one)
          (c.last_fits-last.ensures.answer ∙ ap (λ (x : Meaning). eqb u 0 || fit_line (spelled x.cells (line_at at u) 8)) two)
          (c.is_blank-beyond.ensures.answer ∙ ap (λ (a : ℕ). blank k.cells a (8 * (7 - u))) begins ∙ ap (blank k.cells (line_at at (u + 1))) rest
          ∙ ap (λ (x : Meaning). blank x.cells (line_at at (u + 1)) (56 - 8 * u)) three);
      same = c.is_blank-beyond.ensures.same ∙ three;
    }
