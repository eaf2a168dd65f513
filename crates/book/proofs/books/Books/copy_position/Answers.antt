use Rattle.std.proofs.Common.{ℕ, Ok, Err, Option, Result, sym, ap, ap₂, ◌∙◌, subst, arith}
use Rattle.std.proofs.lemmas.Result.{err_from_is_err_and}
use Rattle.fault.specs.declared.faults.PartFault.{PartFault}
use Rattle.part.specs.Meaning.{Meaning}
use Rattle.book.specs.Pages.{page_at}
use Rattle.book.specs.Reading.{reading}
use Rattle.book.specs.Burning.{Ran, stopped, page_copied, stops_of}
use Rattle.book.proofs.Copying.{hold_new, hold_old}
use Rattle.book.proofs.books.Books.copy_position.Goals as goal

pub page-to-requires : goal.page-to-requires
page-to-requires g c = omega (arith, c.args.self.spare_fits, c.requires)

pub page-requires : goal.page-requires
page-requires g c = omega (arith, c.args.self.current_fits, c.requires)

pub returns-then-q-p : goal.returns-then-q-p
returns-then-q-p g c =
    let m = g.P.Part.means c.args.part.now in
    let n = g.P.Part.means c.fill.new.part in
    let to = page_at c.args.self.spare.start c.args.q in
    subst (λ (o : Result (Option ℕ) PartFault). Ran m (page_copied to o) c.fill.result n)
    (sym (hold_new m c.args.self.current.start c.args.p c.args.q c.args.new c.if-q-p.true))
    (subst (λ (a : ℕ). Ran m (page_copied a (Ok c.args.new)) c.fill.result n) (ap₂ page_at c.page-to.ensures.start c.page-to.ensures.position)
    c.fill.ensures)

pub returns-in_err-page : goal.returns-in_err-page
returns-in_err-page g c =
    let m = g.P.Part.means c.args.part.now in
    let n = g.P.Part.means c.read.new.part in
    let to = page_at c.args.self.spare.start c.args.q in
    let f = c.in_err-page.field-0.0 in
    let p = err_from_is_err_and c.from_residual.result c.from_residual.ensures.1 in
    let holds = hold_old m c.args.self.current.start c.args.p c.args.q c.args.new (Err f) c.if-q-p.false
    (sym (c.read.ensures.answer ∙ ap (reading m) (ap₂ page_at c.page.ensures.start c.page.ensures.position)) ∙ c.in_err-page.was) in
    subst (λ (o : Result (Option ℕ) PartFault). Ran m (page_copied to o) c.from_residual.result n) (sym holds)
    (subst (λ (x : Result (Unit {0}) PartFault). Ran m (page_copied to (stops_of (Err f))) x n) (sym (p.1 ∙ ap Err p.2))
    (subst (λ (x : Meaning). Ran m (page_copied to (stops_of (Err f))) (Err f) x) (sym c.read.ensures.same) stopped))

pub returns : goal.returns
returns g c =
    let m = g.P.Part.means c.args.part.now in
    let n = g.P.Part.means c.fill-2.new.part in
    let to = page_at c.args.self.spare.start c.args.q in
    let page = c.in_ok-page.page in
    let holds = hold_old m c.args.self.current.start c.args.p c.args.q c.args.new (Ok page) c.if-q-p.false
    (sym (c.read.ensures.answer ∙ ap (reading m) (ap₂ page_at c.page.ensures.start c.page.ensures.position)) ∙ c.in_ok-page.was) in
    subst (λ (o : Result (Option ℕ) PartFault). Ran m (page_copied to o) c.fill-2.result n) (sym holds)
    (subst (λ (x : Meaning). Ran x (page_copied to (Ok page.stops)) c.fill-2.result n) c.read.ensures.same
    (subst (λ (a : ℕ). Ran (g.P.Part.means c.read.new.part) (page_copied a (Ok page.stops)) c.fill-2.result n)
    (ap₂ page_at c.page-to.ensures.start c.page-to.ensures.position) c.fill-2.ensures))
