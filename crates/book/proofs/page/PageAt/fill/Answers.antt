use Rattle.std.proofs.Common.{ℕ, Ok, Err, Option, Result, sym, ap, ◌∙◌, subst}
use Rattle.std.proofs.lemmas.Result.{err_from_is_err_and}
use Rattle.fault.specs.declared.faults.PartFault.{PartFault}
use Rattle.part.specs.Calls.{answer, burn_no, Burnt}
use Rattle.book.specs.Pages.{page_at}
use Rattle.book.specs.Burning.{Ran, done, page_copied}
use Rattle.book.proofs.Steps.{page_stops, page_ends}
use Rattle.book.proofs.page.PageAt.fill.Goals as goal

pub returns-in_default : goal.returns-in_default
returns-in_default g c =
    let m = g.P.Part.means c.args.part.now in
    subst (λ (o : Option ℕ). Ran m (page_copied (page_at c.args.self.start c.args.self.position) (Ok o)) (Ok tt) m) (sym c.in_default.is) (done m)

pub returns-in_err-burn_line : goal.returns-in_err-burn_line
returns-in_err-burn_line g c =
    let m = g.P.Part.means c.args.part.now in
    let n = g.P.Part.means c.burn_line.new.part in
    let at = page_at c.args.self.start c.args.self.position in
    let p = err_from_is_err_and c.from_residual.result c.from_residual.ensures.1 in
    subst (λ (x : Result (Unit {0}) PartFault). Ran m (page_copied at (Ok c.args.stops)) x n) (sym (p.1 ∙ ap Err p.2))
    (subst (λ (o : Option ℕ). Ran m (page_copied at (Ok o)) (Err c.in_err-burn_line.field-0.0) n) (sym c.in-Some.is)
    (page_stops m n at c.in-Some.stops c.in_err-burn_line.field-0.0 c.in_err-burn_line.ensures))

pub returns : goal.returns
returns g c =
    let m = g.P.Part.means c.args.part.now in
    let k = g.P.Part.means c.burn_line.new.part in
    let n = g.P.Part.means c.burn.new.self in
    let at = page_at c.args.self.start c.args.self.position in
    subst (λ (o : Option ℕ). Ran m (page_copied at (Ok o)) c.burn.result n) (sym c.in-Some.is)
    (page_ends m k n at c.in-Some.stops c.burn.result c.in_ok-burn_line.ensures
    (c.burn.ensures.answer ∙ ap (λ (a : ℕ). answer (burn_no k a 254) a tt) c.tally.ensures)
    (subst (λ (a : ℕ). Burnt k a 254 n) c.tally.ensures c.burn.ensures.burnt))
