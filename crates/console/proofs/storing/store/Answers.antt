use Rattle.std.proofs.Common.{Err, Result, sym, ap, ◌∙◌, subst}
use Rattle.std.proofs.lemmas.Result.{err_from_is_err_and}
use Rattle.fault.specs.declared.faults.PartFault.{PartFault}
use Rattle.book.specs.Views.{pair_of}
use Rattle.console.specs.Storing.{Stored}
use Rattle.console.proofs.Calling.{store_stopped, store_gone}
use Rattle.console.proofs.storing.store.Goals as goal

pub returns-in_err-page : goal.returns-in_err-page
returns-in_err-page g c =
    let m = g.P.Part.means c.args.part.now in
    let k = g.P.Part.means c.let_end-worn.new.part in
    let n = g.P.Part.means c.read.new.part in
    let s = c.args.spot.now in
    let b = pair_of s.books in
    let z = pair_of c.spoilt_if-spot.result in
    let p = err_from_is_err_and c.from_residual.result c.from_residual.ensures.1 in
    subst (λ (x : Result (Unit {0}) PartFault). Stored m b s.position c.args.new x n z) (sym (p.1 ∙ ap Err p.2))
    (store_stopped m k n b z s.position c.args.new c.in_err-page.field-0.0 c.let_end-worn.result c.let_end-worn.ensures.ended
    c.let_end-worn.ensures.answer c.spoilt_if-spot.ensures (sym c.read.ensures.answer ∙ c.in_err-page.was) c.read.ensures.same)

pub returns : goal.returns
returns g c =
    let m = g.P.Part.means c.args.part.now in
    let k = g.P.Part.means c.let_end-worn.new.part in
    store_gone m k (g.P.Part.means c.read.new.part) (g.P.Part.means c.go.new.part) (pair_of c.args.spot.now.books) (pair_of c.spoilt_if-spot.result)
    (pair_of c.go.new.spot.books) c.args.spot.now.position c.args.new c.in_ok-page.page c.of-way.result c.go.result c.let_end-worn.result
    c.let_end-worn.ensures.ended c.let_end-worn.ensures.answer c.spoilt_if-spot.ensures (sym c.read.ensures.answer ∙ c.in_ok-page.was)
    c.read.ensures.same c.of-way.ensures c.go.ensures
