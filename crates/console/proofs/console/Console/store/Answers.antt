use Rattle.std.proofs.Common.{ℕ, Err, refl, ap, ◌∙◌, sym}
use Rattle.std.proofs.lemmas.Result.{err_from_is_err_and}
use Rattle.part.specs.Neighbours.{elapsed}
use Rattle.console.specs.declared.answers.Said.TheVariants.{Done}
use Rattle.console.specs.Desks.{Desk, moved}
use Rattle.console.specs.Checks.{store_books}
use Rattle.console.specs.Storing.{Stores}
use Rattle.console.proofs.Calling.{refused_by, stores_done, reported_err, reported_ok}
use Rattle.console.proofs.console.Console.store.Goals as goal

pub returns-in_err-spot : goal.returns-in_err-spot
unfolding Stores
returns-in_err-spot g c =
    let p = err_from_is_err_and c.from_residual.result c.from_residual.ensures.1 in
    refused_by (λ o. store_books o c.args.position c.args.new) _ c.args.self.now _ c.args.position c.in_err-spot.field-0.0 c.from_residual.result
    (ap (λ (d : Desk). d.books) c.self.view_is) c.in_err-spot.ensures (p.1 ∙ ap Err p.2)

pub returns-in_err-at : goal.returns-in_err-at
returns-in_err-at g c =
    let m = g.P.Part.means c.self.inside.part in
    let n = g.P.Part.means c.store-stored.new.part in
    let p = err_from_is_err_and c.from_residual-in_err-at.result c.from_residual-in_err-at.ensures.1 in
    stores_done c.args.self.now c.self.inside.books m n c.args.position (moved m n) c.args.new c.in_ok-spot.spot c.store-stored.new.spot.books
    c.store-stored.result c.from_residual-in_err-at.result c.self.view_is c.in_ok-spot.ensures c.store-stored.ensures refl
    (p.1 ∙ ap Err p.2
    ∙ reported_err c.args.position (λ _. record { said = Done; us = moved m n }) c.store-stored.result c.in_err-at.field-0.0 (sym c.at.ensures ∙ c.in_err-at.was))

pub returns : goal.returns
returns g c =
    let m = g.P.Part.means c.self.inside.part in
    let n = g.P.Part.means c.store-stored.new.part in
    stores_done c.args.self.now c.self.inside.books m n c.args.position c.since.result c.args.new c.in_ok-spot.spot c.store-stored.new.spot.books
    c.store-stored.result _ c.self.view_is c.in_ok-spot.ensures c.store-stored.ensures
    (c.since.ensures ∙ ap (λ (x : ℕ). elapsed x n.clock) c.clock-before.ensures)
    (reported_ok c.args.position (λ _. record { said = Done; us = c.since.result }) c.store-stored.result c.in_ok-at.field-0 (sym c.at.ensures ∙ c.in_ok-at.was))
