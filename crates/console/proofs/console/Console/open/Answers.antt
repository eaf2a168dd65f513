use Rattle.std.proofs.Common.{ℕ, Some, Ok, Err, sym, refl, ap, ◌∙◌, subst}
use Rattle.std.proofs.lemmas.Result.{err_from_is_err_and}
use Rattle.fault.specs.declared.faults.ConsoleFault.{ConsoleFault}
use Rattle.part.specs.Neighbours.{elapsed}
use Rattle.console.specs.declared.answers.Said.TheVariants.{Done}
use Rattle.console.specs.Desks.{Desk, desk}
use Rattle.console.specs.Opening.{Opens}
use Rattle.console.proofs.Calling.{opens_already, opens_done, opens_refused}
use Rattle.console.proofs.console.Console.open.Goals as goal

pub returns-then-is_some : goal.returns-then-is_some
returns-then-is_some g c =
    let here : Desk = desk (g.P.Part.means c.self.inside.part) c.self.inside.books in
    subst (λ (d : Desk). Opens d c.args.a c.args.b (Err c.refused.result) d) c.self.view_is
    (subst (λ (f : ConsoleFault). Opens here c.args.a c.args.b (Err f) here) (sym c.refused.ensures)
    (opens_already (g.P.Part.means c.self.inside.part) c.self.inside.books c.args.a c.args.b (sym c.is_some.ensures ∙ c.if-is_some.true)))

pub returns-in_err-books : goal.returns-in_err-books
returns-in_err-books g c =
    let n = g.P.Part.means c.open.new.part in
    let p = err_from_is_err_and c.from_residual.result c.from_residual.ensures.1 in
    subst (λ (d : Desk). Opens d c.args.a c.args.b c.from_residual.result (desk n c.self.inside.books)) c.self.view_is
    (opens_refused (g.P.Part.means c.self.inside.part) n c.self.inside.books c.args.a c.args.b
    c.in_err-books.field-0.0 c.from_residual.result (sym c.is_some.ensures ∙ c.if-is_some.false) c.in_err-books.ensures (p.1 ∙ ap Err p.2))

pub returns : goal.returns
returns g c =
    let n = g.P.Part.means c.open.new.part in
    subst (λ (d : Desk). Opens d c.args.a c.args.b (Ok (record { said = Done; us = c.since.result })) (desk n (Some c.in_ok-books.books))) c.self.view_is
    (opens_done (g.P.Part.means c.self.inside.part) n c.self.inside.books (Some c.in_ok-books.books)
    c.args.a c.args.b c.since.result (Ok c.in_ok-books.books) _ (sym c.is_some.ensures ∙ c.if-is_some.false) c.in_ok-books.ensures
    (c.since.ensures ∙ ap (λ (x : ℕ). elapsed x n.clock) c.clock-before.ensures) refl refl)
