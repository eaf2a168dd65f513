use Rattle.std.proofs.Common.{◌≡◌, ℕ, Some, Err, Ok, Option, Result, sym, ap, ◌∙◌, subst}
use Rattle.std.proofs.lemmas.Result.{err_from_is_err_and}
use Rattle.std.specs.Option.{ok_or}
use Rattle.book.specs.declared.books.Books.{Books}
use Rattle.fault.specs.declared.faults.ConsoleFault.{ConsoleFault}
use Rattle.part.specs.Neighbours.{elapsed}
use Rattle.console.specs.declared.answers.Said.TheVariants.{Done}
use Rattle.console.specs.declared.answers.Answer.{Answer}
use Rattle.console.specs.Desks.{Desk, desk}
use Rattle.console.specs.Waiting.{Waits}
use Rattle.console.proofs.Calling.{waits_closed, waits_refused, waits_done}
use Rattle.console.proofs.console.Console.wait.Goals as goal

pub returns-in_err-books : goal.returns-in_err-books
returns-in_err-books g c =
    let e = c.in_err-books.ensures in
    let p = err_from_is_err_and c.from_residual.result c.from_residual.ensures.1 in
    let v : ◌≡◌ {A = Result Books ConsoleFault} (Err c.in_err-books.field-0.0) (Err c.refused.result) = e.value ∙ ap (λ (x : Option Books). ok_or x c.refused.result) e.ok_part in
    let f : c.in_err-books.field-0.0 ≡ c.refused.result = cc in
    let here : Desk = desk (g.P.Part.means c.self.inside.part) c.self.inside.books in
    subst (λ (d : Desk). Waits d c.args.us c.from_residual.result d) c.self.view_is
    (subst (λ (x : Result Answer ConsoleFault). Waits here c.args.us x here) (sym (p.1 ∙ ap Err (p.2 ∙ f ∙ c.refused.ensures)))
    (waits_closed (g.P.Part.means c.self.inside.part) c.self.inside.books c.args.us e.ok_part))

pub returns-in_err-progress : goal.returns-in_err-progress
returns-in_err-progress g c =
    let p = err_from_is_err_and c.from_residual-in_err-progress.result c.from_residual-in_err-progress.ensures.1 in
    subst (λ (d : Desk). Waits d c.args.us c.from_residual-in_err-progress.result (desk (g.P.Part.means c.pass.new.self) c.self.inside.books)) c.self.view_is
    (waits_refused (g.P.Part.means c.self.inside.part) (g.P.Part.means c.pass.new.self) c.self.inside.books c.in_ok-books.books c.args.us
    c.in_err-progress.field-0.0 c.from_residual-in_err-progress.result c.in_ok-books.ensures.ok_part (sym c.pass.ensures.answer ∙ c.in_err-progress.was)
    c.pass.ensures.passed (p.1 ∙ ap Err p.2))

pub returns : goal.returns
returns g c =
    subst (λ (d : Desk). Waits d c.args.us (Ok (record { said = Done; us = c.since.result })) (desk (g.P.Part.means c.pass.new.self) (Some c.spoilt_if.result))) c.self.view_is
    (waits_done (g.P.Part.means c.self.inside.part) (g.P.Part.means c.pass.new.self) c.self.inside.books c.in_ok-books.books c.spoilt_if.result
    c.args.us c.since.result c.in_ok-progress.progress c.ended_worn.result c.in_ok-books.ensures.ok_part (sym c.pass.ensures.answer ∙ c.in_ok-progress.was)
    c.pass.ensures.passed c.ended_worn.ensures c.spoilt_if.ensures
    (c.since.ensures ∙ ap (λ (x : ℕ). elapsed x (g.P.Part.means c.pass.new.self).clock) c.clock-before.ensures))
