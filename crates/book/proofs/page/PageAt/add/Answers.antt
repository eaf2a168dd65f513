use Rattle.std.proofs.Common.{ℕ, Some, None, Ok, Err, Option, Result, sym, ap, ◌∙◌, subst}
use Rattle.std.proofs.lemmas.Result.{err_from_is_err_and}
use Rattle.fault.specs.declared.faults.PartFault.{PartFault}
use Rattle.part.specs.Meaning.{Meaning}
use Rattle.part.specs.Calls.{answer, burn_no, Burnt}
use Rattle.book.specs.Pages.{page_at, line_at, next_line}
use Rattle.book.specs.Burning.{Ran, done, bytes_burnt, line_burnt, line_added}
use Rattle.book.proofs.Steps.{line_stops, line_ends}
use Rattle.book.proofs.page.PageAt.add.Goals as goal
use Rattle.book.proofs.page.PageAt.add.Goals.{in-Some+in_ok-burn_line, in_default}

pub returns-in_err-burn_line : goal.returns-in_err-burn_line
returns-in_err-burn_line g c =
    let m = g.P.Part.means c.args.part.now in
    let n = g.P.Part.means c.burn_line.new.part in
    let at = page_at c.args.self.start c.args.self.position in
    let p = err_from_is_err_and c.from_residual.result c.from_residual.ensures.1 in
    subst (λ (x : Result (Unit {0}) PartFault). Ran m (line_added at c.args.tally c.args.new) x n) (sym (p.1 ∙ ap Err p.2))
    (subst (λ (o : Option ℕ). Ran m (line_added at c.args.tally o) (Err c.in_err-burn_line.field-0.0) n) (sym c.in-Some.is)
    (line_stops m n at c.args.tally c.in-Some.stops c.in_err-burn_line.field-0.0
    (subst (λ (i : ℕ). Ran m (bytes_burnt (line_at at i) c.in-Some.stops 8) (Err c.in_err-burn_line.field-0.0) n) c.next_line.ensures
    c.in_err-burn_line.ensures)))

pub returns : goal.returns
returns g c =
    let m = g.P.Part.means c.args.part.now in
    let k = g.P.Part.means c.match-new.part in
    let n = g.P.Part.means c.burn.new.self in
    let at = page_at c.args.self.start c.args.self.position in
    let line = line_at at (next_line c.args.tally) in
    let first : Ran m (line_burnt line c.args.new) (Ok tt) k =
    elim c.match-new.branch [
      | in-Some+in_ok-burn_line w ↦
          subst (λ (o : Option ℕ). Ran m (line_burnt line o) (Ok tt) k) (sym w.in-Some.is)
          (subst (λ (x : Meaning). Ran m (line_burnt line (Some w.in-Some.stops)) (Ok tt) x) (sym (ap g.P.Part.means w.part-is))
          (subst (λ (i : ℕ). Ran m (bytes_burnt (line_at at i) w.in-Some.stops 8) (Ok tt) (g.P.Part.means w.burn_line.new.part)) w.next_line.ensures
          w.in_ok-burn_line.ensures))
      | in_default w ↦
          subst (λ (o : Option ℕ). Ran m (line_burnt line o) (Ok tt) k) (sym w.in_default.is)
          (subst (λ (x : Meaning). Ran m (line_burnt line None) (Ok tt) x) (sym (ap g.P.Part.means w.part-is)) (done m))
    ] in
    line_ends m k n at c.args.tally c.mark.result c.args.new c.burn.result c.mark.ensures first
    (c.burn.ensures.answer ∙ ap (λ (a : ℕ). answer (burn_no k a c.mark.result) a tt) c.tally.ensures)
    (subst (λ (a : ℕ). Burnt k a c.mark.result n) c.tally.ensures c.burn.ensures.burnt)
