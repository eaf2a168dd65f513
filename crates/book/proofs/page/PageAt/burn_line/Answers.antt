use Rattle.std.proofs.Common.{ℕ, ◌+◌, List, Ok, Err, Result, sym, ap, ◌∙◌, subst, arith}
use Rattle.std.proofs.lemmas.Result.{err_from_is_err_and}
use Rattle.fault.specs.declared.faults.PartFault.{PartFault}
use Rattle.book.specs.Burning.{Step, Ran, done, bytes_burnt}
use Rattle.book.proofs.Steps.{bytes_none, bytes_by, bytes_off}
use Rattle.book.proofs.page.PageAt.burn_line.Goals as goal

pub loop-i-init : goal.loop-i-init
loop-i-init g c =
    let m = g.P.Part.means c.args.part.now in
    subst (λ (x : List Step). Ran m x (Ok tt) m) (sym (bytes_none c.line_start-at.result c.args.stops)) (done m)

pub returns-in_err-burn : goal.returns-in_err-burn
returns-in_err-burn g c =
    let m = g.P.Part.means c.args.part.now in
    let k = g.P.Part.means c.loop-i.part in
    let n = g.P.Part.means c.burn.new.self in
    let p = err_from_is_err_and c.from_residual.result c.from_residual.ensures.1 in
    subst (λ (a : ℕ). Ran m (bytes_burnt a c.args.stops 8) c.from_residual.result n) c.line_start-at.ensures
    (subst (λ (x : Result (Unit {0}) PartFault). Ran m (bytes_burnt c.line_start-at.result c.args.stops 8) x n) (sym (p.1 ∙ ap Err p.2))
    (bytes_off m k n c.line_start-at.result c.args.stops c.loop-i.i c.byte_of.result c.in_err-burn.field-0.0 (omega arith) c.byte_of.ensures
    c.loop-i.invariant c.burn.result c.in_err-burn.was c.burn.ensures.answer c.burn.ensures.burnt))

pub loop-i-preserved : goal.loop-i-preserved
loop-i-preserved g c =
    let m = g.P.Part.means c.args.part.now in
    let k = g.P.Part.means c.loop-i.part in
    let n = g.P.Part.means c.burn.new.self in
    subst (λ (x : Result (Unit {0}) PartFault). Ran m (bytes_burnt c.line_start-at.result c.args.stops (c.loop-i.i + 1)) x n) c.in_ok-burn.was
    (bytes_by m k n c.line_start-at.result c.args.stops c.loop-i.i c.byte_of.result c.burn.result c.byte_of.ensures c.loop-i.invariant
    c.burn.ensures.answer c.burn.ensures.burnt)
