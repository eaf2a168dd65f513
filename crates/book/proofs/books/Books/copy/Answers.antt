use Rattle.std.proofs.Common.{◌≡◌, ℕ, ◌+◌, ◌-◌, List, Ok, Err, Result, sym, ap, ◌∙◌, subst, arith}
use Rattle.std.proofs.lemmas.Result.{err_from_is_err_and}
use Rattle.fault.specs.declared.faults.PartFault.{PartFault}
use Rattle.book.specs.Burning.{Step, Ran, done, pages_copied, book_copied, will_hold}
use Rattle.book.proofs.Copying.{pages_none, pages_on, book_stops, book_ends}
use Rattle.book.proofs.books.Books.copy.Goals as goal

pub loop-q-init : goal.loop-q-init
loop-q-init g c =
    let m = g.P.Part.means c.args.part.now in
    let s = c.args.self in
    subst (λ (x : List Step). Ran m x (Ok tt) m) (sym (pages_none (will_hold m s.current.start c.args.position c.args.new) s.spare.start)) (done m)

pub loop-q-preserved : goal.loop-q-preserved
loop-q-preserved g c =
    let m = g.P.Part.means c.args.part.now in
    let k = g.P.Part.means c.loop-q.part in
    let n = g.P.Part.means c.copy_position.new.part in
    let s = c.args.self in
    let q = c.loop-q.q in
    let e : q ≡ q + 1 - 1 = omega arith in
    subst (λ (j : ℕ). Ran m (pages_copied (will_hold m s.current.start c.args.position c.args.new) s.spare.start j) (Ok tt) n) e
    (pages_on m s.current.start s.spare.start s.positions c.args.position c.args.new s.distinct k n q (Ok tt) (omega arith) (omega arith)
    c.loop-q.invariant c.in_ok-copy_position.ensures)

pub returns-in_err-copy_position-clause-steps : goal.returns-in_err-copy_position-clause-steps
returns-in_err-copy_position-clause-steps g c =
    let m = g.P.Part.means c.args.part.now in
    let k = g.P.Part.means c.loop-q.part in
    let n = g.P.Part.means c.copy_position.new.part in
    let s = c.args.self in
    let q = c.loop-q.q in
    let f = c.in_err-copy_position.field-0.0 in
    let p = err_from_is_err_and c.from_residual.result c.from_residual.ensures.1 in
    subst (λ (x : Result (Unit {0}) PartFault). Ran m (book_copied (will_hold m s.current.start c.args.position c.args.new) s.spare.start s.positions) x n)
    (sym (p.1 ∙ ap Err p.2))
    (book_stops m s.current.start s.spare.start s.positions c.args.position c.args.new s.distinct n q f (omega arith)
    (pages_on m s.current.start s.spare.start s.positions c.args.position c.args.new s.distinct k n q (Err f) (omega arith) (omega arith)
    c.loop-q.invariant c.in_err-copy_position.ensures))

pub returns-clause-steps : goal.returns-clause-steps
returns-clause-steps g c =
    let m = g.P.Part.means c.args.part.now in
    let k = g.P.Part.means c.loop-q.part in
    let n = g.P.Part.means c.burn.new.self in
    let s = c.args.self in
    book_ends m s.current.start s.spare.start s.positions c.args.position c.args.new s.distinct k n c.loop-q.q c.burn.result
    (omega arith) c.loop-q.invariant c.burn.ensures.answer c.burn.ensures.burnt
