use Rattle.std.proofs.Common.{◌≡◌, ◌+◌, ◌≤◌, false, Err, Result, sym, ap, ◌∙◌, subst}
use Rattle.std.proofs.lemmas.Result.{err_from_is_err_and}
use Rattle.fault.specs.declared.faults.PartFault.{PartFault}
use Rattle.part.specs.Meaning.{Meaning, size}
use Rattle.part.specs.Calls.{stands}
use Rattle.book.specs.Pairs.{Pair, book_size}
use Rattle.book.specs.Finding.{books_no, pair, Opened, Settled}
use Rattle.book.specs.Views.{pair_of, pair_in}
use Rattle.book.proofs.Peeking.{unless_ok}
use Rattle.book.proofs.Seating.{both_inside, open_refused, open_found}
use Rattle.book.proofs.books.Books.open.Goals as goal

pub returns-in_err-books : goal.returns-in_err-books
returns-in_err-books g c =
    let m = g.P.Part.means c.args.part.now in
    let f = c.in_err-books.field-0.0 in
    let p = err_from_is_err_and c.from_residual.result c.from_residual.ensures.1 in
    subst (λ (x : Result Pair PartFault). Opened m c.args.a c.args.b x m) (sym (ap pair_in (p.1 ∙ ap Err p.2)))
    (open_refused m c.args.a c.args.b f c.in_err-books.ensures)

pub survey-finding-requires : goal.survey-finding-requires
survey-finding-requires g c =
    let m = g.P.Part.means c.args.part.now in
    let b = pair_of c.in_ok-books.books in
    let u = unless_ok (books_no m c.args.a c.args.b) (pair m c.args.a c.args.b) b (sym c.in_ok-books.ensures) in
    let i = both_inside m c.args.a c.args.b b (g.met.P.Part.lawful c.args.part.now) u.0 u.1 in
    record { still = i.0; one = i.1; two = i.2 }

pub settle-requires : goal.settle-requires
settle-requires g c =
    let m = g.P.Part.means c.args.part.now in
    let b = pair_of c.in_ok-books.books in
    let u = unless_ok (books_no m c.args.a c.args.b) (pair m c.args.a c.args.b) b (sym c.in_ok-books.ensures) in
    let i = both_inside m c.args.a c.args.b b (g.met.P.Part.lawful c.args.part.now) u.0 u.1 in
    let e = sym c.survey-finding.ensures.same in
    record {
      still = subst (λ (x : Meaning). stands x ≡ false) e i.0;
      one = subst (λ (x : Meaning). b.current.start + book_size b.positions ≤ size x) e i.1;
      two = subst (λ (x : Meaning). b.spare.start + book_size b.positions ≤ size x) e i.2;
    }

pub returns : goal.returns
returns g c =
    let m = g.P.Part.means c.args.part.now in
    let n = g.P.Part.means c.settle.new.part in
    open_found m n c.args.a c.args.b (pair_of c.in_ok-books.books) c.survey-finding.result (pair_in c.settle.result)
    c.in_ok-books.ensures c.survey-finding.ensures.answer
    (subst (λ (x : Meaning). Settled c.survey-finding.result x (pair_of c.in_ok-books.books) (pair_in c.settle.result) n)
    c.survey-finding.ensures.same c.settle.ensures)
