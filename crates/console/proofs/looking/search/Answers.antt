use Rattle.std.proofs.Common.{◌≡◌, ℕ, ◌+◌, ◌-◌, true, false, is_some, Some, None, Ok, Err, Option, sym, refl, ap, ◌∙◌, subst, arith}
use Rattle.std.proofs.lemmas.Result.{err_from_is_err_and}
use Rattle.std.proofs.lemmas.Bool.{true≢false}
use Rattle.part.specs.Meaning.{Meaning}
use Rattle.book.specs.Reading.{counted}
use Rattle.book.proofs.Counting.{counted_none}
use Rattle.console.specs.Looking.{searched, filled_at, searched_bytes}
use Rattle.console.proofs.Seeking.{searched_none, searched_past, searched_stops, searched_finds, bytes_none, bytes_on, bytes_end}
use Rattle.console.proofs.looking.search.Goals as goal

none_is : (o : Option ℕ) → is_some o ≡ false → o ≡ None
none_is None e = refl
none_is (Some x) e = absurd (true≢false e)

some_is : (o : Option ℕ) → is_some o ≡ true → (x : ℕ) × (o ≡ Some x)
some_is None e = absurd (true≢false (sym e))
some_is (Some x) e = (x, refl)

pub loop-q-init : goal.loop-q-init
loop-q-init g c =
    let m = g.P.Part.means c.args.part.now in
    let s = c.args.after.books.current.start in
    let z : 0 ≡ c.args.after.position - c.args.after.position = omega arith in (
      refl,
      subst (λ (k : ℕ). searched m s c.args.after.position k ≡ Ok None) z (searched_none m s c.args.after.position),
      omega arith,
      counted_none c.args.fetched.now.bytes c.args.fetched.now.within
          ∙ ap (counted c.args.fetched.now.bytes) (sym (bytes_none m s c.args.after.position) ∙ ap (searched_bytes m s c.args.after.position) z),
    )

pub loop-q-preserved : goal.loop-q-preserved
loop-q-preserved g c =
    let k = g.P.Part.means c.loop-q.part in
    let s = c.args.after.books.current.start in
    let q = c.loop-q.q in (
      c.read.ensures.same ∙ c.loop-q.invariant.0,
      subst (λ (x : Meaning). searched x s c.args.after.position (q + 1 - c.args.after.position) ≡ Ok None) (sym c.read.ensures.same)
          (searched_past k s c.args.after.position q c.in_ok-read.field-0 (omega arith) c.loop-q.invariant.1
          (sym c.read.ensures.answer ∙ c.in_ok-read.was) (none_is _ (sym c.is_some.ensures ∙ c.if-is_some.false))),
      omega arith,
      bytes_on k s c.args.after.position q c.args.fetched.now.bytes c.loop-q.fetched.bytes c.read.new.fetched.bytes (omega arith) c.loop-q.invariant.1
          c.loop-q.invariant.3 c.read.ensures.counts
          ∙ ap (λ (x : Meaning). counted c.args.fetched.now.bytes (searched_bytes x s c.args.after.position (q + 1 - c.args.after.position))) (sym c.read.ensures.same),
    )

pub returns-in_err-read : goal.returns-in_err-read
returns-in_err-read g c =
    let k = g.P.Part.means c.loop-q.part in
    let s = c.args.after.books.current.start in
    let p = err_from_is_err_and c.from_residual.result c.from_residual.ensures.1 in
    let found = searched_stops k s c.args.after.position c.loop-q.q c.args.after.books.positions c.in_err-read.field-0.0 (omega arith) (omega arith)
    c.loop-q.invariant.1 (sym c.read.ensures.answer ∙ c.in_err-read.was) in
    record {
      answer =
          p.1 ∙ ap Err p.2 ∙ sym found
          ∙ ap (λ (x : Meaning). searched x s c.args.after.position (c.args.after.books.positions - c.args.after.position)) c.loop-q.invariant.0;
      same = c.read.ensures.same ∙ c.loop-q.invariant.0;
      counts =
          bytes_end k s c.args.after.position c.loop-q.q c.args.after.books.positions c.args.fetched.now.bytes c.loop-q.fetched.bytes c.read.new.fetched.bytes
          (Err c.in_err-read.field-0.0) (Err c.in_err-read.field-0.0) (omega arith) (omega arith) c.loop-q.invariant.1
          (sym c.read.ensures.answer ∙ c.in_err-read.was) refl (λ _. refl) refl c.loop-q.invariant.3 c.read.ensures.counts
          ∙ ap (λ (x : Meaning). counted c.args.fetched.now.bytes (searched_bytes x s c.args.after.position (c.args.after.books.positions - c.args.after.position)))
          c.loop-q.invariant.0;
    }

pub returns-then-is_some : goal.returns-then-is_some
returns-then-is_some g c =
    let k = g.P.Part.means c.loop-q.part in
    let s = c.args.after.books.current.start in
    let n = c.args.after.books.positions - c.args.after.position in
    let some = some_is c.in_ok-read.field-0.stops (sym c.is_some.ensures ∙ c.if-is_some.true) in
    let found = searched_finds k s c.args.after.position c.loop-q.q c.args.after.books.positions c.in_ok-read.field-0 some.0 (omega arith) (omega arith)
    c.loop-q.invariant.1 (sym c.read.ensures.answer ∙ c.in_ok-read.was) some.1 in
    let says : Ok (Some (c.from.result + 1)) ≡ searched k s c.args.after.position n = ap (λ (q : ℕ). Ok (Some (q + 1))) c.from.ensures ∙ sym found in
    record {
      answer = says ∙ ap (λ (x : Meaning). searched x s c.args.after.position n) c.loop-q.invariant.0;
      same = c.read.ensures.same ∙ c.loop-q.invariant.0;
      counts =
          bytes_end k s c.args.after.position c.loop-q.q c.args.after.books.positions c.args.fetched.now.bytes c.loop-q.fetched.bytes c.read.new.fetched.bytes
          (Ok c.in_ok-read.field-0) (Ok (Some (c.loop-q.q + 1))) (omega arith) (omega arith) c.loop-q.invariant.1
          (sym c.read.ensures.answer ∙ c.in_ok-read.was) (ap (λ (o : Option ℕ). filled_at (c.loop-q.q + 1) (Ok o)) some.1) (λ _. refl) refl
          c.loop-q.invariant.3 c.read.ensures.counts
          ∙ ap (λ (x : Meaning). counted c.args.fetched.now.bytes (searched_bytes x s c.args.after.position n)) c.loop-q.invariant.0;
    }

pub returns : goal.returns
returns g c =
    let k = g.P.Part.means c.loop-q.part in
    let s = c.args.after.books.current.start in
    let n : c.loop-q.q - c.args.after.position ≡ c.args.after.books.positions - c.args.after.position = omega (arith, c.loop-q.invariant.2) in
    record {
      answer =
          sym (subst (λ (i : ℕ). searched k s c.args.after.position i ≡ Ok None) n c.loop-q.invariant.1)
          ∙ ap (λ (x : Meaning). searched x s c.args.after.position (c.args.after.books.positions - c.args.after.position)) c.loop-q.invariant.0;
      same = c.loop-q.invariant.0;
      counts =
          c.loop-q.invariant.3 ∙ ap (λ (i : ℕ). counted c.args.fetched.now.bytes (searched_bytes k s c.args.after.position i)) n
          ∙ ap (λ (x : Meaning). counted c.args.fetched.now.bytes (searched_bytes x s c.args.after.position (c.args.after.books.positions - c.args.after.position)))
          c.loop-q.invariant.0;
    }
