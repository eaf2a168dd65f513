use Rattle.std.proofs.Common.{◌≡◌, ℕ, ◌+◌, ◌*◌, Ok, Err, Option, sym, refl, ap, ◌∙◌, arith, lit<}
use Rattle.std.proofs.lemmas.Result.{err_from_is_err_and}
use Rattle.fault.specs.declared.faults.PartFault.{PartFault}
use Rattle.part.specs.Meaning.{Meaning, cell}
use Rattle.part.specs.Calls.{answer, peek_no}
use Rattle.book.specs.Pages.{spelled}
use Rattle.book.specs.Reading.{unless, peeks_no, counted, got}
use Rattle.book.proofs.Peeking.{spelled_none, peeks_none, peeks_on, peeks_off, room}
use Rattle.book.proofs.Counting.{counted_none, count_one, count_same, got_some, got_all}
use Rattle.book.proofs.page.PageAt.line.Goals as goal

pub loop-i-init : goal.loop-i-init
loop-i-init g c = (refl, peeks_none _ _, sym (spelled_none _ _), lit< tt, counted_none _ c.args.fetched.now.within)

pub returns-in_err-byte : goal.returns-in_err-byte
returns-in_err-byte g c =
    let m = g.P.Part.means c.args.part.now in
    let at = c.line_start-at.result in
    let i = c.loop-i.i in
    let e = c.loop-i.invariant.0 in
    let b = c.args.fetched.now.bytes in
    let p = err_from_is_err_and c.from_residual.result c.from_residual.ensures.1 in
    let f = c.in_err-byte.field-0.0 in
    let a : answer (peek_no m (at + i)) (at + i) (cell m (at + i)) ≡ Err f =
    ap (λ (x : Meaning). answer (peek_no x (at + i)) (at + i) (cell x (at + i))) (sym e) ∙ sym c.peek.ensures.answer ∙ c.in_err-byte.was in
    record {
      answer =
          p.1 ∙ ap Err p.2
          ∙ sym (ap (λ (o : Option PartFault). unless o (spelled m.cells at 8)) (peeks_off m at i f (omega arith) c.loop-i.invariant.1 a))
          ∙ ap (λ (x : ℕ). unless (peeks_no m x 8) (spelled m.cells x 8)) c.line_start-at.ensures;
      same = c.peek.ensures.same ∙ e;
      counts =
          count_same _ _ c.peek.result f c.in_err-byte.was c.peek.ensures.counts ∙ c.loop-i.invariant.4
          ∙ sym (ap (counted b) (got_some m at i f (omega arith) c.loop-i.invariant.1 a))
          ∙ ap (λ (x : ℕ). counted b (got (peeks_no m x 8) x 8)) c.line_start-at.ensures;
    }

pub overflow_mul-stops : goal.overflow_mul-stops
overflow_mul-stops g c = omega (arith, (room c.loop-i.i c.loop-i.stops c.in_ok-byte.byte (omega arith) c.loop-i.invariant.3 (omega arith)).1)

pub overflow_add-stops : goal.overflow_add-stops
overflow_add-stops g c = omega (arith, (room c.loop-i.i c.loop-i.stops c.in_ok-byte.byte (omega arith) c.loop-i.invariant.3 (omega arith)).1)

pub loop-i-preserved : goal.loop-i-preserved
loop-i-preserved g c =
    let m = g.P.Part.means c.args.part.now in
    let at = c.line_start-at.result in
    let i = c.loop-i.i in
    let e = c.loop-i.invariant.0 in
    let a : answer (peek_no m (at + i)) (at + i) (cell m (at + i)) ≡ Ok c.in_ok-byte.byte =
    ap (λ (x : Meaning). answer (peek_no x (at + i)) (at + i) (cell x (at + i))) (sym e) ∙ sym c.peek.ensures.answer ∙ c.in_ok-byte.was in
    let on = peeks_on m at i c.in_ok-byte.byte c.loop-i.invariant.1 a in (
      c.peek.ensures.same ∙ e,
      on.0,
      ap (λ (b : ℕ). c.loop-i.stops * 256 + b) c.from.ensures ∙ ap (λ (s : ℕ). s * 256 + c.in_ok-byte.byte) c.loop-i.invariant.2 ∙ sym on.1,
      omega (arith, (room i c.loop-i.stops c.in_ok-byte.byte (omega arith) c.loop-i.invariant.3 (omega arith)).0, c.from.ensures),
      count_one c.args.fetched.now.bytes i _ _ c.peek.result c.in_ok-byte.byte c.in_ok-byte.was c.peek.ensures.counts c.loop-i.invariant.4,
    )

pub returns-clause-counts : goal.returns-clause-counts
returns-clause-counts g c =
    let m = g.P.Part.means c.args.part.now in
    let at = c.line_start-at.result in
    let b = c.args.fetched.now.bytes in
    let n : c.loop-i.i ≡ 8 = omega arith in
    c.loop-i.invariant.4 ∙ ap (counted b) n
    ∙ sym (ap (counted b) (got_all m at (ap (peeks_no m at) (sym n) ∙ c.loop-i.invariant.1)))
    ∙ ap (λ (x : ℕ). counted b (got (peeks_no m x 8) x 8)) c.line_start-at.ensures
