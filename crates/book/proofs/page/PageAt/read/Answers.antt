use Rattle.std.proofs.Common.{ℕ, Ok, Err, Option, sym, ap, ◌∙◌}
use Rattle.std.proofs.lemmas.Result.{err_from_is_err_and}
use Rattle.part.specs.Meaning.{Meaning}
use Rattle.book.specs.Pages.{page_at, line_at, used, spelled}
use Rattle.book.specs.Reading.{unless, peeks_no, counted, got}
use Rattle.book.proofs.Peeking.{page_refused, page_unused, page_cut, page_whole, seen_at}
use Rattle.book.proofs.Counting.{counted_none, counted_more, count_one, count_same, bytes_refused, bytes_unused, bytes_line}
use Rattle.book.proofs.page.PageAt.read.Goals as goal

pub returns-in_err-tally : goal.returns-in_err-tally
returns-in_err-tally g c =
    let m = g.P.Part.means c.args.part.now in
    let b = c.args.fetched.now.bytes in
    let p = err_from_is_err_and c.from_residual.result c.from_residual.ensures.1 in
    record {
      answer =
          p.1 ∙ ap Err p.2
          ∙ sym (page_refused m (page_at c.args.self.start c.args.self.position) _
          (seen_at m _ _ c.tally.ensures c.peek.ensures.answer c.in_err-tally.was));
      same = c.peek.ensures.same;
      counts =
          count_same _ _ c.peek.result _ c.in_err-tally.was c.peek.ensures.counts ∙ counted_none b c.args.fetched.now.within
          ∙ sym (ap (counted b) (bytes_refused m (page_at c.args.self.start c.args.self.position) _
          (seen_at m _ _ c.tally.ensures c.peek.ensures.answer c.in_err-tally.was)));
    }

pub returns-then-not-is_line : goal.returns-then-not-is_line
returns-then-not-is_line g c =
    let m = g.P.Part.means c.args.part.now in
    let b = c.args.fetched.now.bytes in
    record {
      answer =
          sym (page_unused m (page_at c.args.self.start c.args.self.position) c.in_ok-tally.tally
          (seen_at m _ _ c.tally.ensures c.peek.ensures.answer c.in_ok-tally.was)
          (sym c.is_line.ensures ∙ c.if-not-is_line.true));
      same = c.peek.ensures.same;
      counts =
          count_one b 0 b _ c.peek.result _ c.in_ok-tally.was c.peek.ensures.counts (counted_none b c.args.fetched.now.within)
          ∙ sym (ap (counted b) (bytes_unused m (page_at c.args.self.start c.args.self.position) c.in_ok-tally.tally
          (seen_at m _ _ c.tally.ensures c.peek.ensures.answer c.in_ok-tally.was) (sym c.is_line.ensures ∙ c.if-not-is_line.true)));
    }

pub returns-in_err-number : goal.returns-in_err-number
returns-in_err-number g c =
    let m = g.P.Part.means c.args.part.now in
    let b = c.args.fetched.now.bytes in
    let at = page_at c.args.self.start c.args.self.position in
    let t = c.in_ok-tally.tally in
    let p = err_from_is_err_and c.from_residual-in_err-number.result c.from_residual-in_err-number.ensures.1 in
    record {
      answer =
          p.1 ∙ ap Err p.2
          ∙ sym (page_cut m at t
          (seen_at m _ _ c.tally.ensures c.peek.ensures.answer c.in_ok-tally.was)
          (sym c.is_line.ensures ∙ c.if-not-is_line.false) c.in_err-number.field-0.0
          (ap (λ (x : Meaning). unless (peeks_no x (line_at at (used t)) 8) (spelled x.cells (line_at at (used t)) 8)) (sym c.peek.ensures.same)
          ∙ sym c.line.ensures.answer ∙ c.in_err-number.was));
      same = c.line.ensures.same ∙ c.peek.ensures.same;
      counts =
          c.line.ensures.counts
          ∙ ap (λ (x : Meaning). counted c.peek.new.self.bytes (got (peeks_no x (line_at at (used t)) 8) (line_at at (used t)) 8)) c.peek.ensures.same
          ∙ ap (λ (n : ℕ). counted n (got (peeks_no m (line_at at (used t)) 8) (line_at at (used t)) 8))
          (count_one b 0 b _ c.peek.result t c.in_ok-tally.was c.peek.ensures.counts (counted_none b c.args.fetched.now.within))
          ∙ counted_more b 1 _
          ∙ sym (ap (counted b) (bytes_line m at t (seen_at m _ _ c.tally.ensures c.peek.ensures.answer c.in_ok-tally.was)
          (sym c.is_line.ensures ∙ c.if-not-is_line.false)));
    }

pub returns : goal.returns
returns g c =
    let m = g.P.Part.means c.args.part.now in
    let b = c.args.fetched.now.bytes in
    let at = page_at c.args.self.start c.args.self.position in
    let t = c.in_ok-tally.tally in
    record {
      answer =
          ap (λ (o : Option ℕ). Ok (record { tally = t; stops = o })) c.held.ensures
          ∙ sym (page_whole m at t
          (seen_at m _ _ c.tally.ensures c.peek.ensures.answer c.in_ok-tally.was)
          (sym c.is_line.ensures ∙ c.if-not-is_line.false) c.in_ok-number.number
          (ap (λ (x : Meaning). unless (peeks_no x (line_at at (used t)) 8) (spelled x.cells (line_at at (used t)) 8)) (sym c.peek.ensures.same)
          ∙ sym c.line.ensures.answer ∙ c.in_ok-number.was));
      same = c.line.ensures.same ∙ c.peek.ensures.same;
      counts =
          c.line.ensures.counts
          ∙ ap (λ (x : Meaning). counted c.peek.new.self.bytes (got (peeks_no x (line_at at (used t)) 8) (line_at at (used t)) 8)) c.peek.ensures.same
          ∙ ap (λ (n : ℕ). counted n (got (peeks_no m (line_at at (used t)) 8) (line_at at (used t)) 8))
          (count_one b 0 b _ c.peek.result t c.in_ok-tally.was c.peek.ensures.counts (counted_none b c.args.fetched.now.within))
          ∙ counted_more b 1 _
          ∙ sym (ap (counted b) (bytes_line m at t (seen_at m _ _ c.tally.ensures c.peek.ensures.answer c.in_ok-tally.was)
          (sym c.is_line.ensures ∙ c.if-not-is_line.false)));
    }
