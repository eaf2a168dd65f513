-- The laws of what the books show, from what each call does to a console that keeps its books.
use Rattle.std.proofs.Common.{◌≡◌, ℕ, ◌≤◌, true, false, Some, Ok, Option, Result, sym, refl, ap, ◌∙◌, subst, inl, arith}
use Rattle.std.specs.Prelude.{is_ok}
use Rattle.std.proofs.lemmas.Bool.{eqb-true, eq-eqb}
use Rattle.part.specs.Meaning.{Meaning, cell, Lawful}
use Rattle.book.specs.Pages.{page_at, shown}
use Rattle.book.specs.Reading.{counted, fetched_of}
use Rattle.book.specs.Pairs.{Pair}
use Rattle.book.specs.Finding.{width, positions_of}
use Rattle.fault.specs.declared.faults.ConsoleFault.{ConsoleFault}
use Rattle.console.specs.declared.answers.Answer.{Answer}
use Rattle.console.specs.declared.answers.Said.TheVariants.{Finds}
use Rattle.console.specs.declared.call.Call.{Call}
use Rattle.console.specs.declared.call.Call.TheVariants.{Set, Clear, Recall, Next}
use Rattle.console.specs.Desks.{Desk, opened}
use Rattle.console.specs.Calls.{Replies}
use Rattle.console.specs.Opening.{Opens}
use Rattle.console.specs.Looking.{RecallFetches, NextFetches}
use Rattle.console.specs.Showing.{books_show, said, OnlyLooks}
use Rattle.console.specs.Laws.{pages_bytes, how_far, OtherBook, is_blank, is_erased, is_spoilt, InOrder, ShowSame, StaysInOrder, OrderLaw, SetLaw, ClearLaw, holds_shown, RecallLaw, NextLaw}
use Rattle.console.proofs.Tables.{Table, after}
use Rattle.console.proofs.Keeping.{Rest, ready, erasing, spoilt, Keeps, Goes}
use Rattle.console.proofs.Looks.{after_look, recall_fetches, next_fetches}
use Rattle.console.proofs.Telling.{shows_held, finds_nearest, found_is}
use Rattle.console.proofs.Going.{goes, took, keeps_opened}

-- the two ways of saying how the other book is
to_rest : (m : Meaning) (b : Pair) → OtherBook m b → Rest m b
to_rest m b (is_blank e s t) = ready e s t
to_rest m b (is_erased left e s) = erasing left e s
to_rest m b (is_spoilt e s w) = spoilt e s w

from_rest : (m : Meaning) (b : Pair) → Rest m b → OtherBook m b
from_rest m b (ready e s t) = is_blank e s t
from_rest m b (erasing left e s) = is_erased left e s
from_rest m b (spoilt e s w) = is_spoilt e s w

-- what the books show, as they stand in the cells
in_cells : (d : Desk) (b : Pair) → d ≡ opened d.part b → (q : ℕ) → books_show d q ≡ shown d.part.cells (page_at b.current.start q)
in_cells d b i q = ap (λ (x : Desk). books_show x q) i

-- A console that keeps its books is in order, and the other way.
in_order : (o : Meaning) (a b : ℕ) (f : Table) (e : Desk) (c : Pair) → e ≡ opened e.part c → Keeps o a b f e.part c → Lawful e.part → InOrder e
in_order o a b f e c i k l = record {
  books = c;
  are_open = ap (λ (d : Desk). d.books) i;
  lawful = l;
  seated = k.seated;
  used = eq-eqb _ _ k.head;
  readable = k.readable;
  other = from_rest e.part c k.rest;
}

module _ (d : Desk) (o : InOrder d) where
  abbrev m : Meaning
  m = d.part

  abbrev b : Pair
  b = o.books

  abbrev one : ℕ
  one = b.current.block

  abbrev two : ℕ
  two = b.spare.block

  is_opened : d ≡ opened m b
  is_opened = ap (λ (x : Option Pair). let y : Desk = record { part = m; books = x } in y) o.are_open

  its_positions : b.positions ≡ positions_of (width m one)
  its_positions = let w = o.seated.current_width in omega (arith, w)

  its_keeps : Keeps m one two (books_show d) m b
  its_keeps = record {
    seated = o.seated;
    blocks = inl (refl, refl);
    sizes = refl;
    guards = refl;
    wears = refl;
    positions = its_positions;
    head = eqb-true _ _ o.used;
    readable = o.readable;
    shows = λ q _ _. sym (in_cells d b is_opened q);
    rest = to_rest m b o.other;
  }

  -- a call, and what the books show after it
  call_goes : (c : Call) (r : Result Answer ConsoleFault) (e : Desk) → Replies d c r e → Goes m one two (books_show d) m b c r e
  call_goes c r e x = goes m one two (books_show d) m b c r e o.lawful its_keeps (subst (λ (y : Desk). Replies y c r e) is_opened x)

  shows_after : (c : Call) (r : Result Answer ConsoleFault) (e : Desk) → Replies d c r e → (q : ℕ) → 1 ≤ q → q ≤ b.positions
      → books_show e q ≡ after c (is_ok r) (books_show d) q
  shows_after c r e x q l h =
      let g = call_goes c r e x in
      in_cells e g.books g.leaves q ∙ g.keeps.shows q l (subst (λ (n : ℕ). q ≤ n) (its_positions ∙ sym g.keeps.positions) h)

  stays : (c : Call) (r : Result Answer ConsoleFault) (e : Desk) → Replies d c r e → Lawful e.part → StaysInOrder b.positions e
  unfolding in_order call_goes
  stays c r e x l =
      let g = call_goes c r e x in
      record {
        order = in_order m one two (after c (is_ok r) (books_show d)) e g.books g.leaves g.keeps l;
        positions = g.keeps.positions ∙ sym its_positions;
      }

  looks_same : (c : Call) → OnlyLooks c → (r : Result Answer ConsoleFault) (e : Desk) → Replies d c r e → ShowSame b.positions d e
  looks_same c only r e x q l h = shows_after c r e x q l h ∙ after_look c only (is_ok r) (books_show d) q

  -- what an accepted and a refused store leave
  by_yes : (c : Call) (r : Result Answer ConsoleFault) (q : ℕ) → is_ok r ≡ true → after c (is_ok r) (books_show d) q ≡ after c true (books_show d) q
  by_yes c r q t = ap (λ (y : _). after c y (books_show d) q) t

  by_no : (c : Call) (r : Result Answer ConsoleFault) (q : ℕ) → is_ok r ≡ false → after c (is_ok r) (books_show d) q ≡ books_show d q
  by_no c r q t = ap (λ (y : _). after c y (books_show d) q) t

  -- what a recall and a next fetch
  recall_bytes : (p before now : ℕ) → RecallFetches d p before now → 1 ≤ p → p ≤ b.positions
      → now ≡ counted before (fetched_of (cell m (page_at b.current.start p)))
  recall_bytes p before now x l h =
      recall_fetches m one two (books_show d) m b o.lawful its_keeps p before now l h (subst (λ (y : Desk). RecallFetches y p before now) is_opened x)

  next_bytes : (p before now : ℕ) (r : Result Answer ConsoleFault) (e : Desk) (position : Option ℕ) → Replies d (Next p) r e
      → said r ≡ Some (Finds position) → NextFetches d p before now → p ≤ b.positions
      → now ≡ counted before (pages_bytes m.cells b.current.start p (how_far position p b.positions))
  next_bytes p before now r e position x i y h =
      let same = found_is b.positions (books_show d) p h r ((call_goes (Next p) r e x).looks tt) position i in
      next_fetches m one two (books_show d) m b o.lawful its_keeps p before now h (subst (λ (z : Desk). NextFetches z p before now) is_opened y)
      ∙ ap (λ (q : Option ℕ). counted before (pages_bytes m.cells b.current.start p (how_far q p b.positions))) same

pub order_law : OrderLaw
unfolding Opens
order_law = record {
  opened = λ m a b y e l x k.
      let t = took m a b (Ok y) e l refl x in
      in_order m a b (books_show e) e t.books t.leaves
      (keeps_opened m a b t.books e.part (books_show e) t.opens (λ q _ _. sym (in_cells e t.books t.leaves q))) k;
  called = λ d o c r e x l. stays d o c r e x l;
}

pub set_law : SetLaw
set_law = record {
  accepted = λ d o p stops r e x t q l h. shows_after d o (Set p stops) r e x q l h ∙ by_yes d o (Set p stops) r q t;
  refused = λ d o p stops r e x t q l h. shows_after d o (Set p stops) r e x q l h ∙ by_no d o (Set p stops) r q t;
}

pub clear_law : ClearLaw
clear_law = record {
  accepted = λ d o p r e x t q l h. shows_after d o (Clear p) r e x q l h ∙ by_yes d o (Clear p) r q t;
  refused = λ d o p r e x t q l h. shows_after d o (Clear p) r e x q l h ∙ by_no d o (Clear p) r q t;
}

pub recall_law : RecallLaw
recall_law = record {
  shows = λ d o p r e x l h.
      shows_held (holds_shown d) o.books.positions (books_show d) p l h refl r ((call_goes d o (Recall p) r e x).looks tt);
  same = λ d o p r e x. looks_same d o (Recall p) tt r e x;
  prompt = λ d o p r e x. (call_goes d o (Recall p) r e x).prompt tt;
  fetches = λ d o p before now x l h. recall_bytes d o p before now x l h;
}

pub next_law : NextLaw
next_law = record {
  finds = λ d o p r e x h.
      finds_nearest (holds_shown d) o.books.positions (books_show d) p h (λ _ _ _. refl) r ((call_goes d o (Next p) r e x).looks tt);
  same = λ d o p r e x. looks_same d o (Next p) tt r e x;
  prompt = λ d o p r e x. (call_goes d o (Next p) r e x).prompt tt;
  fetches = λ d o p before now r e position x i y h. next_bytes d o p before now r e position x i y h;
}
