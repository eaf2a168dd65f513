-- What the books show at every position after each call, whatever was stored before, in the words of an organist. The calls'
-- contracts name these laws; they speak of the definitions that the same contracts use.
use Rattle.std.specs.Prelude.{◌≡◌, ℕ, zero, suc, ◌+◌, ◌-◌, ◌≤◌, true, false, if◌then◌else◌, List, Some, None, Ok, Option, Result, ◌==◌, is_ok, slice_index}
use Rattle.part.specs.Meaning.{Meaning, cell, worn, Lawful}
use Rattle.book.specs.Pages.{page_at, blank, readable_book}
use Rattle.book.specs.Reading.{counted, fetched_of}
use Rattle.book.specs.Pairs.{Pair, book_size}
use Rattle.book.specs.Finding.{in_use}
use Rattle.book.specs.Seats.{Seated}
use Rattle.fault.specs.declared.faults.ConsoleFault.{ConsoleFault}
use Rattle.console.specs.declared.answers.Answer.{Answer}
use Rattle.console.specs.declared.call.Call.{Call}
use Rattle.console.specs.declared.call.Call.TheVariants.{Set, Clear, Recall, Next}
use Rattle.console.specs.Desks.{Desk, closed}
use Rattle.console.specs.Opening.{Opens}
use Rattle.console.specs.Calls.{Replies}
use Rattle.console.specs.declared.answers.Said.TheVariants.{Finds}
use Rattle.console.specs.Looking.{RecallFetches, NextFetches}
use Rattle.console.specs.Showing.{books_show, said, ShowsHeld, FindsNearest, Prompt}

-- The other book is blank, or it is being erased, or it is spoilt: its block is worn.
pub data OtherBook (m : Meaning) (b : Pair) : Type 0 where
  is_blank : m.erasure ≡ None → b.spoilt ≡ false → blank m.cells b.spare.start (book_size b.positions) ≡ true → OtherBook m b
  is_erased : (left : ℕ) → m.erasure ≡ Some (record { block = b.spare.block; left = left; running = true }) → b.spoilt ≡ false → OtherBook m b
  is_spoilt : m.erasure ≡ None → b.spoilt ≡ true → worn m b.spare.block ≡ true → OtherBook m b

-- A console with open books of which the current one is in use and can be read. Every accepted open gives one, and every call
-- leaves one (`OrderLaw`).
pub record InOrder (d : Desk) : Type 0 where
  pub books : Pair
  pub are_open : d.books ≡ Some books
  pub lawful : Lawful d.part
  pub seated : Seated d.part books
  pub used : in_use d.part.cells books.current.start ≡ true
  pub readable : readable_book d.part.cells books.current.start books.positions ≡ true
  pub other : OtherBook d.part books

-- at each of the n positions two consoles, or one before a call and after it, show the same
abbrev pub ShowSame : ℕ → Desk → Desk → Type 0
ShowSame n d e = (q : ℕ) → 1 ≤ q → q ≤ n → books_show e q ≡ books_show d q

-- at position p they show the new stops, or that it is empty, and at the others what they showed
abbrev pub ShowNew : ℕ → Desk → Desk → ℕ → Option ℕ → Type 0
ShowNew n d e p new = (q : ℕ) → 1 ≤ q → q ≤ n → books_show e q ≡ (if q == p then new else books_show d q)

-- The console is in order after a call too, with as many positions.
pub record StaysInOrder (n : ℕ) (e : Desk) : Type 0 where
  pub order : InOrder e
  pub positions : order.books.positions ≡ n

-- What the laws of the calls need of a console holds of each one that was opened, and of each one after a call.
pub record OrderLaw : Type 0 where
  pub opened : (m : Meaning) (a b : ℕ) (x : Answer) (e : Desk) → Lawful m → Opens (closed m) a b (Ok x) e → Lawful e.part → InOrder e
  pub called : (d : Desk) (o : InOrder d) (c : Call) (r : Result Answer ConsoleFault) (e : Desk) → Replies d c r e → Lawful e.part
      → StaysInOrder o.books.positions e

-- set: an accepted one is shown at its position; a refused one changes nothing that is shown.
pub record SetLaw : Type 0 where
  pub accepted : (d : Desk) (o : InOrder d) (p stops : ℕ) (r : Result Answer ConsoleFault) (e : Desk) → Replies d (Set p stops) r e
      → is_ok r ≡ true → ShowNew o.books.positions d e p (Some stops)
  pub refused : (d : Desk) (o : InOrder d) (p stops : ℕ) (r : Result Answer ConsoleFault) (e : Desk) → Replies d (Set p stops) r e
      → is_ok r ≡ false → ShowSame o.books.positions d e

-- clear: after an accepted one its position is empty.
pub record ClearLaw : Type 0 where
  pub accepted : (d : Desk) (o : InOrder d) (p : ℕ) (r : Result Answer ConsoleFault) (e : Desk) → Replies d (Clear p) r e
      → is_ok r ≡ true → ShowNew o.books.positions d e p None
  pub refused : (d : Desk) (o : InOrder d) (p : ℕ) (r : Result Answer ConsoleFault) (e : Desk) → Replies d (Clear p) r e
      → is_ok r ≡ false → ShowSame o.books.positions d e

-- what position p holds is what the books show there
abbrev pub holds_shown : Desk → ℕ → Option ℕ → Type 0
holds_shown d p v = v ≡ books_show d p

-- how many bytes are fetched from the k pages that follow position p, each by its tally
unfoldable pub pages_bytes : List ℕ → ℕ → ℕ → ℕ → ℕ
pages_bytes cells start p zero = 0
pages_bytes cells start p (suc k) = pages_bytes cells start p k + fetched_of (slice_index cells (page_at start (p + suc k)))

-- how many pages behind p are read: up to the one that is found, or all n
abbrev pub how_far : Option ℕ → ℕ → ℕ → ℕ
how_far None p n = n - p
how_far (Some q) p n = q - p

-- recall: at a position it is accepted and shows what the books show there. It changes nothing that is shown, and is prompt.
pub record RecallLaw : Type 0 where
  pub shows : (d : Desk) (o : InOrder d) (p : ℕ) (r : Result Answer ConsoleFault) (e : Desk) → Replies d (Recall p) r e
      → 1 ≤ p → p ≤ o.books.positions → ShowsHeld (holds_shown d) p r
  pub same : (d : Desk) (o : InOrder d) (p : ℕ) (r : Result Answer ConsoleFault) (e : Desk) → Replies d (Recall p) r e
      → ShowSame o.books.positions d e
  pub prompt : (d : Desk) (o : InOrder d) (p : ℕ) (r : Result Answer ConsoleFault) (e : Desk) → Replies d (Recall p) r e
      → Prompt d.part.clock e.part.clock r
  -- It fetches the tally, and eight bytes more where a line is used.
  pub fetches : (d : Desk) (o : InOrder d) (p before after : ℕ) → RecallFetches d p before after → 1 ≤ p → p ≤ o.books.positions
      → after ≡ counted before (fetched_of (cell d.part (page_at o.books.current.start p)))

-- next: from 0 to the last position it is accepted and gives the nearest later position at which the books show stops.
pub record NextLaw : Type 0 where
  pub finds : (d : Desk) (o : InOrder d) (p : ℕ) (r : Result Answer ConsoleFault) (e : Desk) → Replies d (Next p) r e
      → p ≤ o.books.positions → FindsNearest (holds_shown d) o.books.positions p r
  pub same : (d : Desk) (o : InOrder d) (p : ℕ) (r : Result Answer ConsoleFault) (e : Desk) → Replies d (Next p) r e
      → ShowSame o.books.positions d e
  pub prompt : (d : Desk) (o : InOrder d) (p : ℕ) (r : Result Answer ConsoleFault) (e : Desk) → Replies d (Next p) r e
      → Prompt d.part.clock e.part.clock r
  -- It fetches as much of each page behind the position, up to the one that it gives.
  pub fetches : (d : Desk) (o : InOrder d) (p before after : ℕ) (r : Result Answer ConsoleFault) (e : Desk) (position : Option ℕ)
      → Replies d (Next p) r e → said r ≡ Some (Finds position) → NextFetches d p before after → p ≤ o.books.positions
      → after ≡ counted before (pages_bytes d.part.cells o.books.current.start p (how_far position p o.books.positions))
