-- set and clear. Both store at a position: set some stops, and clear none.
use Rattle.std.specs.Prelude.{◌≡◌, ℕ, Bool, ◌&&◌, if◌then◌else◌, Ok, Err, Option, Result, MatchResult, is_none, nat_lt}
use Rattle.fault.specs.declared.cause.Cause.TheVariants.{SpareSpoilt}
use Rattle.fault.specs.declared.faults.PartFault.{PartFault}
use Rattle.part.specs.Meaning.{Meaning}
use Rattle.part.specs.Calls.{answer, begin_no, Begun}
use Rattle.book.specs.declared.page.Page.{Page}
use Rattle.book.specs.Pages.{page_at, used}
use Rattle.book.specs.Reading.{reading}
use Rattle.book.specs.Burning.{Ran, line_added, will_hold, book_copied}
use Rattle.book.specs.Pairs.{Pair, changed, spoilt_if}
use Rattle.fault.specs.declared.faults.ConsoleFault.{ConsoleFault}
use Rattle.console.specs.declared.answers.Said.TheVariants.{Done}
use Rattle.console.specs.declared.answers.Answer.{Answer}
use Rattle.console.specs.declared.storing.Way.{Way}
use Rattle.console.specs.declared.storing.Way.TheVariants.{Nothing, Line, Change, Spoilt}
use Rattle.console.specs.Desks.{Desk, opened, moved}
use Rattle.console.specs.Faults.{no_place, reported, Refuses}
use Rattle.console.specs.Checks.{store_books}
use Rattle.console.specs.Waiting.{let_end, ends_worn}

-- How a page takes new stops: an empty one that is cleared needs nothing; one with a free line takes that; for another the
-- books change, unless the other book is spoilt.
abbrev pub way : Page → Option ℕ → Bool → Way
way page new spoilt =
    if is_none page.stops && is_none new then Nothing else
    if nat_lt (used page.tally) 7 then Line else
    if spoilt then Spoilt else Change

-- after the copying: the other book is current, and the erasure of the old one begins
abbrev pub Turned : Result (Unit {0}) PartFault → Meaning → Pair → Result (Unit {0}) PartFault → Meaning → Pair → Type 0
Turned (Err f) k b r n c = (r ≡ Err f) × (n ≡ k) × (c ≡ b)
Turned (Ok u) k b r n c =
    (r ≡ answer (begin_no k b.current.block) b.current.block tt) × Begun k b.current.block n × (c ≡ changed b)

-- The books change: every position goes to the other book, p with its new stops, and then the other book is current.
pub record Changes (m : Meaning) (b : Pair) (p : ℕ) (new : Option ℕ) (r : Result (Unit {0}) PartFault) (n : Meaning) (c : Pair) : Type 0 where
  pub answer : Result (Unit {0}) PartFault
  pub middle : Meaning
  pub copies : Ran m (book_copied (will_hold m b.current.start p new) b.spare.start b.positions) answer middle
  pub turns : Turned answer middle b r n c

abbrev pub Goes : Way → Meaning → Pair → ℕ → Page → Option ℕ → Result (Unit {0}) PartFault → Meaning → Pair → Type 0
Goes Nothing m b p page new r n c = (r ≡ Ok tt) × (n ≡ m) × (c ≡ b)
Goes Line m b p page new r n c = Ran m (line_added (page_at b.current.start p) page.tally new) r n × (c ≡ b)
Goes Change m b p page new r n c = Changes m b p new r n c
Goes Spoilt m b p page new r n c = (r ≡ Err (record { cause = SpareSpoilt; place = 0 })) × (n ≡ m) × (c ≡ b)

-- The page was read, or the reading was refused.
abbrev pub Writes : Result Page PartFault → Meaning → Pair → ℕ → Option ℕ → Result (Unit {0}) PartFault → Meaning → Pair → Type 0
Writes (Err f) m b p new r n c = (r ≡ Err f) × (n ≡ m) × (c ≡ b)
Writes (Ok page) m b p new r n c = Goes (way page new b.spoilt) m b p page new r n c

-- A standing erasure is let end before the page is looked at.
unfoldable pub Stored : Meaning → Pair → ℕ → Option ℕ → Result (Unit {0}) PartFault → Meaning → Pair → Type 0
Stored m b p new r n c =
    Writes (reading (let_end m) (page_at b.current.start p)) (let_end m) (spoilt_if (ends_worn m) b) p new r n c

-- what stores at position p of open books did, and what it reports
pub record StoresOn (d : Desk) (b : Pair) (p : ℕ) (new : Option ℕ) (r : Result Answer ConsoleFault) (e : Desk) : Type 0 where
  pub answer : Result (Unit {0}) PartFault
  pub books : Pair
  pub stored : Stored d.part b p new answer e.part books
  pub leaves : e ≡ opened e.part books
  pub says : r ≡ reported p (λ _. record { said = Done; us = moved d.part e.part }) answer

-- set with some stops, clear with none
unfoldable pub Stores : Desk → ℕ → Option ℕ → Result Answer ConsoleFault → Desk → Type 0
Stores d p new r e =
    MatchResult (store_books d.books p new) (λ b. StoresOn d b p new r e) (λ cause. Refuses d (no_place cause p) r e)
