-- recall and next. Both hold a running erasure, look, and let it go on.
use Rattle.std.specs.Prelude.{◌≡◌, ℕ, zero, suc, ◌+◌, ◌-◌, Bool, true, false, if◌then◌else◌, Some, None, Ok, Err, Option, Result, MatchResult}
use Rattle.fault.specs.declared.faults.PartFault.{PartFault}
use Rattle.part.specs.Meaning.{Meaning}
use Rattle.part.specs.Calls.{Held, gone_on}
use Rattle.book.specs.declared.page.Page.{Page}
use Rattle.book.specs.Pages.{page_at}
use Rattle.book.specs.Reading.{reading, counted, page_bytes}
use Rattle.book.specs.Burning.{stops_of}
use Rattle.book.specs.Pairs.{Pair}
use Rattle.fault.specs.declared.faults.ConsoleFault.{ConsoleFault}
use Rattle.console.specs.declared.answers.Said.{Said}
use Rattle.console.specs.declared.answers.Said.TheVariants.{Shows, Finds}
use Rattle.console.specs.declared.answers.Answer.{Answer}
use Rattle.console.specs.Desks.{Desk, moved}
use Rattle.console.specs.Faults.{no_place, reported, Refuses}
use Rattle.console.specs.Checks.{recall_books, next_books}

-- A look in a call that is given position p: a running erasure is held, and goes on afterwards. What is seen is told by what the
-- part means while the erasure is held, and the microseconds by the clock.
pub record Looks (d : Desk) (p : ℕ) (sees : Meaning → Result Said PartFault) (r : Result Answer ConsoleFault) (e : Desk) : Type 0 where
  pub held : Meaning
  pub holds : Held d.part held
  pub leaves : e ≡ record d { part = gone_on held }
  pub says : r ≡ reported p (λ said. record { said = said; us = moved d.part e.part }) (sees held)

-- a look at position p of the current book
abbrev pub shows : Result Page PartFault → Result Said PartFault
shows (Ok page) = Ok (Shows page.stops)
shows (Err f) = Err f

abbrev pub shown : Pair → ℕ → Meaning → Result Said PartFault
shown b p held = shows (reading held (page_at b.current.start p))

-- one position more: the first that is filled stays
abbrev pub filled_at : ℕ → Result (Option ℕ) PartFault → Result (Option ℕ) PartFault
filled_at q (Ok None) = Ok None
filled_at q (Ok (Some stops)) = Ok (Some q)
filled_at q (Err f) = Err f

abbrev pub or_else : Result (Option ℕ) PartFault → Result (Option ℕ) PartFault → Result (Option ℕ) PartFault
or_else (Ok None) next = next
or_else (Ok (Some q)) next = Ok (Some q)
or_else (Err f) next = Err f

-- the first filled position among the k that follow p, or none
unfoldable pub searched : Meaning → ℕ → ℕ → ℕ → Result (Option ℕ) PartFault
searched m start p zero = Ok None
searched m start p (suc k) =
    or_else (searched m start p k) (filled_at (p + suc k) (stops_of (reading m (page_at start (p + suc k)))))

-- a look at the positions that follow p, up to the first that is filled
abbrev pub finds : Result (Option ℕ) PartFault → Result Said PartFault
finds (Ok position) = Ok (Finds position)
finds (Err f) = Err f

abbrev pub found : Pair → ℕ → Meaning → Result Said PartFault
found b p held = finds (searched held b.current.start p (b.positions - p))

-- recall shows what a position holds.
unfoldable pub Recalls : Desk → ℕ → Result Answer ConsoleFault → Desk → Type 0
Recalls d p r e = MatchResult (recall_books d.books p) (λ b. Looks d p (shown b p) r e) (λ cause. Refuses d (no_place cause p) r e)

-- next gives the first filled position after p.
unfoldable pub Nexts : Desk → ℕ → Result Answer ConsoleFault → Desk → Type 0
Nexts d p r e = MatchResult (next_books d.books p) (λ b. Looks d p (found b p) r e) (λ cause. Refuses d (no_place cause p) r e)

-- The bytes that a look fetches, told by what the part means while the erasure is held. `before` and `after` are what the caller's
-- counter says.
pub record Fetches (d : Desk) (bytes : Meaning → ℕ) (before after : ℕ) : Type 0 where
  pub held : Meaning
  pub holds : Held d.part held
  pub counts : after ≡ counted before (bytes held)

-- at position p of the current book
abbrev pub shown_bytes : Pair → ℕ → Meaning → ℕ
shown_bytes b p held = page_bytes held (page_at b.current.start p)

-- whether a search has found nothing yet
abbrev pub goes_on : Result (Option ℕ) PartFault → Bool
goes_on (Ok None) = true
goes_on (Ok (Some q)) = false
goes_on (Err f) = false

-- among the k positions that follow p: page after page, as long as nothing is found
unfoldable pub searched_bytes : Meaning → ℕ → ℕ → ℕ → ℕ
searched_bytes m start p zero = 0
searched_bytes m start p (suc k) =
    searched_bytes m start p k + (if goes_on (searched m start p k) then page_bytes m (page_at start (p + suc k)) else 0)

abbrev pub found_bytes : Pair → ℕ → Meaning → ℕ
found_bytes b p held = searched_bytes held b.current.start p (b.positions - p)

-- A call that is refused before anything is touched fetches nothing.
unfoldable pub RecallFetches : Desk → ℕ → ℕ → ℕ → Type 0
RecallFetches d p before after = MatchResult (recall_books d.books p) (λ b. Fetches d (shown_bytes b p) before after) (λ cause. after ≡ before)

unfoldable pub NextFetches : Desk → ℕ → ℕ → ℕ → Type 0
NextFetches d p before after = MatchResult (next_books d.books p) (λ b. Fetches d (found_bytes b p) before after) (λ cause. after ≡ before)
