-- What a console's books show at a position, and what an answer says of it, in the words of an organist.
use Rattle.std.specs.Prelude.{◌≡◌, ℕ, ◌<◌, ◌≤◌, Some, None, Ok, Err, Option, Result}
use Rattle.part.specs.Meaning.{Meaning}
use Rattle.part.specs.Calls.{longest_hold}
use Rattle.part.specs.Neighbours.{elapsed}
use Rattle.book.specs.Pages.{page_at, shown}
use Rattle.book.specs.Pairs.{Pair}
use Rattle.fault.specs.declared.faults.ConsoleFault.{ConsoleFault}
use Rattle.console.specs.declared.answers.Answer.{Answer}
use Rattle.console.specs.declared.answers.Said.{Said}
use Rattle.console.specs.declared.answers.Said.TheVariants.{Shows, Finds}
use Rattle.console.specs.declared.call.Call.{Call}
use Rattle.console.specs.declared.call.Call.TheVariants.{Set, Clear, Recall, Next, Wait}
use Rattle.console.specs.Desks.{Desk}

-- What the books show at a position: the stops in its page of the current book, or that it is empty. A console that is not open
-- shows nothing.
abbrev pub shown_in : Meaning → Option Pair → ℕ → Option ℕ
shown_in m None p = None
shown_in m (Some b) p = shown m.cells (page_at b.current.start p)

abbrev pub books_show : Desk → ℕ → Option ℕ
books_show d p = shown_in d.part d.books p

-- The nearest position after p that is not empty, of the positions up to n, or none, where each position holds what `hold` says.
abbrev pub Nearest : (ℕ → Option ℕ → Type 0) → ℕ → ℕ → Option ℕ → Type 0
Nearest hold n p None = (q : ℕ) → p < q → q ≤ n → hold q None
Nearest hold n p (Some q) =
    (p < q) × (q ≤ n) × ((stops : ℕ) × hold q (Some stops)) × ((j : ℕ) → p < j → j < q → hold j None)

-- what an answer says, if the call was accepted
abbrev pub said : Result Answer ConsoleFault → Option Said
said (Ok x) = Some x.said
said (Err f) = None

-- A recall is accepted and shows what position p holds: its stops, or that it is empty.
abbrev pub ShowsHeld : (ℕ → Option ℕ → Type 0) → ℕ → Result Answer ConsoleFault → Type 0
ShowsHeld hold p r = (o : Option ℕ) × (said r ≡ Some (Shows o)) × hold p o

-- A next is accepted and gives the nearest later position that is not empty, or none.
abbrev pub FindsNearest : (ℕ → Option ℕ → Type 0) → ℕ → ℕ → Result Answer ConsoleFault → Type 0
FindsNearest hold n p r = (o : Option ℕ) × (said r ≡ Some (Finds o)) × Nearest hold n p o

-- recall and next
abbrev pub OnlyLooks : Call → Type 0
OnlyLooks (Set p s) = ⊥
OnlyLooks (Clear p) = ⊥
OnlyLooks (Recall p) = Unit {0}
OnlyLooks (Next p) = Unit {0}
OnlyLooks (Wait n) = ⊥

-- an accepted call reports just so many microseconds
abbrev pub Reports : ℕ → Result Answer ConsoleFault → Type 0
Reports n (Ok x) = x.us ≡ n
Reports n (Err f) = Unit {0}

-- By the clock readings before and after it, an answer came within the longest hold, 15 microseconds. If it was accepted, it
-- reports just the microseconds between the two readings.
abbrev pub Prompt : ℕ → ℕ → Result Answer ConsoleFault → Type 0
Prompt before after r = (elapsed before after ≤ longest_hold) × Reports (elapsed before after) r
