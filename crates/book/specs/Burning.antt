-- Writing to a part is a list of steps, made one after the other up to the first that is refused. Nothing but the cells and
-- the clock changes.
use Rattle.std.specs.Prelude.{◌≡◌, ℕ, zero, suc, ◌+◌, cond, List, [], ◌∷◌, ◌++◌, Some, None, Ok, Err, Option, Result, ◌==◌, slice_set}
use Rattle.fault.specs.declared.cause.Cause.{Cause}
use Rattle.fault.specs.declared.faults.PartFault.{PartFault}
use Rattle.part.specs.Meaning.{Meaning}
use Rattle.part.specs.Calls.{burn_no, Burnt}
use Rattle.book.specs.declared.page.Page.{Page}
use Rattle.book.specs.Pages.{page_at, line_at, next_line, marked, byte_of}
use Rattle.book.specs.Reading.{reading}

-- to burn a byte, or to stop at what a reading between two burns was refused for
pub data Step : Type 0 where
  burn : ℕ → ℕ → Step
  stop : PartFault → Step

-- The steps were made on a part that meant m; r is the answer, and n what the part means afterwards.
pub data Ran : Meaning → List Step → Result (Unit {0}) PartFault → Meaning → Type 0 where
  done : (m : Meaning) → Ran m [] (Ok tt) m
  burnt : {m k n : Meaning} {a byte : ℕ} {steps : List Step} {r : Result (Unit {0}) PartFault}
      → burn_no m a byte ≡ None → Burnt m a byte k → Ran k steps r n → Ran m (burn a byte ∷ steps) r n
  refused : {m n : Meaning} {a byte : ℕ} {steps : List Step} {cause : Cause}
      → burn_no m a byte ≡ Some cause → Burnt m a byte n → Ran m (burn a byte ∷ steps) (Err (record { cause = cause; place = a })) n
  stopped : {m : Meaning} {f : PartFault} {steps : List Step} → Ran m (stop f ∷ steps) (Err f) m

-- the first i of the eight bytes of a registration, from an address on
unfoldable pub bytes_burnt : ℕ → ℕ → ℕ → List Step
bytes_burnt at stops zero = []
bytes_burnt at stops (suc i) = bytes_burnt at stops i ++ (burn (at + i) (byte_of stops i) ∷ [])

-- a registration is burnt into a line, first byte to last; an empty line is left as it is
abbrev pub line_burnt : ℕ → Option ℕ → List Step
line_burnt at None = []
line_burnt at (Some stops) = bytes_burnt at stops 8

-- One line more of a page: the line, and then the tally.
unfoldable pub line_added : ℕ → ℕ → Option ℕ → List Step
line_added at tally new = line_burnt (line_at at (next_line tally)) new ++ (burn at (marked tally) ∷ [])

-- A position goes to a page of a blank book: line 1 and tally FEh where it is filled, nothing where it is empty.
abbrev pub page_copied : ℕ → Result (Option ℕ) PartFault → List Step
page_copied at (Ok None) = []
page_copied at (Ok (Some stops)) = bytes_burnt (line_at at 1) stops 8 ++ (burn at 254 ∷ [])
page_copied at (Err fault) = stop fault ∷ []

-- what a reading of a page says is stored
abbrev pub stops_of : Result Page PartFault → Result (Option ℕ) PartFault
stops_of (Ok page) = Ok page.stops
stops_of (Err fault) = Err fault

-- what position q will hold: the new stops at p, and at another what the book at `from` has
abbrev pub will_hold : Meaning → ℕ → ℕ → Option ℕ → ℕ → Result (Option ℕ) PartFault
will_hold m from p new q = cond (q == p) (Ok new) (stops_of (reading m (page_at from q)))

-- the first n positions, in rising order
unfoldable pub pages_copied : (ℕ → Result (Option ℕ) PartFault) → ℕ → ℕ → List Step
pages_copied f to zero = []
pages_copied f to (suc n) = pages_copied f to n ++ page_copied (page_at to (suc n)) (f (suc n))

-- Every position goes to the other book, and then that book's head is burnt.
unfoldable pub book_copied : (ℕ → Result (Option ℕ) PartFault) → ℕ → ℕ → List Step
book_copied f to n = pages_copied f to n ++ (burn to 0 ∷ [])

-- the cells after steps that are all accepted: each burn makes one cell the given byte
unfoldable pub laid : List ℕ → List Step → List ℕ
laid cells [] = cells
laid cells (burn a byte ∷ steps) = laid (slice_set cells a byte) steps
laid cells (stop fault ∷ steps) = laid cells steps
