-- What an organist is promised.
use Rattle.std.specs.Prelude.{◌≡◌, ℕ, ◌≤◌, true, false, List, is_ok, Some, None, Ok, Err, Option, Result}
use Rattle.std.specs.List.{slice_get}
use Rattle.part.specs.Meaning.{Meaning, worn, Lawful}
use Rattle.part.specs.Calls.{longest}
use Rattle.book.specs.Pages.{blank}
use Rattle.book.specs.Finding.{begins, width, positions_of}
use Rattle.fault.specs.declared.faults.ConsoleFault.{ConsoleFault}
use Rattle.console.specs.declared.answers.Said.TheVariants.{Done}
use Rattle.console.specs.declared.answers.Answer.{Answer}
use Rattle.console.specs.declared.call.Call.{Call}
use Rattle.console.specs.declared.call.Call.TheVariants.{Set, Clear, Recall, Next, Wait}
use Rattle.console.specs.Desks.{Desk, closed, is_quiet}
use Rattle.console.specs.Showing.{books_show, ShowsHeld, FindsNearest, OnlyLooks, Prompt}
use Rattle.console.specs.Checks.{fits}
use Rattle.console.specs.Opening.{Opens}
use Rattle.console.specs.Calls.{Replies}
use Rattle.console.specs.Laws.{ShowSame}
use Rattle.rehearsal.specs.declared.line.Line.{Line}
use Rattle.rehearsal.specs.declared.account.Seats.{Seats}
use Rattle.rehearsal.specs.Accounts.{Run, Past, first_calls, Played, Performed, Holds, HoldsFromBlank, BlankCase}

-- One console, with books of n positions, after what came before. `Holding` says what a position holds by that.
pub record Kept (Holding : Past → ℕ → Option ℕ → Type 0) (past : Past) (n : ℕ) (e : Desk) : Type 0 where
  -- after the list
  pub recalls : (p : ℕ) → 1 ≤ p → p ≤ n → (r : Result Answer ConsoleFault) (k : Desk) → Replies e (Recall p) r k
      → ShowsHeld (Holding past) p r
  pub nexts : (p : ℕ) → p ≤ n → (r : Result Answer ConsoleFault) (k : Desk) → Replies e (Next p) r k → FindsNearest (Holding past) n p r
  -- inside the list, by the account alone
  pub recalls_inside : (i p : ℕ) (l : Line) → slice_get past.calls i ≡ Some (Recall p) → slice_get past.lines i ≡ Some l → 1 ≤ p → p ≤ n
      → ShowsHeld (Holding (first_calls i past)) p l.reply
  pub nexts_inside : (i p : ℕ) (l : Line) → slice_get past.calls i ≡ Some (Next p) → slice_get past.lines i ≡ Some l → p ≤ n
      → FindsNearest (Holding (first_calls i past)) n p l.reply
  -- Each recall and next is prompt, refused or not, whatever position it names: inside the list, and after it.
  pub prompt_inside : (i : ℕ) (c : Call) (l : Line) → slice_get past.calls i ≡ Some c → slice_get past.lines i ≡ Some l → OnlyLooks c
      → Prompt l.before l.after l.reply
  pub prompt : (c : Call) (r : Result Answer ConsoleFault) (k : Desk) → OnlyLooks c → Replies e c r k → Prompt e.part.clock k.part.clock r

-- two answers are the same, the microseconds aside
abbrev pub Same : Result Answer ConsoleFault → Result Answer ConsoleFault → Type 0
Same (Ok x) (Ok y) = x.said ≡ y.said
Same (Ok x) (Err g) = ⊥
Same (Err f) (Ok y) = ⊥
Same (Err f) (Err g) = f ≡ g

-- every answer is the same on both
abbrev pub Alike : List Call → List Line → List Line → Type 0
Alike calls quick slow =
    (i : ℕ) (c : Call) (x y : Line) → slice_get calls i ≡ Some c → slice_get quick i ≡ Some x → slice_get slow i ≡ Some y → Same x.reply y.reply

-- a call on books of n positions whose position, stops and time are within their limits
abbrev pub Proper : ℕ → Call → Type 0
Proper n (Set p stops) = (1 ≤ p) × (p ≤ n) × (fits (Some stops) ≡ true)
Proper n (Clear p) = (1 ≤ p) × (p ≤ n)
Proper n (Recall p) = (1 ≤ p) × (p ≤ n)
Proper n (Next p) = p ≤ n
Proper n (Wait us) = us ≤ longest

-- no such call was refused
abbrev pub Accepts : ℕ → List Call → List Line → Type 0
Accepts n calls log = (i : ℕ) (c : Call) (l : Line) → slice_get calls i ≡ Some c → slice_get log i ≡ Some l → Proper n c → is_ok l.reply ≡ true

-- a block that is FFh throughout
abbrev pub BlankBlock : Meaning → ℕ → Type 0
BlankBlock m a = blank m.cells (begins m a) (width m a) ≡ true

-- The console was closed, and its opening was accepted, whatever the books held.
pub record IsOpened (r : Run) : Type 0 where
  pub closed : r.before.books ≡ None
  pub accepted : is_ok r.opening.reply ≡ true

-- Both books were blank before.
pub record OnBlank (r : Run) : Type 0 where
  pub first : BlankBlock r.before.part r.seats.first
  pub second : BlankBlock r.before.part r.seats.second

-- neither of the two blocks is worn
abbrev pub Unworn : Meaning → Seats → Type 0
Unworn m on = (worn m on.first ≡ false) × (worn m on.second ≡ false)

-- how many positions a console has in a rehearsal
abbrev pub positions : Run → ℕ
positions r = positions_of (width r.before.part r.seats.first)

-- neither of its book blocks is worn
abbrev pub Sound : Run → Type 0
Sound r = Unworn r.before.part r.seats

-- what came before, for a console that stood so once it was opened
abbrev pub past : List Call → Run → Desk → Past
past calls r start = record { showed = books_show start; calls = calls; lines = r.lines }

-- books that show nothing at each of the n positions
abbrev pub ShowNothing : ℕ → Desk → Type 0
ShowNothing n d = (p : ℕ) → 1 ≤ p → p ≤ n → books_show d p ≡ None

-- What is promised of a console that was opened, stood as `start` then, and was given a list of calls.
pub record Trusty (calls : List Call) (r : Run) (start : Desk) : Type 0 where
  pub kept : Kept Holds (past calls r start) (positions r) r.after
  -- Blank books show nothing when they are opened.
  pub blank : OnBlank r → ShowNothing (positions r) start
  pub kept_from_blank : OnBlank r → Kept HoldsFromBlank (past calls r start) (positions r) r.after
  -- Without a worn book block nothing is refused that is within the limits.
  pub accepts : Sound r → Accepts (positions r) calls r.lines

-- Two consoles that were opened and given one list of calls.
pub record Promise (calls : List Call) (quick slow : Run) : Type 0 where
  pub quick_trusty : (p : Performed calls quick) → IsOpened quick → Trusty calls quick p.start
  pub slow_trusty : (p : Performed calls slow) → IsOpened slow → Trusty calls slow p.start
  -- Books of as many positions that show the same, and no book block worn: the two answer alike.
  pub alike : (p : Performed calls quick) (q : Performed calls slow) → IsOpened quick → IsOpened slow → positions quick ≡ positions slow
      → ShowSame (positions quick) p.start q.start → Sound quick → Sound slow → Alike calls quick.lines slow.lines
  -- So do blank ones.
  pub alike_from_blank : IsOpened quick → IsOpened slow → OnBlank quick → OnBlank slow → positions quick ≡ positions slow
      → Sound quick → Sound slow → Alike calls quick.lines slow.lines
  -- What a position holds where the books showed nothing.
  pub blank_case : BlankCase

-- A console made anew over the same part and opened again is the one that was, whenever quiet answers yes: the state is in the
-- part. Whatever was opened, blank or not, and whatever calls were made.
abbrev pub SameAgain : Type 0
SameAgain = (m : Meaning) (a b : ℕ) (x : Answer) (start e : Desk) (calls : List Call) (log : List Line)
    → Lawful m → Opens (closed m) a b (Ok x) start → Lawful start.part → Played start calls log e → is_quiet e ≡ true
    → (r : Result Answer ConsoleFault) (again : Desk) → Opens (closed e.part) a b r again
    → (r ≡ Ok (record { said = Done; us = 0 })) × (again ≡ e)
