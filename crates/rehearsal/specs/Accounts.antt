-- A list of calls on a console, and the account of it: a line for each call.
use Rattle.std.specs.Prelude.{◌≡◌, ℕ, ◌<◌, true, List, [], ◌∷◌, is_ok, take, Some, None, Option, Result}
use Rattle.std.specs.List.{slice_get}
use Rattle.part.specs.Meaning.{Lawful}
use Rattle.fault.specs.declared.faults.ConsoleFault.{ConsoleFault}
use Rattle.console.specs.declared.answers.Answer.{Answer}
use Rattle.console.specs.declared.call.Call.{Call}
use Rattle.console.specs.declared.call.Call.TheVariants.{Set, Clear}
use Rattle.console.specs.Desks.{Desk}
use Rattle.console.specs.Opening.{Opens}
use Rattle.console.specs.Calls.{Replies}
use Rattle.rehearsal.specs.declared.line.Line.{Line}
use Rattle.rehearsal.specs.declared.line.Act.{Act}
use Rattle.rehearsal.specs.declared.line.Act.TheVariants as acts
use Rattle.rehearsal.specs.declared.account.Seats.{Seats}

-- the opening of a console, or one call of a list
abbrev pub Answers : Desk → Act → Result Answer ConsoleFault → Desk → Type 0
Answers d (acts.Open on) r e = Opens d on.first on.second r e
Answers d (acts.Call c) r e = Replies d c r e

-- its line: the clock of the part before and after it, and the answer
pub record Plays (d : Desk) (act : Act) (l : Line) (e : Desk) : Type 0 where
  pub before : l.before ≡ d.part.clock
  pub after : l.after ≡ e.part.clock
  pub replies : Answers d act l.reply e
  -- what holds of every part holds of this one afterwards
  pub lawful : Lawful e.part

-- The calls were made on d in their order, with this account, and left e.
pub data Played : Desk → List Call → List Line → Desk → Type 0 where
  none : (d : Desk) → Played d [] [] d
  more : {d k e : Desk} {c : Call} {cs : List Call} {l : Line} {ls : List Line} → Plays d (acts.Call c) l k → Played k cs ls e
      → Played d (c ∷ cs) (l ∷ ls) e

-- One console in a rehearsal: as it was before, the blocks on which it was opened, the line of that and of each call, and the
-- console afterwards.
pub record Run : Type 0 where
  pub before : Desk
  pub seats : Seats
  pub opening : Line
  pub lines : List Line
  pub after : Desk

abbrev pub run : Desk → Seats → Line → List Line → Desk → Run
run before seats opening lines after = record { before = before; seats = seats; opening = opening; lines = lines; after = after }

-- A console was opened, accepted or refused, and then these calls were made.
pub record Performed (calls : List Call) (r : Run) : Type 0 where
  -- what holds of every part held of this one before
  pub lawful : Lawful r.before.part
  -- the console as it was opened
  pub start : Desk
  pub opens : Plays r.before (acts.Open r.seats) r.opening start
  pub played : Played start calls r.lines r.after

-- call i of the list is c, and was accepted
pub record Accepted (calls : List Call) (log : List Line) (i : ℕ) (c : Call) : Type 0 where
  pub call : slice_get calls i ≡ Some c
  pub line : Line
  pub wrote : slice_get log i ≡ Some line
  pub well : is_ok line.reply ≡ true

-- the last set that was accepted at p is one to these stops, and no clear was accepted there later
pub record LastSet (calls : List Call) (log : List Line) (p stops : ℕ) : Type 0 where
  pub when : ℕ
  pub was : Accepted calls log when (Set p stops)
  pub no_set : (j other : ℕ) → when < j → Accepted calls log j (Set p other) → ⊥
  pub no_clear : (j : ℕ) → when < j → Accepted calls log j (Clear p) → ⊥

-- a clear was accepted at p, and no set was accepted there later
pub record LastClear (calls : List Call) (log : List Line) (p : ℕ) : Type 0 where
  pub when : ℕ
  pub was : Accepted calls log when (Clear p)
  pub no_set : (j stops : ℕ) → when < j → Accepted calls log j (Set p stops) → ⊥

-- neither a set nor a clear was accepted at p
pub record Untouched (calls : List Call) (log : List Line) (p : ℕ) : Type 0 where
  pub no_set : (j stops : ℕ) → Accepted calls log j (Set p stops) → ⊥
  pub no_clear : (j : ℕ) → Accepted calls log j (Clear p) → ⊥

-- no set was accepted at p, or each was followed by a clear that was accepted there
abbrev pub Emptied : List Call → List Line → ℕ → Type 0
Emptied calls log p = (i stops : ℕ) → Accepted calls log i (Set p stops) → (j : ℕ) × (i < j) × Accepted calls log j (Clear p)

-- What came before: what the books showed at each position when they were opened, and the calls since then with their lines.
pub record Past : Type 0 where
  pub showed : ℕ → Option ℕ
  pub calls : List Call
  pub lines : List Line

-- the first i calls of it
abbrev pub first_calls : ℕ → Past → Past
first_calls i past = record past { calls = take i past.calls; lines = take i past.lines }

-- What position p holds, by the answers alone: the stops of the last set that was accepted there, nothing after a later clear,
-- or, with neither, what the books showed when they were opened.
pub data Holds (past : Past) (p : ℕ) (v : Option ℕ) : Type 0 where
  as_set : (stops : ℕ) → LastSet past.calls past.lines p stops → v ≡ Some stops → Holds past p v
  cleared : LastClear past.calls past.lines p → v ≡ None → Holds past p v
  as_opened : Untouched past.calls past.lines p → v ≡ past.showed p → Holds past p v

-- The same where the books showed nothing when they were opened.
abbrev pub HoldsFromBlank : Past → ℕ → Option ℕ → Type 0
HoldsFromBlank past p (Some stops) = LastSet past.calls past.lines p stops
HoldsFromBlank past p None = Emptied past.calls past.lines p

-- There the second follows from the first.
abbrev pub BlankCase : Type 0
BlankCase = (past : Past) (p : ℕ) (v : Option ℕ) → past.showed p ≡ None → Holds past p v → HoldsFromBlank past p v
