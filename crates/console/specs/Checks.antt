-- The checks that run before anything is touched: the books that are open, if the call is to be made on them, or why it is refused.
use Rattle.std.specs.Prelude.{◌≡◌, ℕ, Bool, true, ◌&&◌, if◌then◌else◌, Some, None, Ok, Err, Option, Result, nat_le, nat_lt}
use Rattle.fault.specs.declared.cause.Cause.{Cause}
use Rattle.fault.specs.declared.cause.Cause.TheVariants.{OutOfTurn, PositionOutside, StopOutside}
use Rattle.fault.specs.declared.faults.ConsoleFault.{ConsoleFault}
use Rattle.book.specs.declared.spot.Spot.{Spot}
use Rattle.book.specs.Pairs.{Pair}
use Rattle.book.specs.Views.{pair_of}
use Rattle.console.specs.Faults.{no_place}

-- a position from 1 to the last
abbrev pub is_position : Pair → ℕ → Bool
is_position b p = nat_le 1 p && nat_le p b.positions

-- 63 stops: bit 63 is 0
abbrev pub fits : Option ℕ → Bool
fits None = true
fits (Some stops) = nat_lt stops 9223372036854775808

-- for set and clear
abbrev pub store_books : Option Pair → ℕ → Option ℕ → Result Pair Cause
store_books None p new = Err OutOfTurn
store_books (Some b) p new =
    if is_position b p then (if fits new then Ok b else Err StopOutside) else Err PositionOutside

-- for recall
abbrev pub recall_books : Option Pair → ℕ → Result Pair Cause
recall_books None p = Err OutOfTurn
recall_books (Some b) p = if is_position b p then Ok b else Err PositionOutside

-- for next, which may begin before the first position
abbrev pub next_books : Option Pair → ℕ → Result Pair Cause
next_books None p = Err OutOfTurn
next_books (Some b) p = if nat_le p b.positions then Ok b else Err PositionOutside

-- what a check answers in the program: the books with the position, or the refusal
abbrev pub Spotted : Pair → ℕ → Result Spot ConsoleFault → Type 0
Spotted b p (Ok s) = (pair_of s.books ≡ b) × (s.position ≡ p)
Spotted b p (Err f) = ⊥

abbrev pub Checked : Result Pair Cause → ℕ → Result Spot ConsoleFault → Type 0
Checked (Ok b) p r = Spotted b p r
Checked (Err cause) p r = r ≡ Err (no_place cause p)
