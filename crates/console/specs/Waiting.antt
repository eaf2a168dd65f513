-- Waiting: for an erasure, before set or clear, and for a time.
use Rattle.std.specs.Prelude.{◌≡◌, ℕ, ◌+◌, ◌*◌, ◌/◌, Bool, true, false, ◌&&◌, if◌then◌else◌, Some, None, Ok, Err, Option, Result, nat_le}
use Rattle.fault.specs.declared.cause.Cause.TheVariants.{OutOfTurn, TimeTooLong}
use Rattle.fault.specs.declared.faults.ConsoleFault.{ConsoleFault}
use Rattle.fault.specs.Raising.{console_fault}
use Rattle.part.specs.declared.answers.Progress.{Progress}
use Rattle.part.specs.declared.answers.Progress.TheVariants.{Idle, Running, Suspended, Finished, Worn}
use Rattle.part.specs.Meaning.{Erasure, Meaning, worn}
use Rattle.part.specs.Calls.{longest, passed, progress, after_pass}
use Rattle.book.specs.Pairs.{Pair, spoilt_if}
use Rattle.console.specs.declared.answers.Said.TheVariants.{Done}
use Rattle.console.specs.declared.answers.Answer.{Answer}
use Rattle.console.specs.Desks.{Desk, opened, moved}
use Rattle.console.specs.Faults.{no_place, Refuses}

-- passes of 1,000 microseconds until nothing is left
abbrev pub wait_time : ℕ → ℕ
wait_time left = 1000 * ((left + 999) / 1000)

abbrev pub let_end_by : Meaning → Option Erasure → Meaning
let_end_by m None = m
let_end_by m (Some e) = if e.running then passed m (wait_time e.left) else m

-- A running erasure is let end; without one nothing happens.
unfoldable pub let_end : Meaning → Meaning
let_end m = let_end_by m m.erasure

abbrev pub ends_worn_by : Meaning → Option Erasure → Bool
ends_worn_by m None = false
ends_worn_by m (Some e) = e.running && worn m e.block

-- whether it ends as worn
unfoldable pub ends_worn : Meaning → Bool
ends_worn m = ends_worn_by m m.erasure

abbrev pub is_worn : Progress → Bool
is_worn Idle = false
is_worn Running = false
is_worn Suspended = false
is_worn Finished = false
is_worn Worn = true

-- whether a pass of n microseconds is one that ends an erasure as worn
abbrev pub pass_worn : Meaning → ℕ → Bool
pass_worn m n = nat_le n longest && is_worn (progress m n m.erasure)

-- the microseconds that were waited, or the refusal of too many
abbrev pub waited : Meaning → ℕ → Result Answer ConsoleFault
waited m n =
    if nat_le n longest then Ok (record { said = Done; us = moved m (after_pass m n) })
    else Err (console_fault (record { cause = TimeTooLong; place = n }))

abbrev pub WaitsOn : Option Pair → Desk → ℕ → Result Answer ConsoleFault → Desk → Type 0
WaitsOn None d n r e = Refuses d (no_place OutOfTurn 0) r e
WaitsOn (Some b) d n r e = (r ≡ waited d.part n) × (e ≡ opened (after_pass d.part n) (spoilt_if (pass_worn d.part n) b))

-- wait passes n microseconds on the part. A book whose erasure ends as worn in it is spoilt.
unfoldable pub Waits : Desk → ℕ → Result Answer ConsoleFault → Desk → Type 0
Waits d n r e = WaitsOn d.books d n r e
