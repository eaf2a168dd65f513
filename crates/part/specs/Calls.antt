-- The calls of a part: for each input the answer or the refusal, and the whole meaning afterwards. What a call does not name
-- stays. Free are only the microseconds, inside their limits.
use Rattle.std.specs.Prelude.{◌≡◌, ℕ, ◌-◌, ◌≤◌, Bool, true, false, if◌then◌else◌, List, Some, None, Ok, Err, Option, Result, ◌==◌, nat_le, nat_lt, slice_index, slice_set, is_some}
use Rattle.fault.specs.declared.cause.Cause.{Cause}
use Rattle.fault.specs.declared.cause.Cause.TheVariants.{AddressOutside, NoSuchBlock, ErasureInTheWay, Guarded, NeedsErase, Worn}
use Rattle.fault.specs.Causes.{number_of}
use Rattle.geometry.specs.declared.block.Block.{Block}
use Rattle.geometry.specs.Blocks.{start_of, wiped}
-- that a byte has a 1 where the cell has a 0, and the longest time of one call, are the same in every layer
pub use Rattle.fault.specs.Limits.{longest, needs_erase, time_no}
use Rattle.fault.specs.declared.faults.PartFault.{PartFault}
use Rattle.part.specs.declared.answers.Progress.{Progress}
use Rattle.part.specs.declared.answers.Progress.TheVariants.{Idle, Running, Suspended, Finished, Worn as Spoilt}
use Rattle.part.specs.declared.answers.Turn.{Turn}
use Rattle.part.specs.declared.answers.Turn.TheVariants.{Done, Nothing}
use Rattle.part.specs.InTheWay.{hid, barred, hid_beside, barred_beside}
use Rattle.part.specs.Meaning.{Erasure, Meaning, size, count, cell, block, guarded, worn, with_cells, with_erasure, ticked, standing_of}

-- Refusals. Each call has one function that says why it is refused, or that it is not; the checks run in rising number.

-- the answer, or the refusal with the place that the caller gave
abbrev pub answer : {X : Type 0} → Option Cause → ℕ → X → Result X PartFault
answer None place x = Ok x
answer (Some cause) place x = Err (record { cause = cause; place = place })

-- an erasure stands, running or not
abbrev pub stands : Meaning → Bool
stands m = is_some m.erasure

-- an erasure runs
abbrev pub running : Option Erasure → Bool
running None = false
running (Some e) = e.running

abbrev pub runs : Meaning → Bool
runs m = running m.erasure

-- The questions that an erasure raises about a block. What follows from an answer stands in laws about these names.

-- no cell of block b can be peeked, or burnt, now
unfoldable pub hides : Meaning → ℕ → Bool
hides m b = hid (standing_of m.erasure) b

unfoldable pub bars : Meaning → ℕ → Bool
bars m b = barred (standing_of m.erasure) b

-- no cell of a neighbour can be peeked, or burnt, now
abbrev pub hides_beside : Meaning → Bool
hides_beside m = hid_beside (standing_of m.erasure)

abbrev pub bars_beside : Meaning → Bool
bars_beside m = barred_beside (standing_of m.erasure)

abbrev pub outside : Meaning → ℕ → Bool
outside m a = nat_le (size m) a

abbrev pub peek_no : Meaning → ℕ → Option Cause
peek_no m a =
    if outside m a then Some AddressOutside else
    if hides m (block m a) then Some ErasureInTheWay else None

abbrev pub burn_no : Meaning → ℕ → ℕ → Option Cause
burn_no m a byte =
    if outside m a then Some AddressOutside else
    if bars m (block m a) then Some ErasureInTheWay else
    if guarded m (block m a) then Some Guarded else
    if needs_erase (cell m a) byte then Some NeedsErase else
    if worn m (block m a) then Some Worn else None

abbrev pub begin_no : Meaning → ℕ → Option Cause
begin_no m b =
    if nat_le (count m) b then Some NoSuchBlock else
    if stands m then Some ErasureInTheWay else
    if guarded m b then Some Guarded else None

-- The longest times, in microseconds: of a burn, of a hold, and of an erasure from its beginning. A part's own times are free inside them.
abbrev pub longest_burn : ℕ
longest_burn = 300

abbrev pub longest_hold : ℕ
longest_hold = 15

abbrev pub longest_erasure : ℕ
longest_erasure = 10000050

-- Meanings afterwards.

-- the clock has moved by least to most microseconds, and nothing else has changed
pub record Took (least most : ℕ) (m n : Meaning) : Type 0 where
  pub time : ℕ
  pub low : least ≤ time
  pub high : time ≤ most
  pub is : n ≡ ticked m time

-- A refusal changes nothing, but 8 lets microseconds pass as a burn does.
abbrev pub Refused : Bool → Meaning → Meaning → Type 0
Refused true m n = Took 0 longest_burn m n
Refused false m n = n ≡ m

abbrev pub BurntBy : Meaning → ℕ → ℕ → Option Cause → Meaning → Type 0
BurntBy m a byte None n = Took 1 longest_burn (with_cells m (slice_set m.cells a byte)) n
BurntBy m a byte (Some cause) n = Refused (number_of cause == 8) m n

-- burn makes a cell the given byte.
abbrev pub Burnt : Meaning → ℕ → ℕ → Meaning → Type 0
Burnt m a byte n = BurntBy m a byte (burn_no m a byte) n

-- a running erasure of block b has begun, with at least 1 microsecond left
pub record Started (m : Meaning) (b : ℕ) (n : Meaning) : Type 0 where
  pub left : ℕ
  pub low : 1 ≤ left
  pub high : left ≤ longest_erasure
  pub is : n ≡ with_erasure m (Some (record { block = b; left = left; running = true }))

abbrev pub BegunBy : Meaning → ℕ → Option Cause → Meaning → Type 0
BegunBy m b None n = Started m b n
BegunBy m b (Some cause) n = n ≡ m

abbrev pub Begun : Meaning → ℕ → Meaning → Type 0
Begun m b n = BegunBy m b (begin_no m b) n

-- the erasure runs, or stands still
abbrev pub set_running : Bool → Erasure → Erasure
set_running r e = record e { running = r }

-- whether there is something to hold, and something to go on with
abbrev pub can_hold : Option Erasure → Turn
can_hold None = Nothing
can_hold (Some e) = if e.running then Done else Nothing

abbrev pub can_go : Option Erasure → Turn
can_go None = Nothing
can_go (Some e) = if e.running then Nothing else Done

abbrev pub turned : Bool → Option Erasure → Option Erasure
turned r None = None
turned r (Some e) = Some (set_running r e)

-- hold makes a running erasure suspended, its time left unchanged; otherwise it does nothing.
abbrev pub HeldBy : Meaning → Turn → Meaning → Type 0
HeldBy m Done n = Took 0 longest_hold (with_erasure m (turned false m.erasure)) n
HeldBy m Nothing n = n ≡ m

abbrev pub Held : Meaning → Meaning → Type 0
Held m n = HeldBy m (can_hold m.erasure) n

-- go on makes a suspended erasure run again, or does nothing.
abbrev pub gone_on : Meaning → Meaning
gone_on m = with_erasure m (turned true m.erasure)

-- the cells after the erasure of block b has ended: FFh throughout the block, unless it is worn
abbrev pub erased : Meaning → ℕ → List ℕ
erased m b = if worn m b then m.cells else wiped m.sizes b 0xFF m.cells

-- what n microseconds do to an erasure
abbrev pub run_on : Meaning → ℕ → Option Erasure → Meaning
run_on m n None = m
run_on m n (Some e) =
    if e.running then
    (if nat_lt n e.left then with_erasure m (Some (record e { left = e.left - n }))
    else with_erasure (with_cells m (erased m e.block)) None)
    else m

-- pass moves the clock by n and lets a running erasure come nearer to its end, or end.
abbrev pub passed : Meaning → ℕ → Meaning
passed m n = ticked (run_on m n m.erasure) n

abbrev pub progress : Meaning → ℕ → Option Erasure → Progress
progress m n None = Idle
progress m n (Some e) =
    if e.running then (if nat_lt n e.left then Running else if worn m e.block then Spoilt else Finished) else Suspended

abbrev pub after_pass : Meaning → ℕ → Meaning
after_pass m n = if nat_le n longest then passed m n else m

-- Questions.

-- where block b begins and how many bytes it has
abbrev pub block_at : Meaning → ℕ → Option Block
block_at m b = if nat_lt b (count m) then Some (record { start = start_of m.sizes b; size = slice_index m.sizes b }) else None
