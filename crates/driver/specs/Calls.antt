-- The driver's calls on a chip, in the words of a part. A part leaves its times open; here they are the chip's own.
use Rattle.std.specs.Prelude.{◌≡◌, ℕ, ◌+◌, ◌%◌, true, false, length, Ok, Err, Some, Result, OnOk, ◌==◌, if◌then◌else◌, nat_le}
use Rattle.fault.specs.declared.cause.Cause.{Cause}
use Rattle.fault.specs.declared.cause.Cause.TheVariants.{AddressOutside, NoSuchBlock, TimeTooLong}
use Rattle.fault.specs.Causes.{number_of}
use Rattle.fault.specs.Limits.{longest}
use Rattle.flash.specs.Limits.{longest_program}
use Rattle.fault.specs.declared.faults.PartFault.{PartFault}
use Rattle.part.specs.declared.answers.Progress.{Progress}
use Rattle.part.specs.declared.answers.Standing.{Standing}
use Rattle.part.specs.declared.answers.Standing.TheVariants.{Running, Suspended}
use Rattle.part.specs.declared.answers.Turn.{Turn}
use Rattle.part.specs.declared.answers.Turn.TheVariants.{Done, Nothing}
use Rattle.part.specs.Meaning.{cell}
use Rattle.part.specs.Calls.{answer, peek_no, burn_no, begin_no, time_no, Burnt, Begun, Held, can_hold, can_go, gone_on, progress, after_pass}
use Rattle.driver.specs.Rig.{Rig, does, SameChip, inside, meaning, erase_time}

-- the microseconds that a burn takes: the chip's program time, or the longest where it is refused with 8
abbrev pub burn_time : Rig → Result (Unit {0}) PartFault → ℕ
burn_time r (Ok done) = r.program
burn_time r (Err fault) = if number_of fault.cause == 8 then longest_program else 0

-- the microseconds that a hold takes: the chip's suspend time, or none where there is nothing to hold
abbrev pub hold_time : Rig → Turn → ℕ
hold_time r Done = r.suspend
hold_time r Nothing = 0

-- the chip's count has moved by so many microseconds
abbrev pub Lasts : Rig → ℕ → Rig → Type 0
Lasts r n s = s.clock ≡ (r.clock + n) % 4294967296

pub record Peeks (r : Rig) (a : ℕ) (result : Result ℕ PartFault) (s : Rig) : Type 0 where
  pub answer : result ≡ answer (peek_no (meaning r) a) a (cell (meaning r) a)
  pub same : meaning s ≡ meaning r
  pub chip : SameChip r s

pub record Burns (r : Rig) (a byte : ℕ) (result : Result (Unit {0}) PartFault) (s : Rig) : Type 0 where
  pub answer : result ≡ answer (burn_no (meaning r) a byte) a tt
  pub burnt : Burnt (meaning r) a byte (meaning s)
  pub time : Lasts r (burn_time r result) s
  pub chip : SameChip r s

pub record Begins (r : Rig) (b : ℕ) (result : Result (Unit {0}) PartFault) (s : Rig) : Type 0 where
  pub answer : result ≡ answer (begin_no (meaning r) b) b tt
  pub begun : Begun (meaning r) b (meaning s)
  pub time : OnOk result ((meaning s).erasure ≡ Some (record { block = b; left = erase_time r b; running = true }))
  pub chip : SameChip r s

pub record Holds (r : Rig) (result : Turn) (s : Rig) : Type 0 where
  pub answer : result ≡ can_hold (meaning r).erasure
  pub held : Held (meaning r) (meaning s)
  pub time : Lasts r (hold_time r result) s
  pub chip : SameChip r s

pub record GoesOn (r : Rig) (result : Turn) (s : Rig) : Type 0 where
  pub answer : result ≡ can_go (meaning r).erasure
  pub gone : meaning s ≡ gone_on (meaning r)
  pub chip : SameChip r s

pub record Waits (r : Rig) (n : ℕ) (result : Result Progress PartFault) (s : Rig) : Type 0 where
  pub answer : result ≡ answer (time_no n) n (progress (meaning r) n (meaning r).erasure)
  pub passed : meaning s ≡ after_pass (meaning r) n
  pub chip : SameChip r s

-- The rest holds for every chip and all notes, tied or not.

-- only what the chip is doing may be another: it is the same chip, with the same cells and at the same microsecond
abbrev pub AtOnce : Rig → Rig → Type 0
AtOnce r s = s ≡ does r s.doing

-- refused at a place, and the chip is as it was
abbrev pub RefusedFor : {X : Type 0} → Cause → Rig → ℕ → Result X PartFault → Rig → Type 0
RefusedFor cause r place result s = (result ≡ Err (record { cause = cause; place = place })) × (s ≡ r)

-- an address outside is refused
abbrev pub InsideOnly : {X : Type 0} → Rig → ℕ → Result X PartFault → Rig → Type 0
InsideOnly r a result s = inside r.sheet a ≡ false → RefusedFor AddressOutside r a result s

-- a block that there is not is refused
abbrev pub BlocksOnly : {X : Type 0} → Rig → ℕ → Result X PartFault → Rig → Type 0
BlocksOnly r b result s = nat_le (length r.sheet.sizes) b ≡ true → RefusedFor NoSuchBlock r b result s

-- a time over the longest is refused
abbrev pub LongestAtMost : {X : Type 0} → Rig → ℕ → Result X PartFault → Rig → Type 0
LongestAtMost r n result s = nat_le n longest ≡ false → RefusedFor TimeTooLong r n result s

-- what the notes say there is to hold, and to go on with
abbrev pub to_hold : Standing → Turn
to_hold (Running b) = Done
to_hold standing = Nothing

abbrev pub to_go_on : Standing → Turn
to_go_on (Suspended b) = Done
to_go_on standing = Nothing
