-- What a call of a joined part does to its two sides.
use Rattle.std.specs.Prelude.{◌≡◌, ℕ, ◌-◌, Bool, true, false, ◌&&◌, if◌then◌else◌, Some, None, Option, Ok, Err, Result, nat_lt}
use Rattle.fault.specs.declared.cause.Cause.{Cause}
use Rattle.fault.specs.declared.cause.Cause.TheVariants.{ErasureInTheWay}
use Rattle.fault.specs.declared.faults.PartFault.{PartFault}
use Rattle.part.specs.Meaning.{Meaning, size, count}
use Rattle.part.specs.Calls.{stands, hides_beside, bars_beside, passed, after_pass}
use Rattle.part.specs.Laws.{Call, look, burn, begin, hold, go_on, pass, Made}
use Rattle.part.specs.Neighbours.{elapsed}
use Rattle.joined.specs.declared.aim.Aim.{Aim}
use Rattle.joined.specs.declared.aim.Aim.TheVariants.{First, Second}
use Rattle.joined.specs.Pile.{joined}

-- a joined part by its sides: whether it is live, and what each side means
pub record Sides : Type 0 where
  pub live : Bool
  pub first : Meaning
  pub second : Meaning

-- what it means as one part
abbrev pub whole_of : Sides → Meaning
whole_of s = joined s.live s.first s.second

-- Where a call goes: to one side, as a call of its own; to both, as time does; or to neither.
pub data Way : Type 0 where
  neither : Way
  to_first : Call → Way
  to_second : Call → Way
  both : ℕ → Way

-- Which side a call goes to by its place, an address or a block: the first, or the second, where the place is counted from that side's beginning; none
-- where an erasure of the other side is in the way. A place past the end is the second's, which refuses it.
abbrev pub aimed : ℕ → ℕ → ℕ → Bool → Bool → Option Aim
aimed place ends behind by_first by_second =
    if nat_lt place ends then (if by_second then None else Some First) else
    if nat_lt (place - ends) behind && by_first then None else Some (Second (place - ends))

abbrev pub peek_aim : Meaning → Meaning → ℕ → Option Aim
peek_aim m n a = aimed a (size m) (size n) (hides_beside m) (hides_beside n)

abbrev pub burn_aim : Meaning → Meaning → ℕ → Option Aim
burn_aim m n a = aimed a (size m) (size n) (bars_beside m) (bars_beside n)

abbrev pub begin_aim : Meaning → Meaning → ℕ → Option Aim
begin_aim m n b = aimed b (count m) (count n) (stands m) (stands n)

-- That side, or the refusal of a call that goes to neither: the part is dead, or an erasure of the other side is in the way.
abbrev pub aim_or : Bool → Option Aim → Cause → ℕ → Result Aim PartFault
aim_or false aim dead place = Err (record { cause = dead; place = place })
aim_or true None dead place = Err (record { cause = ErasureInTheWay; place = place })
aim_or true (Some aim) dead place = Ok aim

-- the way of a call at a place of the first side, or of one at a place of the second
abbrev pub sent : Option Aim → Call → (ℕ → Call) → Way
sent None c later = neither
sent (Some First) c later = to_first c
sent (Some (Second inner)) c later = to_second (later inner)

-- hold and go on go to the side whose erasure stands
abbrev pub turn_way : Meaning → Call → Way
turn_way m c = if stands m then to_first c else to_second c

-- Time passes on both sides of a dead one too; every other call of it goes to neither. A peek leaves both sides.
abbrev pub way : Sides → Call → Way
way s look = neither
way s (burn a byte) = if s.live then sent (burn_aim s.first s.second a) (burn a byte) (λ inner. burn inner byte) else neither
way s (begin b) = if s.live then sent (begin_aim s.first s.second b) (begin b) begin else neither
way s hold = if s.live then turn_way s.first hold else neither
way s go_on = if s.live then turn_way s.first go_on else neither
way s (pass n) = both n

-- What is left of both sides: the one that a call went to made it, and the time that it took passed on the other, whatever erasure that one has.
abbrev pub Went : Way → Meaning → Meaning → Meaning → Meaning → Type 0
Went neither m n m' n' = (m' ≡ m) × (n' ≡ n)
Went (to_first c) m n m' n' = Made m c m' × (n' ≡ passed n (elapsed m.clock m'.clock))
Went (to_second c) m n m' n' = (m' ≡ passed m (elapsed n.clock n'.clock)) × Made n c n'
Went (both k) m n m' n' = (m' ≡ after_pass m k) × (n' ≡ after_pass n k)

-- What a call leaves of a joined part; none makes it live or dead.
pub record Called (s : Sides) (c : Call) (t : Sides) : Type 0 where
  pub live : t.live ≡ s.live
  pub sides : Went (way s c) s.first s.second t.first t.second
