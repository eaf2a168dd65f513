-- What a list of calls leaves at each position, and what its calls answer, by a table of the positions alone.
use Rattle.std.proofs.Common.{ℕ, zero, suc, ◌+◌, ◌-◌, Bool, cond, ◌&&◌, eqb, leb, ltb, Some, None, Ok, Err, Option, Result}
use Rattle.fault.specs.declared.cause.Cause.TheVariants.{PositionOutside, StopOutside, TimeTooLong}
use Rattle.part.specs.Calls.{longest}
use Rattle.fault.specs.declared.faults.ConsoleFault.{ConsoleFault}
use Rattle.console.specs.declared.answers.Answer.{Answer}
use Rattle.console.specs.declared.answers.Said.{Said}
use Rattle.console.specs.declared.answers.Said.TheVariants.{Done, Shows, Finds}
use Rattle.console.specs.declared.call.Call.{Call}
use Rattle.console.specs.declared.call.Call.TheVariants.{Set, Clear, Recall, Next, Wait}
use Rattle.console.specs.Faults.{no_place}
use Rattle.fault.specs.Raising.{console_fault}

-- what each position holds
abbrev pub Table : Type 0
Table = ℕ → Option ℕ

-- every position is empty
abbrev pub nothing : Table
nothing p = None

-- an answer without its microseconds
abbrev pub look : Result Answer ConsoleFault → Result Said ConsoleFault
look (Ok x) = Ok x.said
look (Err f) = Err f

-- what an accepted call makes of position q, where v was
abbrev pub write : Call → ℕ → Option ℕ → Option ℕ
write (Set p stops) q v = cond (eqb q p) (Some stops) v
write (Clear p) q v = cond (eqb q p) None v
write (Recall p) q v = v
write (Next p) q v = v
write (Wait us) q v = v

-- the table after a call, accepted or refused
abbrev pub after : Call → Bool → Table → Table
after c accepted f q = cond accepted (write c q (f q)) (f q)

-- the first filled position among the k that follow p, or none
abbrev pub filled : Option ℕ → ℕ → Option ℕ
filled None q = None
filled (Some stops) q = Some q

abbrev pub or_then : Option ℕ → Option ℕ → Option ℕ
or_then None next = next
or_then (Some q) next = Some q

unfoldable pub nearest : Table → ℕ → ℕ → Option ℕ
nearest f p zero = None
nearest f p (suc k) = or_then (nearest f p k) (filled (f (p + suc k)) (p + suc k))

-- what a console of n positions answers to a call, the microseconds aside, if no block is worn
abbrev pub outside : ℕ → Result Said ConsoleFault
outside p = Err (no_place PositionOutside p)

abbrev pub is_position : ℕ → ℕ → Bool
is_position n p = leb 1 p && leb p n

abbrev pub tells : ℕ → Table → Call → Result Said ConsoleFault
tells n f (Set p stops) = cond (is_position n p) (cond (ltb stops 9223372036854775808) (Ok Done) (Err (no_place StopOutside p))) (outside p)
tells n f (Clear p) = cond (is_position n p) (Ok Done) (outside p)
tells n f (Recall p) = cond (is_position n p) (Ok (Shows (f p))) (outside p)
tells n f (Next p) = cond (leb p n) (Ok (Finds (nearest f p (n - p)))) (outside p)
tells n f (Wait us) = cond (leb us longest) (Ok Done) (Err (console_fault (record { cause = TimeTooLong; place = us })))
