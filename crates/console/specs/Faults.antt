-- A console's fault: the part's fault whole, and the position of the call, or 0.
use Rattle.std.specs.Prelude.{◌≡◌, ℕ, Ok, Err, Result}
use Rattle.fault.specs.declared.cause.Cause.{Cause}
use Rattle.fault.specs.declared.faults.PartFault.{PartFault}
use Rattle.fault.specs.declared.faults.ConsoleFault.{ConsoleFault}
use Rattle.fault.specs.Raising.{console_fault}
use Rattle.console.specs.declared.answers.Answer.{Answer}
use Rattle.console.specs.Desks.{Desk}

-- a part's fault in a call that is given a position
abbrev pub at_position : ℕ → PartFault → ConsoleFault
at_position p f = record (console_fault f) { position = p }

-- a refusal of the console's own has no place
abbrev pub no_place : Cause → ℕ → ConsoleFault
no_place cause p = record { cause = cause; place = 0; position = p }

-- what a part answered in a call that is given a position
abbrev pub placed : {X : Type 0} → ℕ → Result X PartFault → Result X ConsoleFault
placed p (Ok x) = Ok x
placed p (Err f) = Err (at_position p f)

-- what a call answers that is given position p, or 0 where it is given none: what it says of what it found or did, or the part's fault
abbrev pub reported : {X : Type 0} → ℕ → (X → Answer) → Result X PartFault → Result Answer ConsoleFault
reported p says (Ok x) = Ok (says x)
reported p says (Err f) = Err (at_position p f)

-- a call that is refused before anything is touched
abbrev pub Refuses : {X : Type 0} → Desk → ConsoleFault → Result X ConsoleFault → Desk → Type 0
Refuses d f r e = (r ≡ Err f) × (e ≡ d)
