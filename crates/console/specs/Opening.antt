-- open.
use Rattle.std.specs.Prelude.{◌≡◌, ℕ, Some, None, Ok, Err, Option, Result}
use Rattle.fault.specs.declared.cause.Cause.TheVariants.{OutOfTurn}
use Rattle.fault.specs.declared.faults.PartFault.{PartFault}
use Rattle.part.specs.Meaning.{Meaning}
use Rattle.book.specs.Pairs.{Pair}
use Rattle.book.specs.Finding.{Opened}
use Rattle.fault.specs.declared.faults.ConsoleFault.{ConsoleFault}
use Rattle.console.specs.declared.answers.Said.TheVariants.{Done}
use Rattle.console.specs.declared.answers.Answer.{Answer}
use Rattle.console.specs.Desks.{Desk, closed, opened, moved}
use Rattle.console.specs.Faults.{no_place, reported, Refuses}

-- the books that were taken, if open was accepted
abbrev pub desk_after : Meaning → Result Pair PartFault → Desk
desk_after n (Ok b) = opened n b
desk_after n (Err f) = closed n

pub record OpensClosed (m : Meaning) (a b : ℕ) (r : Result Answer ConsoleFault) (e : Desk) : Type 0 where
  pub taken : Result Pair PartFault
  pub part : Meaning
  pub opens : Opened m a b taken part
  pub says : r ≡ reported 0 (λ _. record { said = Done; us = moved m part }) taken
  pub leaves : e ≡ desk_after part taken

abbrev pub OpensOn : Option Pair → Desk → ℕ → ℕ → Result Answer ConsoleFault → Desk → Type 0
OpensOn (Some x) d a b r e = Refuses d (no_place OutOfTurn 0) r e
OpensOn None d a b r e = OpensClosed d.part a b r e

-- open takes two blocks for books. A refused open leaves the console closed.
unfoldable pub Opens : Desk → ℕ → ℕ → Result Answer ConsoleFault → Desk → Type 0
Opens d a b r e = OpensOn d.books d a b r e
