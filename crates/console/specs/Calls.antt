-- One relation for the calls that a list may have.
use Rattle.std.specs.Prelude.{Some, None, Result}
use Rattle.fault.specs.declared.faults.ConsoleFault.{ConsoleFault}
use Rattle.console.specs.declared.answers.Answer.{Answer}
use Rattle.console.specs.declared.call.Call.{Call}
use Rattle.console.specs.declared.call.Call.TheVariants.{Set, Clear, Recall, Next, Wait}
use Rattle.console.specs.Desks.{Desk}
use Rattle.console.specs.Waiting.{Waits}
use Rattle.console.specs.Storing.{Stores}
use Rattle.console.specs.Looking.{Recalls, Nexts}

-- A call on a console, its answer, and the console afterwards.
abbrev pub Replies : Desk → Call → Result Answer ConsoleFault → Desk → Type 0
Replies d (Set position stops) r e = Stores d position (Some stops) r e
Replies d (Clear position) r e = Stores d position None r e
Replies d (Recall position) r e = Recalls d position r e
Replies d (Next position) r e = Nexts d position r e
Replies d (Wait us) r e = Waits d us r e
