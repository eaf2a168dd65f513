use Rattle.std.proofs.Common.{◌≡◌, Some, ap, rules}
use Rattle.std.specs.Fmt.{styled_digits_output}
use Rattle.script.specs.Answers.{sixteen}
use Rattle.script.proofs.Printing.{sixteen_is}
use Rattle.script.proofs.answers.SaidTextDisplay.fmt.Goals as goal

pub returns-in-Shows-Some-clause-writes : goal.returns-in-Shows-Some-clause-writes
returns-in-Shows-Some-clause-writes g c =
    let text : styled_digits_output c.in_radix.result c.laid_out.result ≡ Some (sixteen c.in-Shows-Some.stops) = rw (c.in_radix.ensures, c.laid_out.ensures) (ap Some (sixteen_is c.in-Shows-Some.stops)) in
    let w = rw text at c.write.ensures.writes in
    search rules
