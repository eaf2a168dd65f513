use Rattle.script.proofs.Again.{stops_again}
use Rattle.script.proofs.reading.parse.Goals as goal

pub returns-then-is_printable-clause-stops : goal.returns-then-is_printable-clause-stops
returns-then-is_printable-clause-stops c = stops_again

pub returns-else-is_printable-clause-stops : goal.returns-else-is_printable-clause-stops
returns-else-is_printable-clause-stops c = stops_again
