use Rattle.std.proofs.Common.{Ok}
use Rattle.book.specs.Burning.{Ran, bytes_burnt}
use Rattle.book.proofs.page.PageAt.burn_line.Given as goal

abbrev pub invariant-loop-i : goal.invariant-loop-i
invariant-loop-i g l = Ran (g.P.Part.means l.initial.part) (bytes_burnt l.at l.stops l.i) (Ok tt) (g.P.Part.means l.part)
