use Rattle.std.proofs.Common.{◌-◌, Ok}
use Rattle.book.specs.Burning.{Ran, will_hold, pages_copied}
use Rattle.book.proofs.books.Books.copy.Given as goal

abbrev pub invariant-loop-q : goal.invariant-loop-q
invariant-loop-q g l =
    Ran (g.P.Part.means l.initial.part)
    (pages_copied (will_hold (g.P.Part.means l.initial.part) l.self.current.start l.position l.new) l.self.spare.start (l.q - 1))
    (Ok tt) (g.P.Part.means l.part)
