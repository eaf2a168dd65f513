use Rattle.std.proofs.Common.{◌≡◌, ◌-◌, ◌≤◌, None, Ok}
use Rattle.book.specs.Reading.{counted}
use Rattle.console.specs.Looking.{searched, searched_bytes}
use Rattle.console.proofs.looking.search.Given as goal

abbrev pub invariant-loop-q : goal.invariant-loop-q
invariant-loop-q g l =
    (g.P.Part.means l.part ≡ g.P.Part.means l.initial.part)
    × (searched (g.P.Part.means l.part) l.after.books.current.start l.after.position (l.q - l.after.position) ≡ Ok None)
    × (l.q - l.after.position ≤ l.after.books.positions - l.after.position)
    × (l.fetched.bytes
    ≡ counted l.initial.fetched.bytes
    (searched_bytes (g.P.Part.means l.part) l.after.books.current.start l.after.position (l.q - l.after.position)))
