use Rattle.std.proofs.Common.{◌≡◌, ◌*◌, ◌^◌, ◌<◌, None}
use Rattle.book.specs.Pages.{spelled}
use Rattle.book.specs.Reading.{peeks_no, counted}
use Rattle.book.proofs.page.PageAt.line.Given as goal

abbrev pub invariant-loop-i : goal.invariant-loop-i
invariant-loop-i g l =
    (g.P.Part.means l.part ≡ g.P.Part.means l.initial.part)
    × (peeks_no (g.P.Part.means l.initial.part) l.at l.i ≡ None)
    × (l.stops ≡ spelled (g.P.Part.means l.initial.part).cells l.at l.i)
    × (l.stops < 2 ^ (8 * l.i))
    × (l.fetched.bytes ≡ counted l.initial.fetched.bytes l.i)
