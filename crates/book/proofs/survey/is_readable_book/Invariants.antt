use Rattle.std.proofs.Common.{◌≡◌, true}
use Rattle.book.specs.Pages.{readable_pages}
use Rattle.book.proofs.survey.is_readable_book.Given as goal

abbrev pub invariant-loop-p : goal.invariant-loop-p
invariant-loop-p g l =
    (g.P.Part.means l.part ≡ g.P.Part.means l.initial.part)
    × (readable_pages (g.P.Part.means l.part).cells l.start l.p ≡ true)
