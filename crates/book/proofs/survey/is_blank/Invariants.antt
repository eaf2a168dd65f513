use Rattle.std.proofs.Common.{◌≡◌, true}
use Rattle.book.specs.Pages.{blank}
use Rattle.book.proofs.survey.is_blank.Given as goal

abbrev pub invariant-loop-i : goal.invariant-loop-i
invariant-loop-i g l =
    (g.P.Part.means l.part ≡ g.P.Part.means l.initial.part) × (blank (g.P.Part.means l.initial.part).cells l.from l.i ≡ true)
