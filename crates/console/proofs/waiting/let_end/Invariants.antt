use Rattle.std.proofs.Common.{◌≡◌}
use Rattle.console.specs.Waiting.{let_end, ends_worn}
use Rattle.console.proofs.Ending.{RunsOn, time_left}
use Rattle.console.proofs.waiting.let_end.Given as goal

abbrev pub invariant-loop-ended : goal.invariant-loop-ended
invariant-loop-ended g l =
    RunsOn (g.P.Part.means l.part)
    × (let_end (g.P.Part.means l.part) ≡ let_end (g.P.Part.means l.initial.part))
    × (ends_worn (g.P.Part.means l.part) ≡ ends_worn (g.P.Part.means l.initial.part))

abbrev pub decreases-loop-ended : goal.decreases-loop-ended
decreases-loop-ended g l = time_left (g.P.Part.means l.part).erasure
