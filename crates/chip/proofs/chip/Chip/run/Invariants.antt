use Rattle.std.proofs.Common.{◌≡◌}
use Rattle.chip.specs.Flash.{view}
use Rattle.chip.specs.Times.{steps}
use Rattle.chip.proofs.chip.Chip.run.Given as goal

abbrev pub invariant-loop-left : goal.invariant-loop-left
invariant-loop-left l = steps l.initial.rest (view l.initial.self) ≡ steps l.rest (view l.self)

abbrev pub decreases-loop-left : goal.decreases-loop-left
decreases-loop-left l = l.rest
