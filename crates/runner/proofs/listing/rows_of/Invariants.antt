use Rattle.std.proofs.Common.{◌≡◌, length}
use Rattle.runner.specs.Listing.{rows_of}
use Rattle.runner.proofs.Listed.{ahead}
use Rattle.runner.proofs.listing.rows_of.Given as goal

abbrev pub invariant-loop-step : goal.invariant-loop-step
invariant-loop-step l = rows_of l.steps ≡ ahead l.rows.items l.rest

abbrev pub decreases-loop-step : goal.decreases-loop-step
decreases-loop-step l = length l.rest
