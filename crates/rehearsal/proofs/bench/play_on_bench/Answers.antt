use Rattle.rehearsal.proofs.OnChip.{came}
use Rattle.rehearsal.proofs.bench.play_on_bench.Goals as goal

pub returns-clause-came : goal.returns-clause-came
returns-clause-came c =
    let made = c.in_ok-console.ensures in
    (made.0, came _ _ _ _ _ _ made.1 c.play-opening.ensures.account)
