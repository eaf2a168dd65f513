use Rattle.examples.proofs.OnBenchChip.{as_told}
use Rattle.examples.proofs.books.played.Goals as goal

pub returns : goal.returns
returns c = as_told _ _ _ _ _ c.into_part.ensures c.in_ok-console.ensures.came.1
