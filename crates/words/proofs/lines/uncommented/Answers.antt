use Rattle.words.proofs.Cutting.{comments_skipped}
use Rattle.words.proofs.lines.uncommented.Goals as goal

pub returns-clause-law : goal.returns-clause-law
returns-clause-law c = comments_skipped
