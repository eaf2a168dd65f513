use Rattle.std.proofs.lemmas.Nat.{ones-le}
use Rattle.geometry.proofs.set.ones.Goals as goal

pub returns-clause-bound : goal.returns-clause-bound
returns-clause-bound c = ones-le 128 c.args.mask c.ranges.mask.fits
