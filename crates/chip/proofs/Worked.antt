-- The worked examples, by computing.
use Rattle.std.proofs.Common.{refl}
use lib.Count.{ones}
use Rattle.geometry.specs.Blocks.{filled}
use Rattle.chip.specs.Making.{made}
use Rattle.chip.specs.Writes.{written}
use Rattle.chip.specs.Reads.{answered, seen}
use Rattle.chip.specs.Times.{passed, after}
use Rattle.chip.specs.Examples.{WorkedExamples, IdentityExamples}

pub worked_examples : WorkedExamples
unfolding filled made written answered seen passed after ones
worked_examples = (refl, (refl, (refl, (refl, (refl, (refl, tt))))))

pub identity_examples : IdentityExamples
unfolding written answered seen
identity_examples = (refl, (refl, (refl, tt)))
