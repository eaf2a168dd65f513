use Rattle.std.proofs.Common.{◌≡◌, length}
use Rattle.words.specs.Lines.{words_of}
use Rattle.script.specs.Sayings.{bytes_in}
use Rattle.runner.proofs.Filling.{reads}
use Rattle.runner.proofs.memory.bytes_of.Given as goal

abbrev pub invariant-loop-word : goal.invariant-loop-word
invariant-loop-word l = bytes_in l.text ≡ reads l.bytes.items (words_of l.rest)

abbrev pub decreases-loop-word : goal.decreases-loop-word
decreases-loop-word l = length l.rest
