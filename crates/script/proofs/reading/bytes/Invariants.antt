use Rattle.std.proofs.Common.{◌≡◌, length}
use Rattle.words.specs.Lines.{words_of}
use Rattle.script.specs.Sayings.{all_bytes, bytes_at}
use Rattle.script.proofs.Bytes.{blame}
use Rattle.script.proofs.reading.bytes.Given as goal

abbrev pub invariant-loop-word : goal.invariant-loop-word
invariant-loop-word l = blame (bytes_at (words_of l.line)) ≡ blame (all_bytes (words_of l.rest))

abbrev pub decreases-loop-word : goal.decreases-loop-word
decreases-loop-word l = length l.rest
