use Rattle.std.proofs.Common.{◌≡◌, ◌++◌, length}
use Rattle.words.specs.Lines.{words_of, spaced}
use Rattle.words.proofs.Cutting.{spread}
use Rattle.words.proofs.lines.push_words.Given as goal

abbrev pub invariant-loop-word : goal.invariant-loop-word
invariant-loop-word l = l.out.items ++ spread (words_of l.rest) ≡ l.fn.out.items ++ spaced (words_of l.line)

abbrev pub decreases-loop-word : goal.decreases-loop-word
decreases-loop-word l = length l.rest
