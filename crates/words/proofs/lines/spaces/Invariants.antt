use Rattle.std.proofs.Common.{◌≡◌, drop}
use Rattle.words.specs.Lines.{words_of}
use Rattle.words.proofs.lines.spaces.Given as goal

abbrev pub invariant-loop-i : goal.invariant-loop-i
invariant-loop-i l = words_of (drop l.i l.line) ≡ words_of l.line
