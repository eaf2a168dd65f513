use Rattle.std.proofs.Common.{◌≡◌, ◌+◌, ◌-◌, ◌≤◌, length}
use Rattle.script.specs.Scripts.{view, lines_read, lines_of, script_of}
use Rattle.script.proofs.draft.read.Given as goal

abbrev pub invariant-loop-draft : goal.invariant-loop-draft
invariant-loop-draft l =
    record {
      within : length l.rest ≤ length l.text;
      few : l.number + length l.rest ≤ length l.text + 1;
      rest : lines_read l.number (length l.text - length l.rest) (view l.draft) (lines_of l.rest) ≡ script_of l.text;
    }

abbrev pub decreases-loop-draft : goal.decreases-loop-draft
decreases-loop-draft l = length l.rest
