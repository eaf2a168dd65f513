use Rattle.std.proofs.Common.{◌≡◌, ◌-◌, ◌≤◌}
use Rattle.part.specs.Calls.{passed, progress}
use Rattle.part.proofs.neighbour.let_pass.Given as goal

-- so far the time that is not left has passed
abbrev pub invariant-loop-rest : goal.invariant-loop-rest
invariant-loop-rest g l = record {
  most : l.rest ≤ l.fn.n;
  passed : g.P.Part.means l.part ≡ passed (g.P.Part.means l.fn.part) (l.fn.n - l.rest);
  found : l.found ≡ progress (g.P.Part.means l.fn.part) (l.fn.n - l.rest) (g.P.Part.means l.fn.part).erasure;
}

abbrev pub decreases-loop-rest : goal.decreases-loop-rest
decreases-loop-rest g l = l.rest
