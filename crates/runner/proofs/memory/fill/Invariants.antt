use Rattle.std.proofs.Common.{◌≡◌, length}
use Rattle.runner.specs.Memory.{filled}
use Rattle.runner.proofs.memory.fill.Given as goal

abbrev pub invariant-loop-byte : goal.invariant-loop-byte
invariant-loop-byte l = filled l.size l.line l.start l.bytes l.initial.memory.items ≡ filled l.size l.line l.address l.rest l.memory.items

abbrev pub decreases-loop-byte : goal.decreases-loop-byte
decreases-loop-byte l = length l.rest
