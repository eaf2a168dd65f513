use Rattle.std.proofs.Common.{◌≡◌, ◌-◌, length}
use Rattle.runner.specs.Memory.{lengthened}
use Rattle.runner.proofs.memory.lengthen.Given as goal

abbrev pub invariant-loop-memory : goal.invariant-loop-memory
invariant-loop-memory l = lengthened l.size l.memory.items ≡ lengthened l.size l.initial.memory.items

abbrev pub decreases-loop-memory : goal.decreases-loop-memory
decreases-loop-memory l = l.size - length l.memory.items
