use Rattle.std.proofs.Common.{◌≡◌, drop, map}
use Rattle.script.specs.Scripts.{patch}
use Rattle.runner.specs.Memory.{all_filled, memory_of}
use Rattle.runner.proofs.memory.memory_of.Given as goal

abbrev pub invariant-loop-patch : goal.invariant-loop-patch
invariant-loop-patch l = memory_of l.who l.size (map patch l.patches) ≡ all_filled l.who l.size (map patch (drop l.patch-index l.patches)) l.memory.items
