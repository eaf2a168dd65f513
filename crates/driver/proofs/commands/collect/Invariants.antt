use Rattle.std.proofs.Common.{◌≡◌, ℕ, ◌&&◌, ltb, None}
use Rattle.geometry.specs.Sets.{has}
use Rattle.part.specs.Meaning.{guarded}
use Rattle.driver.specs.Rig.{resting, start, does, meaning}
use Rattle.driver.proofs.commands.collect.Given as goal

-- the guarded blocks that have been asked
abbrev pub invariant-loop-block : goal.invariant-loop-block
invariant-loop-block g l =
    let r = g.B.Bus.rig l.initial.bus in
    let s = g.B.Bus.rig l.bus in
    (s ≡ does r s.doing)
    × (r.doing ≡ resting None start → ((b : ℕ) → has l.guards b ≡ (ltb b l.block && guarded (meaning r) b)) × (s ≡ r))
