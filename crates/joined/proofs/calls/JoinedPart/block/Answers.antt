use Rattle.std.proofs.Common.{◌≡◌, ◌+◌, ◌<◌, true, Option, subst, rules}
use Rattle.geometry.specs.declared.block.Block.{Block}
use Rattle.joined.specs.Pile.{LaterRoom}
use Rattle.joined.proofs.Whole.{sound}
use Rattle.joined.proofs.Aiming.{block_room, block_second}
use Rattle.joined.proofs.calls.JoinedPart.block.Goals as goal

pub map-requires : goal.map-requires
map-requires g c =
    let s = c.args.self.now in
    let t : s.live ≡ true = search rules in
    let v = sound (g.met.P.Part.lawful s.first.part) (g.met.Q.Part.lawful s.second.part) s.fit in
    let first = c.in_ok-first.first in
    λ x e.
    let room : first.size + x.start < 4294967296 =
    subst (λ (o : Option Block). LaterRoom o first.size) e (block_room v _ first c.block-else-number-first.result t (search rules) c.block-else-number-first.ensures) in
    search rules

pub returns-else-number-first : goal.returns-else-number-first
returns-else-number-first g c =
    let s = c.args.self.now in
    let t : s.live ≡ true = search rules in
    let v = sound (g.met.P.Part.lawful s.first.part) (g.met.Q.Part.lawful s.second.part) s.fit in
    block_second v c.args.number c.in_ok-first.first c.block-else-number-first.result c.map.result t (search rules) c.if-number-first.false
    c.block-else-number-first.ensures (search rules)
