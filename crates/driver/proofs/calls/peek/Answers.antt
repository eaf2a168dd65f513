use Rattle.std.proofs.Common.{true, false, sym, ◌∙◌}
use Rattle.driver.proofs.Reading.{peeked}
use Rattle.driver.proofs.calls.peek.Goals as goal

pub returns-then-hides-clause-call : goal.returns-then-hides-clause-call
returns-then-hides-clause-call g c t =
    peeked (g.B.Bus.rig c.args.bus.now) (g.B.Bus.rig c.read.new.self) c.args.notes.now c.args.address c.in_ok-seen.seen c.block_at.result c.read.result
    (g.met.B.Bus.sound c.args.bus.now) t c.read.ensures c.in_ok-seen.was c.block_at.ensures true (sym c.hides.ensures ∙ c.if-hides.true)

pub returns-clause-call : goal.returns-clause-call
returns-clause-call g c t =
    peeked (g.B.Bus.rig c.args.bus.now) (g.B.Bus.rig c.read.new.self) c.args.notes.now c.args.address c.in_ok-seen.seen c.block_at.result c.read.result
    (g.met.B.Bus.sound c.args.bus.now) t c.read.ensures c.in_ok-seen.was c.block_at.ensures false (sym c.hides.ensures ∙ c.if-hides.false)
