use Rattle.driver.proofs.Changing.{heeded, same_more, same_cycle}
use Rattle.driver.proofs.Polling.{polled, if_busy, if_done, if_failed}
use Rattle.driver.proofs.program.finish.Goals as goal

pub returns-in-Done : goal.returns-in-Done
returns-in-Done g c =
    let rig = g.B.Bus.rig in
    let r = rig c.args.bus.now in
    let s = rig c.poll.new.bus in
    let p = polled r c.args.address c.args.byte c.ranges.byte.fits (g.met.B.Bus.sound c.args.bus.now) c.loop-turn._turn (rig c.loop-turn.bus) c.loop-turn.invariant
    c.poll.result s c.poll.ensures in
    record { same = p.0; ended = λ k e. if_done (p.1 k e) c.in-Done.is }

pub returns-in-Failed : goal.returns-in-Failed
returns-in-Failed g c =
    let rig = g.B.Bus.rig in
    let r = rig c.args.bus.now in
    let s = rig c.poll.new.bus in
    let m = rig c.write.new.self in
    let w = heeded s m c.args.address 0xF0 c.write.result c.unwrap.result c.write.ensures c.unwrap.ensures in
    let p = polled r c.args.address c.args.byte c.ranges.byte.fits (g.met.B.Bus.sound c.args.bus.now) c.loop-turn._turn (rig c.loop-turn.bus) c.loop-turn.invariant
    c.poll.result s c.poll.ensures in
    record { same = same_more r s m p.0 (same_cycle s m w.only); ended = λ k e. if_failed (p.1 k e) c.in-Failed.is m w }

pub loop-turn-preserved : goal.loop-turn-preserved
loop-turn-preserved g c =
    let rig = g.B.Bus.rig in
    let r = rig c.args.bus.now in
    let s = rig c.poll.new.bus in
    let p = polled r c.args.address c.args.byte c.ranges.byte.fits (g.met.B.Bus.sound c.args.bus.now) c.loop-turn._turn (rig c.loop-turn.bus) c.loop-turn.invariant
    c.poll.result s c.poll.ensures in
    (p.0, λ k e. if_busy (p.1 k e) c.in-Busy.is)
