use Rattle.std.proofs.Common.{ℕ, ap, ◌∙◌}
use Rattle.geometry.specs.Blocks.{block_of}
use Rattle.geometry.specs.Sets.{has}
use Rattle.part.specs.Standings.{barred, burn_why}
use Rattle.driver.specs.Rig.{Rig}
use Rattle.driver.proofs.Changing.{granted_read, same_cycle, only_read}
use Rattle.driver.proofs.Reading.{read_tied}
use Rattle.driver.proofs.Burning.{may_burn}
use Rattle.driver.proofs.calls.may_burn.Goals as goal

pub returns-clause-call : goal.returns-clause-call
returns-clause-call g c t =
    let r = g.B.Bus.rig c.args.bus.now in
    let k = g.B.Bus.rig c.read.new.self in
    let n = c.args.notes.now in
    let a = c.args.address in
    let byte = c.args.byte in
    let old = c.in_ok-old.old in
    let q = granted_read r k a old c.read.result c.read.ensures c.in_ok-old.was in
    let block = c.block_at.ensures ∙ ap (λ (x : Rig). block_of x.sheet.sizes a) (same_cycle r k (only_read r k a old q.1)) in
    let why = c.burn_why.ensures ∙ ap (λ (b : ℕ). burn_why (barred n.standing b) (has n.guards b) old byte) block in
    may_burn r k n a old byte (g.met.B.Bus.sound c.args.bus.now) t q.0 q.1 c.burn_why.result why c.granted.result c.granted.ensures

pub returns-clause-tied : goal.returns-clause-tied
returns-clause-tied g c t =
    let r = g.B.Bus.rig c.args.bus.now in
    let k = g.B.Bus.rig c.read.new.self in
    let q = granted_read r k c.args.address c.in_ok-old.old c.read.result c.read.ensures c.in_ok-old.was in
    read_tied r k c.args.notes.now c.args.address c.in_ok-old.old t q.1
