use Rattle.std.proofs.Common.{ℕ, sym, ◌∙◌, subst}
use Rattle.driver.specs.Cycles.{Shows}
use Rattle.driver.specs.Steps.{Mends}
use Rattle.driver.proofs.Changing.{shown}
use Rattle.driver.proofs.Looking.{found_start, looks}
use Rattle.driver.proofs.erase.look.Goals as goal

pub returns : goal.returns
returns g c =
    let rig = g.B.Bus.rig in
    let r = rig c.args.bus.now in
    let m = rig c.read.new.self in
    let s = rig c.mend.new.bus in
    let sound = g.met.B.Bus.sound c.args.bus.now in
    let at = found_start r c.args.block c.in-Some.place (sym c.block.ensures ∙ c.in-Some.is) in
    looks r m s c.args.block c.unwrap.result c.judge-verdict.result (λ l. (sound.addressed c.args.block l).start)
    (subst (λ (a : ℕ). Shows r a c.unwrap.result m) at (shown r m c.in-Some.place.start c.unwrap.result c.read.result c.read.ensures c.unwrap.ensures))
    c.judge-verdict.ensures
    (subst (λ (a : ℕ). Mends m a c.judge-verdict.result s) at c.mend.ensures)
