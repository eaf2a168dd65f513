use Rattle.std.proofs.Common.{subst, sym, ℕ, ◌<◌, length}
use Rattle.std.proofs.lemmas.Bool.{ltb-true}
use Rattle.geometry.proofs.Placing.{block_within}
use Rattle.driver.proofs.program.program.Goals as goal

pub command-requires : goal.command-requires
command-requires g c =
    let sizes = (g.B.Bus.rig c.args.bus.now).sheet.sizes in
    subst (λ (b : ℕ). b < length sizes) (sym c.block_at-block.ensures) (block_within sizes c.args.address (ltb-true _ _ c.requires))
