use Rattle.std.proofs.Common.{sym}
use Rattle.std.proofs.lemmas.List.{set_past}
use Rattle.flash.proofs.program.burn.Goals as goal

pub returns-else-place-cells : goal.returns-else-place-cells
returns-else-place-cells c = sym (set_past c.args.cells.now c.args.address _ c.if-place-cells.false)
