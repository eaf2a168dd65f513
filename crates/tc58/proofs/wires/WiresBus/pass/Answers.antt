use Rattle.chip.specs.Flash.{view}
use Rattle.chip.proofs.PassLaws.{all_sound}
use Rattle.tc58.proofs.Passing.{passes_is}
use Rattle.tc58.proofs.wires.WiresBus.pass.Goals as goal

pub returns : goal.returns
returns c =
    passes_is (view c.args.self.now.chip) (view c.pass.new.self) c.args.n c.pass.result (all_sound c.args.self.now.chip) c.pass.ensures.answer
    c.pass.ensures.chip
