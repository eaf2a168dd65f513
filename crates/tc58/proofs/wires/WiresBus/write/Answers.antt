use Rattle.chip.specs.Flash.{view}
use Rattle.tc58.proofs.Writing.{writes_is}
use Rattle.tc58.proofs.wires.WiresBus.write.Goals as goal

pub returns : goal.returns
returns c = writes_is (view c.args.self.now.chip) (view c.write.new.self) c.args.address c.args.byte c.write.result c.write.ensures.answer c.write.ensures.chip
