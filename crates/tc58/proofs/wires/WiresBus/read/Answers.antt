use Rattle.chip.specs.Flash.{view}
use Rattle.tc58.proofs.Reading.{reads_is}
use Rattle.tc58.proofs.wires.WiresBus.read.Goals as goal

pub returns : goal.returns
returns c = reads_is (view c.args.self.now.chip) (view c.read.new.self) c.args.address c.read.result c.read.ensures.answer c.read.ensures.chip
