use Rattle.chip.specs.Flash.{view}
use Rattle.pile.proofs.Building.{chip_built}
use Rattle.pile.proofs.kind.Kind.build.Goals as goal

pub returns-in_ok-memory-in-Chip : goal.returns-in_ok-memory-in-Chip
returns-in_ok-memory-in-Chip c =
    chip_built c.in-Chip.setup c.args.self.now c.args.cells.now c.in_ok-memory-in-Chip.memory.items _ (view c.new.result) c.size.result c.in-Chip.is c.requires.fits c.requires.few c.size.ensures
    c.in_ok-memory-in-Chip.ensures c.driven.ensures.part c.new.ensures.chip
