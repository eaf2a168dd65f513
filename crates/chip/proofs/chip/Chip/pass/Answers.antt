use Rattle.std.proofs.Common.{◌≡◌, true, leb, sym, ◌∙◌}
use Rattle.fault.proofs.Granted.{granted}
use Rattle.chip.specs.Flash.{view}
use Rattle.fault.specs.Limits.{longest}
use Rattle.chip.specs.Times.{after}
use Rattle.chip.proofs.Passing.{counted}
use Rattle.chip.proofs.chip.Chip.pass.Goals as goal

pub returns-clause-chip : goal.returns-clause-chip
unfolding after
returns-clause-chip c =
    let n = c.args.n in
    let short : leb n longest ≡ true = granted (leb n longest) _ _ _ (sym c.short_enough.ensures ∙ c.in_ok-short_enough.was) in
    rw short (c.count.ensures ∙ counted n (view c.args.self.now) (view c.run.new.self) c.args.self.now.counted c.run.ensures)
