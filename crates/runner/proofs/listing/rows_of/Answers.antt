use Rattle.std.proofs.Common.{◌≡◌, List, Option, Some, Ok, [], ap, ◌∙◌}
use Rattle.std.proofs.lemmas.List.{nil_from_length}
use Rattle.rehearsal.specs.declared.row.Row.{Row}
use Rattle.script.specs.declared.script.Step.{Step}
use Rattle.runner.specs.Listing.{rows_of}
use Rattle.runner.proofs.Listed.{ahead, all_rows}
use Rattle.runner.proofs.listing.rows_of.Goals as goal

pub returns : goal.returns
returns c =
    let end : c.loop-step.rest.now ≡ [] = nil_from_length c.loop-step.rest.now c.in_default.ensures.cases in
    let whole : rows_of c.args.steps.now ≡ Some c.loop-step.rows.items = c.loop-step.invariant ∙ ap (λ (left : List Step). ahead c.loop-step.rows.items left) end ∙ all_rows c.loop-step.rows.items in
    ap (λ (o : Option (List Row)). Ok o) whole
