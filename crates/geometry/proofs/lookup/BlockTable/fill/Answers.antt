use Rattle.std.proofs.Common.{◌≡◌, ◌<◌, length, get_or, sym, refl, ◌∙◌, arith}
use Rattle.std.proofs.lemmas.List.{ext_get_or}
use Rattle.geometry.specs.declared.block.Block.{Block}
use Rattle.geometry.specs.TableSizes.{sizes}
use Rattle.geometry.proofs.Placing.{table_long, row_block}
use Rattle.geometry.proofs.Filling.{filled_none, filled_skip, filled_more, filled_at, length_filled}
use Rattle.geometry.proofs.lookup.BlockTable.fill.Goals as goal
use Rattle.geometry.proofs.lookup.BlockTable.fill.Goals.{then-contains, else-contains}

pub loop-number-init : goal.loop-number-init
loop-number-init c k h =
    filled_none (sizes c.args.self.now) c.args.set c.args.byte k (get_or c.args.cells.now k 0)

pub loop-number-preserved : goal.loop-number-preserved
loop-number-preserved c k h =
    let table = c.args.self.now in
    let blocks = table.blocks.now in
    let b = c.loop-number.number in
    let l : b < length blocks = omega (arith, c.loop-number-test.true) in
    let m : b < length (sizes table) = omega (arith, table_long blocks (sizes table) refl) in
    elim c.if-contains.branch [
      | then-contains w ↦
          let none : Block = record { start = 0; size = 0 } in
          let own = row_block blocks b none table.unbroken l in
          let set = rw (own.0, own.1) at (w.fill.ensures k (omega arith)) in
          rw w.cells-is
          (filled_more (sizes table) c.args.set c.args.byte b k _ _ _ m (sym w.if-contains.ensures) (c.loop-number.invariant k h) set)
      | else-contains w ↦
          rw w.cells-is
          (filled_skip (sizes table) c.args.set c.args.byte b k _ _ (sym w.if-contains.ensures) (c.loop-number.invariant k h))
    ]

pub returns : goal.returns
returns c =
    let table = c.args.self.now in
    let e : c.loop-number.number ≡ length (sizes table) =
    omega (arith, c.loop-number-test.false, c.loop-number.auto.number-end, table_long table.blocks.now (sizes table) refl) in
    ext_get_or 0 _ _ (omega (arith, length_filled (sizes table) c.args.set c.args.byte c.args.cells.now))
    (λ k h.
    let i = rw e at (c.loop-number.invariant k (omega arith)) in
    i ∙ sym (filled_at (sizes table) c.args.set c.args.byte c.args.cells.now k (omega arith)))
