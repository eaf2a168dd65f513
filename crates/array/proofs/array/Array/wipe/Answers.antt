use Rattle.std.proofs.Common.{◌≡◌, ℕ, ◌+◌, ◌*◌, ◌<◌, cond, ◌&&◌, ltb, leb, List, length, get_or, replicate, vec_items, sym, ap, ◌∙◌, arith}
use Rattle.std.proofs.lemmas.List.{with_items_is, length-replicate, get_or-replicate}
use Rattle.geometry.specs.Blocks.{start_of, wiped}
use Rattle.geometry.proofs.Equal.{start_equal}
use Rattle.geometry.proofs.Wiping.{wiped_by_stretch}
use Rattle.part.specs.Meaning.{with_cells}
use Rattle.array.specs.Means.{means}
use Rattle.array.proofs.array.Array.wipe.Goals as goal

pub returns : goal.returns
returns c =
    let s = c.args.self.now in
    let v = s.cells in
    let b = c.args.block in
    let sizes = replicate s.layout.count s.layout.width in
    let new = c.fill.new.cells in
    let l : b < s.layout.count = c.requires in
    let at : start_of sizes b ≡ b * s.layout.width = start_equal s.layout.count s.layout.width b (omega arith) in
    let wide : get_or sizes b 0 ≡ s.layout.width = get_or-replicate s.layout.count b s.layout.width 0 l in
    let len : length new ≡ length (vec_items v) = c.fill.auto.cells ∙ ap length c.as_mut_slice.ensures.value in
    let set : (k : ℕ) → k < length (vec_items v) → get_or new k 0 ≡ cond (leb (start_of sizes b) k && ltb k (start_of sizes b + get_or sizes b 0)) 0xFF (get_or (vec_items v) k 0) =
    λ k h. rw (at, wide) (rw (c.as_mut_slice.ensures.value, c.block.ensures) at (c.fill.ensures k (omega (arith, ap length c.as_mut_slice.ensures.value)))) in
    let e : new ≡ wiped sizes b 0xFF (vec_items v) = wiped_by_stretch sizes b 0xFF (vec_items v) new (omega (arith, length-replicate s.layout.count s.layout.width)) len set in
    ap (λ (cells : List ℕ). with_cells (means s) cells) (with_items_is v new (len ∙ sym v.ok.0) ∙ e)
