-- A chip on memory that begins with some cells.
use Rattle.std.proofs.Common.{◌≡◌, ℕ, ◌≤◌, true, List, ◌++◌, length, drop, refl, ap, ◌∙◌, arith}
use Rattle.std.specs.Prelude.{replicate}
use Rattle.std.proofs.lemmas.List.{length-replicate}
use Rattle.geometry.specs.Plans.{plan_of}
use Rattle.chip.specs.declared.setup.Setup.{Setup}
use Rattle.chip.specs.Setups as chips
use Rattle.chip.specs.Flash.{Flash}
use Rattle.chip.specs.Making as making
use Rattle.chip.specs.Resets.{after_reset}
use Rattle.driver.specs.Rig.{meaning}
use Rattle.part.specs.Meaning.{Meaning, size}
use Rattle.tc58.specs.Rigs.{rig_of}
use Rattle.pile.specs.declared.kind.Kind.{Kind}
use Rattle.pile.specs.declared.kind.Kind.TheVariants.{Chip}
use Rattle.pile.specs.Pieces.{fits, piece_of, begun_with}
use Rattle.pile.proofs.Sharing.{filled_length}

-- what a chip's numbers and its memory, of the geometry's size, make
made_on : (s : Setup) (items : List ℕ) → chips.fit s (length items) ≡ true → making.made s items ≡ making.fresh s items
unfolding making.made
made_on s items fit = rw fit refl

-- A reset leaves a fresh chip as it is.
still_fresh : (s : Setup) (items : List ℕ) → after_reset (making.fresh s items) ≡ making.fresh s items
unfolding after_reset
still_fresh s items = refl

pub chip_built : (s : Setup) (k : Kind) (cells items : List ℕ) (m : Meaning) (f : Flash) (bytes : ℕ) → k ≡ Chip s → fits k ≡ true → length cells ≤ size (piece_of k) → bytes ≡ (plan_of s.kind).size
    → items ≡ cells ++ drop (length cells) (replicate bytes 0xFF) → m ≡ meaning (rig_of (after_reset f)) → f ≡ making.made s items → m ≡ begun_with cells (piece_of k)
chip_built s k cells items m f bytes is fit few b filled driven on =
    let n : ℕ = (plan_of s.kind).size in
    let room : length cells ≤ length (replicate n 0xFF) = rw is at few in
    let fit_n : chips.fit s n ≡ true = rw is at fit in
    let memory : List ℕ = cells ++ drop (length cells) (replicate n 0xFF) in
    let all : items ≡ memory = rw b at filled in
    let whole : length memory ≡ n = filled_length cells n (omega (arith, room, length-replicate {A = ℕ} n 0xFF)) in
    let fit_memory : chips.fit s (length memory) ≡ true = ap (λ (len : ℕ). chips.fit s len) whole ∙ fit_n in
    let fresh : f ≡ making.fresh s memory = on ∙ ap (making.made s) all ∙ made_on s memory fit_memory in
    let reset : after_reset f ≡ making.fresh s memory = ap after_reset fresh ∙ still_fresh s memory in
    let same : meaning (rig_of (making.fresh s memory)) ≡ begun_with cells (piece_of (Chip s)) = refl in
    rw is (driven ∙ ap (λ (g : Flash). meaning (rig_of g)) reset ∙ same)
