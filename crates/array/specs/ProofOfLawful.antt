-- Proof text: that every array is lawful, which the trait `Part` asks of it.
use Rattle.std.specs.Prelude.{◌≡◌, true, false, length, replicate}
use Rattle.std.proofs.Common.{sym, ◌∙◌, arith, lit≤}
use Rattle.std.proofs.lemmas.Bool.{ltb-true}
use Rattle.std.proofs.lemmas.Nat.{mul-le}
use Rattle.std.proofs.lemmas.List.{length-replicate}
use Rattle.geometry.proofs.Equal.{total_equal}
use Rattle.part.specs.declared.answers.Standing.{Standing}
use Rattle.part.specs.declared.answers.Standing.TheVariants.{Idle, Running, Suspended}
use Rattle.part.specs.Meaning.{Lawful, ErasureLawful}
use Rattle.array.specs.declared.array.Array.{Array}
use Rattle.array.specs.Limits.{most_blocks, most_width, in_blocks}
use Rattle.array.specs.Means.{erasure_of, means}

pub lawful : (s : Array) → Lawful (means s)
lawful s = record {
  whole = total_equal s.layout.count s.layout.width ∙ sym s.whole ∙ s.cells.ok.0;
  small = omega (arith, s.cells.ok.0, s.whole, mul-le s.layout.count s.layout.width most_blocks most_width s.few s.most);
  few = omega (arith, length-replicate s.layout.count s.layout.width, s.few);
  guards = length-replicate s.layout.count false ∙ sym (length-replicate s.layout.count s.layout.width);
  wears = length-replicate s.layout.count false ∙ sym (length-replicate s.layout.count s.layout.width);
  erasure = within s.standing s.within;
  clock = s.counted;
}
  where
    within : (t : Standing) → in_blocks t s.layout.count ≡ true → ErasureLawful (length (replicate s.layout.count s.layout.width)) (erasure_of t)
    within Idle h = tt
    within (Running b) h = (omega (arith, length-replicate s.layout.count s.layout.width, ltb-true b s.layout.count h), lit≤ tt)
    within (Suspended b) h = (omega (arith, length-replicate s.layout.count s.layout.width, ltb-true b s.layout.count h), lit≤ tt)
