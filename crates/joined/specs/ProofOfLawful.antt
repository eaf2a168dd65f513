-- Proof text: that a joined part is lawful, which the trait `Part` asks of it.
use Rattle.std.specs.Prelude.{◌≡◌, ℕ, ◌+◌, ◌<◌, Bool, true, ◌++◌, List, [], ◌∷◌, length, Some, None, Option, refl}
use Rattle.std.proofs.Common.{leb, arith}
use Rattle.std.proofs.lemmas.List.{length-append}
use Rattle.std.proofs.lemmas.Bool.{leb-true, and_parts, cond_both}
use Rattle.geometry.specs.Blocks.{total}
use Rattle.part.specs.Meaning.{Erasure, Meaning, Lawful, ErasureLawful, size, count}
use Rattle.joined.specs.Pile.{most_bytes, most_blocks, raised, either, pile, no_part, fits, joined}

total_both : (ws us : List ℕ) → total (ws ++ us) ≡ total ws + total us
total_both [] us = omega arith
total_both (w ∷ ws) us = omega (arith, total_both ws us)

lawful_erasure : (j k : ℕ) (d e : Option Erasure) → ErasureLawful j d → ErasureLawful k e → ErasureLawful (j + k) (either d (raised j e))
lawful_erasure j k None None h i = tt
lawful_erasure j k None (Some e) h i = (omega (arith, i.0), i.1)
lawful_erasure j k (Some d) e h i = (omega (arith, h.0), h.1)

lawful_pile : (m n : Meaning) → Lawful m → Lawful n → fits m n ≡ true → Lawful (pile m n)
lawful_pile m n lm ln f =
    let cells : length (m.cells ++ n.cells) ≡ size m + size n = length-append m.cells n.cells in
    let sizes : length (m.sizes ++ n.sizes) ≡ count m + count n = length-append m.sizes n.sizes in
    let within : (leb (size m + size n) most_bytes ≡ true) × (leb (count m + count n) most_blocks ≡ true) = and_parts _ _ (and_parts _ _ f).0 in
    record {
      whole = omega (arith, total_both m.sizes n.sizes, lm.whole, ln.whole);
      small = omega (arith, leb-true (size m + size n) most_bytes within.0);
      few = omega (arith, leb-true (count m + count n) most_blocks within.1);
      guards = omega (arith, length-append m.guards n.guards, lm.guards, ln.guards);
      wears = omega (arith, length-append m.wears n.wears, lm.wears, ln.wears);
      erasure = rw sizes (lawful_erasure (count m) (count n) m.erasure n.erasure lm.erasure ln.erasure);
      clock = lm.clock;
    }

lawful_none : (c : ℕ) → c < 4294967296 → Lawful (no_part c)
lawful_none c h = record {
  whole = refl;
  small = omega arith;
  few = omega arith;
  guards = refl;
  wears = refl;
  erasure = tt;
  clock = h;
}

pub lawful_joined : (l : Bool) (m n : Meaning) → Lawful m → Lawful n → (l ≡ true → fits m n ≡ true) → Lawful (joined l m n)
lawful_joined l m n lm ln f =
    cond_both l (pile m n) (no_part m.clock) Lawful
    (λ t. lawful_pile m n lm ln (f t))
    (λ _. lawful_none m.clock lm.clock)
