-- The eight tallies that a readable page can have.
use Rattle.std.proofs.Common.{◌≡◌, ℕ, ◌+◌, ◌-◌, ◌^◌, ◌<◌, Bool, false, not, eqb, refl, ap, ◌∙◌, arith}
use lib.Bits.{bit_and, and_zero_r}
use lib.Count.{count_trailing_zeros}
use Rattle.std.proofs.lemmas.Bool.{eqb-true, eq-eqb, not-true}
use Rattle.std.proofs.lemmas.Nat.{and_comm, and_mask}
use Rattle.part.specs.Calls.{needs_erase}
use Rattle.geometry.proofs.Bitwise.{at_below}
use Rattle.book.specs.Pages.{used, marked}

-- what marking a tally of k used lines does
pub record Marking (k : ℕ) : Type 0 where
  pub tally : marked (256 - 2 ^ k) ≡ 256 - 2 ^ (k + 1)
  pub used : used (256 - 2 ^ (k + 1)) ≡ k + 1
  pub clears : needs_erase (256 - 2 ^ k) (marked (256 - 2 ^ k)) ≡ false

pub marking : (k : ℕ) → k < 7 → Marking k
unfolding count_trailing_zeros
marking k h =
    let p : ℕ → Bool = λ i. eqb (marked (256 - 2 ^ i)) (256 - 2 ^ (i + 1)) in
    let q : ℕ → Bool = λ i. eqb (used (256 - 2 ^ (i + 1))) (i + 1) in
    let r : ℕ → Bool = λ i. not (needs_erase (256 - 2 ^ i) (marked (256 - 2 ^ i))) in
    record {
      tally = eqb-true _ _ (at_below 7 p refl k h);
      used = eqb-true _ _ (at_below 7 q refl k h);
      clears = not-true _ (at_below 7 r refl k h);
    }

pub used_none : used 255 ≡ 0
unfolding count_trailing_zeros
used_none = refl

-- a blank cell takes any byte, and any cell takes 00h
pub clears_blank : (byte : ℕ) → byte < 256 → needs_erase 255 byte ≡ false
clears_blank byte h =
    let e : bit_and 255 byte ≡ byte = and_comm 255 byte ∙ and_mask byte 8 ∙ omega arith in
    ap not (eq-eqb (bit_and 255 byte) byte e)

pub clears_zero : (old : ℕ) → needs_erase old 0 ≡ false
clears_zero old = ap (λ (v : ℕ). not (eqb v 0)) (and_zero_r old)
