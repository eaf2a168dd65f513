-- Two parts that fit together still do after a call.
use Rattle.std.proofs.Common.{◌≡◌, ℕ, ◌+◌, Bool, true, false, eqb, leb, set, Some, None, Option, is_some, refl, ap, ◌∙◌, rules, inl, inr}
use Rattle.std.proofs.lemmas.List.{length-set}
use Rattle.std.proofs.lemmas.Bool.{and_cases, and_left, and_right, and_parts, and_from, not-true, not_from_false, cond_both}
use Rattle.fault.specs.declared.cause.Cause.{Cause}
use Rattle.fault.specs.Causes.{number_of}
use Rattle.part.specs.Meaning.{Erasure, Meaning, size, count, with_cells, with_erasure}
use Rattle.part.specs.declared.answers.Turn.{Turn}
use Rattle.part.specs.declared.answers.Turn.TheVariants.{Done, Nothing}
use Rattle.part.specs.Calls.{longest_burn, longest_hold, stands, Took, Refused, burn_no, BurntBy, Burnt, BegunBy, HeldBy, Held, can_hold, turned, gone_on, longest, run_on, passed, after_pass}
use Rattle.joined.specs.Pile.{most_bytes, most_blocks, fits}
use Rattle.joined.proofs.Refusing.{One}
use Rattle.joined.proofs.Running.{size_run, count_run}

pub one : (m n : Meaning) → fits m n ≡ true → One m n
one m n f = not-true _ (and_parts _ _ f).1

-- Sides of the same sizes, of which one at most has an erasure, fit together too.
alike : (m n x y : Meaning) → fits m n ≡ true → size x ≡ size m → size y ≡ size n → count x ≡ count m → count y ≡ count n
    → One x y → fits x y ≡ true
alike m n x y f a b c d o =
    let w = and_parts (leb (size m + size n) most_bytes) _ (and_parts _ _ f).0 in
    let s : leb (size x + size y) most_bytes ≡ true = rw (a, b) w.0 in
    let t : leb (count x + count y) most_blocks ≡ true = rw (c, d) w.1 in
    and_from _ _ (and_from _ _ s t) (not_from_false _ o)

-- The same size and number of blocks, and no erasure where there was none.
pub record Still (m n : Meaning) : Type 0 where
  pub size : size n ≡ size m
  pub count : count n ≡ count m
  pub idle : stands m ≡ false → stands n ≡ false

fits_still : (m n x y : Meaning) → fits m n ≡ true → Still m x → Still n y → fits x y ≡ true
fits_still m n x y f p q =
    alike m n x y f p.size q.size p.count q.count
    (elim (and_cases (stands m) (stands n) (one m n f)) [
      | inl i ↦ and_left _ _ (p.idle i)
      | inr i ↦ and_right _ _ (q.idle i)
    ])

still_same : (m n : Meaning) → n ≡ m → Still m n
still_same m n e = record {
  size = ap (λ (x : Meaning). size x) e;
  count = ap (λ (x : Meaning). count x) e;
  idle = λ i. ap (λ (x : Meaning). stands x) e ∙ i;
}

still_took : (least most : ℕ) (m x n : Meaning) → Still m x → Took least most x n → Still m n
still_took least most m x n s t = record {
  size = ap (λ (y : Meaning). size y) t.is ∙ s.size;
  count = ap (λ (y : Meaning). count y) t.is ∙ s.count;
  idle = λ i. ap (λ (y : Meaning). stands y) t.is ∙ s.idle i;
}

still_burnt : (m : Meaning) (a byte : ℕ) (why : Option Cause) (n : Meaning) → BurntBy m a byte why n → Still m n
still_burnt m a byte None n t =
    still_took 1 longest_burn m (with_cells m (set m.cells a byte)) n (record { size = length-set m.cells a byte; count = refl; idle = λ i. i }) t
still_burnt m a byte (Some cause) n t = refused (eqb (number_of cause) 8) t
  where
    refused : (b : Bool) → Refused b m n → Still m n
    refused true t = still_took 0 longest_burn m m n (still_same m m refl) t
    refused false t = still_same m n t

idle_run : (m : Meaning) (k : ℕ) (e : Option Erasure) → is_some e ≡ false → stands m ≡ false → stands (run_on m k e) ≡ false
idle_run m k None h i = i
idle_run m k (Some e) h i = search rules

still_passed : (m : Meaning) (k : ℕ) (n : Meaning) → n ≡ passed m k → Still m n
still_passed m k n q = record {
  size = ap (λ (x : Meaning). size x) q ∙ size_run m k m.erasure;
  count = ap (λ (x : Meaning). count x) q ∙ count_run m k m.erasure;
  idle = λ i. ap (λ (x : Meaning). stands x) q ∙ idle_run m k m.erasure i i;
}

still_after : (m : Meaning) (k : ℕ) (n : Meaning) → n ≡ after_pass m k → Still m n
still_after m k n e = cond_both (leb k longest) _ _ (λ (x : Meaning). n ≡ x → Still m n) (λ _ q. still_passed m k n q) (λ _ q. still_same m n q) e

none_turned : (r : Bool) (e : Option Erasure) → is_some e ≡ false → is_some (turned r e) ≡ false
none_turned r None h = h
none_turned r (Some e) h = h

still_turned : (r : Bool) (m n : Meaning) → n ≡ with_erasure m (turned r m.erasure) → Still m n
still_turned r m n e = record {
  size = ap (λ (x : Meaning). size x) e;
  count = ap (λ (x : Meaning). count x) e;
  idle = λ i. ap (λ (x : Meaning). stands x) e ∙ none_turned r m.erasure i;
}

still_held : (m : Meaning) (t : Turn) (n : Meaning) → HeldBy m t n → Still m n
still_held m Done n w = still_took 0 longest_hold m (with_erasure m (turned false m.erasure)) n (still_turned false m _ refl) w
still_held m Nothing n w = still_same m n w

-- A call on one side, other than the beginning of an erasure, or a pass on both.
pub fits_burnt_first : (m n : Meaning) (a byte : ℕ) (x y : Meaning) (k : ℕ) → fits m n ≡ true → Burnt m a byte x → y ≡ passed n k → fits x y ≡ true
fits_burnt_first m n a byte x y k f w q = fits_still m n x y f (still_burnt m a byte (burn_no m a byte) x w) (still_passed n k y q)

pub fits_burnt_second : (m n : Meaning) (a byte : ℕ) (x y : Meaning) (k : ℕ) → fits m n ≡ true → Burnt n a byte y → x ≡ passed m k → fits x y ≡ true
fits_burnt_second m n a byte x y k f w q = fits_still m n x y f (still_passed m k x q) (still_burnt n a byte (burn_no n a byte) y w)

pub fits_held_first : (m n x y : Meaning) (k : ℕ) → fits m n ≡ true → Held m x → y ≡ passed n k → fits x y ≡ true
fits_held_first m n x y k f w q = fits_still m n x y f (still_held m (can_hold m.erasure) x w) (still_passed n k y q)

pub fits_held_second : (m n x y : Meaning) (k : ℕ) → fits m n ≡ true → Held n y → x ≡ passed m k → fits x y ≡ true
fits_held_second m n x y k f w q = fits_still m n x y f (still_passed m k x q) (still_held n (can_hold n.erasure) y w)

pub fits_gone_first : (m n x y : Meaning) (k : ℕ) → fits m n ≡ true → x ≡ gone_on m → y ≡ passed n k → fits x y ≡ true
fits_gone_first m n x y k f w q = fits_still m n x y f (still_turned true m x w) (still_passed n k y q)

pub fits_gone_second : (m n x y : Meaning) (k : ℕ) → fits m n ≡ true → y ≡ gone_on n → x ≡ passed m k → fits x y ≡ true
fits_gone_second m n x y k f w q = fits_still m n x y f (still_passed m k x q) (still_turned true n y w)

pub fits_passed : (m n : Meaning) (k : ℕ) (x y : Meaning) → fits m n ≡ true → x ≡ after_pass m k → y ≡ after_pass n k → fits x y ≡ true
fits_passed m n k x y f p q = fits_still m n x y f (still_after m k x p) (still_after n k y q)

pub fits_same : (m n x y : Meaning) → fits m n ≡ true → x ≡ m → y ≡ n → fits x y ≡ true
fits_same m n x y f p q = fits_still m n x y f (still_same m x p) (still_same n y q)

-- An erasure that begins on one side, where the other has none.
pub fits_begun_first : (m n : Meaning) (b : ℕ) (why : Option Cause) (x : Meaning) → fits m n ≡ true → stands n ≡ false
    → BegunBy m b why x → fits x n ≡ true
fits_begun_first m n b None x f i t =
    alike m n x n f (ap (λ (y : Meaning). size y) t.is) refl (ap (λ (y : Meaning). count y) t.is) refl (and_right (stands x) _ i)
fits_begun_first m n b (Some cause) x f i t = ap (λ (y : Meaning). fits y n) t ∙ f

pub fits_begun_second : (m n : Meaning) (b : ℕ) (why : Option Cause) (y : Meaning) → fits m n ≡ true → stands m ≡ false
    → BegunBy n b why y → fits m y ≡ true
fits_begun_second m n b None y f i t =
    alike m n m y f refl (ap (λ (x : Meaning). size x) t.is) refl (ap (λ (x : Meaning). count x) t.is) (and_left _ (stands y) i)
fits_begun_second m n b (Some cause) y f i t = ap (fits m) t ∙ f
