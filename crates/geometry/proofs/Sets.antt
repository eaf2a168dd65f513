-- Which blocks are in a set that is made of others.
use Rattle.std.proofs.Common.{◌≡◌, ℕ, zero, suc, ◌+◌, ◌*◌, ◌%◌, ◌^◌, ◌<◌, min, max, Bool, true, false, not, ◌&&◌, ◌||◌, eqb, ltb, sym, refl, ap, ◌∙◌, inl, inr, arith}
use Rattle.std.specs.Int.{bit_at}
use lib.Bits.{bit_and}
use lib.Count.{ones}
use Rattle.std.proofs.Math.Pow.{pow-lt}
use Rattle.std.proofs.Math.Bool.{and-true}
use Rattle.std.proofs.lemmas.Bool.{cases_lt, false≢true, lt-ltb, le-ltb, ltb-true, ltb-false}
use Rattle.std.proofs.lemmas.Nat.{zero_from_ones, and_le_l}
use Rattle.std.proofs.lemmas.Nat.Bits.{bit_at-lt, bit_at_and, bit_at_or, bit_at_xor, bit_at-zero, same_from_bits}
use Rattle.std.proofs.lemmas.Bool.Decides.{nat_tests}
use Rattle.geometry.specs.declared.set.BlockSet.{BlockSet}
use Rattle.geometry.specs.Sets.{bit, has, none, only, count_of, union, without, meets}
use Rattle.geometry.proofs.Bitwise.{bit_of_and, bit_one}

-- what a shift of 1 computes
pub shifted_one : (b : ℕ) → b < 128 → 1 * 2 ^ b % 2 ^ 128 ≡ 2 ^ b
shifted_one b h =
    let l : 2 ^ b < 2 ^ 128 = pow-lt {i = b} {j = 128} h in
    omega (arith, l)

pub has_none : (b : ℕ) → has none b ≡ false
has_none b = ap (λ (x : ℕ). eqb x 1) (bit_at-zero b)

pub has_only : (b c : ℕ) → has (only b) c ≡ (eqb c b && ltb b 128)
has_only b c = elim (cases_lt b 128) [
  | inl l ↦ rw (lt-ltb b 128 l) (bit_one b c ∙ sym (and-true (eqb c b)))
  | inr g ↦ rw (le-ltb b 128 g) (has_none c ∙ no (eqb c b))
]
  where
    no : (t : Bool) → false ≡ (t && false)
    no true = refl
    no false = refl

pub has_union : (set other : BlockSet) (b : ℕ) → has (union set other) b ≡ (has set b || has other b)
has_union set other b =
    ap (λ (x : ℕ). eqb x 1) (bit_at_or set.mask other.mask b)
    ∙ both (bit_at set.mask b) (bit_at other.mask b) (bit_at-lt set.mask b) (bit_at-lt other.mask b)
  where
    both : (x y : ℕ) → x < 2 → y < 2 → eqb (max x y) 1 ≡ (eqb x 1 || eqb y 1)
    both x y h k = grind (arith, nat_tests)

pub has_without : (set other : BlockSet) (b : ℕ) → has (without set other) b ≡ (has set b && not (has other b))
has_without set other b =
    ap (λ (x : ℕ). eqb x 1)
    (bit_at_xor set.mask (bit_and set.mask other.mask) b ∙ ap (λ (x : ℕ). (bit_at set.mask b + x) % 2) (bit_at_and set.mask other.mask b))
    ∙ both (bit_at set.mask b) (bit_at other.mask b) (bit_at-lt set.mask b) (bit_at-lt other.mask b)
  where
    both : (x y : ℕ) → x < 2 → y < 2 → eqb ((x + min x y) % 2) 1 ≡ (eqb x 1 && not (eqb y 1))
    both x y h k = grind (arith, nat_tests)

-- Where two sets share no block, a block of the one is not in the other.
pub apart : (set other : BlockSet) (b : ℕ) → meets set other ≡ false → has other b ≡ true → has set b ≡ false
apart set other b n t =
    let z : bit_and set.mask other.mask ≡ 0 = omega (arith, ltb-false 0 _ n) in
    let e : (has set b && has other b) ≡ false = sym (bit_of_and set.mask other.mask b) ∙ ap (λ (x : ℕ). bit x b) z ∙ has_none b in
    by (has set b) (ap (λ (x : Bool). has set b && x) (sym t) ∙ e)
  where
    by : (x : Bool) → (x && true) ≡ false → x ≡ false
    by true e = e
    by false e = refl

-- A set that has a block is not empty.
pub count_positive : (set : BlockSet) (b : ℕ) → has set b ≡ true → 0 < count_of set
count_positive set b t = elim (cases_lt 0 (ones set.mask)) [
  | inl l ↦ l
  | inr g ↦
      let z : set.mask ≡ 0 = zero_from_ones set.mask (omega arith) in
      absurd (false≢true (sym (has_none b) ∙ ap (λ (x : ℕ). bit x b) (sym z) ∙ t))
]

-- A set that shares a block with another is not empty.
pub count_meets : (set other : BlockSet) → meets set other ≡ true → 0 < count_of set
count_meets set other t = elim (cases_lt 0 (ones set.mask)) [
  | inl l ↦ l
  | inr g ↦
      let z : set.mask ≡ 0 = zero_from_ones set.mask (omega arith) in
      let p : 0 < bit_and set.mask other.mask = ltb-true 0 _ t in
      absurd (omega (arith, and_le_l set.mask other.mask))
]

-- Sets with the same blocks are the same.
pub same_set : (set other : BlockSet) → ((b : ℕ) → has set b ≡ has other b) → set ≡ other
same_set set other f =
    ap (λ (m : ℕ). let s : BlockSet = record { mask = m } in s) (same_from_bits set.mask other.mask (λ b. by (bit_at set.mask b) (bit_at other.mask b) (bit_at-lt set.mask b) (bit_at-lt other.mask b) (f b)))
  where
    by : (x y : ℕ) → x < 2 → y < 2 → eqb x 1 ≡ eqb y 1 → x ≡ y
    by zero zero h k e = refl
    by zero (suc zero) h k e = absurd (false≢true e)
    by (suc zero) zero h k e = absurd (false≢true (sym e))
    by (suc zero) (suc zero) h k e = refl
    by (suc (suc x)) y h k e = absurd (omega arith)
    by x (suc (suc y)) h k e = absurd (omega arith)
