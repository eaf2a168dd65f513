-- Stretches of cells: what it means that they are blank, and what they spell.
use Rattle.std.proofs.Common.{◌≡◌, ℕ, zero, suc, ◌+◌, ◌-◌, ◌*◌, ◌/◌, ◌^◌, ◌<◌, ◌≤◌, Bool, true, ◌&&◌, eqb, List, get_or, sym, refl, ap, ◌∙◌, ap₂, inl, inr, arith, lit<}
use Rattle.std.proofs.lemmas.Bool.{and_parts, and_from, eqb-true, eq-eqb, cases_lt}
use Rattle.std.proofs.lemmas.Nat.{shr-shr}
use Rattle.geometry.proofs.Bitwise.{at_below}
use Rattle.book.specs.Pages.{blank, spelled, byte_of}
use Rattle.book.proofs.Seats.{SameInside}

pub blank_same : (xs ys : List ℕ) (from k : ℕ) → SameInside from k xs ys → blank ys from k ≡ blank xs from k
unfolding blank
blank_same xs ys from zero s = refl
blank_same xs ys from (suc k) s =
    ap₂ (λ (t : Bool) (v : ℕ). t && eqb v 255) (blank_same xs ys from k (λ a l h. s a l (omega arith)))
    (s (from + k) (omega arith) (omega arith))

-- each cell of a blank stretch, and back
pub blank_at : (xs : List ℕ) (from k : ℕ) → blank xs from k ≡ true → (a : ℕ) → from ≤ a → a < from + k → get_or xs a 0 ≡ 255
unfolding blank
blank_at xs from zero t a l h = absurd (omega arith)
blank_at xs from (suc k) t a l h =
    let p = and_parts (blank xs from k) (eqb (get_or xs (from + k) 0) 255) t in
    elim (cases_lt a (from + k)) [
      | inl j ↦ blank_at xs from k p.0 a l j
      | inr j ↦
          let e : a ≡ from + k = omega arith in
          ap (λ (i : ℕ). get_or xs i 0) e ∙ eqb-true _ _ p.1
    ]

pub blank_from : (xs : List ℕ) (from k : ℕ) → ((a : ℕ) → from ≤ a → a < from + k → get_or xs a 0 ≡ 255) → blank xs from k ≡ true
unfolding blank
blank_from xs from zero f = refl
blank_from xs from (suc k) f =
    and_from _ _ (blank_from xs from k (λ a l h. f a l (omega arith))) (eq-eqb _ _ (f (from + k) (omega arith) (omega arith)))

-- a blank stretch has blank parts
pub blank_part : (xs : List ℕ) (from k at j : ℕ) → blank xs from k ≡ true → from ≤ at → at + j ≤ from + k → blank xs at j ≡ true
blank_part xs from k at j t l h = blank_from xs at j (λ a i g. blank_at xs from k t a (omega arith) (omega arith))

pub spelled_same : (xs ys : List ℕ) (at k : ℕ) → SameInside at k xs ys → spelled ys at k ≡ spelled xs at k
unfolding spelled
spelled_same xs ys at zero s = refl
spelled_same xs ys at (suc k) s =
    ap₂ (λ (n v : ℕ). n * 256 + v) (spelled_same xs ys at k (λ a l h. s a l (omega arith))) (s (at + k) (omega arith) (omega arith))

-- k bytes spell a number if each is its digit
spelled_by : (xs : List ℕ) (at : ℕ) (part : ℕ → ℕ) (k : ℕ) → part 0 ≡ 0
    → ((i : ℕ) → i < k → part (suc i) ≡ part i * 256 + get_or xs (at + i) 0) → spelled xs at k ≡ part k
unfolding spelled
spelled_by xs at part zero z f = sym z
spelled_by xs at part (suc k) z f =
    ap (λ (n : ℕ). n * 256 + get_or xs (at + k) 0) (spelled_by xs at part k z (λ i h. f i (omega arith))) ∙ sym (f k (omega arith))

-- the eight bytes of a number
pub spelled_bytes : (xs : List ℕ) (at n : ℕ) → n < 18446744073709551616 → ((i : ℕ) → i < 8 → get_or xs (at + i) 0 ≡ byte_of n i)
    → spelled xs at 8 ≡ n
spelled_bytes xs at n l f =
    let whole : n / 1 ≡ n = omega arith in
    spelled_by xs at (λ (i : ℕ). n / 2 ^ (64 - 8 * i)) 8 (omega arith)
    (λ i h.
    let b : 56 - 8 * i + 8 ≡ 64 - 8 * i = omega arith in
    let c : 64 - 8 * suc i ≡ 56 - 8 * i = omega arith in
    let q : n / 2 ^ (64 - 8 * i) ≡ n / 2 ^ (56 - 8 * i) / 256 = sym (shr-shr n (56 - 8 * i) 8 ∙ ap (λ (j : ℕ). n / 2 ^ j) b) in
    ap (λ (j : ℕ). n / 2 ^ j) c ∙ omega (arith, q, f i h))
    ∙ whole

-- eight bytes of FFh
pub spelled_blank : (xs : List ℕ) (at : ℕ) → blank xs at 8 ≡ true → spelled xs at 8 ≡ 18446744073709551615
spelled_blank xs at t =
    spelled_bytes xs at 18446744073709551615 (lit< tt)
    (λ i h. blank_at xs at 8 t (at + i) (omega arith) (omega arith)
    ∙ sym (eqb-true _ _ (at_below 8 (λ (j : ℕ). eqb (byte_of 18446744073709551615 j) 255) refl i h)))
