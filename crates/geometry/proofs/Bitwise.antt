-- Numbers, bit by bit.
use Rattle.std.proofs.Common.{◌≡◌, ℕ, zero, suc, ◌+◌, ◌-◌, ◌*◌, ◌/◌, ◌%◌, ◌^◌, ◌<◌, min, Bool, true, cond, ◌&&◌, eqb, ◌⊎◌, sym, ap, ◌∙◌, inl, inr, arith}
use Rattle.std.specs.Int.{bit_at}
use lib.Bits.{bit_and}
use lib.Count.{ones}
use Rattle.std.proofs.lemmas.Bool.{and_parts, eq-eqb, ne_eqb, cases_lt, cases_eq}
use Rattle.std.proofs.lemmas.Nat.{and_comm, ones_cat, pow_pos, field_of, mod-pow-add}
use Rattle.std.proofs.lemmas.Nat.Bits.{bit_at-lt, bit_at_and, bit_at-pow_same, bit_at-pow_other, and_pow}
use Rattle.std.proofs.lemmas.Bool.Decides.{nat_tests}
use Rattle.geometry.specs.Sets.{bit}

pub bit_of_and : (m n b : ℕ) → bit (bit_and m n) b ≡ (bit m b && bit n b)
bit_of_and m n b = ap (λ (x : ℕ). eqb x 1) (bit_at_and m n b) ∙ both (bit_at m b) (bit_at n b) (bit_at-lt m b) (bit_at-lt n b)
  where
    both : (x y : ℕ) → x < 2 → y < 2 → eqb (min x y) 1 ≡ (eqb x 1 && eqb y 1)
    both x y h k = grind (arith, nat_tests)

-- a test that passes at each number below n
abbrev pub below : ℕ → (ℕ → Bool) → Bool
below zero p = true
below (suc n) p = p n && below n p

pub at_below : (n : ℕ) (p : ℕ → Bool) → below n p ≡ true → (b : ℕ) → b < n → p b ≡ true
at_below zero p t b h = absurd (omega arith)
at_below (suc n) p t b h =
    let parts = and_parts (p n) (below n p) t in
    elim (last n b h) [ inl e ↦ ap p e ∙ parts.0 | inr l ↦ at_below n p parts.1 b l ]
  where
    last : (n b : ℕ) → b < suc n → (b ≡ n) ⊎ (b < n)
    last n b h = elim (cases_lt b n) [ inl l ↦ inr l | inr g ↦ inl (omega arith) ]

-- The mask of one block.
pub bit_one : (b c : ℕ) → bit (2 ^ b) c ≡ eqb c b
bit_one b c =
    elim (cases_eq c b) [
      | inl e ↦ rw (e, bit_at-pow_same b, eq-eqb b b)
      | inr n ↦ rw (bit_at-pow_other b c n, ne_eqb c b n)
    ]

pub and_one : (b x : ℕ) → bit_and (2 ^ b) x ≡ cond (bit x b) (2 ^ b) 0
and_one b x = and_comm (2 ^ b) x ∙ and_pow x b ∙ by (bit_at x b) (bit_at-lt x b)
  where
    by : (y : ℕ) → y < 2 → y * 2 ^ b ≡ cond (eqb y 1) (2 ^ b) 0
    by zero h = omega arith
    by (suc zero) h = omega arith
    by (suc (suc y)) h = absurd (omega arith)

-- The low bits of a number are those of the whole.
pub bit_low : (m n b : ℕ) → b < n → bit (m % 2 ^ n) b ≡ bit m b
bit_low m n b h =
    let k : ℕ = n - b - 1 in
    let e : n ≡ k + 1 + b = omega arith in
    let x : ℕ = m / 2 ^ b in
    let d : m % 2 ^ n / 2 ^ b ≡ x % 2 ^ (k + 1) = ap (λ (i : ℕ). m % 2 ^ i / 2 ^ b) e ∙ field_of m (k + 1) b in
    let s : x % 2 ^ (k + 1) ≡ (x / 2 % 2 ^ k) * 2 + x % 2 = mod-pow-add x k 1 in
    let t : ((x / 2 % 2 ^ k) * 2 + x % 2) % 2 ≡ x % 2 = omega arith in
    ap (λ (y : ℕ). eqb (y % 2) 1) (d ∙ s) ∙ ap (λ (y : ℕ). eqb y 1) t

pub ones_one : (b : ℕ) → ones (2 ^ b) ≡ 1
unfolding ones
ones_one b =
    let e : 1 * 2 ^ b + 0 ≡ 2 ^ b = omega arith in
    ap ones (sym e) ∙ ones_cat b 1 0 (pow_pos b)
