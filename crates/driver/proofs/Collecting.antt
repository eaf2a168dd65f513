-- The guarded blocks, gathered one after the other.
use Rattle.std.proofs.Common.{◌≡◌, ℕ, ◌+◌, ◌<◌, ◌≤◌, Bool, true, false, ◌&&◌, ◌||◌, eqb, ltb, sym, refl, ap, ◌∙◌, inl, inr, arith}
use Rattle.std.proofs.lemmas.Bool.{cases_lt, cases_eq, lt-ltb, le-ltb, eq-eqb, ne_eqb}
use Rattle.geometry.specs.declared.set.BlockSet.{BlockSet}
use Rattle.geometry.specs.Sets.{largest_set, has, only, union}
use Rattle.geometry.proofs.Sets.{has_union, has_only}

or_false : (x : Bool) → (x || false) ≡ x
or_false true = refl
or_false false = refl

-- with block i, which is guarded
pub with_block : (set : BlockSet) (p : ℕ → Bool) (i : ℕ) → i < largest_set → p i ≡ true → ((b : ℕ) → has set b ≡ (ltb b i && p b))
    → (b : ℕ) → has (union set (only i)) b ≡ (ltb b (i + 1) && p b)
with_block set p i few t f b =
    has_union set (only i) b ∙ ap (λ (x : Bool). x || has (only i) b) (f b) ∙ ap (λ (x : Bool). (ltb b i && p b) || x) (has_only i b)
    ∙ by
  where
    by : ((ltb b i && p b) || (eqb b i && ltb i largest_set)) ≡ (ltb b (i + 1) && p b)
    by = elim (cases_eq b i) [
      | inl e ↦ rw (e, le-ltb i i (omega arith), lt-ltb i (i + 1) (omega arith), eq-eqb i i refl, lt-ltb i largest_set few, t) refl
      | inr n ↦ elim (cases_lt b i) [
        | inl l ↦ rw (ne_eqb b i n, lt-ltb b i l, lt-ltb b (i + 1) (omega arith)) (or_false (p b))
        | inr g ↦ let h : i + 1 ≤ b = omega (arith, n) in rw (ne_eqb b i n, le-ltb b i g, le-ltb b (i + 1) h) refl
      ]
    ]

-- without block i, which is not guarded
pub without_block : (set : BlockSet) (p : ℕ → Bool) (i : ℕ) → p i ≡ false → ((b : ℕ) → has set b ≡ (ltb b i && p b))
    → (b : ℕ) → has set b ≡ (ltb b (i + 1) && p b)
without_block set p i t f b = f b ∙ by
  where
    by : (ltb b i && p b) ≡ (ltb b (i + 1) && p b)
    by = elim (cases_lt b i) [
      | inl l ↦ rw (lt-ltb b i l, lt-ltb b (i + 1) (omega arith)) refl
      | inr g ↦ elim (cases_eq b i) [
        | inl e ↦ rw (e, le-ltb i i (omega arith), lt-ltb i (i + 1) (omega arith)) (sym t)
        | inr n ↦ let h : i + 1 ≤ b = omega (arith, n) in rw (le-ltb b i g, le-ltb b (i + 1) h) refl
      ]
    ]
