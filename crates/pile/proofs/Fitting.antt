-- What it says of pieces that none of them is unfit.
use Rattle.std.proofs.Common.{◌≡◌, ℕ, suc, ◌+◌, Bool, true, false, not, ltb, List, [], ◌∷◌, length, Some, None, Option, Result, Ok, sym, refl, ◌∙◌, arith}
use Rattle.std.proofs.lemmas.Bool.{lt-ltb, true≢false}
use Rattle.std.proofs.lemmas.Bool.Decides.{nat_tests}
use Rattle.std.specs.List.{position, position_or_len}
use Rattle.pile.specs.declared.kind.Kind.{Kind}
use Rattle.pile.specs.Pieces.{fits}
use Rattle.pile.specs.declared.unmade.Unmade.{Unmade}
use Rattle.pile.specs.Making.{AllFit, Checked, Answered}

-- A list in which no piece fails the test is one in which each passes it.
none_unfit : (ks : List Kind) → ltb (position_or_len (λ k. not (fits k)) ks) (length ks) ≡ false → AllFit ks
none_unfit [] e = tt
none_unfit (k ∷ ks) e = by (none_unfit ks) (fits k) refl
  where
    by : (ltb (position_or_len (λ k. not (fits k)) ks) (length ks) ≡ false → AllFit ks) → (t : Bool) → fits k ≡ t → AllFit (k ∷ ks)
    by rest true h =
        let f : ltb (1 + position_or_len (λ k. not (fits k)) ks) (suc (length ks)) ≡ false = rw h at e in
        (h, rest (grind (arith, nat_tests)))
    by rest false h =
        let f : ltb 0 (suc (length ks)) ≡ false = rw h at e in
        absurd (true≢false (sym (lt-ltb 0 (suc (length ks)) (omega arith)) ∙ f))

pub all_fit : (ks : List Kind) → position (λ k. not (fits k)) ks ≡ None → AllFit ks
all_fit ks e = by (ltb (position_or_len (λ k. not (fits k)) ks) (length ks)) refl
  where
    by : (t : Bool) → ltb (position_or_len (λ k. not (fits k)) ks) (length ks) ≡ t → AllFit ks
    by true h = let f : Some (position_or_len (λ k. not (fits k)) ks) ≡ None = rw h at e in let z : ◌≡◌ {A = ℕ} 0 1 = cc in absurd (omega arith)
    by false h = none_unfit ks h

-- Nothing stands against what was admitted.
pub admitted : {P : Type 0} (o : Option Unmade) (r : Result (Unit {0}) Unmade) (x : Unit {0}) (p : P) → Checked o tt r → r ≡ Ok x → Answered o (Ok p)
admitted None r x p h e = tt
admitted (Some o) r x p h e = absurd cc
