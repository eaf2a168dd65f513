-- What recall and next say of the positions, by what the table tells.
use Rattle.std.proofs.Common.{◌≡◌, ℕ, zero, suc, ◌+◌, ◌-◌, ◌<◌, ◌≤◌, leb, Some, None, Ok, Err, Option, Result, sym, ◌∙◌, subst, inl, inr, arith}
use Rattle.std.proofs.lemmas.Bool.{cases_lt, cond-true, le-leb, and_from}
use Rattle.console.specs.declared.answers.Answer.{Answer}
use Rattle.console.specs.declared.answers.Said.{Said}
use Rattle.console.specs.declared.answers.Said.TheVariants.{Shows, Finds}
use Rattle.console.specs.declared.call.Call.TheVariants.{Recall, Next}
use Rattle.fault.specs.declared.faults.ConsoleFault.{ConsoleFault}
use Rattle.console.specs.Showing.{said, Nearest, ShowsHeld, FindsNearest}
use Rattle.console.proofs.Tables.{Table, look, filled, or_then, nearest, is_position, tells}

-- 0 is not 1, which ends a clash of constructors.
no_one : ◌≡◌ {A = ℕ} 0 1 → ⊥
no_one e = omega arith

-- One position more of a search.
nearest_one : (hold : ℕ → Option ℕ → Type 0) (p k : ℕ) (x v : Option ℕ) → hold (p + suc k) v → Nearest hold (p + k) p x
    → Nearest hold (p + suc k) p (or_then x (filled v (p + suc k)))
nearest_one hold p k None None h m = λ q a b.
    elim (cases_lt (p + k) q) [
      | inl c ↦ let e : p + suc k ≡ q = omega arith in subst (λ (i : ℕ). hold i None) e h
      | inr c ↦ m q a c
    ]
nearest_one hold p k None (Some s) h m =
    (omega arith, omega arith, (s, h), λ j a b. m j a (omega arith))
nearest_one hold p k (Some q) v h m = (m.0, omega (arith, m.1), m.2, m.3)

-- The same up to the k-th position after p, as far as the table says what is held.
nearest_by : (hold : ℕ → Option ℕ → Type 0) (g : Table) (p k : ℕ) → ((q : ℕ) → p < q → q ≤ p + k → hold q (g q)) → Nearest hold (p + k) p (nearest g p k)
unfolding nearest
nearest_by hold g p zero h = λ q a b. absurd (omega arith)
nearest_by hold g p (suc k) h =
    nearest_one hold p k (nearest g p k) (g (p + suc k)) (h (p + suc k) (omega arith) (omega arith))
    (nearest_by hold g p k (λ q a b. h q a (omega arith)))

-- The nearest filled position in the table, up to n.
pub nearest_holds : (hold : ℕ → Option ℕ → Type 0) (g : Table) (n p : ℕ) → p ≤ n → ((q : ℕ) → p < q → q ≤ n → hold q (g q))
    → Nearest hold n p (nearest g p (n - p))
nearest_holds hold g n p b h =
    let e : p + (n - p) ≡ n = omega arith in
    subst (λ (i : ℕ). Nearest hold i p (nearest g p (n - p))) e (nearest_by hold g p (n - p) (λ q l i. h q l (omega (arith, e, i))))

-- what an answer says, by what it says without its microseconds
said_by : (r : Result Answer ConsoleFault) (s : Said) → look r ≡ Ok s → said r ≡ Some s
said_by (Ok x) s e = cc
said_by (Err f) s e = absurd (no_one cc)

-- what the table tells of a recall and a next that are in range
tells_recall : (n : ℕ) (g : Table) (p : ℕ) → 1 ≤ p → p ≤ n → tells n g (Recall p) ≡ Ok (Shows (g p))
tells_recall n g p a b = cond-true (is_position n p) _ _ (and_from _ _ (le-leb 1 p a) (le-leb p n b))

tells_next : (n : ℕ) (g : Table) (p : ℕ) → p ≤ n → tells n g (Next p) ≡ Ok (Finds (nearest g p (n - p)))
tells_next n g p b = cond-true (leb p n) _ _ (le-leb p n b)

-- What a recall and a next say, by what the table tells.
pub shows_held : (hold : ℕ → Option ℕ → Type 0) (n : ℕ) (g : Table) (p : ℕ) → 1 ≤ p → p ≤ n → hold p (g p)
    → (r : Result Answer ConsoleFault) → look r ≡ tells n g (Recall p) → ShowsHeld hold p r
shows_held hold n g p a b h r e = (g p, said_by r (Shows (g p)) (e ∙ tells_recall n g p a b), h)

pub finds_nearest : (hold : ℕ → Option ℕ → Type 0) (n : ℕ) (g : Table) (p : ℕ) → p ≤ n → ((q : ℕ) → p < q → q ≤ n → hold q (g q))
    → (r : Result Answer ConsoleFault) → look r ≡ tells n g (Next p) → FindsNearest hold n p r
finds_nearest hold n g p b h r e =
    (nearest g p (n - p), said_by r (Finds (nearest g p (n - p))) (e ∙ tells_next n g p b), nearest_holds hold g n p b h)

-- what a next gave is what the table tells
pub found_is : (n : ℕ) (g : Table) (p : ℕ) → p ≤ n → (r : Result Answer ConsoleFault) → look r ≡ tells n g (Next p) → (position : Option ℕ)
    → said r ≡ Some (Finds position) → nearest g p (n - p) ≡ position
found_is n g p b r e position i =
    let both : Some (Finds position) ≡ Some (Finds (nearest g p (n - p))) = sym i ∙ said_by r (Finds (nearest g p (n - p))) (e ∙ tells_next n g p b) in
    cc
