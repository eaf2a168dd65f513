-- The copying of a book, position by position.
use Rattle.std.proofs.Common.{◌≡◌, ℕ, zero, suc, ◌+◌, ◌-◌, ◌≤◌, true, eqb, List, [], ◌++◌, Ok, Err, Option, Result, sym, refl, ap, ◌∙◌, subst, add-one, arith}
use Rattle.std.proofs.lemmas.Bool.{eq-eqb, ne_eqb, cond-true, cond-false}
use Rattle.fault.specs.declared.faults.PartFault.{PartFault}
use Rattle.part.specs.Meaning.{Meaning}
use Rattle.part.specs.Calls.{answer, burn_no, Burnt}
use Rattle.book.specs.declared.page.Page.{Page}
use Rattle.book.specs.Pages.{page_at}
use Rattle.book.specs.Reading.{reading}
use Rattle.book.specs.Burning.{Step, Ran, page_copied, pages_copied, book_copied, stops_of, will_hold}
use Rattle.book.specs.Pairs.{apart}
use Rattle.book.proofs.Steps.{ran_then, ran_stops, ran_one}
use Rattle.book.proofs.Sparing.{pages_within, hold_same}

-- One position: the new stops at p, and at another what was read there.
pub hold_new : (m : Meaning) (from p q : ℕ) (new : Option ℕ) → q ≡ p → will_hold m from p new q ≡ Ok new
hold_new m from p q new e = cond-true (eqb q p) _ _ (eq-eqb q p e)

pub hold_old : (m : Meaning) (from p q : ℕ) (new : Option ℕ) (r : Result Page PartFault) → (q ≡ p → ⊥) → reading m (page_at from q) ≡ r
    → will_hold m from p new q ≡ stops_of r
hold_old m from p q new r d e = cond-false (eqb q p) _ _ (ne_eqb q p d) ∙ ap stops_of e

pub pages_none : (f : ℕ → Result (Option ℕ) PartFault) (to : ℕ) → pages_copied f to 0 ≡ []
unfolding pages_copied
pages_none f to = refl

pub pages_more : (f : ℕ → Result (Option ℕ) PartFault) (to n : ℕ)
    → pages_copied f to (n + 1) ≡ pages_copied f to n ++ page_copied (page_at to (n + 1)) (f (n + 1))
unfolding pages_copied
pages_more f to n =
    ap (λ (k : ℕ). pages_copied f to k) (add-one n)
    ∙ ap (λ (k : ℕ). pages_copied f to n ++ page_copied (page_at to k) (f k)) (sym (add-one n))

module _ (m : Meaning) (from to count p : ℕ) (new : Option ℕ) (clear : apart from to count ≡ true) where
  -- One position more.
  pub pages_on : (k n : Meaning) (q : ℕ) (r : Result (Unit {0}) PartFault) → 1 ≤ q → q ≤ count
      → Ran m (pages_copied (will_hold m from p new) to (q - 1)) (Ok tt) k
      → Ran k (page_copied (page_at to q) (will_hold k from p new q)) r n
      → Ran m (pages_copied (will_hold m from p new) to q) r n
  pages_on k n q r low high x y =
      let i : q - 1 + 1 ≡ q = omega arith in
      let same : will_hold k from p new q ≡ will_hold m from p new q =
      hold_same m k from to count p q new (pages_copied (will_hold m from p new) to (q - 1)) (Ok tt) clear high x
      (pages_within (will_hold m from p new) to count (q - 1) (omega arith)) in
      let z : Ran k (page_copied (page_at to q) (will_hold m from p new q)) r n =
      subst (λ (o : Result (Option ℕ) PartFault). Ran k (page_copied (page_at to q) o) r n) same y in
      let w : Ran k (page_copied (page_at to (q - 1 + 1)) (will_hold m from p new (q - 1 + 1))) r n =
      subst (λ (j : ℕ). Ran k (page_copied (page_at to j) (will_hold m from p new j)) r n) (sym i) z in
      subst (λ (j : ℕ). Ran m (pages_copied (will_hold m from p new) to j) r n) i
      (subst (λ (l : List Step). Ran m l r n) (sym (pages_more (will_hold m from p new) to (q - 1)))
      (ran_then m k n (pages_copied (will_hold m from p new) to (q - 1)) _ r x w))

  -- A refusal at one position is that of the whole copying.
  pages_stay : (n : Meaning) (q : ℕ) (f : PartFault) → Ran m (pages_copied (will_hold m from p new) to q) (Err f) n
      → (i : ℕ) → Ran m (pages_copied (will_hold m from p new) to (q + i)) (Err f) n
  pages_stay n q f x zero = subst (λ (j : ℕ). Ran m (pages_copied (will_hold m from p new) to j) (Err f) n) (omega arith) x
  pages_stay n q f x (suc i) =
      let e : q + i + 1 ≡ q + suc i = omega arith in
      subst (λ (j : ℕ). Ran m (pages_copied (will_hold m from p new) to j) (Err f) n) e
      (subst (λ (l : List Step). Ran m l (Err f) n) (sym (pages_more (will_hold m from p new) to (q + i)))
      (ran_stops m n (pages_copied (will_hold m from p new) to (q + i)) _ f (pages_stay n q f x i)))

  pub book_stops : (n : Meaning) (q : ℕ) (f : PartFault) → q ≤ count → Ran m (pages_copied (will_hold m from p new) to q) (Err f) n
      → Ran m (book_copied (will_hold m from p new) to count) (Err f) n
  unfolding book_copied
  book_stops n q f l x =
      let e : q + (count - q) ≡ count = omega arith in
      ran_stops m n (pages_copied (will_hold m from p new) to count) _ f
      (subst (λ (j : ℕ). Ran m (pages_copied (will_hold m from p new) to j) (Err f) n) e (pages_stay n q f x (count - q)))

  pub book_ends : (k n : Meaning) (q : ℕ) (r : Result (Unit {0}) PartFault) → q ≡ count + 1
      → Ran m (pages_copied (will_hold m from p new) to (q - 1)) (Ok tt) k
      → r ≡ answer (burn_no k to 0) to tt → Burnt k to 0 n → Ran m (book_copied (will_hold m from p new) to count) r n
  unfolding book_copied
  book_ends k n q r i x e b =
      let c : q - 1 ≡ count = omega arith in
      ran_then m k n (pages_copied (will_hold m from p new) to count) _ r
      (subst (λ (j : ℕ). Ran m (pages_copied (will_hold m from p new) to j) (Ok tt) k) c x) (ran_one k n to 0 r e b)
