-- Time that passes on two parts end to end.
use Rattle.std.proofs.Common.{◌≡◌, ℕ, ◌+◌, ◌-◌, ◌<◌, Bool, true, false, cond, ltb, leb, List, ◌++◌, length, Some, None, Option, sym, refl, ap, ◌∙◌, inl, inr}
use Rattle.std.proofs.lemmas.Bool.{and_cases, cases_Bool}
use Rattle.geometry.specs.Blocks.{wiped}
use Rattle.geometry.proofs.Wiping.{length_wiped, wiped_left, wiped_right}
use Rattle.part.specs.Meaning.{Erasure, Meaning, Lawful, ErasureLawful, size, count, worn, with_cells, with_erasure, ticked}
use Rattle.part.specs.Calls.{stands, erased, longest, run_on, passed, progress, after_pass}
use Rattle.joined.specs.Pile.{raised, either, pile}
use Rattle.joined.proofs.Refusing.{One, worn_left, worn_right}
use Rattle.joined.proofs.Living.{run_idle, no_erasure}

-- An erasure that goes on or ends changes neither the size nor the blocks.
pub size_run : (m : Meaning) (k : ℕ) (e : Option Erasure) → size (run_on m k e) ≡ size m
size_run m k None = refl
size_run m k (Some e) = by e.running (ltb k e.left)
  where
    wipe : (w : Bool) → length (cond w m.cells (wiped m.sizes e.block 0xFF m.cells)) ≡ size m
    wipe true = refl
    wipe false = length_wiped m.sizes e.block 0xFF m.cells

    by : (r s : Bool) → size (cond r
        (cond s (with_erasure m (Some (record e { left = e.left - k })))
        (with_erasure (with_cells m (erased m e.block)) None))
        m) ≡ size m
    by true true = refl
    by true false = wipe (worn m e.block)
    by false s = refl

pub count_run : (m : Meaning) (k : ℕ) (e : Option Erasure) → count (run_on m k e) ≡ count m
count_run m k None = refl
count_run m k (Some e) = by e.running (ltb k e.left)
  where
    by : (r s : Bool) → count (cond r
        (cond s (with_erasure m (Some (record e { left = e.left - k })))
        (with_erasure (with_cells m (erased m e.block)) None))
        m) ≡ count m
    by true true = refl
    by true false = refl
    by false s = refl

-- Nor does it move the clock, which time does by itself.
pub run_clock : (m : Meaning) (k : ℕ) (e : Option Erasure) → (run_on m k e).clock ≡ m.clock
run_clock m k None = refl
run_clock m k (Some e) = by e.running (ltb k e.left)
  where
    by : (r s : Bool) → (cond r
        (cond s (with_erasure m (Some (record e { left = e.left - k })))
        (with_erasure (with_cells m (erased m e.block)) None))
        m).clock ≡ m.clock
    by true true = refl
    by true false = refl
    by false s = refl

either_none : (k : ℕ) (d e : Option Erasure) → e ≡ None → either d (raised k e) ≡ d
either_none k None e q = ap (raised k) q
either_none k (Some d) e q = refl

module _ (m n : Meaning) (lm : Lawful m) (o : One m n) (k : ℕ) where
  -- The first side's erasure, when the second has none.
  ended_left : (b : ℕ) → b < count m → n.erasure ≡ None
      → pile (with_erasure (with_cells m (erased m b)) None) n ≡ with_erasure (with_cells (pile m n) (erased (pile m n) b)) None
  ended_left b h q =
      ap (λ (e : Option Erasure). with_erasure (with_cells (pile m n) (erased m b ++ n.cells)) (raised (count m) e)) q
      ∙ ap (λ (cs : List ℕ). with_erasure (with_cells (pile m n) cs) None) (rw (worn_left m n lm o b h) (by (worn m b)))
    where
      by : (w : Bool) → cond w m.cells (wiped m.sizes b 0xFF m.cells) ++ n.cells
          ≡ cond w (m.cells ++ n.cells) (wiped (m.sizes ++ n.sizes) b 0xFF (m.cells ++ n.cells))
      by true = refl
      by false = sym (wiped_left m.sizes n.sizes b 0xFF m.cells n.cells lm.whole h)

  run_left : (d : Option Erasure) → ErasureLawful (count m) d → n.erasure ≡ None → pile (run_on m k d) n ≡ run_on (pile m n) k d
  run_left None h q = refl
  run_left (Some x) h q = by x.running (ltb k x.left)
    where
      by : (r s : Bool) → pile
          (cond r (cond s (with_erasure m (Some (record x { left = x.left - k })))
          (with_erasure (with_cells m (erased m x.block)) None)) m) n
          ≡ cond r (cond s (with_erasure (pile m n) (Some (record x { left = x.left - k })))
          (with_erasure (with_cells (pile m n) (erased (pile m n) x.block)) None)) (pile m n)
      by true true = refl
      by true false = ended_left x.block h.0 q
      by false s = refl

  -- The second side's erasure, when the first has none.
  ended_right : (b : ℕ) → m.erasure ≡ None
      → pile m (with_erasure (with_cells n (erased n b)) None) ≡ with_erasure (with_cells (pile m n) (erased (pile m n) (count m + b))) None
  ended_right b q =
      ap (λ (d : Option Erasure). with_erasure (with_cells (pile m n) (m.cells ++ erased n b)) (either d None)) q
      ∙ ap (λ (cs : List ℕ). with_erasure (with_cells (pile m n) cs) None) (rw (worn_right m n lm o b) (by (worn n b)))
    where
      by : (w : Bool) → m.cells ++ cond w n.cells (wiped n.sizes b 0xFF n.cells)
          ≡ cond w (m.cells ++ n.cells) (wiped (m.sizes ++ n.sizes) (count m + b) 0xFF (m.cells ++ n.cells))
      by true = refl
      by false = sym (wiped_right m.sizes n.sizes b 0xFF m.cells n.cells lm.whole)

  run_right : (e : Option Erasure) → m.erasure ≡ None → pile m (run_on n k e) ≡ run_on (pile m n) k (raised (count m) e)
  run_right None q = refl
  run_right (Some x) q = by x.running (ltb k x.left)
    where
      by : (r s : Bool) → pile m
          (cond r (cond s (with_erasure n (Some (record x { left = x.left - k })))
          (with_erasure (with_cells n (erased n x.block)) None)) n)
          ≡ cond r (cond s (with_erasure (pile m n) (Some (record x { block = count m + x.block; left = x.left - k })))
          (with_erasure (with_cells (pile m n) (erased (pile m n) (count m + x.block))) None)) (pile m n)
      by true true =
          ap (λ (d : Option Erasure). with_erasure (pile m n) (either d (Some (record x { block = count m + x.block; left = x.left - k })))) q
      by true false = ended_right x.block q
      by false s = refl

  -- What becomes of the second side's erasure.
  progress_right : (e : Option Erasure) → progress (pile m n) k (raised (count m) e) ≡ progress n k e
  progress_right None = refl
  progress_right (Some x) = rw (worn_right m n lm o x.block)

-- Time that passes on both sides passes on the whole.
module _ (m n : Meaning) (lm : Lawful m) (o : One m n) (k : ℕ) where
  run_first : stands n ≡ false → pile (passed m k) (passed n k) ≡ passed (pile m n) k
  run_first i =
      let q : n.erasure ≡ None = no_erasure n.erasure i in
      ap (λ (y : Meaning). pile (passed m k) (ticked y k)) (run_idle n k n.erasure i)
      ∙ ap (λ (y : Meaning). ticked y k)
      (run_left m n lm o k m.erasure lm.erasure q
      ∙ ap (run_on (pile m n) k) (sym (either_none (count m) m.erasure n.erasure q)))

  run_second : stands m ≡ false → pile (passed m k) (passed n k) ≡ passed (pile m n) k
  run_second i =
      let q : m.erasure ≡ None = no_erasure m.erasure i in
      ap (λ (x : Meaning). pile (ticked x k) (passed n k)) (run_idle m k m.erasure i)
      ∙ ap (λ (x : Meaning). ticked x k)
      (run_right m n lm o k n.erasure q
      ∙ ap (λ (d : Option Erasure). run_on (pile m n) k (either d (raised (count m) n.erasure))) (sym q))

  run_both : pile (passed m k) (passed n k) ≡ passed (pile m n) k
  run_both = elim (and_cases (stands m) (stands n) o) [ inl i ↦ run_second i | inr i ↦ run_first i ]

  pub pass_both : pile (after_pass m k) (after_pass n k) ≡ after_pass (pile m n) k
  pass_both = elim (cases_Bool (leb k longest)) [ inl h ↦ rw h run_both | inr h ↦ rw h ]

  -- The second side says what became of the erasure, where the first has none.
  pub progress_second : stands m ≡ false → progress (pile m n) k (pile m n).erasure ≡ progress n k n.erasure
  progress_second i =
      ap (λ (d : Option Erasure). progress (pile m n) k (either d (raised (count m) n.erasure))) (no_erasure m.erasure i)
      ∙ progress_right m n lm o k n.erasure
