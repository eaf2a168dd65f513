-- One pass after another is one pass of both times.
use Rattle.std.proofs.Common.{◌≡◌, ℕ, ◌+◌, ◌-◌, ◌<◌, ◌≤◌, Bool, true, false, cond, ltb, leb, Some, None, Ok, Option, Result, sym, refl, ap, ◌∙◌, inl, inr, arith}
use Rattle.std.proofs.lemmas.Bool.{lt-ltb, le-ltb, le-leb, cases_lt, cases_Bool, cond-true, cond-false}
use Rattle.std.proofs.lemmas.Bool.Decides.{nat_tests}
use Rattle.fault.specs.declared.cause.Cause.TheVariants.{TimeTooLong}
use Rattle.fault.specs.declared.faults.PartFault.{PartFault}
use Rattle.part.specs.declared.answers.Progress.{Progress}
use Rattle.part.specs.declared.answers.Progress.TheVariants.{Running, Suspended, Finished, Worn}
use Rattle.part.specs.Meaning.{Erasure, Meaning, worn, with_erasure, ticked}
use Rattle.part.specs.Calls.{longest, time_no, answer, run_on, passed, progress, after_pass}
use Rattle.part.specs.Neighbours.{found_then}
use Rattle.part.proofs.Lasting.{passed_add}

-- what was found later counts, unless the first pass ended the erasure
progress_by : (m : Meaning) (a b : ℕ) (o : Option Erasure) → m.erasure ≡ o
    → progress m (a + b) o ≡ found_then (progress m a o) (progress (run_on m a o) b (run_on m a o).erasure)
progress_by m a b None d = ap (λ (x : Option Erasure). progress m b x) (sym d)
progress_by m a b (Some e) d =
    elim (cases_Bool e.running) [
      | inr r ↦
          let same : run_on m a (Some e) ≡ m = cond-false e.running _ _ r in
          let still : (n : ℕ) → progress m n (Some e) ≡ Suspended = λ n. cond-false e.running _ _ r in
          still (a + b)
          ∙ sym (ap (λ (x : Progress). found_then x (progress (run_on m a (Some e)) b (run_on m a (Some e)).erasure)) (still a)
          ∙ ap (λ (x : Meaning). progress x b x.erasure) same ∙ ap (progress m b) d ∙ still b)
      | inl r ↦ elim (cases_lt a e.left) [
        | inl l ↦
            let x : Erasure = record e { left = e.left - a } in
            let on : run_on m a (Some e) ≡ with_erasure m (Some x) = cond-true e.running _ _ r ∙ cond-true (ltb a e.left) _ _ (lt-ltb a e.left l) in
            let t : ltb (a + b) e.left ≡ ltb b (e.left - a) = grind (arith, nat_tests) in
            cond-true e.running _ _ r
            ∙ ap (λ (u : Bool). cond u Running (cond (worn m e.block) Worn Finished)) t
            ∙ sym (ap (λ (y : Progress). found_then y (progress (run_on m a (Some e)) b (run_on m a (Some e)).erasure)) (goes_on l r)
            ∙ ap (λ (y : Meaning). progress y b y.erasure) on ∙ cond-true e.running _ _ r)
        | inr l ↦
            let ends : (n : ℕ) → e.left ≤ n → progress m n (Some e) ≡ cond (worn m e.block) Worn Finished =
            λ n h. cond-true e.running _ _ r ∙ cond-false (ltb n e.left) _ _ (le-ltb n e.left h) in
            ends (a + b) (omega arith)
            ∙ sym (ap (λ (y : Progress). found_then y (progress (run_on m a (Some e)) b (run_on m a (Some e)).erasure)) (ends a l)
            ∙ ended (worn m e.block) (progress (run_on m a (Some e)) b (run_on m a (Some e)).erasure))
      ]
    ]
  where
    goes_on : a < e.left → e.running ≡ true → progress m a (Some e) ≡ Running
    goes_on l r = cond-true e.running _ _ r ∙ cond-true (ltb a e.left) _ _ (lt-ltb a e.left l)

    ended : (w : Bool) (later : Progress) → found_then (cond w Worn Finished) later ≡ cond w Worn Finished
    ended true later = refl
    ended false later = refl

pub progress_add : (m : Meaning) (a b : ℕ)
    → progress m (a + b) m.erasure ≡ found_then (progress m a m.erasure) (progress (passed m a) b (passed m a).erasure)
progress_add m a b =
    let x : Meaning = run_on m a m.erasure in
    progress_by m a b m.erasure refl ∙ ap (found_then (progress m a m.erasure)) (unclocked x x.erasure)
  where
    unclocked : (x : Meaning) (o : Option Erasure) → progress x b o ≡ progress (ticked x a) b o
    unclocked x None = refl
    unclocked x (Some e) = refl

-- What one pass more does, after `done` microseconds.
pub record Sofar (m k : Meaning) (n : ℕ) (found : Progress) : Type 0 where
  pub meaning : k ≡ passed m n
  pub told : found ≡ progress m n m.erasure

pub one_more : (m k j : Meaning) (done some total : ℕ) (found later : Progress) (r : Result Progress PartFault)
    → some ≤ 1000000000 → total ≡ done + some → k ≡ passed m done → found ≡ progress m done m.erasure
    → r ≡ answer (time_no some) some (progress k some k.erasure) → r ≡ Ok later → j ≡ after_pass k some
    → Sofar m j total (found_then found later)
one_more m k j done some total found later r small t p f a o q =
    let test : leb some longest ≡ true = le-leb some longest small in
    let given : Ok (progress k some k.erasure) ≡ Ok later =
    sym (ap (λ (u : Bool). answer (cond u None (Some TimeTooLong)) some (progress k some k.erasure)) test) ∙ sym a ∙ o in
    let same : progress k some k.erasure ≡ later = cc in record {
      meaning = q ∙ cond-true (leb some longest) _ _ test ∙ ap (λ (x : Meaning). passed x some) p ∙ passed_add m done some ∙ ap (passed m) (sym t);
      told =
          ap (λ (x : Progress). found_then x later) f
          ∙ ap (found_then (progress m done m.erasure)) (sym same ∙ ap (λ (x : Meaning). progress x some x.erasure) p)
          ∙ sym (progress_add m done some)
          ∙ ap (λ (x : ℕ). progress m x m.erasure) (sym t);
    }
