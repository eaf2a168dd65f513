-- Waiting for an erasure, pass by pass.
use Rattle.std.proofs.Common.{◌≡◌, ℕ, ◌+◌, ◌-◌, ◌<◌, ◌≤◌, Bool, true, false, cond, ◌&&◌, ltb, Some, None, Option, sym, refl, ap, ◌∙◌, subst, inl, inr, arith}
use Rattle.std.proofs.lemmas.Bool.{ltb-true, ltb-false, cond-true, cond-false, cases_Bool}
use Rattle.part.specs.declared.answers.Standing.TheVariants.{Running as Runs, Suspended as Held}
use Rattle.part.specs.declared.answers.Progress.TheVariants.{Running, Finished, Worn}
use Rattle.part.specs.Meaning.{Erasure, Meaning, worn, with_erasure, standing_of, ErasureLawful, Lawful}
use Rattle.part.specs.Calls.{run_on, passed, progress}
use Rattle.part.proofs.Lasting.{passed_add}
use Rattle.console.specs.Waiting.{wait_time, let_end_by, let_end, ends_worn_by, ends_worn, is_worn}

-- an erasure that runs
pub record RunsOn (m : Meaning) : Type 0 where
  pub erasure : Erasure
  pub stands : m.erasure ≡ Some erasure
  pub running : erasure.running ≡ true

-- the microseconds left of it
abbrev pub time_left : Option Erasure → ℕ
time_left None = 0
time_left (Some e) = e.left

pub running : (m : Meaning) (b : ℕ) → standing_of m.erasure ≡ Runs b → RunsOn m
running m b e = by m.erasure refl e
  where
    on : (x : Erasure) (t : Bool) → x.running ≡ t → cond t (Runs x.block) (Held x.block) ≡ Runs b → x.running ≡ true
    on x true d f = d
    on x false d f = let z : ◌≡◌ {A = ℕ} 0 1 = cc in absurd (omega arith)

    by : (o : Option Erasure) → m.erasure ≡ o → standing_of o ≡ Runs b → RunsOn m
    by None d f = let z : ◌≡◌ {A = ℕ} 0 1 = cc in absurd (omega arith)
    by (Some x) d f = record { erasure = x; stands = d; running = on x x.running refl f }

-- Without one nothing happens.
pub not_running : (m : Meaning) → ((b : ℕ) → standing_of m.erasure ≡ Runs b → ⊥) → (let_end m ≡ m) × (ends_worn m ≡ false)
unfolding let_end ends_worn
not_running m n = by m.erasure n
  where
    on : (x : Erasure) (t : Bool) → x.running ≡ t → ((b : ℕ) → cond t (Runs x.block) (Held x.block) ≡ Runs b → ⊥)
        → (cond t (passed m (wait_time x.left)) m ≡ m) × ((t && worn m x.block) ≡ false)
    on x true d f = absurd (f x.block refl)
    on x false d f = (refl, refl)

    by : (o : Option Erasure) → ((b : ℕ) → standing_of o ≡ Runs b → ⊥) → (let_end_by m o ≡ m) × (ends_worn_by m o ≡ false)
    by None f = (refl, refl)
    by (Some x) f = on x x.running refl f

ends_as : (m : Meaning) (r : RunsOn m) → let_end m ≡ passed m (wait_time r.erasure.left)
unfolding let_end
ends_as m r = ap (let_end_by m) r.stands ∙ cond-true r.erasure.running _ _ r.running

worn_as : (m : Meaning) (r : RunsOn m) → ends_worn m ≡ worn m r.erasure.block
unfolding ends_worn
worn_as m r = ap (ends_worn_by m) r.stands ∙ ap (λ (t : Bool). t && worn m r.erasure.block) r.running

-- A pass that does not reach the end leaves the same to be waited for, and one that does is the last.
pub record GoesOn (m : Meaning) (r : RunsOn m) : Type 0 where
  pub still : RunsOn (passed m 1000)
  pub less : still.erasure.left < r.erasure.left
  pub same : let_end (passed m 1000) ≡ let_end m
  pub worn_same : ends_worn (passed m 1000) ≡ ends_worn m

-- the answer of a pass, where an erasure runs
told : (m : Meaning) (r : RunsOn m) → progress m 1000 m.erasure ≡ cond (ltb 1000 r.erasure.left) Running (cond (worn m r.erasure.block) Worn Finished)
told m r = ap (progress m 1000) r.stands ∙ cond-true r.erasure.running _ _ r.running

not_yet : (t w : Bool) → cond t Running (cond w Worn Finished) ≡ Running → t ≡ true
not_yet true w e = refl
not_yet false true e = let z : ◌≡◌ {A = ℕ} 0 1 = cc in absurd (omega arith)
not_yet false false e = let z : ◌≡◌ {A = ℕ} 0 1 = cc in absurd (omega arith)

pub goes_on : (m : Meaning) (r : RunsOn m) → progress m 1000 m.erasure ≡ Running → GoesOn m r
goes_on m r p =
    let e = r.erasure in
    let t : ltb 1000 e.left ≡ true = not_yet (ltb 1000 e.left) (worn m e.block) (sym (told m r) ∙ p) in
    let l : 1000 < e.left = ltb-true 1000 e.left t in
    let short : Erasure = record e { left = e.left - 1000 } in
    let here : run_on m 1000 m.erasure ≡ with_erasure m (Some short) =
    ap (run_on m 1000) r.stands ∙ cond-true e.running _ _ r.running ∙ cond-true (ltb 1000 e.left) _ _ t in
    let next : RunsOn (passed m 1000) = record { erasure = short; stands = ap (λ (x : Meaning). x.erasure) here; running = r.running } in
    let sum : 1000 + wait_time (e.left - 1000) ≡ wait_time e.left = omega arith in
    record {
      still = next;
      less = omega arith;
      same = ends_as (passed m 1000) next ∙ passed_add m 1000 (wait_time (e.left - 1000)) ∙ ap (passed m) sum ∙ sym (ends_as m r);
      worn_same = worn_as (passed m 1000) next ∙ ap (λ (x : Meaning). worn x e.block) here ∙ sym (worn_as m r);
    }

pub ended : (m : Meaning) (r : RunsOn m) → 1 ≤ r.erasure.left → (progress m 1000 m.erasure ≡ Running → ⊥)
    → (passed m 1000 ≡ let_end m) × (is_worn (progress m 1000 m.erasure) ≡ ends_worn m)
ended m r l n =
    let e = r.erasure in
    elim (cases_Bool (ltb 1000 e.left)) [
      | inl t ↦ absurd (n (told m r ∙ cond-true (ltb 1000 e.left) _ _ t))
      | inr t ↦
          let h : e.left ≤ 1000 = ltb-false 1000 e.left t in
          let one : 1000 ≡ wait_time e.left = omega arith in (
            ap (passed m) one ∙ sym (ends_as m r),
            ap is_worn (told m r ∙ cond-false (ltb 1000 e.left) _ _ t) ∙ by (worn m e.block) ∙ sym (worn_as m r),
          )
    ]
  where
    by : (w : Bool) → is_worn (cond w Worn Finished) ≡ w
    by true = refl
    by false = refl

pub some_left : (m : Meaning) (r : RunsOn m) → Lawful m → 1 ≤ r.erasure.left
some_left m r l = (subst (ErasureLawful _) r.stands l.erasure).1

pub left_of : (m : Meaning) (r : RunsOn m) → time_left m.erasure ≡ r.erasure.left
left_of m r = ap time_left r.stands
