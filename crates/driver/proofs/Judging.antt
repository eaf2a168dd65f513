-- What the status bits tell.
use Rattle.std.proofs.Common.{◌≡◌, ℕ, ◌<◌, Bool, true, false, eqb, ap, ◌∙◌, arith}
use Rattle.std.proofs.lemmas.Bool.{eq-eqb, ne_eqb, cond-true, cond-false}
use Rattle.driver.specs.declared.verdict.Verdict.TheVariants.{Busy, Done, Failed}
use Rattle.driver.specs.Status.{dq7, dq5, Status, judged}

module _ (seen wanted : ℕ) (small : wanted < 256) (toggle : Bool) where
  inverse_bit : (fails : Bool) → Status seen wanted toggle fails → eqb (dq7 seen) (dq7 wanted) ≡ false
  inverse_bit fails s = ne_eqb _ _ (λ e. omega (arith, s.inverse))

  -- While the chip is busy, DQ7 is the inverse and DQ5 is 0.
  pub judged_busy : Status seen wanted toggle false → judged seen wanted ≡ Busy
  judged_busy s =
      cond-false (eqb (dq7 seen) (dq7 wanted)) _ _ (inverse_bit false s)
      ∙ cond-false (eqb (dq5 seen) 1) _ _ (ap (λ (x : ℕ). eqb x 1) s.fails)

  -- When it has failed, DQ7 is the inverse and DQ5 is 1.
  pub judged_failed : Status seen wanted toggle true → judged seen wanted ≡ Failed
  judged_failed s =
      cond-false (eqb (dq7 seen) (dq7 wanted)) _ _ (inverse_bit true s)
      ∙ cond-true (eqb (dq5 seen) 1) _ _ (ap (λ (x : ℕ). eqb x 1) s.fails)

-- When it is done, the byte itself is read.
pub judged_done : (seen wanted : ℕ) → seen ≡ wanted → judged seen wanted ≡ Done
judged_done seen wanted e = cond-true (eqb (dq7 seen) (dq7 wanted)) _ _ (eq-eqb (dq7 seen) (dq7 wanted) (ap dq7 e))
