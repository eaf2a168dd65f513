-- A burn, in the words of a part.
use Rattle.std.proofs.Common.{◌≡◌, ℕ, ◌+◌, ◌%◌, Bool, true, false, cond, eqb, Some, None, Err, Option, Result, sym, refl, ap, ◌∙◌, subst, inl, inr, arith}
use Rattle.std.proofs.lemmas.Bool.{cases_Bool, cond-true, cond-false}
use Rattle.fault.specs.declared.cause.Cause.{Cause}
use Rattle.fault.specs.declared.cause.Cause.TheVariants.{ErasureInTheWay, Guarded, NeedsErase, Worn}
use Rattle.fault.specs.Causes.{number_of}
use Rattle.fault.specs.declared.faults.PartFault.{PartFault}
use Rattle.fault.specs.Limits.{needs_erase}
use Rattle.geometry.specs.Sets.{has}
use Rattle.flash.specs.Limits.{longest_program}
use Rattle.part.specs.Meaning.{Meaning, cell, block, guarded, worn}
use Rattle.part.specs.Calls.{answer, bars, outside, burn_no, Refused, BurntBy}
use Rattle.part.specs.Standings.{barred, burn_why}
use Rattle.driver.specs.declared.notes.Notes.{Notes}
use Rattle.driver.specs.Rig.{Rig, inside, meaning}
use Rattle.driver.specs.Cycles.{Shows}
use Rattle.driver.specs.Sound.{Sound}
use Rattle.driver.specs.Notes.{Tied}
use Rattle.driver.specs.Calls.{Burns}
use Rattle.driver.specs.Steps.{Free, MayBurn}
use Rattle.driver.proofs.Changing.{same_cycle, only_read}
use Rattle.driver.proofs.Reading.{bars_is, same_means, within_is, free_read}

-- what is left to be checked once nothing else refuses a burn
abbrev or_worn : Option Cause → Bool → Option Cause
or_worn (Some cause) w = Some cause
or_worn None w = cond w (Some Worn) None

tests : (t u v w : Bool) → cond t (Some ErasureInTheWay) (cond u (Some Guarded) (cond v (Some NeedsErase) (cond w (Some Worn) None)))
    ≡ or_worn (cond t (Some ErasureInTheWay) (cond u (Some Guarded) (cond v (Some NeedsErase) None))) w
tests true u v w = refl
tests false true v w = refl
tests false false true w = refl
tests false false false w = refl

no_is : (m : Meaning) (a old byte : ℕ) → outside m a ≡ false → (bars m (block m a) ≡ false → old ≡ cell m a)
    → burn_no m a byte ≡ or_worn (burn_why (bars m (block m a)) (guarded m (block m a)) old byte) (worn m (block m a))
no_is m a old byte o same =
    cond-false (outside m a) _ _ o ∙ elim (cases_Bool (bars m (block m a))) [
      | inl b ↦ cond-true (bars m (block m a)) _ _ b
          ∙ sym (ap (λ (c : Option Cause). or_worn c (worn m (block m a))) (cond-true (bars m (block m a)) _ _ b))
      | inr b ↦
          ap (λ (n : ℕ). cond (bars m (block m a)) (Some ErasureInTheWay) (cond (guarded m (block m a)) (Some Guarded) (cond (needs_erase n byte) (Some NeedsErase) (cond (worn m (block m a)) (Some Worn) None)))) (sym (same b))
          ∙ tests (bars m (block m a)) (guarded m (block m a)) (needs_erase old byte) (worn m (block m a))
    ]

-- these causes are not 8
small : (t u : Bool) (old byte : ℕ) (c : Cause) → burn_why t u old byte ≡ Some c → eqb (number_of c) 8 ≡ false
small t u old byte c e = by t u (needs_erase old byte) e
  where
    by : (t u v : Bool) → cond t (Some ErasureInTheWay) (cond u (Some Guarded) (cond v (Some NeedsErase) None)) ≡ Some c → eqb (number_of c) 8 ≡ false
    by true u v e = let s : ErasureInTheWay ≡ c = cc in ap (λ (x : Cause). eqb (number_of x) 8) (sym s)
    by false true v e = let s : Guarded ≡ c = cc in ap (λ (x : Cause). eqb (number_of x) 8) (sym s)
    by false false true e = let s : NeedsErase ≡ c = cc in ap (λ (x : Cause). eqb (number_of x) 8) (sym s)
    by false false false e = let z : ◌≡◌ {A = ℕ} 0 1 = cc in absurd (omega arith)

passed : (t u : Bool) (old byte : ℕ) → burn_why t u old byte ≡ None → (t ≡ false) × (u ≡ false) × (needs_erase old byte ≡ false)
passed t u old byte e = by t u (needs_erase old byte) e
  where
    by : (t u v : Bool) → cond t (Some ErasureInTheWay) (cond u (Some Guarded) (cond v (Some NeedsErase) None)) ≡ None → (t ≡ false) × (u ≡ false) × (v ≡ false)
    by true u v e = let z : ◌≡◌ {A = ℕ} 0 1 = cc in absurd (omega arith)
    by false true v e = let z : ◌≡◌ {A = ℕ} 0 1 = cc in absurd (omega arith)
    by false false true e = let z : ◌≡◌ {A = ℕ} 0 1 = cc in absurd (omega arith)
    by false false false e = (refl, refl, refl)

module _ (r k : Rig) (n : Notes) (a old byte : ℕ) (sound : Sound r) (t : Tied r n) (i : inside r.sheet a ≡ true) (x : Shows r a old k) where
  abbrev m : Meaning
  m = meaning r

  abbrev b : ℕ
  b = block m a

  -- why the driver refuses
  abbrev why : Option Cause
  why = burn_why (barred n.standing b) (has n.guards b) old byte

  why_is : why ≡ burn_why (bars m b) (guarded m b) old byte
  why_is = ap (λ (u : Bool). burn_why u (has n.guards b) old byte) (bars_is r n b t) ∙ ap (λ (u : Bool). burn_why (bars m b) u old byte) (t.knows b)

  burn_no_is : burn_no m a byte ≡ or_worn why (worn m b)
  burn_no_is =
      no_is m a old byte (within_is r a sound i) (λ free. (free_read r k n a old t x free).cell)
      ∙ ap (λ (c : Option Cause). or_worn c (worn m b)) (sym why_is)

  burn_refused : (c : Cause) → why ≡ Some c → Burns r a byte (Err (record { cause = c; place = a })) k
  burn_refused c e =
      let no : burn_no m a byte ≡ Some c = burn_no_is ∙ ap (λ (o : Option Cause). or_worn o (worn m b)) e in
      let not_worn : eqb (number_of c) 8 ≡ false = small (bars m b) (guarded m b) old byte c (sym why_is ∙ e) in
      let z : (r.clock + 0) % 4294967296 ≡ r.clock = omega (arith, sound.clock) in
      record {
        answer = sym (ap (λ (o : Option Cause). answer o a tt) no);
        burnt =
            subst (λ (o : Option Cause). BurntBy m a byte o (meaning k)) (sym no)
            (subst (λ (u : Bool). Refused u m (meaning k)) (sym not_worn) (same_means r k a old x));
        time =
            ap (λ (y : Meaning). y.clock) (same_means r k a old x) ∙ sym z
            ∙ ap (λ (d : ℕ). (r.clock + d) % 4294967296) (sym (cond-false (eqb (number_of c) 8) longest_program 0 not_worn));
        chip = same_cycle r k (only_read r k a old x);
      }

  free : why ≡ None → Free r a byte k
  free e =
      let p = passed (bars m b) (guarded m b) old byte (sym why_is ∙ e) in
      let f = free_read r k n a old t x p.0 in
      record {
        burnable = record { within = i; unguarded = p.1; clears = ap (λ (d : ℕ). needs_erase d byte) (sym f.cell) ∙ p.2 };
        rests = f.rests;
        no = burn_no_is ∙ ap (λ (o : Option Cause). or_worn o (worn m b)) e;
        same = f.same;
      }

  -- the answer to whether it may be burnt
  pub may_burn : (c : Option Cause) → c ≡ why → (answered : Result (Unit {0}) PartFault) → answered ≡ answer c a tt → MayBurn r a byte answered k
  may_burn c is answered g = subst (λ (z : Result (Unit {0}) PartFault). MayBurn r a byte z k) (sym g) (by c (sym is))
    where
      by : (c : Option Cause) → why ≡ c → MayBurn r a byte (answer c a tt) k
      by None e = free e
      by (Some x) e = burn_refused x e
