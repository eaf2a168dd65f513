-- What an accepted call says of the causes of refusal.
use Rattle.std.proofs.Common.{◌≡◌, ℕ, ◌<◌, Bool, true, false, cond, leb, Some, None, Ok, Err, Option, sym, refl, ap, arith}
use Rattle.std.proofs.lemmas.Bool.{leb-false}
use Rattle.fault.specs.declared.cause.Cause.{Cause}
use Rattle.fault.specs.declared.faults.PartFault.{PartFault}
use Rattle.part.specs.Meaning.{Meaning, size, count, cell, block, guarded, worn}
use Rattle.part.specs.Calls.{answer, stands, bars, outside, needs_erase, burn_no, begin_no}

-- What a call answered says of why it was refused, or that it was not.
pub answer_ok : {X : Type 0} (no : Option Cause) (place : ℕ) (x y : X) → answer no place x ≡ Ok y → no ≡ None
answer_ok None place x y e = refl
answer_ok (Some c) place x y e = let z : ◌≡◌ {A = ℕ} 0 1 = cc in absurd (omega arith)

pub answer_err : {X : Type 0} (no : Option Cause) (place : ℕ) (x : X) (f : PartFault) → answer no place x ≡ Err f
    → (no ≡ Some f.cause) × (f.place ≡ place)
answer_err None place x f e = let z : ◌≡◌ {A = ℕ} 0 1 = cc in absurd (omega arith)
answer_err (Some c) place x f e =
    let g : record { cause = c; place = place } ≡ f = cc in
    (ap (λ (h : PartFault). Some h.cause) g, sym (ap (λ (h : PartFault). h.place) g))

-- A test that refuses did not, and what comes after it did not either.
passes : (t : Bool) (c : Cause) (rest : Option Cause) → cond t (Some c) rest ≡ None → (t ≡ false) × (rest ≡ None)
passes true c rest e = let z : ◌≡◌ {A = ℕ} 0 1 = cc in absurd (omega arith)
passes false c rest e = (refl, e)

pub record Burnable (m : Meaning) (a byte : ℕ) : Type 0 where
  pub within : a < size m
  pub free : bars m (block m a) ≡ false
  pub open_block : guarded m (block m a) ≡ false
  pub clears : needs_erase (cell m a) byte ≡ false
  pub sound : worn m (block m a) ≡ false

pub burnable : (m : Meaning) (a byte : ℕ) → burn_no m a byte ≡ None → Burnable m a byte
burnable m a byte e =
    let p = passes (outside m a) _ _ e in
    let q = passes (bars m (block m a)) _ _ p.1 in
    let r = passes (guarded m (block m a)) _ _ q.1 in
    let s = passes (needs_erase (cell m a) byte) _ _ r.1 in
    let t = passes (worn m (block m a)) _ _ s.1 in
    record { within = leb-false (size m) a p.0; free = q.0; open_block = r.0; clears = s.0; sound = t.0 }

pub record Erasable (m : Meaning) (b : ℕ) : Type 0 where
  pub within : b < count m
  pub free : stands m ≡ false
  pub open_block : guarded m b ≡ false

pub erasable : (m : Meaning) (b : ℕ) → begin_no m b ≡ None → Erasable m b
erasable m b e =
    let p = passes (leb (count m) b) _ _ e in
    let q = passes (stands m) _ _ p.1 in
    let r = passes (guarded m b) _ _ q.1 in
    record { within = leb-false (count m) b p.0; free = q.0; open_block = r.0 }
