-- Steps that a part grants: burns inside one block, each of which only turns bits to 0.
use Rattle.std.proofs.Common.{◌≡◌, ℕ, ◌+◌, ◌<◌, ◌≤◌, Bool, true, false, cond, List, [], ◌∷◌, ◌++◌, length, get_or, set, Some, None, Ok, Err, Option, Result, sym, refl, ap, ◌∙◌, subst, arith}
use Rattle.std.proofs.lemmas.List.{length-set}
use Rattle.std.proofs.lemmas.Bool.{cond-false, lt-leb}
use Rattle.fault.specs.declared.cause.Cause.{Cause}
use Rattle.fault.specs.declared.cause.Cause.TheVariants.{Worn}
use Rattle.fault.specs.declared.faults.PartFault.{PartFault}
use Rattle.part.specs.Meaning.{Meaning, size, cell, block, guarded, worn, with_cells, ticked}
use Rattle.part.specs.Calls.{needs_erase, bars, burn_no, Took, BurntBy}
use Rattle.part.proofs.Clocks.{ticked_more}
use Rattle.part.proofs.Standings.{bars_cells, bars_ticked}
use Rattle.book.specs.Burning.{Step, burn, Ran, done, burnt, refused}
use Rattle.book.specs.Laws.{AsWorn}
use Rattle.book.proofs.Seats.{Rewritten}
use Rattle.book.proofs.Ground.{Lies}

-- The steps turn the cells xs to ys, by burns among k cells from an address on that only turn bits to 0.
pub data Lays (from k : ℕ) : List ℕ → List Step → List ℕ → Type 0 where
  nothing : (xs : List ℕ) → Lays from k xs [] xs
  one_more : {xs ys : List ℕ} {a byte : ℕ} {steps : List Step} → from ≤ a → a < from + k → needs_erase (get_or xs a 0) byte ≡ false
      → Lays from k (set xs a byte) steps ys → Lays from k xs (burn a byte ∷ steps) ys

pub lays_then : {from k : ℕ} {xs ys zs : List ℕ} {s t : List Step} → Lays from k xs s ys → Lays from k ys t zs → Lays from k xs (s ++ t) zs
lays_then (nothing _) r = r
lays_then (one_more l h c q) r = one_more l h c (lays_then q r)

-- A part on which they can be made: the stretch lies in a block that is not guarded, and in which no erasure bars a burn.
pub record Ready (m : Meaning) (from k b : ℕ) : Type 0 where
  pub lies : Lies m from k b
  pub free : bars m b ≡ false
  pub open_block : guarded m b ≡ false

-- after some burns it still is
still_ready : (m : Meaning) (from k b : ℕ) (cells : List ℕ) (time : ℕ) → length cells ≡ length m.cells
    → Ready m from k b → Ready (ticked (with_cells m cells) time) from k b
still_ready m from k b cells time l r = record {
  lies = record { inside = omega (arith, r.lies.inside); at_block = r.lies.at_block };
  free = bars_ticked (with_cells m cells) time b ∙ bars_cells m cells b ∙ r.free;
  open_block = r.open_block;
}

-- only a worn block refuses such a burn
burn_only : (m : Meaning) (from k b a byte : ℕ) → Ready m from k b → from ≤ a → a < from + k → needs_erase (cell m a) byte ≡ false
    → burn_no m a byte ≡ cond (worn m b) (Some Worn) None
burn_only m from k b a byte r l h c =
    let at_block : block m a ≡ b = r.lies.at_block a l h in
    cond-false _ _ _ (lt-leb (size m) a (omega (arith, r.lies.inside)))
    ∙ cond-false _ _ _ (ap (bars m) at_block ∙ r.free)
    ∙ cond-false _ _ _ (ap (guarded m) at_block ∙ r.open_block)
    ∙ cond-false _ _ _ c
    ∙ ap (λ (x : ℕ). cond (worn m x) (Some Worn) None) at_block

-- One step.
record Stepped (m : Meaning) (a byte : ℕ) (steps : List Step) (r : Result (Unit {0}) PartFault) (n : Meaning) : Type 0 where
  time : ℕ
  rest : Ran (ticked (with_cells m (set m.cells a byte)) time) steps r n

step_made : (m : Meaning) (a byte : ℕ) (steps : List Step) (r : Result (Unit {0}) PartFault) (n : Meaning) → burn_no m a byte ≡ None
    → Ran m (burn a byte ∷ steps) r n → Stepped m a byte steps r n
step_made m a byte steps r n e (burnt {k = k} _ t x) =
    let took : Took 1 300 (with_cells m (set m.cells a byte)) k = subst (λ (o : Option Cause). BurntBy m a byte o k) e t in
    record { time = took.time; rest = subst (λ (j : Meaning). Ran j steps r n) took.is x }
step_made m a byte steps r n e (refused f _) = let z : ◌≡◌ {A = ℕ} 0 1 = cc in absurd (omega arith)

-- what a worn block does: it refuses, and some time has passed
abbrev pub WornOut : Meaning → Result (Unit {0}) PartFault → Meaning → Type 0
WornOut m r n = (fault : PartFault) × (time : ℕ) × (r ≡ Err fault) × (n ≡ ticked m time)

step_refused : (m : Meaning) (a byte : ℕ) (steps : List Step) (r : Result (Unit {0}) PartFault) (n : Meaning) → burn_no m a byte ≡ Some Worn
    → Ran m (burn a byte ∷ steps) r n → WornOut m r n
step_refused m a byte steps r n e (burnt f _ _) = let z : ◌≡◌ {A = ℕ} 0 1 = cc in absurd (omega arith)
step_refused m a byte steps r n e (refused {cause = c} f t) =
    let took : Took 0 300 m n = subst (λ (o : Option Cause). BurntBy m a byte o n) e t in
    (record { cause = c; place = a }, took.time, refl, took.is)

-- In a block that is not worn all of them are made.
pub record Granted (m : Meaning) (cells : List ℕ) (r : Result (Unit {0}) PartFault) (n : Meaning) : Type 0 where
  pub accepted : r ≡ Ok tt
  pub writes : Rewritten m cells n

ran_none : {m n : Meaning} {r : Result (Unit {0}) PartFault} → Ran m [] r n → (r ≡ Ok tt) × (n ≡ m)
ran_none (done _) = (refl, refl)

granted_on : (m : Meaning) (from k b : ℕ) → Ready m from k b → worn m b ≡ false
    → {xs ys : List ℕ} {steps : List Step} → Lays from k xs steps ys
    → (time : ℕ) → length xs ≡ length m.cells
    → (r : Result (Unit {0}) PartFault) (n : Meaning) → Ran (ticked (with_cells m xs) time) steps r n → Granted m ys r n
granted_on m from k b g w (nothing xs) time l r n x =
    let p = ran_none x in
    record { accepted = p.0; writes = record { time = time; long = l; is = p.1 } }
granted_on m from k b g w (one_more {xs = xs} {a = a} {byte = byte} {steps = steps} i h c q) time l r n x =
    let j : Meaning = ticked (with_cells m xs) time in
    let made = step_made j a byte steps r n
    (burn_only j from k b a byte (still_ready m from k b xs time l g) i h c ∙ ap (λ (t : Bool). cond t (Some Worn) None) w) x in
    granted_on m from k b g w q (time + made.time) (length-set xs a byte ∙ l) r n
    (subst (λ (y : Meaning). Ran y steps r n) (ticked_more (with_cells m (set xs a byte)) time made.time) made.rest)

-- the burn that begins a list of steps
first_burn : (m : Meaning) (from k b a byte : ℕ) (xs : List ℕ) → Ready m from k b → m.cells ≡ xs → from ≤ a → a < from + k
    → needs_erase (get_or xs a 0) byte ≡ false → burn_no m a byte ≡ cond (worn m b) (Some Worn) None
first_burn m from k b a byte xs g e l h c =
    burn_only m from k b a byte g l h (ap (λ (cells : List ℕ). needs_erase (get_or cells a 0) byte) e ∙ c)

pub granted : (m : Meaning) (from k b : ℕ) → Ready m from k b → worn m b ≡ false
    → {xs ys : List ℕ} {steps : List Step} → Lays from k xs steps ys → m.cells ≡ xs → (steps ≡ [] → ⊥)
    → (r : Result (Unit {0}) PartFault) (n : Meaning) → Ran m steps r n → Granted m ys r n
granted m from k b g w (nothing xs) e some r n x = absurd (some refl)
granted m from k b g w (one_more {xs = xs} {ys = ys} {a = a} {byte = byte} {steps = steps} i h c q) e some r n x =
    let made = step_made m a byte steps r n
    (first_burn m from k b a byte xs g e i h c ∙ ap (λ (t : Bool). cond t (Some Worn) None) w) x in
    granted_on m from k b g w (subst (λ (cells : List ℕ). Lays from k (set cells a byte) steps ys) (sym e) q)
    made.time (length-set m.cells a byte) r n made.rest

-- In a worn block the first of them is refused.
pub worn_out : (m : Meaning) (from k b : ℕ) → Ready m from k b → worn m b ≡ true
    → {xs ys : List ℕ} {steps : List Step} → Lays from k xs steps ys → m.cells ≡ xs → (steps ≡ [] → ⊥)
    → (r : Result (Unit {0}) PartFault) (n : Meaning) → Ran m steps r n → WornOut m r n
worn_out m from k b g w (nothing xs) e some r n x = absurd (some refl)
worn_out m from k b g w (one_more {xs = xs} {a = a} {byte = byte} {steps = steps} i h c q) e some r n x =
    step_refused m a byte steps r n (first_burn m from k b a byte xs g e i h c ∙ ap (λ (t : Bool). cond t (Some Worn) None) w) x

step_cause : (m : Meaning) (a byte : ℕ) (steps : List Step) (r : Result (Unit {0}) PartFault) (n : Meaning) → burn_no m a byte ≡ Some Worn
    → Ran m (burn a byte ∷ steps) r n → AsWorn r
step_cause m a byte steps r n e (burnt f _ _) = let z : ◌≡◌ {A = ℕ} 0 1 = cc in absurd (omega arith)
step_cause m a byte steps r n e (refused {cause = c} f t) = cc

-- The refusal is that of a worn block.
pub worn_cause : (m : Meaning) (from k b : ℕ) → Ready m from k b → worn m b ≡ true
    → {xs ys : List ℕ} {steps : List Step} → Lays from k xs steps ys → m.cells ≡ xs → (steps ≡ [] → ⊥)
    → (r : Result (Unit {0}) PartFault) (n : Meaning) → Ran m steps r n → AsWorn r
worn_cause m from k b g w (nothing xs) e some r n x = absurd (some refl)
worn_cause m from k b g w (one_more {xs = xs} {a = a} {byte = byte} {steps = steps} i h c q) e some r n x =
    step_cause m a byte steps r n (first_burn m from k b a byte xs g e i h c ∙ ap (λ (t : Bool). cond t (Some Worn) None) w) x

-- a list with a last step is not empty
pub has_last : (s : List Step) (x : Step) → s ++ (x ∷ []) ≡ [] → ⊥
has_last [] x e = let z : ◌≡◌ {A = ℕ} 0 1 = cc in omega arith
has_last (y ∷ s) x e = let z : ◌≡◌ {A = ℕ} 0 1 = cc in omega arith
