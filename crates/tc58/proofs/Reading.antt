-- A read cycle of a chip shows what the driver's rows say.
use Rattle.std.proofs.Common.{◌≡◌, ℕ, ◌+◌, ◌-◌, ◌^◌, ◌<◌, Bool, true, false, cond, not, ◌&&◌, eqb, leb, length, get_or, Some, None, Ok, Err, Option, Result, sym, refl, ap, ◌∙◌, subst, inl, inr, arith}
use Rattle.std.proofs.lemmas.Bool.{and_parts, eqb-true, cases_Bool, cases_lt, cond-true, cond-false, eq-eqb, ne_eqb, lt-ltb, le-ltb}
use Rattle.fault.specs.declared.faults.ChipFault.{ChipFault}
use Rattle.fault.specs.declared.cause.Cause.TheVariants.{AddressOutside}
use Rattle.geometry.specs.Blocks.{block_of}
use Rattle.geometry.specs.Sets.{has, bit}
use Rattle.geometry.specs.Plans.{Plan, plan_of}
use Rattle.geometry.specs.Plans as plans
use Rattle.geometry.proofs.Bitwise.{below}
use Rattle.geometry.proofs.Placing.{every_plan}
use Rattle.flash.specs.declared.reads.Question.{Question}
use Rattle.flash.specs.declared.reads.Question.TheVariants.{Protection}
use Rattle.flash.specs.declared.sequence.Mode.TheVariants.{Read, Id}
use Rattle.flash.specs.declared.sequence.Place.TheVariants.{Start}
use Rattle.flash.specs.Statuses.{status}
use Rattle.flash.specs.Identities.{asked, question, answer}
use Rattle.chip.specs.declared.state.Phase.{Phase}
use Rattle.chip.specs.declared.state.Phase.TheVariants.{Window, Erasing as Begun}
use Rattle.chip.specs.declared.state.Erase.{Erase as ChipErase}
use Rattle.chip.specs.declared.state.State.{State}
use Rattle.chip.specs.declared.state.State.TheVariants.{Ready, Programming, Erasing, Suspending, Suspended, Failed}
use Rattle.chip.specs.Flash.{Flash, block_map_of, blocks, protected, lies_in}
use Rattle.chip.specs.Flash as flash
use Rattle.chip.specs.Reads.{begun, shown, flip_erase, answered, seen}
use Rattle.chip.specs.Reads as reads
use Rattle.chip.proofs.Updates.{with_state}
use Rattle.part.specs.Meaning.{guarded}
use Rattle.driver.specs.Rig.{Job, Burn, Doing, resting, erasing, stopping, start, does, inside, meaning}
use Rattle.driver.specs.Status.{dq7, dq6, dq5, Status}
use Rattle.driver.specs.Cycles.{flip_job, flipped, Shows, Reads}
use Rattle.tc58.specs.Rigs.{guard_address, sheet_of, sole, left_of, job_in, job_of, with_job, doing_of, rig_of}
use Rattle.tc58.specs.ProofOfSound.{every_plan_block, places}
use Rattle.tc58.proofs.Jobs.{job_is, identifies_is, programs_is, erases_is, stops_is, holds_is, fails_is, alone, beside, rests_is}
use Rattle.tc58.proofs.OneBlock.{one_has}
use Rattle.tc58.proofs.Writing.{inside_is, guarded_is}

-- The toggle bit turns, and nothing else.
flip_in : (f : Flash) (e : ChipErase) (o : Option ℕ) (what : Job → Doing) → ((j : Job) → flipped (what j) ≡ what (flip_job j))
    → with_job what (job_in f (flip_erase e) o) ≡ flipped (with_job what (job_in f e o))
flip_in f e None what h = refl
flip_in f e (Some b) what h = by (not (has f.setup.protected b) && leb 1 e.left) e.phase
  where
    at : (p : Phase) → left_of f (flip_erase e) p ≡ left_of f e p
    at Window = refl
    at Begun = refl

    by : (t : Bool) (p : Phase) → with_job what (cond t (Some (record { block = b; left = left_of f (flip_erase e) p; toggle = not e.toggle })) None)
        ≡ flipped (with_job what (cond t (Some (record { block = b; left = left_of f e p; toggle = e.toggle })) None))
    by true p =
        ap (λ (n : ℕ). what (record { block = b; left = n; toggle = not e.toggle })) (at p)
        ∙ sym (h (record { block = b; left = left_of f e p; toggle = e.toggle }))
    by false p = refl

flipped_is : (f : Flash) (s : State) → doing_of f (reads.flipped s) ≡ flipped (doing_of f s)
flipped_is f (Ready Read q) = refl
flipped_is f (Ready Id Start) = refl
flipped_is f (Ready Id q) = refl
flipped_is f (Programming p) = refl
flipped_is f (Erasing e) = flip_in f e (sole (length (blocks f)) e.selected) erasing (λ j. refl)
flipped_is f (Suspending e wait) = flip_in f e (sole (length (blocks f)) e.selected) (λ j. stopping j wait) (λ j. refl)
flipped_is f (Suspended e) = still (job_of f e)
  where
    still : (o : Option Job) → with_job (λ j. resting (Some j) start) o ≡ flipped (with_job (λ j. resting (Some j) start) o)
    still (Some j) = refl
    still None = refl
flipped_is f (Failed byte toggle) = refl

-- A test that three bits pass whatever they are.
all_three : (test : Bool → Bool → Bool → Bool)
    → ((test true true true && test true true false) && (test true false true && test true false false)
    && ((test false true true && test false true false) && (test false false true && test false false false))) ≡ true
    → (x y z : Bool) → test x y z ≡ true
all_three test t x y z =
    let halves = and_parts _ _ t in
    let high = and_parts _ _ halves.0 in
    let low = and_parts _ _ halves.1 in
    by x y z (and_parts _ _ high.0) (and_parts _ _ high.1) (and_parts _ _ low.0) (and_parts _ _ low.1)
  where
    by : (x y z : Bool) → (test true true true ≡ true) × (test true true false ≡ true) → (test true false true ≡ true) × (test true false false ≡ true)
        → (test false true true ≡ true) × (test false true false ≡ true) → (test false false true ≡ true) × (test false false false ≡ true) → test x y z ≡ true
    by true true true a b c d = a.0
    by true true false a b c d = a.1
    by true false true a b c d = b.0
    by true false false a b c d = b.1
    by false true true a b c d = c.0
    by false true false a b c d = c.1
    by false false true a b c d = d.0
    by false false false a b c d = d.1

-- a status byte with DQ7 as given
abbrev bits : ℕ → Bool → Bool → Bool → ℕ
bits high t f b = high + cond t 64 0 + cond f 32 0 + cond b 8 0

-- The status byte has the bits that the driver looks at.
status_is : (byte : ℕ) (toggle fails begun : Bool) → Status (status byte toggle fails begun) byte toggle fails
status_is byte toggle fails begun = elim (cases_lt byte 128) [
  | inl l ↦
      let z : dq7 byte ≡ 0 = omega arith in
      rw (lt-ltb byte 128 l) (record {
        inverse = rw z (eqb-true _ _ (all_three (λ t f b. eqb (dq7 (bits 128 t f b)) 1) refl toggle fails begun));
        toggles = eqb-true _ _ (all_three (λ t f b. eqb (dq6 (bits 128 t f b)) (cond t 1 0)) refl toggle fails begun);
        fails = eqb-true _ _ (all_three (λ t f b. eqb (dq5 (bits 128 t f b)) (cond f 1 0)) refl toggle fails begun);
      })
  | inr l ↦
      let z : 1 - dq7 byte ≡ 0 = omega arith in
      rw (le-ltb byte 128 l) (record {
        inverse = rw z (eqb-true _ _ (all_three (λ t f b. eqb (dq7 (bits 0 t f b)) 0) refl toggle fails begun));
        toggles = eqb-true _ _ (all_three (λ t f b. eqb (dq6 (bits 0 t f b)) (cond t 1 0)) refl toggle fails begun);
        fails = eqb-true _ _ (all_three (λ t f b. eqb (dq5 (bits 0 t f b)) (cond f 1 0)) refl toggle fails begun);
      })
]

-- At the address for a block's guard, the address bits ask whether the block is protected.
asks : Plan → ℕ → Bool
asks p b =
    let a = get_or p.starts b 0 + 2 ^ p.choice.middle in
    not (bit a p.choice.high) && bit a p.choice.middle && not (bit a p.choice.low)

protection : (high middle low : Bool) → (not high && middle && not low) ≡ true → question high middle low ≡ Protection
protection false true false t = refl
protection true middle low t = let z : ◌≡◌ {A = ℕ} 0 1 = cc in absurd (omega arith)
protection false false low t = let z : ◌≡◌ {A = ℕ} 0 1 = cc in absurd (omega arith)
protection false true true t = let z : ◌≡◌ {A = ℕ} 0 1 = cc in absurd (omega arith)

guard_asked : (kind b : ℕ) → b < length (plan_of kind).sizes → asked (plan_of kind).choice (guard_address kind b) ≡ Protection
unfolding asks
guard_asked kind b l =
    let a = guard_address kind b in
    let choice = (plan_of kind).choice in
    protection (bit a choice.high) (bit a choice.middle) (bit a choice.low)
    (every_plan_block asks (λ k. every_plan (λ (p : Plan). below (length p.sizes) (asks p)) refl k) kind b l)

module _ (f : Flash) (a : ℕ) (i : inside (sheet_of f.setup.kind) a ≡ true) where
  -- the toggle bit has turned
  turned : does (rig_of f) (doing_of f (reads.flipped f.state)) ≡ does (rig_of f) (flipped (doing_of f f.state))
  turned = ap (does (rig_of f)) (flipped_is f f.state)

  byte_by : (s : State) → f.state ≡ s → shown f f.state a ≡ shown f s a
  byte_by s e = ap (λ (x : State). shown f x a) e

  own_block : (e : ChipErase) (j : Job) → job_of f e ≡ Some j → lies_in f e.selected a ≡ eqb (block_of (blocks f) a) j.block
  own_block e j k = one_has e.selected j.block (block_of (blocks f) a) (job_is f e j k).good.selected

  pub shows_in : Shows (rig_of f) a (shown f f.state a) (does (rig_of f) (doing_of f (reads.flipped f.state)))
  shows_in = record {
    only = inr turned;
    rests = λ o p e other_block. elim (rests_is f f.state o p e) [
      | alone q s n at ↦ byte_by (Ready Read q) s
      | beside r j s k n at ↦
          byte_by (Suspended r) s
          ∙ cond-false (lies_in f r.selected a) _ _ (own_block r j k ∙ ne_eqb _ _ (other_block j n))
    ];
    stands_still = λ j p e own.
        let k = holds_is f f.state j p e in
        ap dq6 (byte_by (Suspended k.0) k.1 ∙ cond-true (lies_in f k.0.selected a) 0x80 (flash.cell f a) (own_block k.0 j k.2 ∙ eq-eqb _ _ own));
    identifies = λ b l e at.
        let at_guard = (places f.setup.kind b l).guard in
        let here : block_of (blocks f) a ≡ b = ap (λ (x : ℕ). block_of (blocks f) x) at ∙ at_guard.1 in
        byte_by (Ready Id Start) (identifies_is f f.state 0 e)
        ∙ ap (λ (q : Question). answer (plans.sheet_of (plan_of f.setup.kind)) (block_map_of f) a q)
        (ap (λ (x : ℕ). asked (plan_of f.setup.kind).choice x) at ∙ guard_asked f.setup.kind b l)
        ∙ ap (λ (t : Bool). cond t 1 0) (sym (guarded_is f a i) ∙ ap (guarded (meaning (rig_of f))) here);
    programs = λ p o e at.
        let k = programs_is f f.state p o e in
        let s : Status (shown f f.state a) k.0.byte k.0.toggle false =
        subst (λ (x : ℕ). Status x k.0.byte k.0.toggle false) (sym (byte_by (Programming k.0) k.1)) (status_is k.0.byte k.0.toggle false false) in
        (subst (λ (x : Burn). Status (shown f f.state a) x.byte x.toggle false) (sym k.2) s, turned);
    erases = λ j e own.
        let k = erases_is f f.state j e in
        let s : Status (shown f f.state a) 0xFF k.0.toggle false =
        subst (λ (x : ℕ). Status x 0xFF k.0.toggle false) (sym (byte_by (Erasing k.0) k.1)) (status_is 0xFF k.0.toggle false (begun k.0.phase)) in
        (subst (λ (t : Bool). Status (shown f f.state a) 0xFF t false) (sym (job_is f k.0 j k.2).toggle) s, turned);
    stops = λ j wait e own.
        let k = stops_is f f.state j wait e in
        let s : Status (shown f f.state a) 0xFF k.0.toggle false =
        subst (λ (x : ℕ). Status x 0xFF k.0.toggle false) (sym (byte_by (Suspending k.0 wait) k.1)) (status_is 0xFF k.0.toggle false (begun k.0.phase)) in
        (subst (λ (t : Bool). Status (shown f f.state a) 0xFF t false) (sym (job_is f k.0 j k.2).toggle) s, turned);
    has_failed = λ zone wanted toggle o e at.
        let k = fails_is f f.state zone wanted toggle o e in
        (subst (λ (x : ℕ). Status x wanted toggle true) (sym (byte_by (Failed wanted toggle) k.0)) (status_is wanted toggle true true), turned);
  }

pub reads_is : (f g : Flash) (a : ℕ) (x : Result ℕ ChipFault) → x ≡ answered f a → g ≡ seen f a → Reads (rig_of f) a x (rig_of g)
unfolding answered seen
reads_is f g a x e d = elim (cases_Bool (flash.inside f a)) [
  | inl t ↦
      let i : inside (sheet_of f.setup.kind) a ≡ true = inside_is f a ∙ t in
      let x_is : x ≡ Ok (shown f f.state a) = e ∙ cond-true (flash.inside f a) _ _ t in
      let g_is : g ≡ with_state f (reads.flipped f.state) = d ∙ cond-true (flash.inside f a) _ _ t in
      let P : Result ℕ ChipFault → Type 0 = λ y. Reads (rig_of f) a y (rig_of g) in
      subst P (sym x_is) (i, subst (λ (y : Flash). Shows (rig_of f) a (shown f f.state a) (rig_of y)) (sym g_is) (shows_in f a i))
  | inr t ↦
      let i : inside (sheet_of f.setup.kind) a ≡ false = inside_is f a ∙ t in
      let x_is : x ≡ Err (record { cause = AddressOutside; place = a }) = e ∙ cond-false (flash.inside f a) _ _ t in
      let g_is : g ≡ f = d ∙ cond-false (flash.inside f a) _ _ t in
      let P : Result ℕ ChipFault → Type 0 = λ y. Reads (rig_of f) a y (rig_of g) in
      subst P (sym x_is) (i, refl, ap rig_of g_is)
]
