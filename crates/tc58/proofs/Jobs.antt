-- What a chip is doing, by what its driver sees of it.
use Rattle.std.proofs.Common.{◌≡◌, ℕ, zero, suc, ◌^◌, ◌<◌, ◌≤◌, Bool, false, not, ◌&&◌, eqb, leb, length, Some, None, Option, sym, refl, ap, ◌∙◌, subst, inl, inr, arith}
use Rattle.std.proofs.Math.Pow.{pow-lt}
use Rattle.std.proofs.lemmas.Bool.{cases_Bool, cases_eq, and_parts, and_from, eqb-true, eq-eqb, ne_eqb, leb-true, le-leb, not-true, cond-true, cond-false}
use Rattle.geometry.specs.declared.set.BlockSet.{BlockSet}
use Rattle.geometry.specs.Sets.{has}
use Rattle.flash.specs.declared.sequence.Mode.TheVariants.{Read, Id}
use Rattle.flash.specs.declared.sequence.Place.{Place as ChipPlace}
use Rattle.flash.specs.declared.sequence.Place.TheVariants.{Start, Second, Command, Data, EraseStart, EraseSecond, EraseBlock}
use Rattle.chip.specs.declared.state.Phase.{Phase}
use Rattle.chip.specs.declared.state.Phase.TheVariants.{Window, Erasing as Begun}
use Rattle.chip.specs.declared.state.Program.{Program}
use Rattle.chip.specs.declared.state.Erase.{Erase}
use Rattle.chip.specs.declared.state.State.{State}
use Rattle.chip.specs.declared.state.State.TheVariants.{Ready, Programming, Erasing, Suspending, Suspended, Failed}
use Rattle.chip.specs.Flash.{Flash, blocks}
use Rattle.driver.specs.Rig.{Job, Burn, Place, Doing, resting, identifying, programming, erasing, stopping, failed, other, start, first_unlock, unlocked, program_setup, erase_setup, erase_first_unlock, erase_unlocked}
use Rattle.tc58.specs.Rigs.{place_of, sole, left_of, job_in, job_of, with_job, doing_of}

-- The one block of a set.
pub sole_is : (n : ℕ) (set : BlockSet) (b : ℕ) → sole n set ≡ Some b → (set.mask ≡ 2 ^ b) × (b < n)
sole_is zero set b e = let z : ◌≡◌ {A = ℕ} 0 1 = cc in absurd (omega arith)
sole_is (suc n) set b e = elim (cases_Bool (eqb set.mask (2 ^ n))) [
  | inl t ↦
      let f : Some n ≡ Some b = sym (cond-true (eqb set.mask (2 ^ n)) (Some n) (sole n set) t) ∙ e in
      let same : n ≡ b = cc in
      (eqb-true _ _ t ∙ ap (λ (k : ℕ). 2 ^ k) same, omega arith)
  | inr t ↦
      let f = sole_is n set b (sym (cond-false (eqb set.mask (2 ^ n)) (Some n) (sole n set) t) ∙ e) in
      (f.0, omega (arith, f.1))
]

pub sole_of : (n : ℕ) (set : BlockSet) (b : ℕ) → set.mask ≡ 2 ^ b → b < n → sole n set ≡ Some b
sole_of zero set b m l = absurd (omega arith)
sole_of (suc n) set b m l = elim (cases_eq b n) [
  | inl e ↦ cond-true (eqb set.mask (2 ^ n)) (Some n) (sole n set) (eq-eqb _ _ (m ∙ ap (λ (k : ℕ). 2 ^ k) e)) ∙ ap Some (sym e)
  | inr d ↦
      let less : b < n = omega (arith, d) in
      let small : 2 ^ b < 2 ^ n = pow-lt {i = b} {j = n} less in
      cond-false (eqb set.mask (2 ^ n)) (Some n) (sole n set) (ne_eqb _ _ (λ e. omega (arith, m, small)))
      ∙ sole_of n set b m less
]

-- An erase that is not over has time left with the window counted in.
pub left_lasts : (f : Flash) (e : Erase) (p : Phase) → 1 ≤ e.left → 1 ≤ left_of f e p
left_lasts f e Window h = omega arith
left_lasts f e Begun h = h

-- an erase of block b alone, which is not protected, with time left
pub record Good (f : Flash) (e : Erase) (b : ℕ) : Type 0 where
  pub within : b < length (blocks f)
  pub unprotected : has f.setup.protected b ≡ false
  pub selected : e.selected.mask ≡ 2 ^ b
  pub lasts : 1 ≤ e.left

pub record IsJob (f : Flash) (e : Erase) (j : Job) : Type 0 where
  pub good : Good f e j.block
  pub left : j.left ≡ left_of f e e.phase
  pub toggle : j.toggle ≡ e.toggle

abbrev job : Flash → Erase → ℕ → Job
job f e b = record { block = b; left = left_of f e e.phase; toggle = e.toggle }

pub good_job : (f : Flash) (e : Erase) (b : ℕ) → Good f e b → job_of f e ≡ Some (job f e b)
good_job f e b g =
    ap (job_in f e) (sole_of (length (blocks f)) e.selected b g.selected g.within)
    ∙ cond-true (not (has f.setup.protected b) && leb 1 e.left) _ _ (and_from _ _ (ap not g.unprotected) (le-leb _ _ g.lasts))

pub job_is : (f : Flash) (e : Erase) (j : Job) → job_of f e ≡ Some j → IsJob f e j
job_is f e j t = by (sole (length (blocks f)) e.selected) (λ b q. sole_is (length (blocks f)) e.selected b q) t
  where
    by : (o : Option ℕ) → ((b : ℕ) → o ≡ Some b → (e.selected.mask ≡ 2 ^ b) × (b < length (blocks f))) → job_in f e o ≡ Some j → IsJob f e j
    by None q t = let z : ◌≡◌ {A = ℕ} 0 1 = cc in absurd (omega arith)
    by (Some b) q t = elim (cases_Bool (not (has f.setup.protected b) && leb 1 e.left)) [
      | inl p ↦
          let parts = and_parts (not (has f.setup.protected b)) (leb 1 e.left) p in
          let s : Some (job f e b) ≡ Some j = sym (cond-true (not (has f.setup.protected b) && leb 1 e.left) (Some (job f e b)) None p) ∙ t in
          let same : job f e b ≡ j = cc in
          let k = q b refl in
          subst (IsJob f e) same (record {
            good = record { within = k.1; unprotected = not-true _ parts.0; selected = k.0; lasts = leb-true _ _ parts.1 };
            left = refl;
            toggle = refl;
          })
      | inr p ↦
          let s : None ≡ Some j = sym (cond-false (not (has f.setup.protected b) && leb 1 e.left) (Some (job f e b)) None p) ∙ t in
          let z : ◌≡◌ {A = ℕ} 0 1 = cc in absurd (omega arith)
    ]

-- the place of a chip's sequence, back from the driver's
back : Place → ChipPlace
back start = Start
back first_unlock = Second
back unlocked = Command
back program_setup = Data
back erase_setup = EraseStart
back erase_first_unlock = EraseSecond
back erase_unlocked = EraseBlock

back_of : (p : ChipPlace) → back (place_of p) ≡ p
unfolding back
back_of Start = refl
back_of Second = refl
back_of Command = refl
back_of Data = refl
back_of EraseStart = refl
back_of EraseSecond = refl
back_of EraseBlock = refl

same_place : (p q : ChipPlace) → place_of p ≡ place_of q → p ≡ q
same_place p q e = sym (back_of p) ∙ ap back e ∙ back_of q

-- what a chip does, and what its driver sees of it
pub data Sees (f : Flash) : State → Doing → Type 0 where
  reads : (q : ChipPlace) → Sees f (Ready Read q) (resting None (place_of q))
  identifies : Sees f (Ready Id Start) (identifying 0)
  programs : (p : Program) → Sees f (Programming p) (programming (record { address = p.address; byte = p.byte; left = p.left; toggle = p.toggle }) None)
  erases : (e : Erase) (j : Job) → job_of f e ≡ Some j → Sees f (Erasing e) (erasing j)
  stops : (e : Erase) (wait : ℕ) (j : Job) → job_of f e ≡ Some j → Sees f (Suspending e wait) (stopping j wait)
  holds : (e : Erase) (j : Job) → job_of f e ≡ Some j → Sees f (Suspended e) (resting (Some j) start)
  fails : (byte : ℕ) (toggle : Bool) → Sees f (Failed byte toggle) (failed 0 byte toggle None)
  nothing : (s : State) → Sees f s other

with_erase : (f : Flash) (s : State) (what : Job → Doing) (o : Option Job) → ((j : Job) → o ≡ Some j → Sees f s (what j)) → Sees f s (with_job what o)
with_erase f s what (Some j) k = k j refl
with_erase f s what None k = nothing s

pub sees : (f : Flash) (s : State) → Sees f s (doing_of f s)
sees f (Ready Read q) = reads q
sees f (Ready Id Start) = identifies
sees f (Ready Id q) = nothing (Ready Id q)
sees f (Programming p) = programs p
sees f (Erasing e) = with_erase f (Erasing e) erasing (job_of f e) (erases e)
sees f (Suspending e wait) = with_erase f (Suspending e wait) (λ j. stopping j wait) (job_of f e) (stops e wait)
sees f (Suspended e) = with_erase f (Suspended e) (λ j. resting (Some j) start) (job_of f e) (holds e)
sees f (Failed byte toggle) = fails byte toggle

-- The same by what the driver sees.
module _ (f : Flash) where
  when_read : (s : State) (d : Doing) → Sees f s d → (p : ChipPlace) → d ≡ resting None (place_of p) → s ≡ Ready Read p
  when_read s d (reads q) p e = let k : place_of q ≡ place_of p = cc in ap (Ready Read) (same_place q p k)
  when_read s d x p e = let z : ◌≡◌ {A = ℕ} 0 1 = cc in absurd (omega arith)

  pub ready_is : (s : State) (p : ChipPlace) → doing_of f s ≡ resting None (place_of p) → s ≡ Ready Read p
  ready_is s = when_read s (doing_of f s) (sees f s)

  when_identifies : (s : State) (d : Doing) → Sees f s d → (z : ℕ) → d ≡ identifying z → s ≡ Ready Id Start
  when_identifies s d identifies z e = refl
  when_identifies s d x z e = let n : ◌≡◌ {A = ℕ} 0 1 = cc in absurd (omega arith)

  pub identifies_is : (s : State) (z : ℕ) → doing_of f s ≡ identifying z → s ≡ Ready Id Start
  identifies_is s = when_identifies s (doing_of f s) (sees f s)

  abbrev burn_of : Program → Burn
  burn_of q = record { address = q.address; byte = q.byte; left = q.left; toggle = q.toggle }

  when_programs : (s : State) (d : Doing) → Sees f s d → (p : Burn) (o : Option Job) → d ≡ programming p o
      → (q : Program) × (s ≡ Programming q) × (p ≡ record { address = q.address; byte = q.byte; left = q.left; toggle = q.toggle }) × (o ≡ None)
  when_programs s d (programs q) p o e =
      let k : burn_of q ≡ p = cc in
      let n : None ≡ o = cc in
      (q, refl, sym k, sym n)
  when_programs s d x p o e = let z : ◌≡◌ {A = ℕ} 0 1 = cc in absurd (omega arith)

  pub programs_is : (s : State) (p : Burn) (o : Option Job) → doing_of f s ≡ programming p o
      → (q : Program) × (s ≡ Programming q) × (p ≡ record { address = q.address; byte = q.byte; left = q.left; toggle = q.toggle }) × (o ≡ None)
  programs_is s = when_programs s (doing_of f s) (sees f s)

  when_erases : (s : State) (d : Doing) → Sees f s d → (j : Job) → d ≡ erasing j → (e : Erase) × (s ≡ Erasing e) × (job_of f e ≡ Some j)
  when_erases s d (erases r i k) j e = let same : i ≡ j = cc in (r, refl, k ∙ ap Some same)
  when_erases s d x j e = let z : ◌≡◌ {A = ℕ} 0 1 = cc in absurd (omega arith)

  pub erases_is : (s : State) (j : Job) → doing_of f s ≡ erasing j → (e : Erase) × (s ≡ Erasing e) × (job_of f e ≡ Some j)
  erases_is s = when_erases s (doing_of f s) (sees f s)

  when_stops : (s : State) (d : Doing) → Sees f s d → (j : Job) (wait : ℕ) → d ≡ stopping j wait
      → (e : Erase) × (s ≡ Suspending e wait) × (job_of f e ≡ Some j)
  when_stops s d (stops r w i k) j wait e =
      let same : i ≡ j = cc in
      let same_wait : w ≡ wait = cc in
      (r, ap (Suspending r) same_wait, k ∙ ap Some same)
  when_stops s d x j wait e = let z : ◌≡◌ {A = ℕ} 0 1 = cc in absurd (omega arith)

  pub stops_is : (s : State) (j : Job) (wait : ℕ) → doing_of f s ≡ stopping j wait → (e : Erase) × (s ≡ Suspending e wait) × (job_of f e ≡ Some j)
  stops_is s = when_stops s (doing_of f s) (sees f s)

  when_holds : (s : State) (d : Doing) → Sees f s d → (j : Job) (p : Place) → d ≡ resting (Some j) p
      → (e : Erase) × (s ≡ Suspended e) × (job_of f e ≡ Some j) × (p ≡ start)
  when_holds s d (reads q) j p e = let n : None ≡ Some j = cc in let z : ◌≡◌ {A = ℕ} 0 1 = cc in absurd (omega arith)
  when_holds s d (holds r i k) j p e =
      let some : Some i ≡ Some j = cc in
      let same : i ≡ j = cc in
      let at : start ≡ p = cc in
      (r, refl, k ∙ ap Some same, sym at)
  when_holds s d x j p e = let z : ◌≡◌ {A = ℕ} 0 1 = cc in absurd (omega arith)

  pub holds_is : (s : State) (j : Job) (p : Place) → doing_of f s ≡ resting (Some j) p
      → (e : Erase) × (s ≡ Suspended e) × (job_of f e ≡ Some j) × (p ≡ start)
  holds_is s = when_holds s (doing_of f s) (sees f s)

  when_failed : (s : State) (d : Doing) → Sees f s d → (zone wanted : ℕ) (toggle : Bool) (o : Option Job) → d ≡ failed zone wanted toggle o
      → (s ≡ Failed wanted toggle) × (o ≡ None)
  when_failed s d (fails b t) zone wanted toggle o e =
      let same : b ≡ wanted = cc in
      let same_toggle : t ≡ toggle = cc in
      let n : None ≡ o = cc in
      (ap (λ (x : ℕ). Failed x t) same ∙ ap (Failed wanted) same_toggle, sym n)
  when_failed s d x zone wanted toggle o e = let z : ◌≡◌ {A = ℕ} 0 1 = cc in absurd (omega arith)

  pub fails_is : (s : State) (zone wanted : ℕ) (toggle : Bool) (o : Option Job) → doing_of f s ≡ failed zone wanted toggle o
      → (s ≡ Failed wanted toggle) × (o ≡ None)
  fails_is s = when_failed s (doing_of f s) (sees f s)

  -- at rest: read mode, or suspended
  pub data Rests (s : State) (o : Option Job) (p : Place) : Type 0 where
    alone : (q : ChipPlace) → s ≡ Ready Read q → o ≡ None → p ≡ place_of q → Rests s o p
    beside : (e : Erase) (j : Job) → s ≡ Suspended e → job_of f e ≡ Some j → o ≡ Some j → p ≡ start → Rests s o p

  when_rests : (s : State) (d : Doing) → Sees f s d → (o : Option Job) (p : Place) → d ≡ resting o p → Rests s o p
  when_rests s d (reads q) o p e =
      let n : None ≡ o = cc in
      let at : place_of q ≡ p = cc in
      alone q refl (sym n) (sym at)
  when_rests s d (holds r i k) o p e =
      let n : Some i ≡ o = cc in
      let at : start ≡ p = cc in
      beside r i refl k (sym n) (sym at)
  when_rests s d x o p e = let z : ◌≡◌ {A = ℕ} 0 1 = cc in absurd (omega arith)

  pub rests_is : (s : State) (o : Option Job) (p : Place) → doing_of f s ≡ resting o p → Rests s o p
  rests_is s = when_rests s (doing_of f s) (sees f s)
