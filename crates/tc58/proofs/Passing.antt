-- Time on a chip does what the driver's rows say.
use Rattle.std.proofs.Common.{◌≡◌, ℕ, zero, suc, ◌+◌, ◌-◌, ◌%◌, ◌<◌, ◌≤◌, max, Bool, true, false, cond, not, ◌&&◌, ◌||◌, leb, List, get_or, set, Some, None, Ok, Err, Option, Result, sym, refl, ap, ◌∙◌, subst, inl, inr, arith, lit≤}
use lib.Bits.{bit_and}
use Rattle.std.proofs.lemmas.Bool.{cases_Bool, cases_lt, cond_both, cond-true, cond-false, eqb-true, not-false}
use Rattle.fault.specs.declared.faults.ChipFault.{ChipFault}
use Rattle.fault.specs.declared.cause.Cause.TheVariants.{TimeTooLong}
use Rattle.fault.specs.Limits.{longest, needs_erase}
use Rattle.geometry.specs.declared.set.BlockSet.{BlockSet}
use Rattle.geometry.specs.Blocks.{filled, wiped}
use Rattle.geometry.specs.Sets.{has}
use Rattle.flash.specs.Programs.{program_fails, after_program}
use Rattle.chip.specs.declared.setup.Setup.{Setup}
use Rattle.chip.specs.declared.state.Phase.{Phase}
use Rattle.chip.specs.declared.state.Phase.TheVariants.{Window, Erasing as Begun}
use Rattle.chip.specs.declared.state.Program.{Program}
use Rattle.chip.specs.declared.state.Erase.{Erase}
use Rattle.chip.specs.declared.state.State.{State}
use Rattle.chip.specs.declared.state.State.TheVariants.{Programming, Erasing, Suspending, Suspended, Failed}
use Rattle.chip.specs.Flash.{Flash, block_map_of, blocks, worn, erasable}
use Rattle.chip.specs.Writes.{read_mode}
use Rattle.chip.specs.Times.{programmed, spoils, erase_time, erased, ended, due, lowered, step, steps, with_clock, waited, after}
use Rattle.chip.specs.Laws as laws
use Rattle.chip.proofs.Updates.{with_state}
use Rattle.chip.proofs.Limits.{limits}
use Rattle.chip.proofs.CellLaws.{step_like}
use Rattle.chip.proofs.Passing.{until, over, steps_split, still, passed_is}
use Rattle.part.specs.Meaning.{block}
use Rattle.part.specs.Meaning as meanings
use Rattle.driver.specs.Rig.{Job, Burn, Place, Doing, resting, programming, erasing, stopping, failed, start, Rig, later, meaning}
use Rattle.driver.specs.Cycles.{Burnable, Elapses, Passes}
use Rattle.tc58.specs.Rigs.{left_of, job_of, with_job, doing_of, rig_of}
use Rattle.tc58.proofs.Jobs.{Good, good_job, IsJob, job_is, programs_is, erases_is, stops_is, Rests, alone, beside, rests_is}
use Rattle.tc58.proofs.OneBlock.{filled_one, erasable_one, spoils_one, erase_time_one}
use Rattle.tc58.proofs.Writing.{mark_is, worn_is, clear}

-- What n microseconds of single steps leave, with n more on the count.
pub moved : (n : ℕ) (f : Flash) → f.clock < 4294967296 → leb n longest ≡ true → after n f ≡ with_clock (steps n f) ((f.clock + n) % 4294967296)
unfolding after
moved n f c t = cond-true (leb n longest) _ _ t ∙ passed_is n f c

steps_setup : (n : ℕ) (f : Flash) → (steps n f).setup ≡ f.setup
unfolding steps
steps_setup zero f = refl
steps_setup (suc n) f = steps_setup n (step f) ∙ (step_like f (due f.state)).0

-- the rig at the end, by what the steps have come to
abbrev end : ℕ → Flash → Flash → Rig
end n f g = later (rig_of f) n g.cells (doing_of f g.state)

-- n microseconds past the end of a state that lasts from then on
past : (n d : ℕ) (f g : Flash) → due f.state ≡ Some d → d ≤ n → ended f f.state ≡ g → due g.state ≡ None → steps n f ≡ g
past n d f g e l is lasts =
    let k : n ≡ d + (n - d) = omega arith in
    ap (λ (m : ℕ). steps m f) k ∙ steps_split d (n - d) f ∙ ap (steps (n - d)) (over d f e ∙ is) ∙ still (n - d) g lasts

-- A program.
module _ (f : Flash) (q : Program) (is : f.state ≡ Programming q) where
  due_program : due f.state ≡ Some (max 1 q.left)
  due_program = ap due is

  pub program_on : (n : ℕ) → n < q.left → steps n f ≡ with_state f (Programming (record q { left = q.left - n }))
  program_on n h =
      until n (max 1 q.left) f due_program (omega arith) ∙ ap (λ (s : State). with_state f (lowered n s)) is

  module _ (k : Burnable (rig_of f) q.address q.byte) (n : ℕ) (l : q.left ≤ n) (one : 1 ≤ n) where
    at_end : ended f f.state ≡ programmed f q
    at_end = ap (ended f) is

    bad_at : worn f q.address ≡ true → program_fails (block_map_of f) f.cells q.address q.byte ≡ true
    bad_at w =
        ap (λ (t : Bool). not t && (worn f q.address || needs_erase (get_or f.cells q.address 0) q.byte)) (clear f q.address q.byte k).unprotected
        ∙ ap (λ (t : Bool). t || needs_erase (get_or f.cells q.address 0) q.byte) w

    good_at : worn f q.address ≡ false → program_fails (block_map_of f) f.cells q.address q.byte ≡ false
    good_at w =
        ap (λ (t : Bool). not t && (worn f q.address || needs_erase (get_or f.cells q.address 0) q.byte)) (clear f q.address q.byte k).unprotected
        ∙ ap (λ (t : Bool). t || needs_erase (get_or f.cells q.address 0) q.byte) w ∙ (clear f q.address q.byte k).clears

    pub program_worn : worn f q.address ≡ true → steps n f ≡ with_state f (Failed q.byte q.toggle)
    program_worn w =
        past n (max 1 q.left) f (with_state f (Failed q.byte q.toggle)) due_program (omega arith)
        (at_end
        ∙ ap (λ (t : Bool). record f { cells = after_program (block_map_of f) f.cells q.address q.byte; state = cond t (Failed q.byte q.toggle) read_mode }) (bad_at w)
        ∙ ap (λ (t : Bool). record f { cells = cond t f.cells (set f.cells q.address (bit_and (get_or f.cells q.address 0) q.byte)); state = Failed q.byte q.toggle })
        (ap (λ (t : Bool). t || worn f q.address) (clear f q.address q.byte k).unprotected ∙ w))
        refl

    pub program_done : worn f q.address ≡ false → steps n f ≡ record f { cells = set f.cells q.address q.byte; state = read_mode }
    program_done w =
        let same : bit_and (get_or f.cells q.address 0) q.byte ≡ q.byte = eqb-true _ _ (not-false _ (clear f q.address q.byte k).clears) in
        past n (max 1 q.left) f (record f { cells = set f.cells q.address q.byte; state = read_mode }) due_program (omega arith)
        (at_end
        ∙ ap (λ (t : Bool). record f { cells = after_program (block_map_of f) f.cells q.address q.byte; state = cond t (Failed q.byte q.toggle) read_mode }) (good_at w)
        ∙ ap (λ (t : Bool). record f { cells = cond t f.cells (set f.cells q.address (bit_and (get_or f.cells q.address 0) q.byte)); state = read_mode })
        (ap (λ (t : Bool). t || worn f q.address) (clear f q.address q.byte k).unprotected ∙ w)
        ∙ ap (λ (x : ℕ). record f { cells = set f.cells q.address x; state = read_mode }) same)
        refl

-- A suspension.
module _ (f : Flash) (e : Erase) (wait : ℕ) (is : f.state ≡ Suspending e wait) where
  pub stop_on : (n : ℕ) → n < wait → steps n f ≡ with_state f (Suspending e (wait - n))
  stop_on n h = until n (max 1 wait) f (ap due is) (omega arith) ∙ ap (λ (s : State). with_state f (lowered n s)) is

  pub stop_over : (n : ℕ) → wait ≤ n → 1 ≤ n → steps n f ≡ with_state f (Suspended e)
  stop_over n l one = past n (max 1 wait) f (with_state f (Suspended e)) (ap due is) (omega arith) (ap (ended f) is) refl

-- An erase: as it was, with n microseconds less to go.
record Later (f : Flash) (e : Erase) (p : Phase) (n : ℕ) (g : Flash) : Type 0 where
  pub erase : Erase
  pub is : g ≡ with_state f (Erasing erase)
  pub selected : erase.selected ≡ e.selected
  pub toggle : erase.toggle ≡ e.toggle
  pub lasts : 1 ≤ erase.left
  pub left : left_of f erase erase.phase + n ≡ left_of f e p

later_left : (f : Flash) (e : Erase) (n : ℕ) → n ≤ e.left → (p : Phase)
    → left_of f (record e { left = e.left - n }) p + n ≡ left_of f e p
later_left f e n h Window = omega arith
later_left f e n h Begun = omega arith

due_in : (f : Flash) (e : Erase) → f.state ≡ Erasing e → 1 ≤ e.left → due f.state ≡ Some e.left
due_in f e s one = let m : max 1 e.left ≡ e.left = omega arith in ap due s ∙ ap Some m

-- before the end of its phase
short : (f : Flash) (e : Erase) → f.state ≡ Erasing e → 1 ≤ e.left → (n : ℕ) → n < e.left → Later f e e.phase n (steps n f)
short f e s one n h = record {
  erase = record e { left = e.left - n };
  is = until n e.left f (due_in f e s one) h ∙ ap (λ (x : State). with_state f (lowered n x)) s;
  selected = refl;
  toggle = refl;
  lasts = omega arith;
  left = later_left f e n (omega arith) e.phase;
}

-- the end of its phase
whole : (f : Flash) (e : Erase) → f.state ≡ Erasing e → 1 ≤ e.left → (p : Phase) → e.phase ≡ p → steps e.left f ≡ erased f e p
whole f e s one p w = over e.left f (due_in f e s one) ∙ ap (ended f) s ∙ ap (erased f e) w

begun : Flash → Erase → Erase
begun f e = record e { phase = Begun; left = erase_time f e.selected }

-- n microseconds, split where the phase ends
split_at_end : (f : Flash) (e : Erase) (n : ℕ) → e.left ≤ n → steps n f ≡ steps (n - e.left) (steps e.left f)
split_at_end f e n h =
    let k : n ≡ e.left + (n - e.left) = omega arith in
    ap (λ (m : ℕ). steps m f) k ∙ steps_split e.left (n - e.left) f

ended_still : (f : Flash) (e : Erase) → due (erased f e Begun).state ≡ None
ended_still f e = cond_both (spoils f e.selected) _ _ (λ (s : State). due s ≡ None) (λ _. refl) (λ _. refl)

module _ (f : Flash) (e : Erase) (s : f.state ≡ Erasing e) (one : 1 ≤ e.left) (lasts : 1 ≤ erase_time f e.selected) where
  -- while there is time left, the erase goes on
  goes_on : (p : Phase) → e.phase ≡ p → (n : ℕ) → n < left_of f e p → Later f e p n (steps n f)
  unfolding begun
  goes_on Begun w n h = subst (λ (p : Phase). Later f e p n (steps n f)) w (short f e s one n h)
  goes_on Window w n h =
      elim (cases_lt n e.left) [
        | inl l ↦ subst (λ (p : Phase). Later f e p n (steps n f)) w (short f e s one n l)
        | inr l ↦
            let g : Flash = with_state f (Erasing (begun f e)) in
            let r = short g (begun f e) refl lasts (n - e.left) (omega arith) in
            record {
              erase = r.erase;
              is = split_at_end f e n l ∙ ap (steps (n - e.left)) (whole f e s one Window w) ∙ r.is;
              selected = r.selected;
              toggle = r.toggle;
              lasts = r.lasts;
              left = omega (arith, r.left);
            }
      ]

  -- when no time is left, it has ended
  ends : (p : Phase) → e.phase ≡ p → (n : ℕ) → left_of f e p ≤ n → steps n f ≡ erased f e Begun
  unfolding begun
  ends Begun w n h =
      split_at_end f e n h ∙ ap (steps (n - e.left)) (whole f e s one Begun w) ∙ still (n - e.left) (erased f e Begun) (ended_still f e)
  ends Window w n h =
      let g : Flash = with_state f (Erasing (begun f e)) in
      let left : ℕ = erase_time f e.selected in
      let rest : ℕ = n - e.left in
      split_at_end f e n (omega arith) ∙ ap (steps rest) (whole f e s one Window w)
      ∙ split_at_end g (begun f e) rest (omega arith) ∙ ap (steps (rest - left)) (whole g (begun f e) refl lasts Begun refl)
      ∙ still (rest - left) (erased f e Begun) (ended_still f e)

-- An erase of one block.
module _ (f : Flash) (sound : laws.Sound f) (e : Erase) (is : f.state ≡ Erasing e) (j : Job) (k : job_of f e ≡ Some j) where
  facts : IsJob f e j
  facts = job_is f e j k

  time_lasts : 1 ≤ erase_time f e.selected
  time_lasts =
      let g = facts.good in
      subst (λ (n : ℕ). 1 ≤ n) (sym (erase_time_one f e.selected j.block g.selected g.unprotected))
      (cond_both (has f.setup.worn j.block) _ _ (λ (n : ℕ). 1 ≤ n) (λ _. lit≤ tt) (λ _. (limits f.setup sound.limits).erase_low))

  pub erase_on : (n : ℕ) → n < j.left → (g : Flash) × (steps n f ≡ g) × (g.cells ≡ f.cells) × (doing_of f g.state ≡ erasing (record j { left = j.left - n }))
  erase_on n h =
      let r = goes_on f e is facts.good.lasts time_lasts e.phase refl n (omega (arith, facts.left)) in
      let good : Good f r.erase j.block = record {
        within = facts.good.within;
        unprotected = facts.good.unprotected;
        selected = ap (λ (s : BlockSet). s.mask) r.selected ∙ facts.good.selected;
        lasts = r.lasts;
      } in
      let left : left_of f r.erase r.erase.phase ≡ j.left - n = omega (arith, r.left, facts.left) in (
        with_state f (Erasing r.erase),
        r.is,
        refl,
        ap (with_job erasing) (good_job f r.erase j.block good)
            ∙ ap (λ (m : ℕ). erasing (record { block = j.block; left = m; toggle = r.erase.toggle })) left
            ∙ ap (λ (t : Bool). erasing (record { block = j.block; left = j.left - n; toggle = t })) (r.toggle ∙ sym facts.toggle),
      )

  over_is : (n : ℕ) → j.left ≤ n → steps n f ≡ erased f e Begun
  over_is n h = ends f e is facts.good.lasts time_lasts e.phase refl n (omega (arith, facts.left))

  spoilt : spoils f e.selected ≡ has f.setup.worn j.block
  spoilt = spoils_one f e.selected j.block facts.good.selected facts.good.unprotected

  pub erase_worn : (n : ℕ) → j.left ≤ n → has f.setup.worn j.block ≡ true → steps n f ≡ with_state f (Failed 0xFF j.toggle)
  erase_worn n h w =
      over_is n h
      ∙ ap (λ (t : Bool). record f { cells = cond t f.cells (filled (blocks f) (erasable f e.selected) 0xFF f.cells); state = cond t (Failed 0xFF e.toggle) read_mode }) (spoilt ∙ w)
      ∙ ap (λ (t : Bool). with_state f (Failed 0xFF t)) (sym facts.toggle)

  pub erase_done : (n : ℕ) → j.left ≤ n → has f.setup.worn j.block ≡ false
      → steps n f ≡ record f { cells = wiped (blocks f) j.block 0xFF f.cells; state = read_mode }
  erase_done n h w =
      let g = facts.good in
      over_is n h
      ∙ ap (λ (t : Bool). record f { cells = cond t f.cells (filled (blocks f) (erasable f e.selected) 0xFF f.cells); state = cond t (Failed 0xFF e.toggle) read_mode }) (spoilt ∙ w)
      ∙ ap (λ (c : List ℕ). record f { cells = c; state = read_mode })
      (ap (λ (s : BlockSet). filled (blocks f) s 0xFF f.cells) (erasable_one f e.selected j.block g.selected g.unprotected)
      ∙ filled_one (blocks f) e.selected j.block 0xFF f.cells g.selected g.within)

-- All rows.
module _ (f : Flash) (sound : laws.Sound f) (n : ℕ) where
  abbrev now : ℕ
  now = (f.clock + n) % 4294967296

  -- the rig, by what the steps have come to
  comes_to : (g : Flash) → steps n f ≡ g → g.setup ≡ f.setup → rig_of (with_clock (steps n f) now) ≡ rig_of (record g { clock = now; setup = f.setup })
  comes_to g e s =
      ap (λ (x : Flash). rig_of (with_clock x now)) e ∙ ap (λ (x : Setup). rig_of (record g { clock = now; setup = x })) s

  row : (g : Flash) → steps n f ≡ g → g.setup ≡ f.setup → (cells : List ℕ) (d : Doing) → g.cells ≡ cells → doing_of f g.state ≡ d
      → rig_of (with_clock (steps n f) now) ≡ later (rig_of f) n cells d
  row g e s cells d c k =
      comes_to g e s ∙ ap (λ (x : List ℕ). later (rig_of f) n x (doing_of f g.state)) c ∙ ap (λ (x : Doing). later (rig_of f) n cells x) k

  state_is : (s : State) → f.state ≡ s → f ≡ with_state f s
  state_is s e = ap (with_state f) e

  pub elapses_in : Elapses (rig_of f) n (rig_of (with_clock (steps n f) now))
  elapses_in = record {
    only =
        let e = row (steps n f) refl (steps_setup n f) (steps n f).cells (doing_of f (steps n f).state) refl refl in
        e ∙ ap (λ (x : Doing). later (rig_of f) n (steps n f).cells x) (sym (ap (λ (x : Rig). x.doing) e));
    rests = λ o p e.
        row f (still n f (lasts o p (rests_is f f.state o p e))) refl f.cells (resting o p) refl e;
    programs = λ p o e h.
        let k = programs_is f f.state p o e in
        let left : n < k.0.left = subst (λ (x : Burn). n < x.left) k.2 h in
        row (with_state f (Programming (record k.0 { left = k.0.left - n }))) (program_on f k.0 k.1 n left) refl f.cells _ refl
        (ap (λ (x : Burn). programming (record x { left = x.left - n }) None) (sym k.2) ∙ ap (programming (record p { left = p.left - n })) (sym k.3));
    burns = λ p o e b l one good.
        let k = programs_is f f.state p o e in
        let q = k.0 in
        let clear_q : Burnable (rig_of f) q.address q.byte = subst (λ (x : Burn). Burnable (rig_of f) x.address x.byte) k.2 b in
        let l_q : q.left ≤ n = subst (λ (x : Burn). x.left ≤ n) k.2 l in
        let good_q : worn f q.address ≡ false =
        sym (worn_is f q.address clear_q.within) ∙ subst (λ (x : Burn). meanings.worn (meaning (rig_of f)) (block (meaning (rig_of f)) x.address) ≡ false) k.2 good in
        row (record f { cells = set f.cells q.address q.byte; state = read_mode }) (program_done f q k.1 clear_q n l_q one good_q) refl _ (resting o start)
        (ap (λ (x : Burn). set f.cells x.address x.byte) (sym k.2)) (ap (λ (x : Option Job). resting x start) (sym k.3));
    burns_not = λ p o e b l one bad.
        let k = programs_is f f.state p o e in
        let q = k.0 in
        let clear_q : Burnable (rig_of f) q.address q.byte = subst (λ (x : Burn). Burnable (rig_of f) x.address x.byte) k.2 b in
        let l_q : q.left ≤ n = subst (λ (x : Burn). x.left ≤ n) k.2 l in
        let bad_q : worn f q.address ≡ true =
        sym (worn_is f q.address clear_q.within) ∙ subst (λ (x : Burn). meanings.worn (meaning (rig_of f)) (block (meaning (rig_of f)) x.address) ≡ true) k.2 bad in
        row (with_state f (Failed q.byte q.toggle)) (program_worn f q k.1 clear_q n l_q one bad_q) refl f.cells _ refl
        (ap (λ (x : Burn). failed 0 x.byte x.toggle None) (sym k.2) ∙ ap (failed 0 p.byte p.toggle) (sym k.3));
    erases = λ j e h.
        let k = erases_is f f.state j e in
        let r = erase_on f sound k.0 k.1 j k.2 n h in
        row r.0 r.1 (sym (ap (λ (x : Flash). x.setup) r.1) ∙ steps_setup n f) f.cells _ r.2 r.3;
    has_erased = λ j e l good.
        let k = erases_is f f.state j e in
        let w : has f.setup.worn j.block ≡ false = sym (mark_is f f.setup.worn j.block (job_is f k.0 j k.2).good.within) ∙ good in
        row (record f { cells = wiped (blocks f) j.block 0xFF f.cells; state = read_mode }) (erase_done f sound k.0 k.1 j k.2 n l w) refl _ (resting None start) refl refl;
    has_not_erased = λ j e l bad.
        let k = erases_is f f.state j e in
        let w : has f.setup.worn j.block ≡ true = sym (mark_is f f.setup.worn j.block (job_is f k.0 j k.2).good.within) ∙ bad in
        row (with_state f (Failed 0xFF j.toggle)) (erase_worn f sound k.0 k.1 j k.2 n l w) refl f.cells (failed 0 0xFF j.toggle None) refl refl;
    stops = λ j wait e h.
        let k = stops_is f f.state j wait e in
        row (with_state f (Suspending k.0 (wait - n))) (stop_on f k.0 wait k.1 n h) refl f.cells _ refl (ap (with_job (λ x. stopping x (wait - n))) k.2);
    has_stopped = λ j wait e l one.
        let k = stops_is f f.state j wait e in
        row (with_state f (Suspended k.0)) (stop_over f k.0 wait k.1 n l one) refl f.cells _ refl (ap (with_job (λ x. resting (Some x) start)) k.2);
  }
    where
      lasts : (o : Option Job) (p : Place) → Rests f f.state o p → due f.state ≡ None
      lasts o p (alone q s x y) = ap due s
      lasts o p (beside r j s k x y) = ap due s

pub passes_is : (f g : Flash) (n : ℕ) (x : Result (Unit {0}) ChipFault) → laws.Sound f → x ≡ waited n → g ≡ after n f → Passes (rig_of f) n x (rig_of g)
unfolding after
passes_is f g n x sound e d = elim (cases_Bool (leb n longest)) [
  | inl t ↦
      let x_is : x ≡ Ok tt = e ∙ cond-true (leb n longest) _ _ t in
      let g_is : g ≡ with_clock (steps n f) ((f.clock + n) % 4294967296) = d ∙ moved n f sound.counted t in
      let P : Result (Unit {0}) ChipFault → Type 0 = λ y. Passes (rig_of f) n y (rig_of g) in
      subst P (sym x_is) (t, subst (λ (y : Flash). Elapses (rig_of f) n (rig_of y)) (sym g_is) (elapses_in f sound n))
  | inr t ↦
      let x_is : x ≡ Err (record { cause = TimeTooLong; place = n }) = e ∙ cond-false (leb n longest) _ _ t in
      let g_is : g ≡ f = d ∙ cond-false (leb n longest) _ _ t in
      let P : Result (Unit {0}) ChipFault → Type 0 = λ y. Passes (rig_of f) n y (rig_of g) in
      subst P (sym x_is) (t, refl, ap rig_of g_is)
]
