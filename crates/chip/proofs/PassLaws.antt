-- The laws of time and of the reset pin.
use Rattle.std.proofs.Common.{◌≡◌, ℕ, zero, suc, true, false, leb, None, Option, sym, refl, ap, ◌∙◌, subst}
use Rattle.std.proofs.lemmas.Bool.{cond_both, both_ways}
use Rattle.chip.specs.declared.state.Phase.{Phase}
use Rattle.chip.specs.declared.state.Phase.TheVariants.{Window, Erasing as Begun}
use Rattle.chip.specs.declared.state.Program.{Program}
use Rattle.chip.specs.declared.state.Erase.{Erase}
use Rattle.chip.specs.declared.state.State.{State}
use Rattle.chip.specs.declared.state.State.TheVariants.{Ready, Programming, Erasing, Suspending, Suspended, Failed}
use Rattle.flash.specs.Programs.{program_fails}
use Rattle.chip.specs.Flash.{Flash, block_map_of}
use Rattle.chip.specs.Writes.{read_mode}
use Rattle.chip.specs.Times.{programmed, spoils, erased, ended, due, lowered, step_by, tick, passed}
use Rattle.chip.specs.Resets.{after_reset}
use Rattle.chip.specs.Laws.{busy, has_failed, PassLaws, ResetLaws, AllSound}
use Rattle.chip.proofs.Passing.{passed_is, passed_split, passed_still}
use Rattle.chip.proofs.CellLaws.{passed_keeps, passed_clears, reset_keeps, reset_own_cell, reset_never_sets}
use Rattle.chip.proofs.Lasting.{own_cell, stands_still, stopping_until, stopping_over, ends_erased, ends_failed, erases, fails, refuses}

-- an operation goes on, has ended in read mode, or has failed
data Course : State → Type 0 where
  works : {s : State} → busy s ≡ true → Course s
  ready : Course read_mode
  failed : {s : State} → has_failed s ≡ true → Course s

programmed_course : (f : Flash) (p : Program) → Course (programmed f p).state
programmed_course f p =
    cond_both (program_fails (block_map_of f) f.cells p.address p.byte) _ _ Course (λ _. failed refl) (λ _. ready)

erased_course : (f : Flash) (e : Erase) (p : Phase) → Course (erased f e p).state
erased_course f e Window = works refl
erased_course f e Begun = cond_both (spoils f e.selected) _ _ Course (λ _. failed refl) (λ _. ready)

busy_course : (f : Flash) (s : State) → f.state ≡ s → busy s ≡ true → Course (step_by f (due s)).state
busy_course f (Ready m p) e n = absurd (both_ways _ refl n)
busy_course f (Programming p) e n =
    cond_both (leb _ 1) _ _ (λ (g : Flash). Course g.state)
    (λ _. subst (λ (s : State). Course (ended f s).state) (sym e) (programmed_course f p))
    (λ _. subst (λ (s : State). Course (lowered 1 s)) (sym e) (works refl))
busy_course f (Erasing r) e n =
    cond_both (leb _ 1) _ _ (λ (g : Flash). Course g.state)
    (λ _. subst (λ (s : State). Course (ended f s).state) (sym e) (erased_course f r r.phase))
    (λ _. subst (λ (s : State). Course (lowered 1 s)) (sym e) (works refl))
busy_course f (Suspending r w) e n = absurd (both_ways _ refl n)
busy_course f (Suspended r) e n = absurd (both_ways _ refl n)
busy_course f (Failed b t) e n = absurd (both_ways _ refl n)

failed_due : (s : State) → has_failed s ≡ true → due s ≡ None
failed_due (Ready m p) e = refl
failed_due (Programming p) e = absurd (both_ways _ refl e)
failed_due (Erasing r) e = absurd (both_ways _ refl e)
failed_due (Suspending r w) e = absurd (both_ways _ refl e)
failed_due (Suspended r) e = refl
failed_due (Failed b t) e = refl

step_course : (f : Flash) (s : State) → f.state ≡ s → Course s → Course (step_by f (due s)).state
step_course f s e (works h) = busy_course f s e h
step_course f s e ready = subst Course (sym e) ready
step_course f s e (failed h) =
    subst (λ (o : Option ℕ). Course (step_by f o).state) (sym (failed_due s h)) (subst Course (sym e) (failed h))

passed_course : (n : ℕ) (f : Flash) → Course f.state → Course (passed n f).state
unfolding passed
passed_course zero f c = c
passed_course (suc n) f c = passed_course n (tick f) (step_course f f.state refl c)

course_end : (s : State) → Course s → busy s ≡ false → has_failed s ≡ false → s ≡ read_mode
course_end s (works h) b f = absurd (both_ways _ b h)
course_end s ready b f = refl
course_end s (failed h) b f = absurd (both_ways _ f h)

pub pass_laws : PassLaws
unfolding passed
pass_laws = record {
  none = λ f. refl;
  one_more = λ n f. passed_split n 1 f;
  split = passed_split;
  counts = λ n f s. ap (λ (g : Flash). g.clock) (passed_is n f s.counted);
  keeps_blocks = passed_keeps;
  only_clears = passed_clears;
  ends = λ n f w b e. course_end _ (passed_course n f (works w)) b e;
  failed = λ n f e. (passed_still n f (failed_due f.state e)).state;
  own_cell = own_cell;
  stands_still = stands_still;
  suspends = λ f e wait s h. (λ n k. stopping_until f e wait s n k, stopping_over f e wait s h);
  ends_erased = ends_erased;
  ends_failed = ends_failed;
  erases = erases;
  fails = fails;
  refuses = refuses;
}

pub reset_laws : ResetLaws
unfolding after_reset
reset_laws = record {
  reads = λ f. refl;
  no_time = λ f. refl;
  keeps_blocks = reset_keeps;
  own_cell = reset_own_cell;
  never_sets = reset_never_sets;
}

pub all_sound : AllSound
all_sound c = record {
  limits = c.limits;
  whole = sym c.cells.ok.0 ∙ c.whole;
  counted = c.counted;
}
