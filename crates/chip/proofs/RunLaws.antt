-- The laws over runs.
use Rattle.std.proofs.Common.{◌≡◌, ℕ, zero, suc, Bool, true, false, cond, ◌||◌, leb, List, [], ◌∷◌, length, refl, ◌∙◌}
use Rattle.std.proofs.lemmas.Bool.{cond_both}
use Rattle.fault.specs.Limits.{longest}
use Rattle.flash.proofs.Cells.{length_after_program, length_after_broken_erase}
use Rattle.chip.specs.declared.state.Phase.{Phase}
use Rattle.chip.specs.declared.state.Phase.TheVariants.{Window, Erasing as Begun}
use Rattle.chip.specs.declared.state.Erase.{Erase}
use Rattle.chip.specs.declared.state.State.{State}
use Rattle.chip.specs.declared.state.State.TheVariants.{Ready, Programming, Erasing, Suspending, Suspended, Failed}
use Rattle.chip.specs.Flash.{Flash, block_map_of, inside, cell, protected, worn}
use Rattle.chip.specs.Writes.{heeded, written}
use Rattle.chip.specs.Reads.{flipped, seen}
use Rattle.chip.specs.Times.{tick, passed, after}
use Rattle.chip.specs.Resets.{broken_erase, broken, after_reset}
use Rattle.chip.specs.Laws.{Sound}
use Rattle.chip.specs.Runs.{Event, write, read, wait, reset, after_event, after_run, RunLaws}
use Rattle.chip.proofs.CellLaws.{tick_sound, passed_setup, passed_keeps, reset_keeps}

-- An event keeps a chip sound, its numbers, and the cells of protected and worn blocks.
record Keeps (f g : Flash) : Type 0 where
  pub sound : Sound f → Sound g
  pub setup : g.setup ≡ f.setup
  pub blocks : Sound f → (a : ℕ) → inside f a ≡ true → (protected f a || worn f a) ≡ true → cell g a ≡ cell f a

-- what only changes what the chip is doing
keeps_state : (f : Flash) (s : State) (t : Bool) → Keeps f (cond t (record f { state = s }) f)
keeps_state f s true = record {
  sound = λ h. record { limits = h.limits; whole = h.whole; counted = h.counted };
  setup = refl;
  blocks = λ h a i x. refl;
}
keeps_state f s false = record { sound = λ h. h; setup = refl; blocks = λ h a i x. refl }

passed_sound : (n : ℕ) (f : Flash) → Sound f → Sound (passed n f)
unfolding passed
passed_sound zero f h = h
passed_sound (suc n) f h = passed_sound n (tick f) (tick_sound f h)

keeps_time : (f : Flash) (n : ℕ) → Keeps f (after n f)
unfolding after
keeps_time f n =
    cond_both (leb n longest) (passed n f) f (Keeps f)
    (λ _. record { sound = passed_sound n f; setup = passed_setup n f; blocks = passed_keeps n f })
    (λ _. record { sound = λ h. h; setup = refl; blocks = λ h a i x. refl })

broken_long : (f : Flash) (s : State) → length (broken f s) ≡ length f.cells
broken_long f s = by s
  where
    by_phase : (e : Erase) (p : Phase) → length (broken_erase f e p) ≡ length f.cells
    by_phase e Window = refl
    by_phase e Begun = length_after_broken_erase (block_map_of f) e.selected f.cells

    by : (s : State) → length (broken f s) ≡ length f.cells
    by (Ready m p) = refl
    by (Programming p) = length_after_program (block_map_of f) f.cells p.address p.byte
    by (Erasing e) = by_phase e e.phase
    by (Suspending e w) = by_phase e e.phase
    by (Suspended e) = by_phase e e.phase
    by (Failed b t) = refl

keeps_reset : (f : Flash) → Keeps f (after_reset f)
unfolding after_reset
keeps_reset f = record {
  sound = λ h. record { limits = h.limits; whole = broken_long f f.state ∙ h.whole; counted = h.counted };
  setup = refl;
  blocks = reset_keeps f;
}

keeps_event : (f : Flash) (event : Event) → Keeps f (after_event f event)
unfolding written seen
keeps_event f (write a byte) = keeps_state f (heeded f f.state a byte) (inside f a)
keeps_event f (read a) = keeps_state f (flipped f.state) (inside f a)
keeps_event f (wait n) = keeps_time f n
keeps_event f reset = keeps_reset f

keeps_both : (f g h : Flash) → Keeps f g → Keeps g h → Keeps f h
keeps_both f g h one more = record {
  sound = λ s. more.sound (one.sound s);
  setup = more.setup ∙ one.setup;
  blocks = λ s a i x. more.blocks (one.sound s) a (rw one.setup i) (rw one.setup x) ∙ one.blocks s a i x;
}

keeps_run : (events : List Event) (f : Flash) → Keeps f (after_run f events)
keeps_run [] f = record { sound = λ h. h; setup = refl; blocks = λ h a i x. refl }
keeps_run (event ∷ rest) f = keeps_both f (after_event f event) _ (keeps_event f event) (keeps_run rest (after_event f event))

pub run_laws : RunLaws
run_laws = record {
  sound = λ events f. (keeps_run events f).sound;
  same_setup = λ events f. (keeps_run events f).setup;
  keeps_blocks = λ events f. (keeps_run events f).blocks;
}
