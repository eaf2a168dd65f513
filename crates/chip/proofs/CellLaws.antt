-- The laws on cells: protected and worn blocks keep theirs, and only an erase brings a 1 back.
use Rattle.std.proofs.Common.{◌≡◌, ℕ, zero, suc, true, false, ◌||◌, leb, length, get_or, Some, None, Option, sym, refl, ap, ◌∙◌, subst, arith}
use Rattle.std.proofs.lemmas.Bool.{cond_both, both_ways}
use Rattle.geometry.specs.Sets.{bit}
use Rattle.flash.specs.Programs.{program_fails}
use Rattle.flash.proofs.Cells.{length_after_program, length_after_erase, program_keeps, erase_keeps, broken_erase_keeps, program_other, program_clears, broken_erase_clears}
use Rattle.chip.specs.declared.state.Phase.{Phase}
use Rattle.chip.specs.declared.state.Phase.TheVariants.{Window, Erasing as Begun}
use Rattle.chip.specs.declared.state.Program.{Program}
use Rattle.chip.specs.declared.state.Erase.{Erase}
use Rattle.chip.specs.declared.state.State.{State}
use Rattle.chip.specs.declared.state.State.TheVariants.{Ready, Programming, Erasing, Suspending, Suspended, Failed}
use Rattle.chip.specs.Flash.{Flash, block_map_of, cell, protected, worn}
use Rattle.chip.specs.Times.{programmed, erased, ended, due, lowered, step_by, tick, passed}
use Rattle.chip.specs.Resets.{broken_erase, broken, after_reset}
use Rattle.chip.specs.Laws.{Sound, KeepsBlocks, OnlyClears, in_erase}

-- the address of a block that is protected or worn
abbrev Fixed : Flash → ℕ → Type 0
Fixed f a = (protected f a || worn f a) ≡ true

erased_keeps : (f : Flash) (e : Erase) (phase : Phase) (a : ℕ) → Fixed f a → cell (erased f e phase) a ≡ cell f a
erased_keeps f e Window a x = refl
erased_keeps f e Begun a x = erase_keeps (block_map_of f) e.selected f.cells a x

ended_keeps : (f : Flash) (s : State) (a : ℕ) → Fixed f a → cell (ended f s) a ≡ cell f a
ended_keeps f (Ready m p) a x = refl
ended_keeps f (Programming p) a x = program_keeps (block_map_of f) f.cells p.address p.byte a x
ended_keeps f (Erasing e) a x = erased_keeps f e e.phase a x
ended_keeps f (Suspending e w) a x = refl
ended_keeps f (Suspended e) a x = refl
ended_keeps f (Failed b t) a x = refl

step_keeps : (f : Flash) (o : Option ℕ) (a : ℕ) → Fixed f a → cell (step_by f o) a ≡ cell f a
step_keeps f None a x = refl
step_keeps f (Some d) a x =
    cond_both (leb d 1) _ _ (λ (g : Flash). cell g a ≡ cell f a) (λ _. ended_keeps f f.state a x) (λ _. refl)

-- A step keeps the numbers that the chip was made with, and as many cells.
abbrev Like : Flash → Flash → Type 0
Like f g = (g.setup ≡ f.setup) × (length g.cells ≡ length f.cells)

ended_like : (f : Flash) (s : State) → Like f (ended f s)
ended_like f (Ready m p) = (refl, refl)
ended_like f (Programming p) = (refl, length_after_program (block_map_of f) f.cells p.address p.byte)
ended_like f (Erasing e) = by e.phase
  where
    by : (p : Phase) → Like f (erased f e p)
    by Window = (refl, refl)
    by Begun = (refl, length_after_erase (block_map_of f) e.selected f.cells)
ended_like f (Suspending e w) = (refl, refl)
ended_like f (Suspended e) = (refl, refl)
ended_like f (Failed b t) = (refl, refl)

pub step_like : (f : Flash) (o : Option ℕ) → ((step_by f o).setup ≡ f.setup) × (length (step_by f o).cells ≡ length f.cells)
step_like f None = (refl, refl)
step_like f (Some d) =
    cond_both (leb d 1) _ _ (λ (g : Flash). Like f g) (λ _. ended_like f f.state) (λ _. (refl, refl))

pub tick_sound : (f : Flash) → Sound f → Sound (tick f)
tick_sound f s =
    let like = step_like f (due f.state) in
    record {
      limits = rw like.0 s.limits;
      whole = rw like.0 (like.1 ∙ s.whole);
      counted = omega arith;
    }

pub passed_setup : (n : ℕ) (f : Flash) → (passed n f).setup ≡ f.setup
unfolding passed
passed_setup zero f = refl
passed_setup (suc n) f = passed_setup n (tick f) ∙ (step_like f (due f.state)).0

pub passed_keeps : (n : ℕ) → KeepsBlocks (passed n)
unfolding passed
passed_keeps zero f s a i x = refl
passed_keeps (suc n) f s a i x =
    let like = step_like f (due f.state) in
    passed_keeps n (tick f) (tick_sound f s) a (rw like.0 i) (rw like.0 x) ∙ step_keeps f (due f.state) a x

broken_erase_keep : (f : Flash) (e : Erase) (phase : Phase) (a : ℕ) → Fixed f a → get_or (broken_erase f e phase) a 0 ≡ cell f a
broken_erase_keep f e Window a x = refl
broken_erase_keep f e Begun a x = broken_erase_keeps (block_map_of f) e.selected f.cells a x

broken_keeps : (f : Flash) (s : State) (a : ℕ) → Fixed f a → get_or (broken f s) a 0 ≡ cell f a
broken_keeps f (Ready m p) a x = refl
broken_keeps f (Programming p) a x = program_keeps (block_map_of f) f.cells p.address p.byte a x
broken_keeps f (Erasing e) a x = broken_erase_keep f e e.phase a x
broken_keeps f (Suspending e w) a x = broken_erase_keep f e e.phase a x
broken_keeps f (Suspended e) a x = broken_erase_keep f e e.phase a x
broken_keeps f (Failed b t) a x = refl

pub reset_keeps : KeepsBlocks after_reset
unfolding after_reset
reset_keeps f s a i x = broken_keeps f f.state a x

-- One step where no erase is under way clears bits at most, and begins no erase.
Clears : Flash → Flash → Type 0
Clears f g = (in_erase g.state ≡ false) × ((a b : ℕ) → bit (cell g a) b ≡ true → bit (cell f a) b ≡ true)

programmed_clears : (f : Flash) (p : Program) → Clears f (programmed f p)
unfolding Clears
programmed_clears f p = (
  cond_both (program_fails (block_map_of f) f.cells p.address p.byte) _ _ (λ (s : State). in_erase s ≡ false) (λ _. refl) (λ _. refl),
  program_clears (block_map_of f) f.cells p.address p.byte,
)

step_clears : (f : Flash) (s : State) → f.state ≡ s → in_erase s ≡ false → Clears f (step_by f (due s))
unfolding Clears
step_clears f (Ready m p) e n = (ap in_erase e, λ a b t. t)
step_clears f (Programming p) e n =
    cond_both (leb _ 1) _ _ (Clears f)
    (λ _. subst (λ (s : State). Clears f (ended f s)) (sym e) (programmed_clears f p))
    (λ _. (ap (λ (s : State). in_erase (lowered 1 s)) e, λ a b t. t))
step_clears f (Erasing r) e n = absurd (both_ways _ n refl)
step_clears f (Suspending r w) e n = absurd (both_ways _ n refl)
step_clears f (Suspended r) e n = absurd (both_ways _ n refl)
step_clears f (Failed m t) e n = (ap in_erase e, λ a b t. t)

pub passed_clears : (n : ℕ) → OnlyClears (passed n)
unfolding passed Clears
passed_clears zero f n a b t = t
passed_clears (suc n) f e a b t =
    let one = step_clears f f.state refl e in
    one.1 a b (passed_clears n (tick f) one.0 a b t)

-- A reset in a program leaves every other cell.
pub reset_own_cell : (f : Flash) (p : Program) → f.state ≡ Programming p → (a : ℕ) → (a ≡ p.address → ⊥) → cell (after_reset f) a ≡ cell f a
unfolding after_reset
reset_own_cell f p s a o =
    ap (λ (x : State). get_or (broken f x) a 0) s ∙ program_other (block_map_of f) f.cells p.address p.byte a o

pub reset_never_sets : (f : Flash) (a b : ℕ) → bit (cell (after_reset f) a) b ≡ true → bit (cell f a) b ≡ true
unfolding after_reset
reset_never_sets f a b t = by f.state t
  where
    by_phase : (e : Erase) (p : Phase) → bit (get_or (broken_erase f e p) a 0) b ≡ true → bit (cell f a) b ≡ true
    by_phase e Window t = t
    by_phase e Begun t = broken_erase_clears (block_map_of f) e.selected f.cells a b t

    by : (s : State) → bit (get_or (broken f s) a 0) b ≡ true → bit (cell f a) b ≡ true
    by (Ready m p) t = t
    by (Programming p) t = program_clears (block_map_of f) f.cells p.address p.byte a b t
    by (Erasing e) t = by_phase e e.phase t
    by (Suspending e w) t = by_phase e e.phase t
    by (Suspended e) t = by_phase e e.phase t
    by (Failed m u) t = t
