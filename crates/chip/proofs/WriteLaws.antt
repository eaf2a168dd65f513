-- The laws of the write and the read cycle.
use Rattle.std.proofs.Common.{◌||◌, ◌<◌, arith, ◌≡◌, ℕ, ◌-◌, Bool, true, false, cond, ◌&&◌, eqb, sym, refl, ap, ◌∙◌, subst, inl, inr}
use Rattle.geometry.specs.declared.datasheet.Commands.{Commands}
use Rattle.geometry.specs.Sets.{largest_set, has, union}
use Rattle.geometry.specs.Blocks.{block_of}
use Rattle.geometry.specs.Sheets.{low_bits}
use Rattle.std.proofs.Math.Bool.{and-true}
use Rattle.flash.specs.Limits.{window}
use Rattle.std.proofs.lemmas.Bool.{ne_eqb, eq-eqb, eqb-true, ltb-true, lt-ltb, and_parts, cases_Bool}
use Rattle.flash.specs.declared.sequence.Mode.{Mode}
use Rattle.flash.specs.declared.sequence.Mode.TheVariants.{Read, Id}
use Rattle.flash.specs.declared.sequence.Place.{Place}
use Rattle.flash.specs.declared.sequence.Place.TheVariants.{Start, Second, Command, Data, EraseStart, EraseSecond, EraseBlock}
use Rattle.flash.specs.declared.sequence.Decision.{Decision}
use Rattle.flash.specs.declared.sequence.Decision.TheVariants.{Next, Enter, GiveUp}
use Rattle.chip.specs.declared.setup.Setup.{Setup}
use Rattle.chip.specs.declared.state.Phase.{Phase}
use Rattle.chip.specs.declared.state.Phase.TheVariants.{Window, Erasing as Begun}
use Rattle.chip.specs.declared.state.Erase.{Erase}
use Rattle.chip.specs.declared.state.State.{State}
use Rattle.chip.specs.declared.state.State.TheVariants.{Ready, Programming, Erasing, Suspending, Suspended, Failed}
use Rattle.flash.specs.Sequences.{decided}
use Rattle.chip.specs.Flash.{Flash, blocks, commands, inside}
use Rattle.chip.proofs.Updates.{with_state}
use Rattle.chip.specs.Writes.{block_alone, obeyed, interrupted, heeded, written}
use Rattle.chip.specs.Reads.{flipped, seen}
use Rattle.chip.specs.Times.{passed, erase_time}
use Rattle.chip.specs.Laws.{Fits, first_write, second_write, to_identify, to_program, any_byte, to_erase, third_write, fourth_write, in_block, unlocked, First, SecondAddress, Begins, WriteLaws, ReadLaws}
use Rattle.geometry.proofs.Placing.{every_block, every_few}
use Rattle.geometry.proofs.Sets.{has_only, has_union}
use Rattle.chip.proofs.CellLaws.{passed_setup}
use Rattle.chip.proofs.Passing.{passed_until, passed_over}

-- A write in range, by what the chip was doing.
pub write_in : (f : Flash) (s : State) → f.state ≡ s → (a b : ℕ) → inside f a ≡ true → written f a b ≡ with_state f (heeded f s a b)
unfolding written
write_in f s e a b i = rw i (ap (λ (x : State). with_state f (heeded f x a b)) e)

same_cells : (t : Bool) (f : Flash) (s : State) → (cond t (with_state f s) f).cells ≡ f.cells
same_cells true f s = refl
same_cells false f s = refl

same_clock : (t : Bool) (f : Flash) (s : State) → (cond t (with_state f s) f).clock ≡ f.clock
same_clock true f s = refl
same_clock false f s = refl

not_both : (low c b k : ℕ) → (low ≡ c → b ≡ k → ⊥) → (eqb low c && eqb b k) ≡ false
not_both low c b k n =
    elim (cases_Bool (eqb low c && eqb b k)) [
      | inl t ↦ let p = and_parts (eqb low c) (eqb b k) t in absurd (n (eqb-true low c p.0) (eqb-true b k p.1))
      | inr t ↦ t
    ]

-- what does not fit is given up
gives_up : (c : Commands) (place : Place) (a b : ℕ) → (Fits c place a b → ⊥) → (b ≡ 0xF0 → ⊥) → decided c place (low_bits c a) b ≡ GiveUp
gives_up c Start a b n r =
    rw (ne_eqb b 0xF0 r, not_both (low_bits c a) c.first b 0xAA (λ e k. n (subst (Fits c Start a) (sym k) (first_write a e))))
gives_up c Second a b n r =
    rw (ne_eqb b 0xF0 r, not_both (low_bits c a) c.second b 0x55 (λ e k. n (subst (Fits c Second a) (sym k) (second_write a e))))
gives_up c Command a b n r =
    rw (
      ne_eqb b 0xF0 r,
      not_both (low_bits c a) c.first b 0x90 (λ e k. n (subst (Fits c Command a) (sym k) (to_identify a e))),
      not_both (low_bits c a) c.first b 0xA0 (λ e k. n (subst (Fits c Command a) (sym k) (to_program a e))),
      not_both (low_bits c a) c.first b 0x80 (λ e k. n (subst (Fits c Command a) (sym k) (to_erase a e))),
    )
gives_up c Data a b n r = absurd (n (any_byte a b))
gives_up c EraseStart a b n r =
    rw (ne_eqb b 0xF0 r, not_both (low_bits c a) c.first b 0xAA (λ e k. n (subst (Fits c EraseStart a) (sym k) (third_write a e))))
gives_up c EraseSecond a b n r =
    rw (ne_eqb b 0xF0 r, not_both (low_bits c a) c.second b 0x55 (λ e k. n (subst (Fits c EraseSecond a) (sym k) (fourth_write a e))))
gives_up c EraseBlock a b n r =
    rw (ne_eqb b 0xF0 r, ne_eqb b 0x30 (λ k. n (subst (Fits c EraseBlock a) (sym k) (in_block a))))

resets : (c : Commands) (place : Place) (low : ℕ) → (place ≡ Data → ⊥) → decided c place low 0xF0 ≡ Enter Read
resets c Start low n = refl
resets c Second low n = refl
resets c Command low n = refl
resets c Data low n = absurd (n refl)
resets c EraseStart low n = refl
resets c EraseSecond low n = refl
resets c EraseBlock low n = refl

-- A write at a command address.
command : (f : Flash) (mode : Mode) (place : Place) → f.state ≡ Ready mode place → (a b low : ℕ) → inside f a ≡ true → low_bits (commands f) a ≡ low
    → {d : Decision} → decided (commands f) place low b ≡ d → written f a b ≡ with_state f (obeyed f mode a b d)
command f mode place s a b low i l e =
    write_in f (Ready mode place) s a b i
    ∙ ap (λ (n : ℕ). with_state f (obeyed f mode a b (decided (commands f) place n b))) l
    ∙ ap (λ (d : Decision). with_state f (obeyed f mode a b d)) e

same : (n : ℕ) → eqb n n ≡ true
same n = eq-eqb n n refl

-- The writes that fit, at the command addresses themselves.
to_second : (c : Commands) → decided c Start c.first 0xAA ≡ Next Second
to_second c = rw (same c.first)

to_command : (c : Commands) → decided c Second c.second 0x55 ≡ Next Command
to_command c = rw (same c.second)

to_id : (c : Commands) → decided c Command c.first 0x90 ≡ Enter Id
to_id c = rw (same c.first)

to_data : (c : Commands) → decided c Command c.first 0xA0 ≡ Next Data
to_data c = rw (same c.first)

to_erase_start : (c : Commands) → decided c Command c.first 0x80 ≡ Next EraseStart
to_erase_start c = rw (same c.first)

to_erase_second : (c : Commands) → decided c EraseStart c.first 0xAA ≡ Next EraseSecond
to_erase_second c = rw (same c.first)

to_erase_block : (c : Commands) → decided c EraseSecond c.second 0x55 ≡ Next EraseBlock
to_erase_block c = rw (same c.second)

pub unlock : (f : Flash) (mode : Mode) → f.state ≡ Ready mode Start → (x y : ℕ) → First f x → SecondAddress f y
    → unlocked f x y ≡ with_state f (Ready mode Command)
unlock f mode s x y p q =
    ap (λ (g : Flash). written g y 0x55) (command f mode Start s x 0xAA _ p.0 p.1 (to_second (commands f)))
    ∙ command (with_state f (Ready mode Second)) mode Second refl y 0x55 _ q.0 q.1 (to_command (commands f))

-- the command after the two unlocking writes
pub commanded : (f : Flash) (mode : Mode) → f.state ≡ Ready mode Start → (x y z b : ℕ) → First f x → SecondAddress f y → First f z
    → {d : Decision} → decided (commands f) Command (commands f).first b ≡ d
    → written (unlocked f x y) z b ≡ with_state f (obeyed f mode z b d)
commanded f mode s x y z b p q r e =
    ap (λ (g : Flash). written g z b) (unlock f mode s x y p q)
    ∙ command (with_state f (Ready mode Command)) mode Command refl z b _ r.0 r.1 e

-- 30h in the window: one block more, and the window from its beginning.
reopened : Flash → Erase → ℕ → Erase
reopened f e a = record { phase = Window; selected = union e.selected (block_alone f a); left = window; toggle = e.toggle }

-- The erasing that follows.
begun : Flash → Erase → ℕ → Erase
begun f e a = record { phase = Begun; selected = union e.selected (block_alone f a); left = erase_time f (union e.selected (block_alone f a)); toggle = e.toggle }

adds : (f : Flash) (e : Erase) → f.state ≡ Erasing e → e.phase ≡ Window → (a : ℕ) → inside f a ≡ true
    → written f a 0x30 ≡ with_state f (Erasing (reopened f e a))
unfolding reopened
adds f e s w a i =
    write_in f (Erasing e) s a 0x30 i ∙ ap (λ (p : Phase). with_state f (interrupted f e p a 0x30)) w

-- A write that what the chip is doing does not heed changes nothing, in range or not.
ignored : (f : Flash) (s : State) → f.state ≡ s → (a b : ℕ) → heeded f s a b ≡ s → written f a b ≡ f
unfolding written
ignored f s e a b h = by (inside f a)
  where
    by : (t : Bool) → cond t (with_state f (heeded f f.state a b)) f ≡ f
    by true = ap (with_state f) (ap (λ (x : State). heeded f x a b) e ∙ h ∙ sym e)
    by false = refl

-- the blocks selected once one more is
selects : (f : Flash) (e : Erase) (a b : ℕ) → inside f a ≡ true
    → has (union e.selected (block_alone f a)) b ≡ (has e.selected b || eqb b (block_of (blocks f) a))
selects f e a b i =
    let few : block_of (blocks f) a < largest_set = omega (arith, every_block f.setup.kind a (ltb-true _ _ i), every_few f.setup.kind) in
    let one : has (block_alone f a) b ≡ eqb b (block_of (blocks f) a) =
    has_only (block_of (blocks f) a) b ∙ ap (λ (t : Bool). eqb b (block_of (blocks f) a) && t) (lt-ltb _ largest_set few) ∙ and-true _ in
    has_union e.selected (block_alone f a) b ∙ ap (λ (t : Bool). has e.selected b || t) one

pub write_laws : WriteLaws
unfolding written reopened begun
write_laws = record {
  no_cell = λ f a b. same_cells (inside f a) f (heeded f f.state a b);
  no_time = λ f a b. same_clock (inside f a) f (heeded f f.state a b);
  given_up = λ f mode place s a b i n r.
      write_in f (Ready mode place) s a b i ∙ ap (λ d. with_state f (obeyed f mode a b d)) (gives_up (commands f) place a b n r);
  back_to_read = λ f mode place s a i n.
      write_in f (Ready mode place) s a 0xF0 i ∙ ap (λ d. with_state f (obeyed f mode a 0xF0 d)) (resets (commands f) place (low_bits (commands f) a) n);
  reads = λ f mode s x y z p q r. commanded f mode s x y z 0xF0 p q r refl;
  identifies = λ f mode s x y z p q r. commanded f mode s x y z 0x90 p q r (to_id (commands f));
  programs = λ f mode s x y z a b p q r i.
      ap (λ (g : Flash). written g a b) (commanded f mode s x y z 0xA0 p q r (to_data (commands f)))
      ∙ write_in (with_state f (Ready mode Data)) (Ready mode Data) refl a b i;
  erases = λ f mode s x y z u v a p q r t w i.
      ap (λ (g : Flash). written (unlocked g u v) a 0x30) (commanded f mode s x y z 0x80 p q r (to_erase_start (commands f)))
      ∙ ap (λ (g : Flash). written (written g v 0x55) a 0x30) (command (with_state f (Ready mode EraseStart)) mode EraseStart refl u 0xAA _ t.0 t.1 (to_erase_second (commands f)))
      ∙ ap (λ (g : Flash). written g a 0x30) (command (with_state f (Ready mode EraseSecond)) mode EraseSecond refl v 0x55 _ w.0 w.1 (to_erase_block (commands f)))
      ∙ write_in (with_state f (Ready mode EraseBlock)) (Ready mode EraseBlock) refl a 0x30 i;
  window = λ f e s w a i n h.
      let g : Flash = with_state f (Erasing (reopened f e a)) in (
        record { phase = Window; selected = (reopened f e a).selected; left = window - n; toggle = e.toggle },
        ap (λ (x : Flash). (passed n x).state) (adds f e s w a i) ∙ (passed_until n window g refl h).state,
        refl,
      );
  begins = λ f e s w a i.
      let g : Flash = with_state f (Erasing (reopened f e a)) in (
        begun f e a,
        subst (λ (x : Flash). Begins (passed window x) (begun f e a)) (sym (adds f e s w a i)) (record {
          erasing = (passed_over window g refl).state;
          phase = refl;
          whole = ap (λ (s : Setup). erase_time (record f { setup = s }) (begun f e a).selected) (sym (passed_setup window g));
        }),
        refl,
      );
  adds = λ f e s w a i. (reopened f e a, ap (λ (x : Flash). x.state) (adds f e s w a i), refl, refl, λ b. selects f e a b i);
  ends_window = λ f e s w a b i n m.
      write_in f (Erasing e) s a b i ∙ ap (λ (p : Phase). with_state f (interrupted f e p a b)) w ∙ rw (ne_eqb b 0x30 n, ne_eqb b 0xB0 m);
  deaf_in_program = λ f p s a b. ignored f (Programming p) s a b refl;
  deaf_in_stop = λ f e wait s a b. ignored f (Suspending e wait) s a b refl;
  deaf_in_erasing = λ f e s w a b n.
      ignored f (Erasing e) s a b (ap (λ (p : Phase). interrupted f e p a b) w ∙ rw (ne_eqb b 0xB0 n));
  suspends = λ f e s a i. write_in f (Erasing e) s a 0xB0 i ∙ ap (with_state f) (stops f e e.phase a);
  goes_on = λ f e s a i. write_in f (Suspended e) s a 0x30 i;
  deaf_in_suspension = λ f e s a b n. ignored f (Suspended e) s a b (rw (ne_eqb b 0x30 n));
  failed = λ f byte toggle s a b n. ignored f (Failed byte toggle) s a b (rw (ne_eqb b 0xF0 n));
  mended = λ f byte toggle s a i. write_in f (Failed byte toggle) s a 0xF0 i;
}
  where
    stops : (f : Flash) (e : Erase) (p : Phase) (a : ℕ) → interrupted f e p a 0xB0 ≡ Suspending e f.setup.suspend
    stops f e Window a = refl
    stops f e Begun a = refl

pub read_laws : ReadLaws
unfolding seen
read_laws = record {
  no_cell = λ f a. same_cells (inside f a) f (flipped f.state);
  no_time = λ f a. same_clock (inside f a) f (flipped f.state);
  ready = λ f mode place s a. unchanged f mode place s (inside f a);
}
  where
    unchanged : (f : Flash) (mode : Mode) (place : Place) → f.state ≡ Ready mode place
        → (t : Bool) → cond t (with_state f (flipped f.state)) f ≡ f
    unchanged f mode place s true = ap (λ (x : State). with_state f (flipped x)) s ∙ ap (with_state f) (sym s)
    unchanged f mode place s false = refl
