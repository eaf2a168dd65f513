-- A write cycle of a chip is what the table of commands says.
use Rattle.std.proofs.Common.{◌≡◌, ℕ, zero, suc, ◌+◌, ◌^◌, ◌<◌, Bool, true, false, cond, ◌&&◌, ◌||◌, eqb, ltb, length, get_or, None, Ok, Err, Option, Result, sym, refl, ap, ◌∙◌, subst, inl, inr, arith, lit≤}
use Rattle.std.proofs.lemmas.Bool.{cases_Bool, cond-true, cond-false, eq-eqb, eqb-true, ltb-true, lt-ltb, le-ltb}
use Rattle.std.proofs.lemmas.Bool.Decides.{nat_tests}
use Rattle.fault.specs.declared.faults.ChipFault.{ChipFault}
use Rattle.fault.specs.declared.cause.Cause.TheVariants.{AddressOutside}
use Rattle.fault.specs.Limits.{needs_erase}
use Rattle.geometry.specs.declared.set.BlockSet.{BlockSet}
use Rattle.geometry.specs.declared.datasheet.Commands.{Commands}
use Rattle.geometry.specs.Blocks.{block_of}
use Rattle.geometry.specs.Sets.{largest_set, has, only}
use Rattle.geometry.specs.Sheets.{low_bits}
use Rattle.geometry.specs.Plans.{Plan, plan_of}
use Rattle.geometry.proofs.Placing.{every_plan, every_total, every_few, every_block}
use Rattle.flash.specs.declared.sequence.Mode.TheVariants.{Read, Id}
use Rattle.flash.specs.declared.sequence.Place.{Place as ChipPlace}
use Rattle.flash.specs.declared.sequence.Place.TheVariants.{Start, Second, Command, Data, EraseStart, EraseSecond, EraseBlock}
use Rattle.flash.specs.declared.sequence.Decision.{Decision}
use Rattle.flash.specs.declared.sequence.Decision.TheVariants.{Next, Enter, Program, Erase}
use Rattle.flash.specs.Limits.{window, longest_program, longest_erase}
use Rattle.flash.specs.Sequences.{decided}
use Rattle.chip.specs.declared.state.Phase.{Phase}
use Rattle.chip.specs.declared.state.Phase.TheVariants.{Window, Erasing as Begun}
use Rattle.chip.specs.declared.state.Erase.{Erase as ChipErase}
use Rattle.chip.specs.declared.state.State.{State}
use Rattle.chip.specs.declared.state.State.TheVariants.{Erasing, Suspending}
use Rattle.chip.specs.Flash.{Flash, blocks, commands, protected, worn}
use Rattle.chip.specs.Flash as flash
use Rattle.chip.specs.Writes.{read_mode, obeyed, interrupted, heeded, heard, written}
use Rattle.chip.specs.Writes as writes
use Rattle.chip.proofs.Updates.{with_state}
use Rattle.part.specs.Meaning.{block, guarded}
use Rattle.part.specs.Meaning as meanings
use Rattle.driver.specs.Rig.{Job, Doing, resting, programming, erasing, stopping, start, does, inside, LiesIn, meaning, program_time, erase_time}
use Rattle.driver.specs.Cycles.{Burnable, Heeds, Writes}
use Rattle.tc58.specs.Rigs.{marks, sheet_of, place_of, left_of, with_job, doing_of, rig_of}
use Rattle.tc58.proofs.Jobs.{good_job, ready_is, identifies_is, erases_is, holds_is, fails_is}
use Rattle.tc58.proofs.OneBlock.{erase_time_one}

-- inside the chip, for it and for its driver
pub inside_is : (f : Flash) (a : ℕ) → inside (sheet_of f.setup.kind) a ≡ flash.inside f a
inside_is f a = ap (ltb a) (every_total f.setup.kind)

-- The marks of the blocks that there are.
mark_at : (from n : ℕ) (set : BlockSet) (b : ℕ) → get_or (marks from n set) b false ≡ (ltb b n && has set (from + b))
mark_at from zero set b = ap (λ (t : Bool). t && has set (from + b)) (sym (le-ltb b 0 (omega arith)))
mark_at from (suc n) set zero =
    let e : from + 0 ≡ from = omega arith in
    let t : ltb 0 (suc n) ≡ true = lt-ltb 0 (suc n) (omega arith) in
    rw (e, t)
mark_at from (suc n) set (suc b) =
    let e : from + 1 + b ≡ from + suc b = omega arith in
    let t : ltb (suc b) (suc n) ≡ ltb b n = grind (arith, nat_tests) in
    mark_at (from + 1) n set b ∙ ap (λ (k : ℕ). ltb b n && has set k) e ∙ ap (λ (u : Bool). u && has set (from + suc b)) (sym t)

pub mark_is : (f : Flash) (set : BlockSet) (b : ℕ) → b < length (blocks f) → get_or (marks 0 (length (blocks f)) set) b false ≡ has set b
mark_is f set b l =
    let z : 0 + b ≡ b = omega arith in
    mark_at 0 (length (blocks f)) set b
    ∙ ap (λ (k : ℕ). ltb b (length (blocks f)) && has set k) z
    ∙ ap (λ (t : Bool). t && has set b) (lt-ltb b (length (blocks f)) l)

pub in_a_block : (f : Flash) (a : ℕ) → inside (sheet_of f.setup.kind) a ≡ true → block_of (blocks f) a < length (blocks f)
in_a_block f a i = every_block f.setup.kind a (ltb-true _ _ (sym (inside_is f a) ∙ i))

pub guarded_is : (f : Flash) (a : ℕ) → inside (sheet_of f.setup.kind) a ≡ true → guarded (meaning (rig_of f)) (block_of (blocks f) a) ≡ protected f a
guarded_is f a i = mark_is f f.setup.protected (block_of (blocks f) a) (in_a_block f a i)

pub worn_is : (f : Flash) (a : ℕ) → inside (sheet_of f.setup.kind) a ≡ true → meanings.worn (meaning (rig_of f)) (block_of (blocks f) a) ≡ worn f a
worn_is f a i = mark_is f f.setup.worn (block_of (blocks f) a) (in_a_block f a i)

-- a byte that may be programmed is so to the chip too
pub record Clear (f : Flash) (a byte : ℕ) : Type 0 where
  pub unprotected : protected f a ≡ false
  pub clears : needs_erase (flash.cell f a) byte ≡ false

pub clear : (f : Flash) (a byte : ℕ) → Burnable (rig_of f) a byte → Clear f a byte
clear f a byte k = record { unprotected = sym (guarded_is f a k.within) ∙ k.unguarded; clears = k.clears }

pub time_is : (f : Flash) (a byte : ℕ) → Burnable (rig_of f) a byte → writes.program_time f a byte ≡ program_time (rig_of f) a
time_is f a byte k =
    let c = clear f a byte k in
    cond-false (protected f a) _ _ c.unprotected
    ∙ ap (λ (t : Bool). cond (worn f a || t) longest_program f.setup.program) c.clears ∙ by (worn f a)
    ∙ ap (λ (t : Bool). cond t longest_program f.setup.program) (sym (worn_is f a k.within))
  where
    by : (t : Bool) → cond (t || false) longest_program f.setup.program ≡ cond t longest_program f.setup.program
    by true = refl
    by false = refl

-- The command addresses mean themselves.
low_first : (kind : ℕ) → low_bits (plan_of kind).commands (plan_of kind).commands.first ≡ (plan_of kind).commands.first
low_first kind = eqb-true _ _ (every_plan (λ (p : Plan). eqb (low_bits p.commands p.commands.first) p.commands.first) refl kind)

low_second : (kind : ℕ) → low_bits (plan_of kind).commands (plan_of kind).commands.second ≡ (plan_of kind).commands.second
low_second kind = eqb-true _ _ (every_plan (λ (p : Plan). eqb (low_bits p.commands p.commands.second) p.commands.second) refl kind)

module _ (f : Flash) where
  abbrev c : Commands
  c = commands f

  same : (x : ℕ) → eqb x x ≡ true
  same x = eq-eqb x x refl

  -- a write of a sequence at an address whose low bits are known
  step : (s : State) (p : ChipPlace) (a byte low : ℕ) (d : Decision) → doing_of f s ≡ resting None (place_of p) → low_bits c a ≡ low
      → decided c p low byte ≡ d → doing_of f (heeded f s a byte) ≡ doing_of f (obeyed f Read a byte d)
  step s p a byte low d e l k =
      ap (λ (x : State). doing_of f (heeded f x a byte)) (ready_is f s p e)
      ∙ ap (λ (n : ℕ). doing_of f (obeyed f Read a byte (decided c p n byte))) l
      ∙ ap (λ (x : Decision). doing_of f (obeyed f Read a byte x)) k

  at_first : (a : ℕ) → a ≡ c.first → low_bits c a ≡ c.first
  at_first a e = ap (low_bits c) e ∙ low_first f.setup.kind

  at_second : (a : ℕ) → a ≡ c.second → low_bits c a ≡ c.second
  at_second a e = ap (low_bits c) e ∙ low_second f.setup.kind

  -- the byte that is written, in place of a name for it
  by_byte : (s : State) (a byte what : ℕ) (d : Doing) → byte ≡ what → doing_of f (heeded f s a what) ≡ d → doing_of f (heeded f s a byte) ≡ d
  by_byte s a byte what d e k = ap (λ (x : ℕ). doing_of f (heeded f s a x)) e ∙ k

  interrupts : (e : ChipErase) (a : ℕ) (p : Phase) → interrupted f e p a 0xB0 ≡ Suspending e f.setup.suspend
  interrupts e a Window = refl
  interrupts e a Begun = refl

  -- the erase of a block that begins
  abbrev begun : ℕ → ChipErase
  begun a = record { phase = Window; selected = only (block_of (blocks f) a); left = window; toggle = false }

  begins : (a b : ℕ) → LiesIn (sheet_of f.setup.kind) a b → guarded (meaning (rig_of f)) b ≡ false
      → doing_of f (Erasing (begun a))
      ≡ erasing (record { block = b; left = erase_time (rig_of f) b; toggle = false })
  begins a b at g =
      let e : ChipErase = begun a in
      let within : b < length (blocks f) = subst (λ (x : ℕ). x < length (blocks f)) at.1 (in_a_block f a at.0) in
      let few : b < largest_set = omega (arith, within, every_few f.setup.kind) in
      let open_block : has f.setup.protected b ≡ false = sym (mark_is f f.setup.protected b within) ∙ g in
      let mask : e.selected.mask ≡ 2 ^ b =
      ap (λ (x : ℕ). (only x).mask) at.1 ∙ cond-true (ltb b largest_set) (2 ^ b) 0 (lt-ltb b largest_set few) in
      let j = good_job f e b (record { within = within; unprotected = open_block; selected = mask; lasts = lit≤ tt }) in
      let left : left_of f e Window ≡ erase_time (rig_of f) b =
      ap (λ (n : ℕ). window + n) (erase_time_one f e.selected b mask open_block)
      ∙ ap (λ (t : Bool). window + cond t longest_erase f.setup.erase) (sym (mark_is f f.setup.worn b within)) in
      ap (with_job erasing) j ∙ ap (λ (n : ℕ). erasing (record { block = b; left = n; toggle = false })) left

  pub heeds_in : (a byte : ℕ) → inside (sheet_of f.setup.kind) a ≡ true
      → Heeds (rig_of f) a byte (does (rig_of f) (doing_of f (heeded f f.state a byte)))
  heeds_in a byte i =
      let s = f.state in
      let to : (d : Doing) → doing_of f (heeded f s a byte) ≡ d → does (rig_of f) (doing_of f (heeded f s a byte)) ≡ does (rig_of f) d = λ d e. ap (does (rig_of f)) e in
      record {
        only = refl;
        unlocks = λ b l is e. to _ (by_byte s a byte 0xAA _ is.1 (step s Start a 0xAA c.first (Next Second) e (at_first a is.0) (rw (same c.first) refl)));
        has_unlocked = λ b l is e. to _ (by_byte s a byte 0x55 _ is.1 (step s Second a 0x55 c.second (Next Command) e (at_second a is.0) (rw (same c.second) refl)));
        identifies = λ b l is e. to _ (by_byte s a byte 0x90 _ is.1 (step s Command a 0x90 c.first (Enter Id) e (at_first a is.0) (rw (same c.first) refl)));
        back = λ zone here is e. to _ (by_byte s a byte 0xF0 _ is (ap (λ (x : State). doing_of f (heeded f x a 0xF0)) (identifies_is f s zone e)));
        sets_up = λ b l is e. to _ (by_byte s a byte 0xA0 _ is.1 (step s Command a 0xA0 c.first (Next Data) e (at_first a is.0) (rw (same c.first) refl)));
        programs = λ k e.
            to _ (step s Data a byte (low_bits c a) Program e refl refl
            ∙ ap (λ (n : ℕ). programming (record { address = a; byte = byte; left = n; toggle = false }) None) (time_is f a byte k));
        sets_up_erase = λ b l is e. to _ (by_byte s a byte 0x80 _ is.1 (step s Command a 0x80 c.first (Next EraseStart) e (at_first a is.0) (rw (same c.first) refl)));
        unlocks_erase = λ b l is e. to _ (by_byte s a byte 0xAA _ is.1 (step s EraseStart a 0xAA c.first (Next EraseSecond) e (at_first a is.0) (rw (same c.first) refl)));
        has_unlocked_erase = λ b l is e. to _ (by_byte s a byte 0x55 _ is.1 (step s EraseSecond a 0x55 c.second (Next EraseBlock) e (at_second a is.0) (rw (same c.second) refl)));
        erases = λ b at g is e. to _ (by_byte s a byte 0x30 _ is (step s EraseBlock a 0x30 (low_bits c a) Erase e refl refl ∙ begins a b at g));
        suspends = λ j at is e.
            let k = erases_is f s j e in
            to _ (by_byte s a byte 0xB0 _ is
            (ap (λ (x : State). doing_of f (heeded f x a 0xB0)) k.1 ∙ ap (doing_of f) (interrupts k.0 a k.0.phase)
            ∙ ap (with_job (λ j. stopping j f.setup.suspend)) k.2));
        resumes = λ j at is e.
            let k = holds_is f s j start e in
            to _ (by_byte s a byte 0x30 _ is (ap (λ (x : State). doing_of f (heeded f x a 0x30)) k.1 ∙ ap (with_job erasing) k.2));
        mends = λ zone wanted toggle o here is e.
            let k = fails_is f s zone wanted toggle o e in
            to _ (by_byte s a byte 0xF0 _ is (ap (λ (x : State). doing_of f (heeded f x a 0xF0)) k.0 ∙ ap (λ (x : Option Job). resting x start) (sym k.1)));
      }

pub writes_is : (f g : Flash) (a byte : ℕ) (x : Result (Unit {0}) ChipFault) → x ≡ heard f a → g ≡ written f a byte → Writes (rig_of f) a byte x (rig_of g)
unfolding heard written
writes_is f g a byte x e d = elim (cases_Bool (flash.inside f a)) [
  | inl t ↦
      let i : inside (sheet_of f.setup.kind) a ≡ true = inside_is f a ∙ t in
      let x_is : x ≡ Ok tt = e ∙ cond-true (flash.inside f a) _ _ t in
      let g_is : g ≡ with_state f (heeded f f.state a byte) = d ∙ cond-true (flash.inside f a) _ _ t in
      let P : Result (Unit {0}) ChipFault → Type 0 = λ y. Writes (rig_of f) a byte y (rig_of g) in
      subst P (sym x_is) (i, subst (λ (y : Flash). Heeds (rig_of f) a byte (rig_of y)) (sym g_is) (heeds_in f a byte i))
  | inr t ↦
      let i : inside (sheet_of f.setup.kind) a ≡ false = inside_is f a ∙ t in
      let x_is : x ≡ Err (record { cause = AddressOutside; place = a }) = e ∙ cond-false (flash.inside f a) _ _ t in
      let g_is : g ≡ f = d ∙ cond-false (flash.inside f a) _ _ t in
      let P : Result (Unit {0}) ChipFault → Type 0 = λ y. Writes (rig_of f) a byte y (rig_of g) in
      subst P (sym x_is) (i, refl, ap rig_of g_is)
]
