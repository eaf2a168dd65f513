-- A read of a chip to which the notes are tied, in the words of a part.
use Rattle.std.proofs.Common.{◌≡◌, ℕ, Bool, true, false, cond, eqb, length, Some, None, Ok, Err, Option, Result, is_some, sym, refl, ap, ◌∙◌, subst, inl, inr, arith}
use Rattle.std.proofs.lemmas.Bool.{lt-leb, ltb-true, cond-false, true≢false, eq-eqb}
use Rattle.fault.specs.declared.cause.Cause.TheVariants.{ErasureInTheWay}
use Rattle.fault.specs.declared.faults.ChipFault.{ChipFault}
use Rattle.part.specs.declared.answers.Standing.{Standing}
use Rattle.part.specs.declared.answers.Standing.TheVariants.{Idle, Running, Suspended}
use Rattle.part.specs.Meaning.{Erasure, Meaning, cell, block, standing_of}
use Rattle.part.specs.Calls.{answer, stands, hides, bars, outside}
use Rattle.part.specs.Standings.{hid, barred}
use Rattle.part.proofs.Standings.{hid_is, barred_is, hides_none}
use Rattle.driver.specs.declared.notes.Notes.{Notes}
use Rattle.driver.specs.Rig.{Job, Doing, resting, identifying, programming, erasing, stopping, failed, other, start, Rig, SameChip, inside, erasure_in, meaning}
use Rattle.driver.specs.Cycles.{flipped, Shows, Reads}
use Rattle.driver.specs.Sound.{Sound}
use Rattle.driver.specs.Notes.{agrees, Tied}
use Rattle.driver.specs.Calls.{Peeks}
use Rattle.driver.proofs.Changing.{same_cycle, only_read, still_read, granted_read}
use Rattle.driver.proofs.Tying.{when_idle, when_running, when_held}

-- The notes tell which erasure stands.
pub standing_is : (n : ℕ) (d : Doing) (st : Standing) → agrees n d st ≡ true → standing_of (erasure_in d) ≡ st
standing_is n d Idle t = ap (λ (x : Doing). standing_of (erasure_in x)) (when_idle n d t)
standing_is n d (Running b) t =
    let k = when_running n b d t in ap (λ (x : Doing). standing_of (erasure_in x)) k.1 ∙ ap Running k.2.block
standing_is n d (Suspended b) t =
    let k = when_held n b d t in ap (λ (x : Doing). standing_of (erasure_in x)) k.1 ∙ ap Suspended k.2.block

pub hides_is : (r : Rig) (n : Notes) (b : ℕ) → Tied r n → hid n.standing b ≡ hides (meaning r) b
hides_is r n b t = ap (λ (s : Standing). hid s b) (sym (standing_is (length r.sheet.sizes) r.doing n.standing t.follows)) ∙ hid_is (meaning r) b

pub bars_is : (r : Rig) (n : Notes) (b : ℕ) → Tied r n → barred n.standing b ≡ bars (meaning r) b
bars_is r n b t = ap (λ (s : Standing). barred s b) (sym (standing_is (length r.sheet.sizes) r.doing n.standing t.follows)) ∙ barred_is (meaning r) b

-- A read leaves the meaning, and the tie.
erasure_flipped : (d : Doing) → erasure_in (flipped d) ≡ erasure_in d
erasure_flipped (resting o p) = refl
erasure_flipped (identifying z) = refl
erasure_flipped (programming p o) = refl
erasure_flipped (erasing j) = refl
erasure_flipped (stopping j w) = refl
erasure_flipped (failed z w t o) = refl
erasure_flipped other = refl

pub same_means : (r s : Rig) (a byte : ℕ) → Shows r a byte s → meaning s ≡ meaning r
same_means r s a byte x = elim x.only [
  | inl e ↦ ap meaning e
  | inr e ↦ ap meaning e ∙ ap (λ (o : Option Erasure). record (meaning r) { erasure = o }) (erasure_flipped r.doing)
]

pub within_is : (r : Rig) (a : ℕ) → Sound r → inside r.sheet a ≡ true → outside (meaning r) a ≡ false
within_is r a s i = lt-leb (length r.cells) a (omega (arith, s.whole, ltb-true _ _ i))

-- Where nothing hides the address, the cell is read.
running_hides : (r : Rig) (b c : ℕ) (j : Job) → r.doing ≡ erasing j → hides (meaning r) c ≡ true
running_hides r b c j e = sym (hid_is (meaning r) c) ∙ ap (λ (x : Doing). hid (standing_of (erasure_in x)) c) e

held_hides : (r : Rig) (c : ℕ) (j : Job) → r.doing ≡ resting (Some j) start → hides (meaning r) c ≡ eqb j.block c
held_hides r c j e = sym (hid_is (meaning r) c) ∙ ap (λ (x : Doing). hid (standing_of (erasure_in x)) c) e

pub cell_read : (r s : Rig) (n : Notes) (a byte : ℕ) → Tied r n → Shows r a byte s → hides (meaning r) (block (meaning r) a) ≡ false
    → byte ≡ cell (meaning r) a
cell_read r s n a byte t x h = by n.standing t.follows
  where
    by : (st : Standing) → agrees (length r.sheet.sizes) r.doing st ≡ true → byte ≡ cell (meaning r) a
    by Idle t = x.rests None start (when_idle (length r.sheet.sizes) r.doing t) (λ j e. let no : ◌≡◌ {A = ℕ} 0 1 = cc in absurd (omega arith))
    by (Running b) t =
        let k = when_running (length r.sheet.sizes) b r.doing t in
        absurd (true≢false (sym (running_hides r b (block (meaning r) a) k.0 k.1) ∙ h))
    by (Suspended b) t =
        let k = when_held (length r.sheet.sizes) b r.doing t in
        x.rests (Some k.0) start k.1 (λ j e own.
        let same : k.0 ≡ j = cc in
        let own_block : k.0.block ≡ block (meaning r) a = ap (λ (y : Job). y.block) same ∙ sym own in
        true≢false (sym (eq-eqb k.0.block (block (meaning r) a) own_block) ∙ sym (held_hides r (block (meaning r) a) k.0 k.1) ∙ h))

-- The peek, by whether the notes hide the block that the address lies in.
module _ (r s : Rig) (n : Notes) (a byte b : ℕ) (x : Result ℕ ChipFault) (k : Sound r) (t : Tied r n) (w : Reads r a x s) (got : x ≡ Ok byte)
    (at : b ≡ block (meaning s) a) where
  abbrev m : Meaning
  m = meaning r

  q : (inside r.sheet a ≡ true) × Shows r a byte s
  q = granted_read r s a byte x w got

  same_chip : SameChip r s
  same_chip = same_cycle r s (only_read r s a byte q.1)

  hidden : hides m (block m a) ≡ hid n.standing b
  hidden = sym (hides_is r n (block m a) t) ∙ ap (hid n.standing) (sym (at ∙ ap (λ (y : Rig). block (meaning y) a) same_chip))

  shown : (h : Bool) → hides m (block m a) ≡ h
      → cond h (Err (record { cause = ErasureInTheWay; place = a })) (Ok byte) ≡ answer (cond h (Some ErasureInTheWay) None) a (cell m a)
  shown true e = refl
  shown false e = ap Ok (cell_read r s n a byte t q.1 e)

  pub peeked : (h : Bool) → hid n.standing b ≡ h → Peeks r a (cond h (Err (record { cause = ErasureInTheWay; place = a })) (Ok byte)) s
  peeked h is =
      let e = hidden ∙ is in
      record {
        answer =
            shown h e
            ∙ sym (ap (λ o. answer o a (cell m a)) (cond-false (outside m a) _ _ (within_is r a k q.0) ∙ ap (λ (u : Bool). cond u (Some ErasureInTheWay) None) e));
        same = same_means r s a byte q.1;
        chip = same_chip;
      }

-- Where no burn is barred, the chip is at rest, and a read changes nothing.
pub record Free (r s : Rig) (a byte : ℕ) : Type 0 where
  pub rests : r.doing ≡ resting None start
  pub same : s ≡ r
  pub cell : byte ≡ cell (meaning r) a

nothing_stands : (st : Standing) (b : ℕ) → barred st b ≡ false → st ≡ Idle
nothing_stands Idle b e = refl
nothing_stands (Running own) b e = absurd (true≢false e)
nothing_stands (Suspended own) b e = absurd (true≢false e)

pub free_read : (r s : Rig) (n : Notes) (a byte : ℕ) → Tied r n → Shows r a byte s → bars (meaning r) (block (meaning r) a) ≡ false → Free r s a byte
free_read r s n a byte t x b =
    let idle : n.standing ≡ Idle = nothing_stands n.standing (block (meaning r) a) (bars_is r n (block (meaning r) a) t ∙ b) in
    let rest : r.doing ≡ resting None start = when_idle (length r.sheet.sizes) r.doing (subst (λ (st : Standing). agrees (length r.sheet.sizes) r.doing st ≡ true) idle t.follows) in
    let none : stands (meaning r) ≡ false = ap (λ (d : Doing). is_some (erasure_in d)) rest in
    record {
      rests = rest;
      same = still_read r s a byte (resting None start) rest refl x;
      cell = cell_read r s n a byte t x (hides_none (meaning r) (block (meaning r) a) none);
    }

-- A read leaves the notes tied.
agrees_flipped : (n : ℕ) (d : Doing) (st : Standing) → agrees n (flipped d) st ≡ agrees n d st
agrees_flipped n (resting o p) st = refl
agrees_flipped n (identifying z) st = refl
agrees_flipped n (programming p o) st = refl
agrees_flipped n (erasing j) Idle = refl
agrees_flipped n (erasing j) (Running b) = refl
agrees_flipped n (erasing j) (Suspended b) = refl
agrees_flipped n (stopping j w) st = refl
agrees_flipped n (failed z w t o) st = refl
agrees_flipped n other st = refl

pub read_tied : (r s : Rig) (n : Notes) (a byte : ℕ) → Tied r n → Shows r a byte s → Tied s n
read_tied r s n a byte t x = elim x.only [
  | inl e ↦ subst (λ (y : Rig). Tied y n) (sym e) t
  | inr e ↦ subst (λ (y : Rig). Tied y n) (sym e) (record {
    knows = t.knows;
    follows = agrees_flipped (length r.sheet.sizes) r.doing n.standing ∙ t.follows;
  })
]
