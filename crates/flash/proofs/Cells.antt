-- What operations do to the cells: how many there are stays, protected and worn blocks keep theirs, and only an erase brings a 1 back.
use Rattle.std.proofs.Common.{◌≡◌, ℕ, ◌<◌, ◌≤◌, Bool, true, false, cond, not, ◌&&◌, ◌||◌, ltb, List, length, get_or, sym, refl, ap, ◌∙◌, inl, inr, arith}
use lib.Bits.{bit_and}
use Rattle.std.proofs.lemmas.List.{length-set, get_or-set_same, get_or-set_other, set_past, get_or_past}
use Rattle.std.proofs.lemmas.Bool.{cases_eq, cases_lt, cases_Bool, and_parts, and_left, and_right, or_cases, cond_both, both_ways}
use Rattle.geometry.specs.declared.set.BlockSet.{BlockSet}
use Rattle.geometry.specs.Blocks.{block_of, filled}
use Rattle.geometry.specs.Sets.{bit, has, without}
use Rattle.geometry.proofs.Bitwise.{bit_of_and}
use Rattle.geometry.proofs.Filling.{filled_at, length_filled}
use Rattle.geometry.proofs.Sets.{has_none, has_without, apart}
use Rattle.flash.specs.BlockMaps.{BlockMap, lies_in, is_protected, is_worn}
use Rattle.flash.specs.Programs.{burnt, after_program}
use Rattle.flash.specs.Erases.{erasable, spoils, after_erase, after_broken_erase}

-- the address lies in a block that is protected or worn
abbrev pub Fixed : BlockMap → ℕ → Type 0
Fixed g a = (is_protected g a || is_worn g a) ≡ true

-- As many cells as before.
pub length_after_program : (g : BlockMap) (cells : List ℕ) (a byte : ℕ) → length (after_program g cells a byte) ≡ length cells
length_after_program g cells a byte =
    cond_both (is_protected g a || is_worn g a) cells (burnt cells a byte) (λ (xs : List ℕ). length xs ≡ length cells)
    (λ _. refl) (λ _. length-set cells a _)

pub length_after_erase : (g : BlockMap) (selected : BlockSet) (cells : List ℕ) → length (after_erase g selected cells) ≡ length cells
length_after_erase g selected cells =
    cond_both (spoils g selected) cells (filled g.sizes (erasable g selected) 0xFF cells) (λ (xs : List ℕ). length xs ≡ length cells)
    (λ _. refl) (λ _. length_filled g.sizes (erasable g selected) 0xFF cells)

pub length_after_broken_erase : (g : BlockMap) (selected : BlockSet) (cells : List ℕ) → length (after_broken_erase g selected cells) ≡ length cells
length_after_broken_erase g selected cells = length_filled g.sizes (without (erasable g selected) g.worn) 0x00 cells

-- A cell that a change of the cells leaves alone, past the end or not.
past_too : (cells new : List ℕ) (a : ℕ) → length new ≡ length cells → (a < length cells → get_or new a 0 ≡ get_or cells a 0)
    → get_or new a 0 ≡ get_or cells a 0
past_too cells new a l f =
    elim (cases_lt a (length cells)) [
      | inl h ↦ f h
      | inr h ↦ get_or_past new a 0 (omega arith) ∙ sym (get_or_past cells a 0 h)
    ]

-- Filling the blocks of a set leaves the cells of every other block.
pub spared : (sizes : List ℕ) (set : BlockSet) (v : ℕ) (cells : List ℕ) (a : ℕ) → has set (block_of sizes a) ≡ false
    → get_or (filled sizes set v cells) a 0 ≡ get_or cells a 0
spared sizes set v cells a n =
    past_too cells (filled sizes set v cells) a (length_filled sizes set v cells)
    (λ h.
    let out = and_right (ltb (block_of sizes a) (length sizes)) (has set (block_of sizes a)) n in
    filled_at sizes set v cells a h ∙ ap (λ (t : Bool). cond t v (get_or cells a 0)) out)

-- A block of the second set is not left of the first, and nothing comes in.
without_out : (set other : BlockSet) (b : ℕ) → has other b ≡ true → has (without set other) b ≡ false
without_out set other b t = has_without set other b ∙ ap (λ (x : Bool). has set b && not x) t ∙ no (has set b)
  where
    no : (x : Bool) → (x && false) ≡ false
    no true = refl
    no false = refl

without_less : (set other : BlockSet) (b : ℕ) → has set b ≡ false → has (without set other) b ≡ false
without_less set other b n = has_without set other b ∙ and_left (has set b) (not (has other b)) n

-- A program changes no cell but its own.
pub program_other : (g : BlockMap) (cells : List ℕ) (at byte a : ℕ) → (a ≡ at → ⊥) → get_or (after_program g cells at byte) a 0 ≡ get_or cells a 0
program_other g cells at byte a n =
    cond_both (is_protected g at || is_worn g at) cells (burnt cells at byte) (λ (xs : List ℕ). get_or xs a 0 ≡ get_or cells a 0)
    (λ _. refl) (λ _. get_or-set_other cells at a (bit_and (get_or cells at 0) byte) 0 n)

-- Protected and worn blocks keep their cells.
pub program_keeps : (g : BlockMap) (cells : List ℕ) (at byte a : ℕ) → Fixed g a → get_or (after_program g cells at byte) a 0 ≡ get_or cells a 0
program_keeps g cells at byte a x =
    cond_both (is_protected g at || is_worn g at) cells (burnt cells at byte) (λ (xs : List ℕ). get_or xs a 0 ≡ get_or cells a 0)
    (λ _. refl)
    (λ n. get_or-set_other cells at a (bit_and (get_or cells at 0) byte) 0
    (λ e. both_ways _ n (ap (λ (i : ℕ). is_protected g i || is_worn g i) (sym e) ∙ x)))

pub erase_keeps : (g : BlockMap) (selected : BlockSet) (cells : List ℕ) (a : ℕ) → Fixed g a → get_or (after_erase g selected cells) a 0 ≡ get_or cells a 0
erase_keeps g selected cells a x =
    cond_both (spoils g selected) cells (filled g.sizes (erasable g selected) 0xFF cells) (λ (xs : List ℕ). get_or xs a 0 ≡ get_or cells a 0)
    (λ _. refl) (λ n. spared g.sizes (erasable g selected) 0xFF cells a (out n))
  where
    out : spoils g selected ≡ false → lies_in g (erasable g selected) a ≡ false
    out n = elim (or_cases (is_protected g a) (is_worn g a) x) [
      | inl t ↦ without_out selected g.protected _ t
      | inr t ↦ apart (erasable g selected) g.worn _ n t
    ]

pub broken_erase_keeps : (g : BlockMap) (selected : BlockSet) (cells : List ℕ) (a : ℕ) → Fixed g a
    → get_or (after_broken_erase g selected cells) a 0 ≡ get_or cells a 0
broken_erase_keeps g selected cells a x = spared g.sizes (without (erasable g selected) g.worn) 0x00 cells a out
  where
    out : lies_in g (without (erasable g selected) g.worn) a ≡ false
    out = elim (or_cases (is_protected g a) (is_worn g a) x) [
      | inl t ↦ without_less (erasable g selected) g.worn _ (without_out selected g.protected _ t)
      | inr t ↦ without_out (erasable g selected) g.worn _ t
    ]

-- No bit goes from 0 to 1 by a program, or by a reset that breaks an erasing off.
abbrev pub Clears : List ℕ → List ℕ → Type 0
Clears cells new = (a b : ℕ) → bit (get_or new a 0) b ≡ true → bit (get_or cells a 0) b ≡ true

pub program_clears : (g : BlockMap) (cells : List ℕ) (at byte : ℕ) → Clears cells (after_program g cells at byte)
program_clears g cells at byte a b t =
    elim (cases_eq a at) [
      | inr n ↦ ap (λ (x : ℕ). bit x b) (sym (program_other g cells at byte a n)) ∙ t
      | inl e ↦
          cond_both (is_protected g at || is_worn g at) cells (burnt cells at byte)
          (λ (xs : List ℕ). bit (get_or xs a 0) b ≡ true → bit (get_or cells a 0) b ≡ true) (λ _ u. u) (λ _ u. own e u) t
    ]
  where
    own : a ≡ at → bit (get_or (burnt cells at byte) a 0) b ≡ true → bit (get_or cells a 0) b ≡ true
    own e u = elim (cases_lt at (length cells)) [
      | inl l ↦
          let same : get_or (burnt cells at byte) a 0 ≡ bit_and (get_or cells a 0) byte =
          ap (λ (k : ℕ). get_or (burnt cells at byte) k 0) e ∙ get_or-set_same cells at (bit_and (get_or cells at 0) byte) 0 l
          ∙ ap (λ (k : ℕ). bit_and (get_or cells k 0) byte) (sym e) in
          (and_parts (bit (get_or cells a 0) b) (bit byte b) (sym (bit_of_and (get_or cells a 0) byte b) ∙ ap (λ (x : ℕ). bit x b) (sym same) ∙ u)).0
      | inr l ↦ ap (λ (xs : List ℕ). bit (get_or xs a 0) b) (sym (set_past cells at (bit_and (get_or cells at 0) byte) l)) ∙ u
    ]

-- Filling blocks with 00h brings no 1.
pub zeros_clear : (sizes : List ℕ) (set : BlockSet) (cells : List ℕ) → Clears cells (filled sizes set 0x00 cells)
zeros_clear sizes set cells a b t =
    elim (cases_Bool (has set (block_of sizes a))) [
      | inr n ↦ ap (λ (x : ℕ). bit x b) (sym (spared sizes set 0x00 cells a n)) ∙ t
      | inl y ↦ elim (cases_lt a (length cells)) [
        | inr h ↦ past h
        | inl h ↦
            let test : Bool = ltb (block_of sizes a) (length sizes) && has set (block_of sizes a) in
            cond_both test 0x00 (get_or cells a 0) (λ (x : ℕ). bit x b ≡ true → bit (get_or cells a 0) b ≡ true)
            (λ _ u. absurd (both_ways _ (no_bit b) u)) (λ _ u. u)
            (ap (λ (x : ℕ). bit x b) (sym (filled_at sizes set 0x00 cells a h)) ∙ t)
      ]
    ]
  where
    no_bit : (b : ℕ) → bit 0 b ≡ false
    no_bit b = has_none b

    past : length cells ≤ a → bit (get_or cells a 0) b ≡ true
    past h =
        let e : get_or (filled sizes set 0x00 cells) a 0 ≡ get_or cells a 0 =
        get_or_past (filled sizes set 0x00 cells) a 0 (omega (arith, length_filled sizes set 0x00 cells)) ∙ sym (get_or_past cells a 0 h) in
        ap (λ (x : ℕ). bit x b) (sym e) ∙ t

pub broken_erase_clears : (g : BlockMap) (selected : BlockSet) (cells : List ℕ) → Clears cells (after_broken_erase g selected cells)
broken_erase_clears g selected cells = zeros_clear g.sizes (without (erasable g selected) g.worn) cells
