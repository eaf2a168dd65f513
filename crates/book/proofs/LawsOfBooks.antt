-- The laws of the books.
use Rattle.std.proofs.Common.{◌≡◌, ℕ, zero, suc, ◌+◌, ◌^◌, ◌<◌, ◌≤◌, Bool, true, false, ◌&&◌, eqb, List, get_or, set, Some, None, Ok, Option, sym, refl, ap, ◌∙◌, subst, inl, inr, arith}
use Rattle.std.proofs.lemmas.Bool.{cases_lt, cases_Bool, cond-true, cond-false, eqb-false, ne_eqb}
use Rattle.fault.specs.declared.cause.Cause.{Cause}
use Rattle.part.specs.Meaning.{Meaning, with_cells}
use Rattle.part.specs.Calls.{Took, BurntBy}
use Rattle.book.specs.Pages.{used, is_line, spelled, registration, shown, blank}
use Rattle.book.specs.Burning.{Step, Ran, done, burnt, laid}
use Rattle.book.specs.Laws.{last_line, AreBytes, ReadLaws, WriteLaws, CopyLaws}
use Rattle.book.proofs.Stretches.{spelled_blank}
use Rattle.book.proofs.Showing.{shown_fits}
use Rattle.book.proofs.Effects.{reads, fetches, line_done, line_worn, line_cause, copy_done, copy_worn, copy_cause}

-- k bytes spell less than 256 ^ k, and where they are not all FFh less than all bits set
spelled_below : (cells : List ℕ) (at k : ℕ) → AreBytes cells at k → spelled cells at k + 1 ≤ 256 ^ k
unfolding spelled
spelled_below cells at zero b = omega arith
spelled_below cells at (suc k) b =
    omega (arith, spelled_below cells at k (λ a l h. b a l (omega arith)), b (at + k) (omega arith) (omega arith))

no_last : (c : ℕ) → c < 256 → (c ≡ 255 → ⊥) → c ≤ 254
no_last c l d = elim (cases_lt c 255) [ inl h ↦ omega arith | inr h ↦ absurd (d (omega arith)) ]

spelled_short : (cells : List ℕ) (at k : ℕ) → AreBytes cells at k → blank cells at k ≡ false → spelled cells at k + 2 ≤ 256 ^ k
unfolding spelled blank
spelled_short cells at zero b e = let z : ◌≡◌ {A = ℕ} 0 1 = cc in absurd (omega arith)
spelled_short cells at (suc k) b e =
    elim (cases_Bool (blank cells at k)) [
      | inl t ↦
          let d : get_or cells (at + k) 0 ≡ 255 → ⊥ = eqb-false _ _ (ap (λ (x : Bool). x && eqb (get_or cells (at + k) 0) 255) (sym t) ∙ e) in
          let s : get_or cells (at + k) 0 ≤ 254 = no_last _ (b (at + k) (omega arith) (omega arith)) d in
          omega (arith, spelled_below cells at k (λ a l h. b a l (omega arith)), s)
      | inr f ↦ omega (arith, spelled_short cells at k (λ a l h. b a l (omega arith)) f, b (at + k) (omega arith) (omega arith))
    ]

-- What the last used line shows.
cleared_line : (cells : List ℕ) (at : ℕ) → is_line (used (get_or cells at 0)) ≡ true → blank cells (last_line cells at) 8 ≡ true → shown cells at ≡ None
cleared_line cells at u t =
    cond-true (is_line (used (get_or cells at 0))) _ _ u ∙ ap registration (spelled_blank cells (last_line cells at) t)

filled_line : (cells : List ℕ) (at : ℕ) → is_line (used (get_or cells at 0)) ≡ true → AreBytes cells (last_line cells at) 8
    → blank cells (last_line cells at) 8 ≡ false → shown cells at ≡ Some (spelled cells (last_line cells at) 8)
filled_line cells at u b f =
    let n : ℕ = spelled cells (last_line cells at) 8 in
    let s : n + 2 ≤ 256 ^ 8 = spelled_short cells (last_line cells at) 8 b f in
    cond-true (is_line (used (get_or cells at 0))) _ _ u ∙ cond-false (eqb n 18446744073709551615) _ _ (ne_eqb _ _ (λ e. omega arith))

pub read_laws : ReadLaws
read_laws = record {
  unused = λ cells at f. cond-false (is_line (used (get_or cells at 0))) _ _ f;
  cleared = λ cells at u t. cleared_line cells at u t;
  filled = λ cells at u b f. filled_line cells at u b f;
  fits = λ cells at t. shown_fits cells at t;
  granted = λ m b s h p l. reads m b s h p l;
  fetches = λ m b s h p l. fetches m b s h p l;
}

-- The cells after steps that are all accepted.
all_laid : (m n : Meaning) (steps : List Step) → Ran m steps (Ok tt) n → n.cells ≡ laid m.cells steps
unfolding laid
all_laid m n steps (done x) = refl
all_laid m n steps (burnt {k = k} {a = a} {byte = byte} {steps = rest} e t r) =
    let took : Took 1 300 (with_cells m (set m.cells a byte)) k = subst (λ (o : Option Cause). BurntBy m a byte o k) e t in
    let first : k.cells ≡ set m.cells a byte = ap (λ (x : Meaning). x.cells) took.is in
    all_laid k n rest r ∙ ap (λ (cells : List ℕ). laid cells rest) first

pub write_laws : WriteLaws
write_laws = record {
  done = λ m n b p new r f t w x. line_done m b p new f.seated f.unbarred f.low f.high f.readable f.free t w r n x;
  worn_out = λ m n b p new r f t w x. (
    line_cause m b p new f.seated f.unbarred f.high f.readable f.free t w r n x,
    line_worn m b p new f.seated f.unbarred f.low f.high f.readable f.free t w r n x,
  );
  exact = λ m n steps x. all_laid m n steps x;
}

pub copy_laws : CopyLaws
copy_laws = record {
  done = λ m n b p new r f t w x. copy_done m b p new f.seated f.seen f.unbarred f.readable f.blank_spare t w r n x;
  worn_out = λ m n b p new r f t w x. (
    copy_cause m b p new f.seated f.seen f.unbarred f.readable f.blank_spare t w r n x,
    copy_worn m b p new f.seated f.seen f.unbarred f.readable f.blank_spare t w r n x,
  );
}
