-- One read of a chip that was erasing, and F0h where the erase has failed.
use Rattle.std.proofs.Common.{◌≡◌, ℕ, ◌<◌, not, ltb, length, get_or, Some, None, sym, refl, ap, ◌∙◌, subst, inl, inr, arith, lit≤}
use Rattle.std.proofs.lemmas.Bool.{cases_Bool, cond-true, cond-false}
use Rattle.geometry.specs.declared.block.Block.{Block}
use Rattle.part.specs.Calls.{block_at}
use Rattle.geometry.specs.Blocks.{start_of, block_of}
use Rattle.driver.specs.declared.verdict.Verdict.{Verdict}
use Rattle.driver.specs.declared.verdict.Verdict.TheVariants.{Busy, Done, Failed}
use Rattle.driver.specs.Rig.{resting, erasing, failed, start, Rig, does, meaning, LiesIn}
use Rattle.driver.specs.Status.{judged}
use Rattle.driver.specs.Cycles.{Shows}
use Rattle.driver.specs.Steps.{Mends, Looks}
use Rattle.driver.proofs.Judging.{judged_busy, judged_failed, judged_done}
use Rattle.driver.proofs.Changing.{does_more, only_read, still_read, flip_read}

only_mended : (m s : Rig) (a : ℕ) (v : Verdict) → Mends m a v s → s ≡ does m s.doing
only_mended m s a Busy h = h ∙ ap (λ (x : Rig). does m x.doing) (sym h)
only_mended m s a Done h = h ∙ ap (λ (x : Rig). does m x.doing) (sym h)
only_mended m s a Failed h = h.only

pub looks : (r m s : Rig) (b byte : ℕ) (v : Verdict) → (b < length r.sheet.sizes → LiesIn r.sheet (start_of r.sheet.sizes b) b)
    → Shows r (start_of r.sheet.sizes b) byte m → v ≡ judged byte 0xFF → Mends m (start_of r.sheet.sizes b) v s → Looks r b v s
looks r m s b byte v at x is h =
    let a : ℕ = start_of r.sheet.sizes b in
    record {
      only = does_more r m s m.doing s.doing (only_read r m a byte x) (only_mended m s a v h);
      busy = λ l j e own.
          let q = x.erases j e ((at l).1 ∙ sym own) in
          let v_is : v ≡ Busy = is ∙ judged_busy byte 0xFF (lit≤ tt) j.toggle q.0 in
          (v_is, subst (λ (y : Verdict). Mends m a y s) v_is h ∙ flip_read r m (erasing j) e q.1);
      broken = λ l t e.
          let zone : ℕ = r.sheet.zone b in
          let q = x.has_failed zone 0xFF t None e (ap r.sheet.zone (at l).1) in
          let v_is : v ≡ Failed = is ∙ judged_failed byte 0xFF (lit≤ tt) t q.0 in
          let m_is : m ≡ does r (failed zone 0xFF (not t) None) = flip_read r m (failed zone 0xFF t None) e q.1 in
          let k = subst (λ (y : Verdict). Mends m a y s) v_is h in
          (v_is, does_more r m s (failed zone 0xFF (not t) None) (resting None start) m_is (k.mends zone 0xFF (not t) None (ap (λ (y : Rig). y.sheet.zone (block_of y.sheet.sizes a)) m_is ∙ ap r.sheet.zone (at l).1) refl (ap (λ (y : Rig). y.doing) m_is)));
      done = λ l e full.
          let q = x.rests None start e (λ j n. let no : ◌≡◌ {A = ℕ} 0 1 = cc in absurd (omega arith)) in
          let v_is : v ≡ Done = is ∙ judged_done byte 0xFF (q ∙ full) in
          (v_is, subst (λ (y : Verdict). Mends m a y s) v_is h ∙ still_read r m a byte (resting None start) e refl x);
    }

-- A block that there is is found where it starts.
pub found_start : (r : Rig) (b : ℕ) (place : Block) → block_at (meaning r) b ≡ Some place → place.start ≡ start_of r.sheet.sizes b
found_start r b place e = elim (cases_Bool (ltb b (length r.sheet.sizes))) [
  | inl l ↦ let f = sym (cond-true (ltb b (length r.sheet.sizes)) (Some (record { start = start_of r.sheet.sizes b; size = get_or r.sheet.sizes b 0 })) None l) ∙ e in
      let same : record { start = start_of r.sheet.sizes b; size = get_or r.sheet.sizes b 0 } ≡ place = cc in
      sym (ap (λ (x : Block). x.start) same)
  | inr n ↦
      let f = sym (cond-false (ltb b (length r.sheet.sizes)) (Some (record { start = start_of r.sheet.sizes b; size = get_or r.sheet.sizes b 0 })) None n) ∙ e in
      let z : ◌≡◌ {A = ℕ} 0 1 = cc in absurd (omega arith)
]
