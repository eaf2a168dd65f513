-- Time on a running erasure and the look after it, in the words of a part.
use Rattle.std.proofs.Common.{◌≡◌, ℕ, ◌-◌, ◌<◌, ◌≤◌, true, false, eqb, ltb, leb, List, length, get_or, Some, None, Ok, Option, Result, sym, refl, ap, ◌∙◌, subst, inl, inr, arith}
use Rattle.std.proofs.lemmas.Bool.{cases_lt, cases_Bool, lt-ltb, le-ltb, eq-eqb, ltb-true, cond-true, cond-false}
use Rattle.fault.specs.declared.faults.ChipFault.{ChipFault}
use Rattle.fault.specs.Limits.{longest}
use Rattle.geometry.specs.Blocks.{start_of, block_of, wiped}
use Rattle.geometry.proofs.Wiping.{wiped_at}
use Rattle.part.specs.declared.answers.Progress.{Progress}
use Rattle.part.specs.declared.answers.Standing.{Standing}
use Rattle.part.specs.declared.answers.Standing.TheVariants.{Running}
use Rattle.part.specs.Meaning.{Erasure, Meaning, guarded, worn, with_cells, with_erasure, ticked}
use Rattle.part.specs.Calls.{answer, run_on, passed, progress}
use Rattle.driver.specs.declared.verdict.Verdict.{Verdict}
use Rattle.driver.specs.declared.verdict.Verdict.TheVariants.{Busy, Done, Failed}
use Rattle.driver.specs.declared.notes.Notes.{Notes}
use Rattle.driver.specs.Rig.{Job, resting, erasing, failed, start, Rig, does, later, SameChip, erasure_in, meaning}
use Rattle.driver.specs.Cycles.{flip_job, Elapses, Passes}
use Rattle.driver.specs.Sound.{Sound}
use Rattle.driver.specs.Notes.{agrees, Tied}
use Rattle.driver.specs.Calls.{Waits}
use Rattle.driver.specs.Steps.{progress_of, stands_after, Looks}
use Rattle.driver.proofs.Changing.{same_later, same_cycle, same_more, granted_pass}
use Rattle.driver.proofs.Tying.{is_erases, when_running}

-- What the look at the end of a pass of n microseconds says: the answer, the meaning and the tie.
pub record Outcome (r : Rig) (b n : ℕ) (v : Verdict) (s : Rig) : Type 0 where
  pub tells : progress (meaning r) n (meaning r).erasure ≡ progress_of v
  pub means : meaning s ≡ passed (meaning r) n
  pub follows : agrees (length r.sheet.sizes) s.doing (stands_after b v) ≡ true

module _ (r : Rig) (sound : Sound r) (j : Job) (e : r.doing ≡ erasing j) (l : j.block < length r.sheet.sizes) (lasts : 1 ≤ j.left)
    (n : ℕ) (m s : Rig) (v : Verdict) (p : Elapses r n m) (k : Looks m j.block v s) where
  abbrev erasure : Option Erasure
  erasure = Some (record { block = j.block; left = j.left; running = true })

  erasure_is : (meaning r).erasure ≡ erasure
  erasure_is = ap erasure_in e

  -- the outcome, by what the erasure comes to
  by_what : (x : Verdict) (end : Rig) → v ≡ x → s ≡ end
      → progress (meaning r) n erasure ≡ progress_of x
      → meaning end ≡ ticked (run_on (meaning r) n erasure) n
      → agrees (length r.sheet.sizes) end.doing (stands_after j.block x) ≡ true
      → Outcome r j.block n v s
  by_what x end v_is s_is tells means follows = record {
    tells = ap (progress (meaning r) n) erasure_is ∙ tells ∙ ap progress_of (sym v_is);
    means = ap meaning s_is ∙ means ∙ ap (λ (o : Option Erasure). ticked (run_on (meaning r) n o) n) (sym erasure_is);
    follows =
        ap (λ (y : Rig). agrees (length r.sheet.sizes) y.doing (stands_after j.block v)) s_is
        ∙ ap (λ (y : Verdict). agrees (length r.sheet.sizes) end.doing (stands_after j.block y)) v_is ∙ follows;
  }

  goes_on : n < j.left → Outcome r j.block n v s
  goes_on h =
      let i : Job = record j { left = j.left - n } in
      let m_is : m ≡ later r n r.cells (erasing i) = p.erases j e h in
      let q = k.busy (subst (λ (y : Rig). j.block < length y.sheet.sizes) (sym m_is) l) i (ap (λ (y : Rig). y.doing) m_is) refl in
      let less : ltb n j.left ≡ true = lt-ltb n j.left h in
      by_what Busy (later r n r.cells (erasing (flip_job i))) q.0
      (q.1 ∙ ap (λ (y : Rig). does y (erasing (flip_job i))) m_is)
      (cond-true (ltb n j.left) _ _ less)
      (ap (λ (y : Meaning). ticked y n) (sym (cond-true (ltb n j.left) _ _ less)))
      (is_erases (length r.sheet.sizes) j.block (flip_job i) (record { block = refl; within = l; lasts = omega arith }))

  fails : j.left ≤ n → worn (meaning r) j.block ≡ true → Outcome r j.block n v s
  fails h w =
      let zone : ℕ = r.sheet.zone j.block in
      let m_is : m ≡ later r n r.cells (failed zone 0xFF j.toggle None) = p.has_not_erased j e h w in
      let d : m.doing ≡ failed (m.sheet.zone j.block) 0xFF j.toggle None =
      ap (λ (y : Rig). y.doing) m_is ∙ ap (λ (y : Rig). failed (y.sheet.zone j.block) 0xFF j.toggle None) (sym m_is) in
      let q = k.broken (subst (λ (y : Rig). j.block < length y.sheet.sizes) (sym m_is) l) j.toggle d in
      let more : ltb n j.left ≡ false = le-ltb n j.left h in
      by_what Failed (later r n r.cells (resting None start)) q.0
      (q.1 ∙ ap (λ (y : Rig). does y (resting None start)) m_is)
      (cond-false (ltb n j.left) _ _ more ∙ cond-true (worn (meaning r) j.block) _ _ w)
      (ap (λ (c : List ℕ). ticked (with_erasure (with_cells (meaning r) c) None) n) (sym (cond-true (worn (meaning r) j.block) _ _ w))
      ∙ ap (λ (y : Meaning). ticked y n) (sym (cond-false (ltb n j.left) _ _ more)))
      refl

  ends : j.left ≤ n → worn (meaning r) j.block ≡ false → Outcome r j.block n v s
  ends h w =
      let cells : List ℕ = wiped r.sheet.sizes j.block 0xFF r.cells in
      let end : Rig = later r n cells (resting None start) in
      let m_is : m ≡ end = p.has_erased j e h w in
      let at = (sound.addressed j.block l).start in
      let a : ℕ = start_of r.sheet.sizes j.block in
      let within : a < length r.cells = omega (arith, sound.whole, ltb-true _ _ at.0) in
      let full : get_or cells a 0 ≡ 0xFF =
      wiped_at r.sheet.sizes j.block 0xFF r.cells a l within ∙ cond-true (eqb (block_of r.sheet.sizes a) j.block) _ _ (eq-eqb _ _ at.1) in
      let q = k.done (subst (λ (y : Rig). j.block < length y.sheet.sizes) (sym m_is) l) (ap (λ (y : Rig). y.doing) m_is)
      (subst (λ (y : Rig). get_or y.cells (start_of y.sheet.sizes j.block) 0 ≡ 0xFF) (sym m_is) full) in
      let more : ltb n j.left ≡ false = le-ltb n j.left h in
      by_what Done end q.0 (q.1 ∙ m_is)
      (cond-false (ltb n j.left) _ _ more ∙ cond-false (worn (meaning r) j.block) _ _ w)
      (ap (λ (c : List ℕ). ticked (with_erasure (with_cells (meaning r) c) None) n) (sym (cond-false (worn (meaning r) j.block) _ _ w))
      ∙ ap (λ (y : Meaning). ticked y n) (sym (cond-false (ltb n j.left) _ _ more)))
      refl

  pub outcome : Outcome r j.block n v s
  outcome = elim (cases_lt n j.left) [
    | inl h ↦ goes_on h
    | inr h ↦ elim (cases_Bool (worn (meaning r) j.block)) [ inl w ↦ fails h w | inr w ↦ ends h w ]
  ]

module _ (r m s : Rig) (notes : Notes) (b n : ℕ) (v : Verdict) (sound : Sound r) (t : Tied r notes) (runs : notes.standing ≡ Running b)
    (x : Result (Unit {0}) ChipFault) (done : Unit {0}) (passes : Passes r n x m) (got : x ≡ Ok done) (k : Looks m b v s) where
  gone : (leb n longest ≡ true) × Elapses r n m
  gone = granted_pass r m n x done passes got

  same_chip : SameChip r s
  same_chip = same_more r m s (same_later r m n gone.1.only) (same_cycle m s k.only)

  of_block : Outcome r b n v s
  of_block =
      let w = when_running (length r.sheet.sizes) b r.doing (subst (λ (st : Standing). agrees (length r.sheet.sizes) r.doing st ≡ true) runs t.follows) in
      let own : w.0.block ≡ b = w.2.block in
      subst (λ (c : ℕ). Outcome r c n v s) own
      (outcome r sound w.0 w.1 (omega (arith, own, w.2.within)) w.2.lasts n m s v gone.1 (subst (λ (c : ℕ). Looks m c v s) (sym own) k))

  pub waits : (found : Progress) → found ≡ progress_of v → Waits r n (Ok found) s
  waits found f = record {
    answer =
        ap Ok (f ∙ sym of_block.tells)
        ∙ sym (ap (λ o. answer o n (progress (meaning r) n (meaning r).erasure)) (cond-true (leb n longest) None _ gone.0));
    passed = of_block.means ∙ sym (cond-true (leb n longest) _ _ gone.0);
    chip = same_chip;
  }

  pub still_tied : (standing : Standing) → standing ≡ stands_after b v → Tied s (record { guards = notes.guards; standing = standing })
  still_tied standing f = record {
    knows = λ c. t.knows c ∙ sym (ap (λ (y : Rig). guarded (meaning y) c) same_chip);
    follows =
        ap (λ (y : Rig). agrees (length y.sheet.sizes) s.doing standing) same_chip
        ∙ ap (agrees (length r.sheet.sizes) s.doing) f ∙ of_block.follows;
  }
