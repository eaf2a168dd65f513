-- What time does to an operation, to its end: programs, erasings, and what a suspension holds.
use Rattle.std.proofs.Common.{◌≡◌, ℕ, zero, suc, ◌-◌, ◌*◌, ◌<◌, ◌≤◌, max, Bool, true, false, cond, ◌&&◌, leb, ltb, List, length, get_or, Some, None, sym, refl, ap, ◌∙◌, subst, inl, inr, arith, lit≤}
use Rattle.std.proofs.lemmas.Bool.{ne_eqb, eq-eqb, lt-ltb, ltb-true, cases_lt, cases_Bool, cond_both}
use Rattle.std.proofs.lemmas.List.{ext_get_or}
use Rattle.std.proofs.lemmas.Nat.{mul-le}
use Rattle.geometry.specs.declared.set.BlockSet.{BlockSet}
use Rattle.geometry.specs.Blocks.{block_of, filled}
use Rattle.geometry.specs.Sets.{has, count_of, meets}
use Rattle.geometry.proofs.Filling.{filled_at, length_filled}
use Rattle.geometry.proofs.Sets.{count_meets, count_positive}
use Rattle.geometry.proofs.Placing.{every_block}
use Rattle.flash.specs.Limits.{longest_erase, protected_erase}
use Rattle.flash.specs.Programs.{program_fails}
use Rattle.flash.proofs.Cells.{program_other, spared}
use Rattle.chip.specs.declared.state.Phase.TheVariants.{Erasing as Begun}
use Rattle.chip.specs.declared.state.Program.{Program}
use Rattle.chip.specs.declared.state.Erase.{Erase}
use Rattle.chip.specs.declared.state.State.{State}
use Rattle.chip.specs.declared.state.State.TheVariants.{Programming, Suspending, Suspended, Failed}
use Rattle.chip.specs.Flash.{Flash, block_map_of, blocks, inside, cell, lies_in, erasable}
use Rattle.chip.specs.Writes.{read_mode}
use Rattle.chip.specs.Times.{programmed, spoils, erase_time, erased, ended, due, lowered, step_by, tick, passed}
use Rattle.chip.specs.Laws.{Sound, Holds, stopping, stopped, Works, Begins, Erased, StillErasing}
use Rattle.chip.proofs.Limits.{limits}
use Rattle.chip.proofs.Passing.{Same, passed_until, passed_over, rests}

-- A program has its own cell, and no other.
programmed_due : (f : Flash) (p : Program) → due (programmed f p).state ≡ None
programmed_due f p =
    cond_both (program_fails (block_map_of f) f.cells p.address p.byte) _ _ (λ (s : State). due s ≡ None) (λ _. refl) (λ _. refl)

pub own_cell : (n : ℕ) (f : Flash) (p : Program) → f.state ≡ Programming p → (a : ℕ) → (a ≡ p.address → ⊥) → cell (passed n f) a ≡ cell f a
own_cell n f p s a o =
    let d : ℕ = max 1 p.left in
    let left : due f.state ≡ Some d = ap due s in
    elim (cases_lt n d) [
      | inl h ↦ ap (λ (xs : List ℕ). get_or xs a 0) (passed_until n d f left h).cells
      | inr h ↦
          let end : Same (passed d f) (ended f f.state) = passed_over d f left in
          let is : ended f f.state ≡ programmed f p = ap (ended f) s in
          let idle : due (passed d f).state ≡ None = ap due (end.state ∙ ap (λ (x : Flash). x.state) is) ∙ programmed_due f p in
          ap (λ (xs : List ℕ). get_or xs a 0) ((rests d n f h idle).cells ∙ end.cells ∙ ap (λ (x : Flash). x.cells) is)
          ∙ program_other (block_map_of f) f.cells p.address p.byte a o
    ]

-- What a suspension holds stands still, microsecond by microsecond.
Still : Erase → Flash → Flash → Type 0
Still e f g = Holds e g.state × (g.cells ≡ f.cells)

step_holds : (f : Flash) (e : Erase) (s : State) → f.state ≡ s → Holds e s → Still e f (step_by f (due s))
unfolding Still
step_holds f e s q (stopping wait) =
    cond_both (leb (max 1 wait) 1) _ _ (Still e f)
    (λ _. subst (λ (x : State). Still e f (ended f x)) (sym q) (stopped, refl))
    (λ _. (subst (λ (x : State). Holds e (lowered 1 x)) (sym q) (stopping (wait - 1)), refl))
step_holds f e s q stopped = (subst (Holds e) (sym q) stopped, refl)

pub stands_still : (n : ℕ) (f : Flash) (e : Erase) → Holds e f.state → Holds e (passed n f).state × ((passed n f).cells ≡ f.cells)
unfolding passed Still
stands_still zero f e h = (h, refl)
stands_still (suc n) f e h =
    let one = step_holds f e f.state refl h in
    let rest = stands_still n (tick f) e one.0 in
    (rest.0, rest.1 ∙ one.1)

pub stopping_until : (f : Flash) (e : Erase) (wait : ℕ) → f.state ≡ Suspending e wait → (n : ℕ) → n < wait
    → (passed n f).state ≡ Suspending e (wait - n)
stopping_until f e wait s n h =
    let left : due f.state ≡ Some wait = ap due s ∙ ap Some (omega arith) in
    (passed_until n wait f left h).state ∙ ap (lowered n) s

pub stopping_over : (f : Flash) (e : Erase) (wait : ℕ) → f.state ≡ Suspending e wait → 1 ≤ wait → (passed wait f).state ≡ Suspended e
stopping_over f e wait s h =
    let left : due f.state ≡ Some wait = ap due s ∙ ap Some (omega arith) in
    (passed_over wait f left).state ∙ ap (λ (x : State). (ended f x).state) s

-- An erasing that goes on.
works_due : (f : Flash) (e : Erase) → Works f e → due f.state ≡ Some e.left
works_due f e w = ap due w.erasing ∙ ap Some (omega (arith, w.left))

goes_on : (f : Flash) (e : Erase) → Works f e → (n : ℕ) → n < e.left → StillErasing f e n (passed n f)
goes_on f e w n k =
    let same : Same (passed n f) _ = passed_until n e.left f (works_due f e w) k in
    record { erasing = same.state ∙ ap (lowered n) w.erasing; cells = same.cells }

comes_to : (f : Flash) (e : Erase) → Works f e → Same (passed e.left f) (erased f e Begun)
comes_to f e w =
    let end : Same (passed e.left f) (ended f f.state) = passed_over e.left f (works_due f e w) in
    let is : ended f f.state ≡ erased f e Begun = ap (ended f) w.erasing ∙ ap (erased f e) w.phase in
    record { state = end.state ∙ ap (λ (x : Flash). x.state) is; cells = end.cells ∙ ap (λ (x : Flash). x.cells) is }

-- what it comes to, where no block that it works on is worn
all_filled : (f : Flash) (e : Erase) → Works f e → spoils f e.selected ≡ false
    → ((passed e.left f).state ≡ read_mode) × ((passed e.left f).cells ≡ filled (blocks f) (erasable f e.selected) 0xFF f.cells)
all_filled f e w m =
    let end = comes_to f e w in (
      end.state ∙ ap (λ (x : Bool). cond x (Failed 0xFF e.toggle) read_mode) m,
      end.cells ∙ ap (λ (x : Bool). cond x f.cells (filled (blocks f) (erasable f e.selected) 0xFF f.cells)) m,
    )

pub ends_erased : (f : Flash) (e : Erase) → Sound f → Works f e → meets (erasable f e.selected) f.setup.worn ≡ false
    → ((n : ℕ) → n < e.left → StillErasing f e n (passed n f)) × Erased f (erasable f e.selected) (passed e.left f)
ends_erased f e sound w m =
    let set : BlockSet = erasable f e.selected in
    let end = all_filled f e w m in (
      goes_on f e w,
      record {
        reads = end.0;
        ones = λ a i y. ap (λ (xs : List ℕ). get_or xs a 0) end.1 ∙ within a i y;
        others = λ a n. ap (λ (xs : List ℕ). get_or xs a 0) end.1 ∙ spared (blocks f) set 0xFF f.cells a n;
      },
    )
  where
    within : (a : ℕ) → inside f a ≡ true → lies_in f (erasable f e.selected) a ≡ true
        → get_or (filled (blocks f) (erasable f e.selected) 0xFF f.cells) a 0 ≡ 0xFF
    within a i y =
        let k : a < length f.cells = omega (arith, sound.whole, ltb-true _ _ i) in
        let r : ltb (block_of (blocks f) a) (length (blocks f)) ≡ true = lt-ltb _ _ (every_block f.setup.kind a (ltb-true _ _ i)) in
        filled_at (blocks f) (erasable f e.selected) 0xFF f.cells a k
        ∙ ap (λ (x : Bool). cond (x && lies_in f (erasable f e.selected) a) 0xFF (cell f a)) r
        ∙ ap (λ (x : Bool). cond x 0xFF (cell f a)) y

pub ends_failed : (f : Flash) (e : Erase) → Works f e → meets (erasable f e.selected) f.setup.worn ≡ true
    → ((n : ℕ) → n < e.left → StillErasing f e n (passed n f)) × ((passed e.left f).state ≡ Failed 0xFF e.toggle)
    × ((n : ℕ) → (passed n f).cells ≡ f.cells)
ends_failed f e w m =
    let end = comes_to f e w in
    let state : (passed e.left f).state ≡ Failed 0xFF e.toggle = end.state ∙ ap (λ (x : Bool). cond x (Failed 0xFF e.toggle) read_mode) m in
    let cells : (passed e.left f).cells ≡ f.cells =
    end.cells ∙ ap (λ (x : Bool). cond x f.cells (filled (blocks f) (erasable f e.selected) 0xFF f.cells)) m in (
      goes_on f e w,
      state,
      λ n. elim (cases_lt n e.left) [
        | inl k ↦ (goes_on f e w n k).cells
        | inr k ↦ (rests e.left n f k (ap due state)).cells ∙ cells
      ],
    )

-- One that has just begun has all of its time left.
begun_works : (f : Flash) (e : Erase) (t : ℕ) → Begins f e → erase_time f e.selected ≡ t → 1 ≤ t → Works f e
begun_works f e t b q h = record { erasing = b.erasing; phase = b.phase; left = omega (arith, b.whole, q) }

-- how long the erasing lasts, case by case
time_sound : (f : Flash) (set : BlockSet) → 1 ≤ count_of (erasable f set) → spoils f set ≡ false
    → erase_time f set ≡ count_of (erasable f set) * f.setup.erase
time_sound f set c s = rw (ne_eqb (count_of (erasable f set)) 0 (λ e. omega arith), s)

time_worn : (f : Flash) (set : BlockSet) → 1 ≤ count_of (erasable f set) → spoils f set ≡ true
    → erase_time f set ≡ count_of (erasable f set) * longest_erase
time_worn f set c s = rw (ne_eqb (count_of (erasable f set)) 0 (λ e. omega arith), s)

time_none : (f : Flash) (set : BlockSet) → count_of (erasable f set) ≡ 0 → erase_time f set ≡ protected_erase
time_none f set c = rw (eq-eqb (count_of (erasable f set)) 0 c)

pub erases : (f : Flash) (e : Erase) → Sound f → Begins f e → 1 ≤ count_of (erasable f e.selected) → meets (erasable f e.selected) f.setup.worn ≡ false
    → ((n : ℕ) → n < count_of (erasable f e.selected) * f.setup.erase → StillErasing f e n (passed n f))
    × Erased f (erasable f e.selected) (passed (count_of (erasable f e.selected) * f.setup.erase) f)
erases f e sound b c m =
    let set : BlockSet = erasable f e.selected in
    let t : ℕ = count_of set * f.setup.erase in
    let q : erase_time f e.selected ≡ t = time_sound f e.selected c m in
    let l = limits f.setup sound.limits in
    let h : 1 ≤ t = omega (arith, mul-le 1 1 (count_of set) f.setup.erase c l.erase_low) in
    subst (λ (t : ℕ). ((n : ℕ) → n < t → StillErasing f e n (passed n f)) × Erased f set (passed t f)) (b.whole ∙ q)
    (ends_erased f e sound (begun_works f e t b q h) m)

pub fails : (f : Flash) (e : Erase) → Begins f e → meets (erasable f e.selected) f.setup.worn ≡ true
    → ((n : ℕ) → n < count_of (erasable f e.selected) * longest_erase → StillErasing f e n (passed n f))
    × ((passed (count_of (erasable f e.selected) * longest_erase) f).state ≡ Failed 0xFF e.toggle)
    × ((n : ℕ) → (passed n f).cells ≡ f.cells)
fails f e b m =
    let set : BlockSet = erasable f e.selected in
    let c : 1 ≤ count_of set = count_meets set f.setup.worn m in
    let t : ℕ = count_of set * longest_erase in
    let q : erase_time f e.selected ≡ t = time_worn f e.selected c m in
    let h : 1 ≤ t = omega arith in
    subst
    (λ (t : ℕ). ((n : ℕ) → n < t → StillErasing f e n (passed n f)) × ((passed t f).state ≡ Failed 0xFF e.toggle)
    × ((n : ℕ) → (passed n f).cells ≡ f.cells))
    (b.whole ∙ q) (ends_failed f e (begun_works f e t b q h) m)

pub refuses : (f : Flash) (e : Erase) → Begins f e → count_of (erasable f e.selected) ≡ 0
    → ((n : ℕ) → n < protected_erase → StillErasing f e n (passed n f))
    × ((passed protected_erase f).state ≡ read_mode) × ((passed protected_erase f).cells ≡ f.cells)
refuses f e b c =
    let set : BlockSet = erasable f e.selected in
    let q : erase_time f e.selected ≡ protected_erase = time_none f e.selected c in
    let w : Works f e = begun_works f e protected_erase b q (lit≤ tt) in
    let end = all_filled f e w (no_block set f.setup.worn c) in
    let cells : (passed e.left f).cells ≡ f.cells =
    end.1 ∙ ext_get_or 0 _ _ (length_filled (blocks f) set 0xFF f.cells) (λ k _. spared (blocks f) set 0xFF f.cells k (out (block_of (blocks f) k))) in
    subst
    (λ (t : ℕ). ((n : ℕ) → n < t → StillErasing f e n (passed n f)) × ((passed t f).state ≡ read_mode) × ((passed t f).cells ≡ f.cells))
    (b.whole ∙ q) (goes_on f e w, end.0, cells)
  where
    no_block : (set other : BlockSet) → count_of set ≡ 0 → meets set other ≡ false
    no_block set other c = elim (cases_Bool (meets set other)) [
      | inl t ↦ absurd (omega (arith, count_meets set other t))
      | inr n ↦ n
    ]

    out : (k : ℕ) → has (erasable f e.selected) k ≡ false
    out k = elim (cases_Bool (has (erasable f e.selected) k)) [
      | inl t ↦ absurd (omega (arith, count_positive (erasable f e.selected) k t))
      | inr n ↦ n
    ]
