-- The turns of a suspension, up to its end.
use Rattle.std.proofs.Common.{◌≡◌, ℕ, ◌+◌, ◌-◌, ◌<◌, ◌≤◌, Bool, true, false, cond, not, eqb, length, Some, sym, refl, ap, ◌∙◌, subst, inl, inr, arith, lit≤}
use Rattle.std.proofs.lemmas.Bool.{cases_lt, eq-eqb, both_ways}
use Rattle.part.specs.declared.answers.Standing.{Standing}
use Rattle.part.specs.declared.answers.Standing.TheVariants.{Running, Suspended}
use Rattle.part.specs.Meaning.{block}
use Rattle.driver.specs.declared.notes.Notes.{Notes}
use Rattle.driver.specs.Notes.{agrees, Tied}
use Rattle.driver.specs.Rig.{Job, Doing, resting, stopping, start, Rig, later, SameChip, meaning}
use Rattle.driver.specs.Status.{dq6}
use Rattle.driver.specs.Cycles.{Shows, Elapses}
use Rattle.driver.specs.Steps.{LooksTwice, Halts, Suspends}
use Rattle.driver.proofs.Changing.{later_more, still_read, same_more, same_cycle, same_later, only_read}
use Rattle.driver.proofs.Tying.{is_erases, when_running}

abbrev pub with_toggle : Job → Bool → Job
with_toggle j t = record j { toggle = t }

differ : (t : Bool) → eqb (cond t 1 0) (cond (not t) 1 0) ≡ false
differ true = refl
differ false = refl

-- What a turn finds: the erasing is not yet suspended, or it is now.
pub data Turned (r : Rig) (j : Job) (i : ℕ) (answer : Bool) (s : Rig) : Type 0 where
  not_yet : answer ≡ false → i + 1 < r.suspend → (t : Bool)
      → s ≡ later r (i + 1) r.cells (stopping (with_toggle j t) (r.suspend - (i + 1))) → Turned r j i answer s
  at_last : answer ≡ true → Halts r j s → Turned r j i answer s

module _ (r : Rig) (a : ℕ) (j : Job) (own : block (meaning r) a ≡ j.block) (i : ℕ) (t : Bool) where
  abbrev on : Rig
  on = later r i r.cells (stopping (with_toggle j t) (r.suspend - i))

  goes_on : (w m s : Rig) (one other : ℕ) → 1 < r.suspend - i → Elapses on 1 w → Shows w a one m → Shows m a other s
      → (answer : Bool) → answer ≡ eqb (dq6 one) (dq6 other) → Turned r j i answer s
  goes_on w m s one other h e x y answer is =
      let left : r.suspend - i - 1 ≡ r.suspend - (i + 1) = omega arith in
      let wait : ℕ = r.suspend - (i + 1) in
      let w_is : w ≡ later r (i + 1) r.cells (stopping (with_toggle j t) wait) =
      e.stops (with_toggle j t) (r.suspend - i) refl h
      ∙ later_more r i 1 r.cells r.cells (stopping (with_toggle j t) (r.suspend - i)) (stopping (with_toggle j t) (r.suspend - i - 1))
      ∙ ap (λ (n : ℕ). later r (i + 1) r.cells (stopping (with_toggle j t) n)) left in
      let P : Rig → Type 0 = λ z. Shows z a one m → Turned r j i answer s in
      subst P (sym w_is)
      (λ z. let p = z.stops (with_toggle j t) wait refl own in
      let Q : Rig → Type 0 = λ u. Shows u a other s → Turned r j i answer s in
      subst Q (sym p.1)
      (λ u. let q = u.stops (with_toggle j (not t)) wait refl own in
      not_yet
      (is ∙ ap (λ (n : ℕ). eqb n (dq6 other)) p.0.toggles ∙ ap (λ (n : ℕ). eqb (cond t 1 0) n) q.0.toggles ∙ differ t)
      (omega arith) (not (not t)) q.1) y) x

  stands : (w m s : Rig) (one other : ℕ) → i < r.suspend → r.suspend - i ≤ 1 → Elapses on 1 w → Shows w a one m → Shows m a other s
      → (answer : Bool) → answer ≡ eqb (dq6 one) (dq6 other) → Turned r j i answer s
  stands w m s one other l h e x y answer is =
      let n : i + 1 ≡ r.suspend = omega arith in
      let d : Doing = resting (Some (with_toggle j t)) start in
      let w_is : w ≡ later r r.suspend r.cells d =
      e.has_stopped (with_toggle j t) (r.suspend - i) refl h (lit≤ tt)
      ∙ later_more r i 1 r.cells r.cells (stopping (with_toggle j t) (r.suspend - i)) d
      ∙ ap (λ (k : ℕ). later r k r.cells d) n in
      let P : Rig → Type 0 = λ z. Shows z a one m → Turned r j i answer s in
      subst P (sym w_is)
      (λ z. let p = z.stands_still (with_toggle j t) start refl own in
      let m_is : m ≡ later r r.suspend r.cells d = still_read (later r r.suspend r.cells d) m a one d refl refl z in
      let Q : Rig → Type 0 = λ u. Shows u a other s → Turned r j i answer s in
      subst Q (sym m_is)
      (λ u. let q = u.stands_still (with_toggle j t) start refl own in
      at_last
      (is ∙ eq-eqb (dq6 one) (dq6 other) (p ∙ sym q))
      (t, still_read (later r r.suspend r.cells d) s a other d refl refl u)) y) x

  pub turned : i < r.suspend → (answer : Bool) (s : Rig) → LooksTwice on a answer s → Turned r j i answer s
  turned l answer s p = elim (cases_lt 1 (r.suspend - i)) [
    | inl h ↦ goes_on p.waited p.between s p.one p.other h p.passes p.first p.second answer p.is
    | inr h ↦ stands p.waited p.between s p.one p.other l h p.passes p.first p.second answer p.is
  ]

pub if_not_yet : {r : Rig} {j : Job} {i : ℕ} {answer : Bool} {s : Rig} → Turned r j i answer s → answer ≡ false
    → (i + 1 < r.suspend) × ((t : Bool) × (s ≡ later r (i + 1) r.cells (stopping (with_toggle j t) (r.suspend - (i + 1)))))
if_not_yet (not_yet e l t x) n = (l, (t, x))
if_not_yet {answer = answer} (at_last e x) n = absurd (both_ways answer n e)

pub if_at_last : {r : Rig} {j : Job} {i : ℕ} {answer : Bool} {s : Rig} → Turned r j i answer s → answer ≡ true → Halts r j s
if_at_last {answer = answer} (not_yet e l t x) n = absurd (both_ways answer e n)
if_at_last (at_last e x) n = x

-- A turn leaves the same chip.
twice_same : (r s : Rig) (a : ℕ) (answer : Bool) → LooksTwice r a answer s → SameChip r s
twice_same r s a answer p =
    same_more r p.between s
    (same_more r p.waited p.between (same_later r p.waited 1 p.passes.only) (same_cycle p.waited p.between (only_read p.waited p.between a p.one p.first)))
    (same_cycle p.between s (only_read p.between s a p.other p.second))

-- After i turns as many microseconds have passed and are off what was left, and it is the same chip.
abbrev pub Waiting : Rig → ℕ → ℕ → Rig → Type 0
Waiting r a i h =
    SameChip r h
    × ((j : Job) → block (meaning r) a ≡ j.block → r.doing ≡ stopping j r.suspend
    → (i < r.suspend) × ((t : Bool) × (h ≡ later r i r.cells (stopping (with_toggle j t) (r.suspend - i)))))

-- One turn more.
pub turned_more : (r : Rig) (a i : ℕ) (h : Rig) → Waiting r a i h → (answer : Bool) (s : Rig) → LooksTwice h a answer s
    → SameChip r s × ((j : Job) → block (meaning r) a ≡ j.block → r.doing ≡ stopping j r.suspend → Turned r j i answer s)
turned_more r a i h inv answer s p = (
  same_more r h s inv.0 (twice_same h s a answer p),
  λ j own e.
      let on = inv.1 j own e in
      turned r a j own i on.1.0 on.0 answer s (subst (λ (y : Rig). LooksTwice y a answer s) on.1.1 p),
)

-- A suspended erase is the one that the notes say is held.
pub held_tied : (r s : Rig) (n : Notes) (b : ℕ) → Tied r n → n.standing ≡ Running b → Suspends r b s
    → Tied s (record { guards = n.guards; standing = Suspended b })
held_tied r s n b t runs k =
    let sizes = length r.sheet.sizes in
    let w = when_running sizes b r.doing (subst (λ (st : Standing). agrees sizes r.doing st ≡ true) runs t.follows) in
    let h = k.suspended w.2.within w.0 w.1 w.2.block in
    subst (λ (y : Rig). Tied y (record { guards = n.guards; standing = Suspended b })) (sym h.1) (record {
      knows = t.knows;
      follows = is_erases sizes b (with_toggle w.0 h.0) (record { block = w.2.block; within = w.2.within; lasts = w.2.lasts });
    })
