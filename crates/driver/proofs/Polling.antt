-- The polls of a program, up to its end.
use Rattle.std.proofs.Common.{◌≡◌, ℕ, ◌+◌, ◌-◌, ◌<◌, ◌≤◌, Bool, true, false, cond, not, List, length, set, None, sym, refl, ap, ◌∙◌, subst, inl, inr, arith, lit≤}
use Rattle.std.proofs.lemmas.List.{get_or-set_same}
use Rattle.std.proofs.lemmas.Bool.{cases_lt, cases_Bool, cond-true, cond-false, ltb-true}
use Rattle.part.specs.Meaning.{block, worn}
use Rattle.driver.specs.declared.verdict.Verdict.{Verdict}
use Rattle.driver.specs.declared.verdict.Verdict.TheVariants.{Busy, Done, Failed}
use Rattle.driver.specs.Rig.{Burn, Doing, resting, programming, failed, start, Rig, does, later, SameChip, meaning, program_time}
use Rattle.driver.specs.Status.{judged}
use Rattle.driver.specs.Cycles.{Burnable, Heeds, Shows, Elapses}
use Rattle.driver.specs.Sound.{Sound}
use Rattle.driver.specs.Steps.{Polls}
use Rattle.driver.proofs.Judging.{judged_busy, judged_failed, judged_done}
use Rattle.driver.proofs.Changing.{later_more, still_read, same_more, same_cycle, same_later, only_read}

-- a byte that is being programmed, with so much left
abbrev pub burn : ℕ → ℕ → ℕ → Bool → Burn
burn a byte left toggle = record { address = a; byte = byte; left = left; toggle = toggle }

-- What one poll finds: the program goes on, is done, or has failed.
pub data Found (r : Rig) (a byte i : ℕ) (v : Verdict) (s : Rig) : Type 0 where
  goes_on : v ≡ Busy → i + 1 < program_time r a → (t : Bool)
      → s ≡ later r (i + 1) r.cells (programming (burn a byte (program_time r a - (i + 1)) t) None) → Found r a byte i v s
  done : v ≡ Done → worn (meaning r) (block (meaning r) a) ≡ false
      → s ≡ later r (program_time r a) (set r.cells a byte) (resting None start) → Found r a byte i v s
  broken : v ≡ Failed → worn (meaning r) (block (meaning r) a) ≡ true → (t : Bool)
      → s ≡ later r (program_time r a) r.cells (failed (r.sheet.zone (block (meaning r) a)) byte t None) → Found r a byte i v s

module _ (r : Rig) (a byte : ℕ) (small : byte < 256) (sound : Sound r) (k : Burnable r a byte) (i : ℕ) (t : Bool) where
  abbrev span : ℕ
  span = program_time r a

  -- the chip after i polls
  abbrev on : Rig
  on = later r i r.cells (programming (burn a byte (span - i) t) None)

  clear : Burnable on a byte
  clear = record { within = k.within; unguarded = k.unguarded; clears = k.clears }

  -- more than one microsecond is left
  busy : (w s : Rig) (seen : ℕ) → 1 < span - i → Elapses on 1 w → Shows w a seen s → (v : Verdict) → v ≡ judged seen byte → Found r a byte i v s
  busy w s seen h e x v is =
      let left : span - i - 1 ≡ span - (i + 1) = omega arith in
      let d : Doing = programming (burn a byte (span - (i + 1)) t) None in
      let w_is : w ≡ later r (i + 1) r.cells d =
      e.programs (burn a byte (span - i) t) None refl h
      ∙ later_more r i 1 r.cells r.cells (programming (burn a byte (span - i) t) None) (programming (burn a byte (span - i - 1) t) None)
      ∙ ap (λ (n : ℕ). later r (i + 1) r.cells (programming (burn a byte n t) None)) left in
      let P : Rig → Type 0 = λ y. Shows y a seen s → Found r a byte i v s in
      subst P (sym w_is)
      (λ z. let q = z.programs (burn a byte (span - (i + 1)) t) None refl refl in
      goes_on (is ∙ judged_busy seen byte small t q.0) (omega arith) (not t) q.1) x

  -- the last microsecond
  last_failed : (w s : Rig) (seen : ℕ) → i < span → span - i ≤ 1 → worn (meaning r) (block (meaning r) a) ≡ true
      → Elapses on 1 w → Shows w a seen s → (v : Verdict) → v ≡ judged seen byte → Found r a byte i v s
  last_failed w s seen l h bad e x v is =
      let n : i + 1 ≡ span = omega arith in
      let zone : ℕ = r.sheet.zone (block (meaning r) a) in
      let w_is : w ≡ later r span r.cells (failed zone byte t None) =
      e.burns_not (burn a byte (span - i) t) None refl clear h (lit≤ tt) bad
      ∙ later_more r i 1 r.cells r.cells (programming (burn a byte (span - i) t) None) (failed zone byte t None)
      ∙ ap (λ (m : ℕ). later r m r.cells (failed zone byte t None)) n in
      let P : Rig → Type 0 = λ y. Shows y a seen s → Found r a byte i v s in
      subst P (sym w_is)
      (λ z. let q = z.has_failed zone byte t None refl refl in
      broken (is ∙ judged_failed seen byte small t q.0) bad (not t) q.1) x

  last_done : (w s : Rig) (seen : ℕ) → i < span → span - i ≤ 1 → worn (meaning r) (block (meaning r) a) ≡ false
      → Elapses on 1 w → Shows w a seen s → (v : Verdict) → v ≡ judged seen byte → Found r a byte i v s
  last_done w s seen l h good e x v is =
      let n : i + 1 ≡ span = omega arith in
      let cells : List ℕ = set r.cells a byte in
      let w_is : w ≡ later r span cells (resting None start) =
      e.burns (burn a byte (span - i) t) None refl clear h (lit≤ tt) good
      ∙ later_more r i 1 r.cells cells (programming (burn a byte (span - i) t) None) (resting None start)
      ∙ ap (λ (m : ℕ). later r m cells (resting None start)) n in
      let within : a < length r.cells = omega (arith, sound.whole, ltb-true _ _ k.within) in
      let P : Rig → Type 0 = λ y. Shows y a seen s → Found r a byte i v s in
      subst P (sym w_is)
      (λ z. let byte_is = z.rests None start refl (λ j e. let no : ◌≡◌ {A = ℕ} 0 1 = cc in absurd (omega arith)) in
      done (is ∙ judged_done seen byte (byte_is ∙ get_or-set_same r.cells a byte 0 within)) good
      (still_read (later r span cells (resting None start)) s a seen (resting None start) refl refl z)) x

  pub found : i < span → (v : Verdict) (s : Rig) → Polls on a byte v s → Found r a byte i v s
  found l v s p = elim (cases_lt 1 (span - i)) [
    | inl h ↦ busy p.waited s p.seen h p.passes p.shows v p.is
    | inr h ↦ elim (cases_Bool (worn (meaning r) (block (meaning r) a))) [
      | inl bad ↦ last_failed p.waited s p.seen l h bad p.passes p.shows v p.is
      | inr good ↦ last_done p.waited s p.seen l h good p.passes p.shows v p.is
    ]
  ]

-- The same by what was found.
apart : (v : Verdict) {A : Type 0} → v ≡ Busy → v ≡ Done → A
apart v p q = let z : ◌≡◌ {A = ℕ} 0 1 = cc in absurd (omega arith)

apart_failed : (v : Verdict) {A : Type 0} → v ≡ Busy → v ≡ Failed → A
apart_failed v p q = let z : ◌≡◌ {A = ℕ} 0 1 = cc in absurd (omega arith)

ends_apart : (v : Verdict) {A : Type 0} → v ≡ Done → v ≡ Failed → A
ends_apart v p q = let z : ◌≡◌ {A = ℕ} 0 1 = cc in absurd (omega arith)

pub if_busy : {r : Rig} {a byte i : ℕ} {v : Verdict} {s : Rig} → Found r a byte i v s → v ≡ Busy
    → (i + 1 < program_time r a) × ((t : Bool) × (s ≡ later r (i + 1) r.cells (programming (burn a byte (program_time r a - (i + 1)) t) None)))
if_busy (goes_on e l t x) b = (l, (t, x))
if_busy {v = v} (done e n x) b = apart v b e
if_busy {v = v} (broken e n t x) b = apart_failed v b e

-- what a program is to answer and leave
abbrev pub Ended : Rig → ℕ → ℕ → Bool → Rig → Type 0
Ended r a byte answer s =
    (answer ≡ not (worn (meaning r) (block (meaning r) a)))
    × (s ≡ later r (program_time r a) (cond (worn (meaning r) (block (meaning r) a)) r.cells (set r.cells a byte)) (resting None start))

pub if_done : {r : Rig} {a byte i : ℕ} {v : Verdict} {s : Rig} → Found r a byte i v s → v ≡ Done → Ended r a byte true s
if_done {v = v} (goes_on e l t x) d = apart v e d
if_done {r = r} {a = a} {byte = byte} (done e n x) d = (
  sym (ap not n),
  x ∙ ap (λ (c : List ℕ). later r (program_time r a) c (resting None start)) (sym (cond-false (worn (meaning r) (block (meaning r) a)) r.cells (set r.cells a byte) n)),
)
if_done {v = v} (broken e n t x) d = ends_apart v d e

pub if_failed : {r : Rig} {a byte i : ℕ} {v : Verdict} {s : Rig} → Found r a byte i v s → v ≡ Failed → (m : Rig) → Heeds s a 0xF0 m → Ended r a byte false m
if_failed {v = v} (goes_on e l t x) f m h = apart_failed v e f
if_failed {v = v} (done e n x) f m h = ends_apart v e f
if_failed {r = r} {a = a} {byte = byte} {s = s} (broken e n t x) f m h =
    let zone : ℕ = r.sheet.zone (block (meaning r) a) in (
      sym (ap not n),
      h.mends zone byte t None (ap (λ (y : Rig). y.sheet.zone (block (meaning y) a)) x) refl (ap (λ (y : Rig). y.doing) x) ∙ ap (λ (y : Rig). does y (resting None start)) x
          ∙ ap (λ (c : List ℕ). later r (program_time r a) c (resting None start)) (sym (cond-true (worn (meaning r) (block (meaning r) a)) r.cells (set r.cells a byte) n)),
    )

-- After i polls as many microseconds have passed and are off what was left, and it is the same chip.
abbrev pub OnTheWay : Rig → ℕ → ℕ → ℕ → Rig → Type 0
OnTheWay r a byte i h =
    SameChip r h
    × (Burnable r a byte → r.doing ≡ programming (burn a byte (program_time r a) false) None
    → (i < program_time r a) × ((t : Bool) × (h ≡ later r i r.cells (programming (burn a byte (program_time r a - i) t) None))))

-- One poll more.
pub polled : (r : Rig) (a byte : ℕ) → byte < 256 → Sound r → (i : ℕ) (h : Rig) → OnTheWay r a byte i h → (v : Verdict) (s : Rig) → Polls h a byte v s
    → SameChip r s × (Burnable r a byte → r.doing ≡ programming (burn a byte (program_time r a) false) None → Found r a byte i v s)
polled r a byte small sound i h inv v s p = (
  same_more r h s inv.0
      (same_more h p.waited s (same_later h p.waited 1 p.passes.only) (same_cycle p.waited s (only_read p.waited s a p.seen p.shows))),
  λ k e.
      let on = inv.1 k e in
      found r a byte small sound k i on.1.0 on.0 v s (subst (λ (y : Rig). Polls y a byte v s) on.1.1 p),
)
