-- What a call did to the two sides of a joined part is what it did to the whole.
use Rattle.std.proofs.Common.{◌≡◌, ℕ, ◌+◌, ◌-◌, ◌%◌, ◌<◌, ◌≤◌, Bool, true, false, cond, not, ◌&&◌, ltb, leb, Some, None, Option, sym, refl, ap, ◌∙◌, subst, inl, inr, arith}
use Rattle.std.proofs.lemmas.Bool.{cond-true, cond-false, cond_both, lt-ltb, ltb-true, ltb-false, le-leb, cases_lt, true≢false}
use Rattle.std.proofs.lemmas.Bool.Decides.{nat_tests}
use Rattle.fault.specs.declared.cause.Cause.{Cause}
use Rattle.fault.specs.declared.cause.Cause.TheVariants.{AddressOutside, NoSuchBlock, ErasureInTheWay}
use Rattle.part.specs.Meaning.{Meaning, Lawful, size, count}
use Rattle.part.specs.Calls.{stands, runs, hides_beside, bars_beside, peek_no, burn_no, begin_no, BurntBy, Burnt, BegunBy, Begun, Held, gone_on, longest, run_on, passed, after_pass}
use Rattle.part.specs.Laws.{Call, look, burn, begin, hold, go_on, pass, Made}
use Rattle.part.specs.Neighbours.{elapsed}
use Rattle.joined.specs.declared.aim.Aim.{Aim}
use Rattle.joined.specs.declared.aim.Aim.TheVariants.{First, Second}
use Rattle.joined.specs.Pile.{pile, no_part, fits}
use Rattle.joined.specs.Sides.{Sides, whole_of, Way, to_first, to_second, aimed, peek_aim, burn_aim, begin_aim, sent, turn_way, way, Went, Called}
use Rattle.joined.proofs.Refusing.{One, peek_left, peek_right, burn_left, burn_right, begin_left, begin_right}
use Rattle.part.proofs.Standings.{unbarred_beside}
use Rattle.joined.proofs.Living.{idle_still, no_time, same_second, burnt_first, burnt_second, begun_clock, begun_first, begun_second, held_first, held_second, gone_first, gone_second}
use Rattle.joined.proofs.Running.{run_clock, pass_both}
use Rattle.joined.proofs.Fitting.{one, fits_same, fits_passed, fits_burnt_first, fits_burnt_second, fits_begun_first, fits_begun_second, fits_held_first, fits_held_second, fits_gone_first, fits_gone_second}

-- Why a call at a place is refused, by where it goes: as that side refuses it, or since the other side's erasure is in the way.
abbrev pub By : ℕ → ℕ → ℕ → Bool → Bool → Option Cause → Option Cause → (ℕ → Option Cause) → Option Aim → Type 0
By place ends behind by_first by_second why first second None = why ≡ Some ErasureInTheWay
By place ends behind by_first by_second why first second (Some First) = (place < ends) × (by_second ≡ false) × (why ≡ first)
By place ends behind by_first by_second why first second (Some (Second inner)) =
    (place ≡ ends + inner) × (inner < behind → by_first ≡ false) × (why ≡ second inner)

module _ (place ends behind : ℕ) (by_first by_second : Bool) (why first : Option Cause) (second : ℕ → Option Cause) where
  past : ltb (place - ends) behind ≡ not (leb behind (place - ends))
  past = grind (arith, nat_tests)

  pub by_aim : (place < ends → why ≡ cond by_second (Some ErasureInTheWay) first)
      → (ends ≤ place → why ≡ cond (not (leb behind (place - ends)) && by_first) (Some ErasureInTheWay) (second (place - ends)))
      → By place ends behind by_first by_second why first second (aimed place ends behind by_first by_second)
  by_aim f s =
      cond_both (ltb place ends) (cond by_second None (Some First)) (cond (ltb (place - ends) behind && by_first) None (Some (Second (place - ends))))
      (By place ends behind by_first by_second why first second)
      (λ t.
      let l : place < ends = ltb-true place ends t in
      cond_both by_second None (Some First) (By place ends behind by_first by_second why first second)
      (λ u. f l ∙ cond-true by_second _ _ u)
      (λ u. (l, u, f l ∙ cond-false by_second _ _ u)))
      (λ t.
      let l : ends ≤ place = ltb-false place ends t in
      cond_both (ltb (place - ends) behind && by_first) None (Some (Second (place - ends))) (By place ends behind by_first by_second why first second)
      (λ u. s l ∙ cond-true _ _ _ (ap (λ (x : Bool). x && by_first) (sym past) ∙ u))
      (λ u. (
        omega arith,
        λ k. clear k u,
        s l ∙ cond-false _ _ _ (ap (λ (x : Bool). x && by_first) (sym past) ∙ u),
      )))
    where
      clear : place - ends < behind → (ltb (place - ends) behind && by_first) ≡ false → by_first ≡ false
      clear k u = ap (λ (x : Bool). x && by_first) (sym (lt-ltb (place - ends) behind k)) ∙ u

module _ (m n : Meaning) (lm : Lawful m) (ln : Lawful n) (f : fits m n ≡ true) where
  lone : One m n
  lone = one m n f

  pub peek_by : (a : ℕ)
      → By a (size m) (size n) (hides_beside m) (hides_beside n) (peek_no (pile m n) a) (peek_no m a) (peek_no n) (peek_aim m n a)
  peek_by a =
      by_aim a (size m) (size n) (hides_beside m) (hides_beside n) (peek_no (pile m n) a) (peek_no m a) (peek_no n)
      (peek_left m n lm lone a) (peek_right m n lm lone a)

  pub burn_by : (a byte : ℕ)
      → By a (size m) (size n) (bars_beside m) (bars_beside n) (burn_no (pile m n) a byte) (burn_no m a byte) (λ i. burn_no n i byte) (burn_aim m n a)
  burn_by a byte =
      by_aim a (size m) (size n) (bars_beside m) (bars_beside n) (burn_no (pile m n) a byte) (burn_no m a byte) (λ i. burn_no n i byte)
      (λ h. burn_left m n lm lone a h byte) (λ h. burn_right m n lm lone a h byte)

  pub begin_by : (b : ℕ)
      → By b (count m) (count n) (stands m) (stands n) (begin_no (pile m n) b) (begin_no m b) (begin_no n) (begin_aim m n b)
  begin_by b =
      by_aim b (count m) (count n) (stands m) (stands n) (begin_no (pile m n) b) (begin_no m b) (begin_no n)
      (begin_left m n lm lone b) (begin_right m n lm lone b)

  pile_same : (m' n' : Meaning) → m' ≡ m → n' ≡ n → pile m' n' ≡ pile m n
  pile_same m' n' p q = ap (λ (x : Meaning). pile x n') p ∙ ap (pile m) q

  -- A burn.
  burn_sent : (a byte : ℕ) (m' n' : Meaning) (o : Option Aim)
      → By a (size m) (size n) (bars_beside m) (bars_beside n) (burn_no (pile m n) a byte) (burn_no m a byte) (λ i. burn_no n i byte) o
      → Went (sent o (burn a byte) (λ i. burn i byte)) m n m' n' → Burnt (pile m n) a byte (pile m' n') × (fits m' n' ≡ true)
  burn_sent a byte m' n' None e w =
      (subst (λ (why : Option Cause). BurntBy (pile m n) a byte why (pile m' n')) (sym e) (pile_same m' n' w.0 w.1), fits_same m n m' n' f w.0 w.1)
  burn_sent a byte m' n' (Some First) e w = (
    subst (λ (why : Option Cause). BurntBy (pile m n) a byte why (pile m' n')) (sym e.2)
        (burnt_first m n lm ln a byte (burn_no m a byte) m' n' e.0 (unbarred_beside n e.1) w.0 w.1),
    fits_burnt_first m n a byte m' n' (elapsed m.clock m'.clock) f w.0 w.1,
  )
  burn_sent a byte m' n' (Some (Second i)) e w = (
    subst (λ (why : Option Cause). BurntBy (pile m n) a byte why (pile m' n')) (sym e.2)
        (elim (cases_lt i (size n)) [ inl k ↦ within k | inr k ↦ past_end k ]),
    fits_burnt_second m n i byte m' n' (elapsed n.clock n'.clock) f w.1 w.0,
  )
    where
      within : i < size n → BurntBy (pile m n) a byte (burn_no n i byte) (pile m' n')
      within k =
          let inner : i ≡ a - size m = omega (arith, e.0) in
          burnt_second m n lm ln a byte (burn_no n i byte) m' n' (omega (arith, e.0)) (unbarred_beside m (e.1 k))
          (subst (λ (x : ℕ). BurntBy n x byte (burn_no n i byte) n') inner w.1) w.0

      -- past the end of the second side nothing is burnt, whatever erasure the first has
      past_end : size n ≤ i → BurntBy (pile m n) a byte (burn_no n i byte) (pile m' n')
      past_end k =
          let p : burn_no n i byte ≡ Some AddressOutside = cond-true _ _ _ (le-leb (size n) i k) in
          let z : n' ≡ n = subst (λ (why : Option Cause). BurntBy n i byte why n') p w.1 in
          subst (λ (why : Option Cause). BurntBy (pile m n) a byte why (pile m' n')) (sym p) (same_second m n lm ln m' n' z w.0)

  -- The beginning of an erasure.
  begin_sent : (b : ℕ) (m' n' : Meaning) (o : Option Aim)
      → By b (count m) (count n) (stands m) (stands n) (begin_no (pile m n) b) (begin_no m b) (begin_no n) o
      → Went (sent o (begin b) begin) m n m' n' → Begun (pile m n) b (pile m' n') × (fits m' n' ≡ true)
  begin_sent b m' n' None e w =
      (subst (λ (why : Option Cause). BegunBy (pile m n) b why (pile m' n')) (sym e) (pile_same m' n' w.0 w.1), fits_same m n m' n' f w.0 w.1)
  begin_sent b m' n' (Some First) e w =
      let z : n' ≡ n = no_time m.clock m'.clock n n' ln lm.clock (begun_clock m n lm ln m b (begin_no m b) m' w.0) w.1 in (
        subst (λ (why : Option Cause). BegunBy (pile m n) b why (pile m' n')) (sym e.2)
            (subst (λ (x : Meaning). BegunBy (pile m n) b (begin_no m b) (pile m' x)) (sym z) (begun_first m n lm ln b (begin_no m b) m' w.0)),
        ap (fits m') z ∙ fits_begun_first m n b (begin_no m b) m' f e.1 w.0,
      )
  begin_sent b m' n' (Some (Second i)) e w = (
    subst (λ (why : Option Cause). BegunBy (pile m n) b why (pile m' n')) (sym e.2)
        (subst (λ (x : Meaning). BegunBy (pile m n) b (begin_no n i) (pile x n')) (sym z) whole),
    ap (λ (x : Meaning). fits x n') z ∙ fit,
  )
    where
      z : m' ≡ m
      z = no_time n.clock n'.clock m m' lm ln.clock (begun_clock m n lm ln n i (begin_no n i) n' w.1) w.0

      -- where there is no such block nothing is begun, whatever erasure the first side has
      untouched : count n ≤ i → (begin_no n i ≡ Some NoSuchBlock) × (n' ≡ n)
      untouched k =
          let p : begin_no n i ≡ Some NoSuchBlock = cond-true _ _ _ (le-leb (count n) i k) in
          (p, subst (λ (why : Option Cause). BegunBy n i why n') p w.1)

      whole : BegunBy (pile m n) b (begin_no n i) (pile m n')
      whole =
          elim (cases_lt i (count n)) [
            | inl k ↦
                let inner : i ≡ b - count m = omega (arith, e.0) in
                begun_second m n lm ln b (begin_no n i) n' (omega (arith, e.0)) (e.1 k)
                (subst (λ (x : ℕ). BegunBy n x (begin_no n i) n') inner w.1)
            | inr k ↦
                let u = untouched k in
                subst (λ (why : Option Cause). BegunBy (pile m n) b why (pile m n')) (sym u.0) (ap (pile m) u.1)
          ]

      fit : fits m n' ≡ true
      fit =
          elim (cases_lt i (count n)) [
            | inl k ↦ fits_begun_second m n i (begin_no n i) n' f (e.1 k) w.1
            | inr k ↦ ap (fits m) (untouched k).1 ∙ f
          ]

  -- A hold, and a going on.
  second_still : stands m ≡ true → runs n ≡ false
  second_still s = idle_still n.erasure (ap (λ (x : Bool). x && stands n) (sym s) ∙ lone)

  hold_sent : (m' n' : Meaning) → Went (turn_way m hold) m n m' n' → Held (pile m n) (pile m' n') × (fits m' n' ≡ true)
  hold_sent m' n' =
      cond_both (stands m) (to_first hold) (to_second hold) (λ (x : Way). Went x m n m' n' → Held (pile m n) (pile m' n') × (fits m' n' ≡ true))
      (λ s w. (held_first m n lm ln m' n' s (second_still s) w.0 w.1, fits_held_first m n m' n' (elapsed m.clock m'.clock) f w.0 w.1))
      (λ s w. (held_second m n lm ln m' n' s w.1 w.0, fits_held_second m n m' n' (elapsed n.clock n'.clock) f w.1 w.0))

  go_sent : (m' n' : Meaning) → Went (turn_way m go_on) m n m' n' → (pile m' n' ≡ gone_on (pile m n)) × (fits m' n' ≡ true)
  go_sent m' n' =
      cond_both (stands m) (to_first go_on) (to_second go_on) (λ (x : Way). Went x m n m' n' → (pile m' n' ≡ gone_on (pile m n)) × (fits m' n' ≡ true))
      (λ s w. (gone_first m n lm ln m' n' s w.0 w.1, fits_gone_first m n m' n' (elapsed m.clock m'.clock) f w.0 w.1))
      (λ s w. (gone_second m n lm ln m' n' s w.1 w.0, fits_gone_second m n m' n' (elapsed n.clock n'.clock) f w.1 w.0))

  -- A live one's calls.
  pub live_made : (c : Call) (m' n' : Meaning) → Went (way (record { live = true; first = m; second = n }) c) m n m' n'
      → Made (pile m n) c (pile m' n') × (fits m' n' ≡ true)
  live_made look m' n' w = (pile_same m' n' w.0 w.1, fits_same m n m' n' f w.0 w.1)
  live_made (burn a byte) m' n' w = burn_sent a byte m' n' (burn_aim m n a) (burn_by a byte) w
  live_made (begin b) m' n' w = begin_sent b m' n' (begin_aim m n b) (begin_by b) w
  live_made hold m' n' w = hold_sent m' n' w
  live_made go_on m' n' w = go_sent m' n' w
  live_made (pass k) m' n' w =
      (ap (λ (x : Meaning). pile x n') w.0 ∙ ap (pile (after_pass m k)) w.1 ∙ pass_both m n lm lone k, fits_passed m n k m' n' f w.0 w.1)

-- A dead one's calls: none is accepted, but time passes.
dead_same : (m m' : Meaning) → m' ≡ m → no_part m'.clock ≡ no_part m.clock
dead_same m m' e = ap (λ (x : Meaning). no_part x.clock) e

dead_made : (m n : Meaning) (c : Call) (m' n' : Meaning) → Went (way (record { live = false; first = m; second = n }) c) m n m' n'
    → Made (no_part m.clock) c (no_part m'.clock)
dead_made m n look m' n' w = dead_same m m' w.0
dead_made m n (burn a byte) m' n' w =
    subst (λ (why : Option Cause). BurntBy (no_part m.clock) a byte why (no_part m'.clock))
    (sym (cond-true (leb 0 a) (Some AddressOutside) _ (le-leb 0 a (omega arith)))) (dead_same m m' w.0)
dead_made m n (begin b) m' n' w =
    subst (λ (why : Option Cause). BegunBy (no_part m.clock) b why (no_part m'.clock))
    (sym (cond-true (leb 0 b) (Some NoSuchBlock) _ (le-leb 0 b (omega arith)))) (dead_same m m' w.0)
dead_made m n hold m' n' w = dead_same m m' w.0
dead_made m n go_on m' n' w = dead_same m m' w.0
dead_made m n (pass k) m' n' w = ap (λ (x : Meaning). no_part x.clock) w.0 ∙ passed_dead (leb k longest) (run_clock m k m.erasure)
  where
    passed_dead : (t : Bool) → (run_on m k m.erasure).clock ≡ m.clock
        → no_part (cond t (passed m k) m).clock ≡ cond t (passed (no_part m.clock) k) (no_part m.clock)
    passed_dead true e = ap (λ (x : ℕ). no_part ((x + k) % 4294967296)) e
    passed_dead false e = refl

-- What is known of a joined part at any time: both sides are lawful, and a live one's fit together.
pub record Sound (s : Sides) : Type 0 where
  pub first : Lawful s.first
  pub second : Lawful s.second
  pub fit : s.live ≡ true → fits s.first s.second ≡ true

pub sound : {l : Bool} {m n : Meaning} → Lawful m → Lawful n → (l ≡ true → fits m n ≡ true) → Sound (record { live = l; first = m; second = n })
sound first second fit = record { first = first; second = second; fit = fit }

pub record Kept (s : Sides) (c : Call) (t : Sides) : Type 0 where
  pub whole : Made (whole_of s) c (whole_of t)
  pub fit : t.live ≡ true → fits t.first t.second ≡ true

-- The call of the sides is the call of the whole, and the sides of a live one still fit together.
pub kept : (s t : Sides) (c : Call) → Sound s → Called s c t → Kept s c t
kept s t c v w = by s.live t.live v.fit w.live w.sides
  where
    by : (l k : Bool) → (l ≡ true → fits s.first s.second ≡ true) → k ≡ l
        → Went (way (record { live = l; first = s.first; second = s.second }) c) s.first s.second t.first t.second
        → Kept (record { live = l; first = s.first; second = s.second }) c (record { live = k; first = t.first; second = t.second })
    by true true f e w =
        let d = live_made s.first s.second v.first v.second (f refl) c t.first t.second w in
        record { whole = d.0; fit = λ _. d.1 }
    by true false f e w = absurd (true≢false (sym e))
    by false true f e w = absurd (true≢false e)
    by false false f e w = record { whole = dead_made s.first s.second c t.first t.second w; fit = λ h. absurd (true≢false (sym h)) }
