-- What is done to one of two parts end to end is done to the whole.
use Rattle.std.proofs.Common.{◌≡◌, ℕ, ◌+◌, ◌-◌, ◌%◌, ◌<◌, ◌≤◌, Bool, true, false, eqb, ltb, List, set, Some, None, Option, is_some, sym, refl, ap, ◌∙◌, subst, inl, inr, arith}
use Rattle.std.proofs.lemmas.List.{set-append_left, set-append_right}
use Rattle.std.proofs.lemmas.Bool.{lt-ltb, cases_Bool, cond-true, cond-false, true≢false}
use Rattle.fault.specs.declared.cause.Cause.{Cause}
use Rattle.fault.specs.Causes.{number_of}
use Rattle.part.specs.Meaning.{Erasure, Meaning, Lawful, ErasureLawful, size, count, with_cells, with_erasure, ticked}
use Rattle.part.specs.declared.answers.Turn.{Turn}
use Rattle.part.specs.declared.answers.Turn.TheVariants.{Done, Nothing}
use Rattle.part.specs.Calls.{longest_burn, longest_hold, stands, running, runs, Took, Refused, BurntBy, BegunBy, HeldBy, Held, can_hold, turned, gone_on, run_on, passed}
use Rattle.part.specs.Neighbours.{elapsed}
use Rattle.joined.specs.Pile.{raised, either, pile}

-- Without an erasure, and while it stands still, time only moves the clock.
pub run_idle : (n : Meaning) (k : ℕ) (e : Option Erasure) → is_some e ≡ false → run_on n k e ≡ n
run_idle n k None h = refl
run_idle n k (Some e) h = absurd (true≢false h)

run_still : (n : Meaning) (k : ℕ) (e : Option Erasure) → running e ≡ false → run_on n k e ≡ n
run_still n k None h = refl
run_still n k (Some e) h = cond-false e.running _ _ h

pass_still : (n : Meaning) (t : ℕ) → runs n ≡ false → passed n t ≡ ticked n t
pass_still n t i = ap (λ (x : Meaning). ticked x t) (run_still n t n.erasure i)

pub no_erasure : (e : Option Erasure) → is_some e ≡ false → e ≡ None
no_erasure None h = refl
no_erasure (Some e) h = absurd (true≢false h)

pub idle_still : (e : Option Erasure) → is_some e ≡ false → running e ≡ false
idle_still None h = refl
idle_still (Some e) h = absurd (true≢false h)

-- The time that one side's clock shows is the time that it took.
beside : (c d t : ℕ) (n n' : Meaning) → runs n ≡ false → c < 4294967296 → d ≡ (c + t) % 4294967296 → t < 4294967296
    → n' ≡ passed n (elapsed c d) → n' ≡ ticked n t
beside c d t n n' i l e h q =
    let s : elapsed c d ≡ t = omega arith in
    q ∙ ap (passed n) s ∙ pass_still n t i

-- No time changes nothing.
run_none : (m : Meaning) (b : ℕ) (e : Option Erasure) → ErasureLawful b e → m.erasure ≡ e → run_on m 0 e ≡ m
run_none m b None h q = refl
run_none m b (Some x) h q =
    elim (cases_Bool x.running) [
      | inl r ↦
          let z : ltb 0 x.left ≡ true = lt-ltb 0 x.left (omega (arith, h.1)) in
          let k : x.left - 0 ≡ x.left = omega arith in
          cond-true x.running _ _ r ∙ cond-true (ltb 0 x.left) _ _ z ∙ ap (λ (j : ℕ). with_erasure m (Some (record x { left = j }))) k
          ∙ ap (with_erasure m) (sym q)
      | inr r ↦ rw r
    ]

pub pass_none : (m : Meaning) → Lawful m → passed m 0 ≡ m
pass_none m lm =
    let e : (m.clock + 0) % 4294967296 ≡ m.clock = omega (arith, lm.clock) in
    ap (λ (x : Meaning). ticked x 0) (run_none m (count m) m.erasure lm.erasure refl)
    ∙ ap (λ (c : ℕ). record m { clock = c }) e

pub no_time : (c d : ℕ) (n n' : Meaning) → Lawful n → c < 4294967296 → d ≡ c → n' ≡ passed n (elapsed c d) → n' ≡ n
no_time c d n n' ln l e q =
    let s : elapsed c d ≡ 0 = omega arith in
    q ∙ ap (passed n) s ∙ pass_none n ln

pub none_passed : (x n : Meaning) → Lawful x → Lawful n → (d : ℕ) → d ≡ x.clock → n ≡ passed n (elapsed x.clock d)
none_passed x n lx ln d e =
    let s : elapsed x.clock d ≡ 0 = omega (arith, lx.clock) in
    sym (ap (passed n) s ∙ pass_none n ln)

module _ (m n : Meaning) (lm : Lawful m) (ln : Lawful n) where
  -- Time on the first side, and the same time on the second; and the other way round.
  took_first : (x : Meaning) (least most : ℕ) (m' n' : Meaning) → x.clock ≡ m.clock → most < 4294967296 → runs n ≡ false
      → Took least most x m' → n' ≡ passed n (elapsed m.clock m'.clock) → Took least most (pile x n) (pile m' n')
  took_first x least most m' n' k h i w q =
      let t = w.time in
      let d : m'.clock ≡ (m.clock + t) % 4294967296 = ap (λ (y : Meaning). y.clock) w.is ∙ ap (λ (z : ℕ). (z + t) % 4294967296) k in
      let y : n' ≡ ticked n t = beside m.clock m'.clock t n n' i lm.clock d (omega (arith, w.high)) q in
      record { time = t; low = w.low; high = w.high; is = ap (λ (z : Meaning). pile z n') w.is ∙ ap (pile (ticked x t)) y }

  took_second : (y : Meaning) (least most : ℕ) (m' n' : Meaning) → y.clock ≡ n.clock → most < 4294967296 → runs m ≡ false
      → Took least most y n' → m' ≡ passed m (elapsed n.clock n'.clock) → Took least most (pile m y) (pile m' n')
  took_second y least most m' n' k h i w q =
      let t = w.time in
      let d : n'.clock ≡ (n.clock + t) % 4294967296 = ap (λ (z : Meaning). z.clock) w.is ∙ ap (λ (z : ℕ). (z + t) % 4294967296) k in
      let x : m' ≡ ticked m t = beside n.clock n'.clock t m m' i ln.clock d (omega (arith, w.high)) q in
      record { time = t; low = w.low; high = w.high; is = ap (λ (z : Meaning). pile z n') x ∙ ap (pile (ticked m t)) w.is }

  -- Nothing happened on one side, and so nothing on the other.
  pub same_first : (m' n' : Meaning) → m' ≡ m → n' ≡ passed n (elapsed m.clock m'.clock) → pile m' n' ≡ pile m n
  same_first m' n' e q =
      let y : n' ≡ n = no_time m.clock m'.clock n n' ln lm.clock (ap (λ (z : Meaning). z.clock) e) q in
      ap (λ (z : Meaning). pile z n') e ∙ ap (pile m) y

  pub same_second : (m' n' : Meaning) → n' ≡ n → m' ≡ passed m (elapsed n.clock n'.clock) → pile m' n' ≡ pile m n
  same_second m' n' e q =
      let x : m' ≡ m = no_time n.clock n'.clock m m' lm ln.clock (ap (λ (z : Meaning). z.clock) e) q in
      ap (λ (z : Meaning). pile z n') x ∙ ap (pile m) e

  -- A burn on one side is a burn of the whole.
  pub burnt_first : (a byte : ℕ) (why : Option Cause) (m' n' : Meaning) → a < size m → runs n ≡ false
      → BurntBy m a byte why m' → n' ≡ passed n (elapsed m.clock m'.clock) → BurntBy (pile m n) a byte why (pile m' n')
  burnt_first a byte None m' n' h i w q =
      subst (λ (cs : List ℕ). Took 1 longest_burn (with_cells (pile m n) cs) (pile m' n'))
      (sym (set-append_left m.cells n.cells a byte h))
      (took_first (with_cells m (set m.cells a byte)) 1 longest_burn m' n' refl (omega arith) i w q)
  burnt_first a byte (Some cause) m' n' h i w q = refused (eqb (number_of cause) 8) w
    where
      refused : (b : Bool) → Refused b m m' → Refused b (pile m n) (pile m' n')
      refused true w = took_first m 0 longest_burn m' n' refl (omega arith) i w q
      refused false w = same_first m' n' w q

  pub burnt_second : (a byte : ℕ) (why : Option Cause) (m' n' : Meaning) → size m ≤ a → runs m ≡ false
      → BurntBy n (a - size m) byte why n' → m' ≡ passed m (elapsed n.clock n'.clock) → BurntBy (pile m n) a byte why (pile m' n')
  burnt_second a byte None m' n' h i w q =
      subst (λ (cs : List ℕ). Took 1 longest_burn (with_cells (pile m n) cs) (pile m' n'))
      (sym (set-append_right m.cells n.cells (size m) a byte refl h))
      (took_second (with_cells n (set n.cells (a - size m) byte)) 1 longest_burn m' n' refl (omega arith) i w q)
  burnt_second a byte (Some cause) m' n' h i w q = refused (eqb (number_of cause) 8) w
    where
      refused : (b : Bool) → Refused b n n' → Refused b (pile m n) (pile m' n')
      refused true w = took_second n 0 longest_burn m' n' refl (omega arith) i w q
      refused false w = same_second m' n' w q

  -- So is the beginning of an erasure, which takes no time.
  pub begun_clock : (x : Meaning) (b : ℕ) (why : Option Cause) (x' : Meaning) → BegunBy x b why x' → x'.clock ≡ x.clock
  begun_clock x b None x' w = ap (λ (z : Meaning). z.clock) w.is
  begun_clock x b (Some cause) x' w = ap (λ (z : Meaning). z.clock) w

  pub begun_first : (b : ℕ) (why : Option Cause) (m' : Meaning) → BegunBy m b why m' → BegunBy (pile m n) b why (pile m' n)
  begun_first b None m' w = record { left = w.left; low = w.low; high = w.high; is = ap (λ (z : Meaning). pile z n) w.is }
  begun_first b (Some cause) m' w = ap (λ (z : Meaning). pile z n) w

  pub begun_second : (b : ℕ) (why : Option Cause) (n' : Meaning) → count m ≤ b → stands m ≡ false
      → BegunBy n (b - count m) why n' → BegunBy (pile m n) b why (pile m n')
  begun_second b None n' h i w =
      let e : Option Erasure = Some (record { block = b - count m; left = w.left; running = true }) in
      let k : count m + (b - count m) ≡ b = omega arith in
      record {
        left = w.left;
        low = w.low;
        high = w.high;
        is =
            ap (pile m) w.is
            ∙ ap (λ (d : Option Erasure). with_erasure (pile m n) (either d (raised (count m) e))) (no_erasure m.erasure i)
            ∙ ap (λ (j : ℕ). with_erasure (pile m n) (Some (record { block = j; left = w.left; running = true }))) k;
      }
  begun_second b (Some cause) n' h i w = ap (pile m) w

  -- Holding the erasure of the side that has it holds that of the whole, and so with going on.
  turned_first : (r : Bool) (d e : Option Erasure) → is_some d ≡ true → either (turned r d) e ≡ turned r (either d e)
  turned_first r None e h = absurd (true≢false (sym h))
  turned_first r (Some d) e h = refl

  lone_first : (d e : Option Erasure) → is_some d ≡ true → either d e ≡ d
  lone_first None e h = absurd (true≢false (sym h))
  lone_first (Some d) e h = refl

  lone_second : (d e : Option Erasure) → is_some d ≡ false → either d e ≡ e
  lone_second None e h = refl
  lone_second (Some d) e h = absurd (true≢false h)

  turned_raised : (r : Bool) (k : ℕ) (e : Option Erasure) → raised k (turned r e) ≡ turned r (raised k e)
  turned_raised r k None = refl
  turned_raised r k (Some e) = refl

  hold_raised : (k : ℕ) (e : Option Erasure) → can_hold (raised k e) ≡ can_hold e
  hold_raised k None = refl
  hold_raised k (Some e) = refl

  turned_second : (r : Bool) → stands m ≡ false → either m.erasure (raised (count m) (turned r n.erasure)) ≡ turned r (pile m n).erasure
  turned_second r i =
      lone_second m.erasure _ i
      ∙ turned_raised r (count m) n.erasure
      ∙ ap (turned r) (sym (lone_second m.erasure (raised (count m) n.erasure) i))

  pub first_alone : stands m ≡ true → (pile m n).erasure ≡ m.erasure
  first_alone i = lone_first m.erasure (raised (count m) n.erasure) i

  pub second_alone : stands m ≡ false → (pile m n).erasure ≡ raised (count m) n.erasure
  second_alone i = lone_second m.erasure (raised (count m) n.erasure) i

  pub held_first : (m' n' : Meaning) → stands m ≡ true → runs n ≡ false → Held m m' → n' ≡ passed n (elapsed m.clock m'.clock)
      → Held (pile m n) (pile m' n')
  held_first m' n' s i w q =
      subst (λ (t : Turn). HeldBy (pile m n) t (pile m' n')) (ap can_hold (sym (first_alone s))) (by (can_hold m.erasure) w)
    where
      by : (t : Turn) → HeldBy m t m' → HeldBy (pile m n) t (pile m' n')
      by Done w =
          subst (λ (o : Option Erasure). Took 0 longest_hold (with_erasure (pile m n) o) (pile m' n'))
          (turned_first false m.erasure (raised (count m) n.erasure) s)
          (took_first (with_erasure m (turned false m.erasure)) 0 longest_hold m' n' refl (omega arith) i w q)
      by Nothing w = same_first m' n' w q

  pub held_second : (m' n' : Meaning) → stands m ≡ false → Held n n' → m' ≡ passed m (elapsed n.clock n'.clock) → Held (pile m n) (pile m' n')
  held_second m' n' i w q =
      subst (λ (t : Turn). HeldBy (pile m n) t (pile m' n')) (sym (ap can_hold (second_alone i) ∙ hold_raised (count m) n.erasure))
      (by (can_hold n.erasure) w)
    where
      by : (t : Turn) → HeldBy n t n' → HeldBy (pile m n) t (pile m' n')
      by Done w =
          subst (λ (o : Option Erasure). Took 0 longest_hold (with_erasure (pile m n) o) (pile m' n'))
          (turned_second false i)
          (took_second (with_erasure n (turned false n.erasure)) 0 longest_hold m' n' refl (omega arith) (idle_still m.erasure i) w q)
      by Nothing w = same_second m' n' w q

  pub gone_first : (m' n' : Meaning) → stands m ≡ true → m' ≡ gone_on m → n' ≡ passed n (elapsed m.clock m'.clock) → pile m' n' ≡ gone_on (pile m n)
  gone_first m' n' s w q =
      let y : n' ≡ n = no_time m.clock m'.clock n n' ln lm.clock (ap (λ (z : Meaning). z.clock) w) q in
      ap (λ (z : Meaning). pile z n') w
      ∙ ap (pile (gone_on m)) y
      ∙ ap (with_erasure (pile m n)) (turned_first true m.erasure (raised (count m) n.erasure) s)

  pub gone_second : (m' n' : Meaning) → stands m ≡ false → n' ≡ gone_on n → m' ≡ passed m (elapsed n.clock n'.clock) → pile m' n' ≡ gone_on (pile m n)
  gone_second m' n' i w q =
      let x : m' ≡ m = no_time n.clock n'.clock m m' lm ln.clock (ap (λ (z : Meaning). z.clock) w) q in
      ap (λ (z : Meaning). pile z n') x ∙ ap (pile m) w ∙ ap (with_erasure (pile m n)) (turned_second true i)
