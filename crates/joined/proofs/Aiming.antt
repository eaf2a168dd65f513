-- The calls of a joined part by where they go: what they answer and what they leave.
use Rattle.std.proofs.Common.{◌≡◌, ℕ, ◌-◌, ◌≤◌, Bool, true, false, leb, cond, Some, None, Ok, Err, Option, Result, sym, refl, ap, ◌∙◌, subst, arith}
use Rattle.std.proofs.lemmas.Bool.{cond-true, cond-false, le-leb}
use Rattle.fault.specs.declared.cause.Cause.{Cause}
use Rattle.fault.specs.declared.cause.Cause.TheVariants.{AddressOutside, NoSuchBlock, ErasureInTheWay}
use Rattle.fault.specs.declared.faults.PartFault.{PartFault}
use Rattle.geometry.specs.declared.block.Block.{Block}
use Rattle.part.specs.declared.answers.Shape.{Shape}
use Rattle.part.specs.Meaning.{Meaning, size, count, cell, shape_of}
use Rattle.part.specs.declared.answers.Progress.{Progress}
use Rattle.part.specs.Calls.{answer, stands, hides_beside, bars_beside, time_no, progress, block_at, peek_no, burn_no, begin_no, Burnt, Begun, passed, after_pass}
use Rattle.part.specs.Standings.{stood}
use Rattle.part.proofs.Standings.{stood_is}
use Rattle.part.specs.Laws.{Call, burn, begin, pass}
use Rattle.part.specs.Neighbours.{elapsed}
use Rattle.joined.specs.declared.aim.Aim.{Aim}
use Rattle.joined.specs.declared.aim.Aim.TheVariants.{First, Second}
use Rattle.joined.specs.Pile.{pile, no_part, joined, later, LaterRoom, placed}
use Rattle.joined.specs.Sides.{Sides, Way, neither, peek_aim, burn_aim, begin_aim, aim_or, sent, Went, Called}
use Rattle.joined.proofs.Asking.{block_right, later_room}
use Rattle.joined.proofs.Refusing.{cell_left, cell_right}
use Rattle.joined.proofs.Living.{none_passed, begun_clock}
use Rattle.joined.proofs.Running.{progress_second}
use Rattle.joined.proofs.Fitting.{one}
use Rattle.joined.proofs.Whole.{By, peek_by, burn_by, begin_by, Sound, Kept, kept}

-- The answer of a call that gives nothing but that it was accepted.
abbrev pub answered : Option Cause → ℕ → Result (Unit {0}) PartFault
answered why place = answer why place tt

-- What an accepted aim, and a refused one, tell.
aim_of : (l : Bool) (o : Option Aim) (dead : Cause) (place : ℕ) (x : Aim) → aim_or l o dead place ≡ Ok x → (l ≡ true) × (o ≡ Some x)
aim_of false o dead place x e = let z : ◌≡◌ {A = ℕ} 0 1 = cc in absurd (omega arith)
aim_of true None dead place x e = let z : ◌≡◌ {A = ℕ} 0 1 = cc in absurd (omega arith)
aim_of true (Some y) dead place x e = (refl, cc)

refusal_of : {X : Type 0} (l : Bool) (o : Option Aim) (dead : Cause) (place : ℕ) (why : Option Cause) (x : X) (f : PartFault)
    → aim_or l o dead place ≡ Err f → (l ≡ false → why ≡ Some dead) → (l ≡ true → o ≡ None → why ≡ Some ErasureInTheWay)
    → Err f ≡ answer why place x
refusal_of false o dead place why x f e d w =
    let g : record { cause = dead; place = place } ≡ f = cc in
    ap (λ (y : PartFault). Err y) (sym g) ∙ ap (λ (y : Option Cause). answer y place x) (sym (d refl))
refusal_of true None dead place why x f e d w =
    let g : record { cause = ErasureInTheWay; place = place } ≡ f = cc in
    ap (λ (y : PartFault). Err y) (sym g) ∙ ap (λ (y : Option Cause). answer y place x) (sym (w refl refl))
refusal_of true (Some y) dead place why x f e d w = let z : ◌≡◌ {A = ℕ} 0 1 = cc in absurd (omega arith)

to_neither : (l : Bool) (o : Option Aim) (dead : Cause) (place : ℕ) (f : PartFault) (c : Call) (at : ℕ → Call)
    → aim_or l o dead place ≡ Err f → cond l (sent o c at) neither ≡ neither
to_neither false o dead place f c at e = refl
to_neither true None dead place f c at e = refl
to_neither true (Some y) dead place f c at e = let z : ◌≡◌ {A = ℕ} 0 1 = cc in absurd (omega arith)

-- A call that went one way, with what follows from it.
pub record Done (s : Sides) (c : Call) (t : Sides) : Type 0 where
  pub called : Called s c t
  pub kept : Kept s c t

-- An answer with the place that the caller gave.
placed_answer : {X : Type 0} (why : Option Cause) (inner place : ℕ) (x : X) → placed (answer why inner x) place ≡ answer why place x
placed_answer None inner place x = refl
placed_answer (Some cause) inner place x = refl

placed_answered : (why : Option Cause) (inner place : ℕ) → placed (answered why inner) place ≡ answered why place
placed_answered why inner place = placed_answer why inner place tt

module _ {l : Bool} {m n : Meaning} (v : Sound (record { live = l; first = m; second = n })) where
  on : l ≡ true → joined l m n ≡ pile m n
  on t = cond-true l _ _ t

  off : l ≡ false → joined l m n ≡ no_part m.clock
  off t = cond-false l _ _ t

  done : (c : Call) (m' n' : Meaning) → Called (record { live = l; first = m; second = n }) c (record { live = l; first = m'; second = n' })
      → Done (record { live = l; first = m; second = n }) c (record { live = l; first = m'; second = n' })
  done c m' n' w = record { called = w; kept = kept (record { live = l; first = m; second = n }) (record { live = l; first = m'; second = n' }) c v w }

  -- Peeks.
  module _ (a : ℕ) (q : Result Aim PartFault) (told : q ≡ aim_or l (peek_aim m n a) AddressOutside a) where
    peek_why : (o : Option Aim) → l ≡ true → peek_aim m n a ≡ o
        → By a (size m) (size n) (hides_beside m) (hides_beside n) (peek_no (joined l m n) a) (peek_no m a) (peek_no n) o
    peek_why o t e =
        subst (λ (x : Meaning). By a (size m) (size n) (hides_beside m) (hides_beside n) (peek_no x a) (peek_no m a) (peek_no n) o) (sym (on t))
        (subst (By a (size m) (size n) (hides_beside m) (hides_beside n) (peek_no (pile m n) a) (peek_no m a) (peek_no n)) e
        (peek_by m n v.first v.second (v.fit t) a))

    pub peek_refused : (x : ℕ) (f : PartFault) (r : Result ℕ PartFault) → q ≡ Err f → r ≡ Err f → r ≡ answer (peek_no (joined l m n) a) a x
    peek_refused x f r e d =
        d
        ∙ refusal_of l (peek_aim m n a) AddressOutside a (peek_no (joined l m n) a) x f (sym told ∙ e)
        (λ t. ap (λ (y : Meaning). peek_no y a) (off t) ∙ cond-true (leb 0 a) (Some AddressOutside) _ (le-leb 0 a (omega arith)))
        (λ t o. peek_why None t o)

    pub peek_first : (r : Result ℕ PartFault) → q ≡ Ok First → r ≡ answer (peek_no m a) a (cell m a)
        → r ≡ answer (peek_no (joined l m n) a) a (cell (joined l m n) a)
    peek_first r e d =
        let o = aim_of l (peek_aim m n a) AddressOutside a First (sym told ∙ e) in
        let y = peek_why (Some First) o.0 o.1 in
        d
        ∙ ap (answer (peek_no m a) a)
        (sym (ap (λ (x : Meaning). cell x a) (on o.0) ∙ cell_left m n v.first (one m n (v.fit o.0)) a y.0))
        ∙ ap (λ (why : Option Cause). answer why a (cell (joined l m n) a)) (sym y.2)

    pub peek_second : (i : ℕ) (p r : Result ℕ PartFault) → q ≡ Ok (Second i) → p ≡ answer (peek_no n i) i (cell n i) → r ≡ placed p a
        → r ≡ answer (peek_no (joined l m n) a) a (cell (joined l m n) a)
    peek_second i p r e d c =
        let o = aim_of l (peek_aim m n a) AddressOutside a (Second i) (sym told ∙ e) in
        let y = peek_why (Some (Second i)) o.0 o.1 in
        let k : a - size m ≡ i = omega (arith, y.0) in
        let same : cell (joined l m n) a ≡ cell n i =
        ap (λ (x : Meaning). cell x a) (on o.0) ∙ cell_right m n v.first (one m n (v.fit o.0)) a (omega (arith, y.0)) ∙ ap (cell n) k in
        c
        ∙ ap (λ (x : Result ℕ PartFault). placed x a) d
        ∙ placed_answer (peek_no n i) i a (cell n i)
        ∙ ap (answer (peek_no n i) a) (sym same)
        ∙ ap (λ (why : Option Cause). answer why a (cell (joined l m n) a)) (sym y.2)

  -- Burns.
  module _ (a byte : ℕ) (q : Result Aim PartFault) (told : q ≡ aim_or l (burn_aim m n a) AddressOutside a) where
    burn_why : (o : Option Aim) → l ≡ true → burn_aim m n a ≡ o
        → By a (size m) (size n) (bars_beside m) (bars_beside n) (burn_no (joined l m n) a byte) (burn_no m a byte) (λ i. burn_no n i byte) o
    burn_why o t e =
        subst (λ (x : Meaning). By a (size m) (size n) (bars_beside m) (bars_beside n) (burn_no x a byte) (burn_no m a byte) (λ i. burn_no n i byte) o)
        (sym (on t))
        (subst (By a (size m) (size n) (bars_beside m) (bars_beside n) (burn_no (pile m n) a byte) (burn_no m a byte) (λ i. burn_no n i byte)) e
        (burn_by m n v.first v.second (v.fit t) a byte))

    pub burn_refused : (f : PartFault) (r : Result (Unit {0}) PartFault) → q ≡ Err f → r ≡ Err f → r ≡ answered (burn_no (joined l m n) a byte) a
    burn_refused f r e d =
        d
        ∙ refusal_of l (burn_aim m n a) AddressOutside a (burn_no (joined l m n) a byte) tt f (sym told ∙ e)
        (λ t. ap (λ (y : Meaning). burn_no y a byte) (off t) ∙ cond-true (leb 0 a) (Some AddressOutside) _ (le-leb 0 a (omega arith)))
        (λ t o. burn_why None t o)

    pub burn_first : (r : Result (Unit {0}) PartFault) → q ≡ Ok First → r ≡ answered (burn_no m a byte) a → r ≡ answered (burn_no (joined l m n) a byte) a
    burn_first r e d =
        let o = aim_of l (burn_aim m n a) AddressOutside a First (sym told ∙ e) in
        d
        ∙ ap (λ (why : Option Cause). answered why a) (sym (burn_why (Some First) o.0 o.1).2)

    pub burn_second : (i : ℕ) (p r : Result (Unit {0}) PartFault) → q ≡ Ok (Second i) → p ≡ answered (burn_no n i byte) i → r ≡ placed p a → r ≡ answered (burn_no (joined l m n) a byte) a
    burn_second i p r e d c =
        let o = aim_of l (burn_aim m n a) AddressOutside a (Second i) (sym told ∙ e) in
        c
        ∙ ap (λ (x : Result (Unit {0}) PartFault). placed x a) d
        ∙ placed_answered (burn_no n i byte) i a
        ∙ ap (λ (why : Option Cause). answered why a) (sym (burn_why (Some (Second i)) o.0 o.1).2)

    burn_sent : (o : Option Aim) (m' n' : Meaning) → cond l (sent (burn_aim m n a) (burn a byte) (λ i. burn i byte)) neither ≡ sent o (burn a byte) (λ i. burn i byte)
        → Went (sent o (burn a byte) (λ i. burn i byte)) m n m' n'
        → Done (record { live = l; first = m; second = n }) (burn a byte) (record { live = l; first = m'; second = n' })
    burn_sent o m' n' e w = done (burn a byte) m' n' (record { live = refl; sides = subst (λ (x : Way). Went x m n m' n') (sym e) w })

    sent_on : (o : Option Aim) → l ≡ true → burn_aim m n a ≡ o
        → cond l (sent (burn_aim m n a) (burn a byte) (λ i. burn i byte)) neither ≡ sent o (burn a byte) (λ i. burn i byte)
    sent_on o t e = cond-true l _ _ t ∙ ap (λ (x : Option Aim). sent x (burn a byte) (λ i. burn i byte)) e

    pub burnt_neither : (f : PartFault) → q ≡ Err f
        → Done (record { live = l; first = m; second = n }) (burn a byte) (record { live = l; first = m; second = n })
    burnt_neither f e = burn_sent None m n (to_neither l (burn_aim m n a) AddressOutside a f (burn a byte) (λ i. burn i byte) (sym told ∙ e)) (refl, refl)

    pub burnt_first : (m' n' : Meaning) → q ≡ Ok First → Burnt m a byte m' → n' ≡ passed n (elapsed m.clock m'.clock)
        → Done (record { live = l; first = m; second = n }) (burn a byte) (record { live = l; first = m'; second = n' })
    burnt_first m' n' e w p =
        let o = aim_of l (burn_aim m n a) AddressOutside a First (sym told ∙ e) in
        burn_sent (Some First) m' n' (sent_on (Some First) o.0 o.1) (w, p)

    pub burnt_second : (i : ℕ) (m' n' : Meaning) → q ≡ Ok (Second i)
        → Burnt n i byte n' → m' ≡ passed m (elapsed n.clock n'.clock)
        → Done (record { live = l; first = m; second = n }) (burn a byte) (record { live = l; first = m'; second = n' })
    burnt_second i m' n' e w p =
        let o = aim_of l (burn_aim m n a) AddressOutside a (Second i) (sym told ∙ e) in
        burn_sent (Some (Second i)) m' n' (sent_on (Some (Second i)) o.0 o.1) (p, w)

  -- Beginnings of an erasure, beside which no time passes.
  module _ (b : ℕ) (q : Result Aim PartFault) (told : q ≡ aim_or l (begin_aim m n b) NoSuchBlock b) where
    begin_why : (o : Option Aim) → l ≡ true → begin_aim m n b ≡ o
        → By b (count m) (count n) (stands m) (stands n) (begin_no (joined l m n) b) (begin_no m b) (begin_no n) o
    begin_why o t e =
        subst (λ (x : Meaning). By b (count m) (count n) (stands m) (stands n) (begin_no x b) (begin_no m b) (begin_no n) o) (sym (on t))
        (subst (By b (count m) (count n) (stands m) (stands n) (begin_no (pile m n) b) (begin_no m b) (begin_no n)) e
        (begin_by m n v.first v.second (v.fit t) b))

    pub begin_refused : (f : PartFault) (r : Result (Unit {0}) PartFault) → q ≡ Err f → r ≡ Err f → r ≡ answered (begin_no (joined l m n) b) b
    begin_refused f r e d =
        d
        ∙ refusal_of l (begin_aim m n b) NoSuchBlock b (begin_no (joined l m n) b) tt f (sym told ∙ e)
        (λ t. ap (λ (y : Meaning). begin_no y b) (off t) ∙ cond-true (leb 0 b) (Some NoSuchBlock) _ (le-leb 0 b (omega arith)))
        (λ t o. begin_why None t o)

    pub begin_first : (r : Result (Unit {0}) PartFault) → q ≡ Ok First → r ≡ answered (begin_no m b) b → r ≡ answered (begin_no (joined l m n) b) b
    begin_first r e d =
        let o = aim_of l (begin_aim m n b) NoSuchBlock b First (sym told ∙ e) in
        d
        ∙ ap (λ (why : Option Cause). answered why b) (sym (begin_why (Some First) o.0 o.1).2)

    pub begin_second : (i : ℕ) (p r : Result (Unit {0}) PartFault) → q ≡ Ok (Second i) → p ≡ answered (begin_no n i) i → r ≡ placed p b → r ≡ answered (begin_no (joined l m n) b) b
    begin_second i p r e d c =
        let o = aim_of l (begin_aim m n b) NoSuchBlock b (Second i) (sym told ∙ e) in
        c
        ∙ ap (λ (x : Result (Unit {0}) PartFault). placed x b) d
        ∙ placed_answered (begin_no n i) i b
        ∙ ap (λ (why : Option Cause). answered why b) (sym (begin_why (Some (Second i)) o.0 o.1).2)

    begin_sent : (o : Option Aim) (m' n' : Meaning) → cond l (sent (begin_aim m n b) (begin b) begin) neither ≡ sent o (begin b) begin
        → Went (sent o (begin b) begin) m n m' n'
        → Done (record { live = l; first = m; second = n }) (begin b) (record { live = l; first = m'; second = n' })
    begin_sent o m' n' e w = done (begin b) m' n' (record { live = refl; sides = subst (λ (x : Way). Went x m n m' n') (sym e) w })

    begin_on : (o : Option Aim) → l ≡ true → begin_aim m n b ≡ o → cond l (sent (begin_aim m n b) (begin b) begin) neither ≡ sent o (begin b) begin
    begin_on o t e = cond-true l _ _ t ∙ ap (λ (x : Option Aim). sent x (begin b) begin) e

    pub begun_neither : (f : PartFault) → q ≡ Err f
        → Done (record { live = l; first = m; second = n }) (begin b) (record { live = l; first = m; second = n })
    begun_neither f e = begin_sent None m n (to_neither l (begin_aim m n b) NoSuchBlock b f (begin b) begin (sym told ∙ e)) (refl, refl)

    pub begun_first : (m' : Meaning) → q ≡ Ok First → Begun m b m'
        → Done (record { live = l; first = m; second = n }) (begin b) (record { live = l; first = m'; second = n })
    begun_first m' e w =
        let o = aim_of l (begin_aim m n b) NoSuchBlock b First (sym told ∙ e) in
        begin_sent (Some First) m' n (begin_on (Some First) o.0 o.1)
        (w, none_passed m n v.first v.second m'.clock (begun_clock m n v.first v.second m b (begin_no m b) m' w))

    pub begun_second : (i : ℕ) (n' : Meaning) → q ≡ Ok (Second i) → Begun n i n'
        → Done (record { live = l; first = m; second = n }) (begin b) (record { live = l; first = m; second = n' })
    begun_second i n' e w =
        let o = aim_of l (begin_aim m n b) NoSuchBlock b (Second i) (sym told ∙ e) in
        begin_sent (Some (Second i)) m n' (begin_on (Some (Second i)) o.0 o.1)
        (none_passed n m v.second v.first n'.clock (begun_clock m n v.first v.second n i (begin_no n i) n' w), w)

  -- A pass of both sides.
  pub both_passed : (k : ℕ) {m' n' : Meaning} → m' ≡ after_pass m k → n' ≡ after_pass n k
      → Done (record { live = l; first = m; second = n }) (pass k) (record { live = l; first = m'; second = n' })
  both_passed k {m'} {n'} e f = done (pass k) m' n' (record { live = refl; sides = (e, f) })

  -- What became of the erasure, which the second side tells where the first has none.
  pub pass_second : (k : ℕ) (s : Shape) (r : Result Progress PartFault) → l ≡ true → s ≡ shape_of m → stood s.standing ≡ false
      → r ≡ answer (time_no k) k (progress n k n.erasure) → r ≡ answer (time_no k) k (progress (joined l m n) k (joined l m n).erasure)
  pass_second k s r t f i d =
      let idle : stands m ≡ false = sym (stood_is m) ∙ ap (λ (x : Shape). stood x.standing) (sym f) ∙ i in
      d
      ∙ ap (answer (time_no k) k)
      (sym (ap (λ (x : Meaning). progress x k x.erasure) (on t) ∙ progress_second m n v.first (one m n (v.fit t)) k idle))

  -- Where a block of the second side lies.
  pub block_room : (b : ℕ) (s : Shape) (r : Option Block) → l ≡ true → s ≡ shape_of m → r ≡ block_at n b → LaterRoom r s.size
  block_room b s r t f e =
      subst (λ (o : Option Block). LaterRoom o s.size) (sym e)
      (subst (λ (x : Shape). LaterRoom (block_at n b) x.size) (sym f) (later_room m n v.second (v.fit t) b))

  pub block_second : (b : ℕ) (s : Shape) (r q : Option Block) → l ≡ true → s ≡ shape_of m → s.blocks ≤ b → r ≡ block_at n (b - s.blocks)
      → q ≡ later r s.size → q ≡ block_at (joined l m n) b
  block_second b s r q t f h e d =
      d
      ∙ ap (λ (o : Option Block). later o s.size) e
      ∙ ap (λ (x : Shape). later (block_at n (b - x.blocks)) x.size) f
      ∙ sym (block_right m n v.first b (omega (arith, ap (λ (x : Shape). x.blocks) f)))
      ∙ ap (λ (x : Meaning). block_at x b) (sym (on t))
