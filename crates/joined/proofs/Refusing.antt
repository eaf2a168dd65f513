-- Why two parts end to end refuse a call, by why each of them does.
use Rattle.std.specs.Prelude.{◌≡◌, ℕ, ◌+◌, ◌-◌, ◌<◌, ◌≤◌, Bool, true, false, cond, not, ◌&&◌, ◌||◌, leb, Some, None, Option, nat_le, is_some, refl}
use Rattle.std.proofs.Common.{ap, ◌∙◌, arith}
use Rattle.std.proofs.lemmas.List.{length-append, get_or_append_left, get_or-append_right}
use Rattle.std.proofs.lemmas.Bool.{lt-leb, ne_eqb, cond_both, true≢false}
use Rattle.std.proofs.lemmas.Bool.Decides.{nat_tests}
use Rattle.fault.specs.declared.cause.Cause.{Cause}
use Rattle.fault.specs.declared.cause.Cause.TheVariants.{ErasureInTheWay}
use Rattle.geometry.proofs.Placing.{block_within}
use Rattle.part.specs.Meaning.{Erasure, Meaning, Lawful, ErasureLawful, size, count, cell, block, guarded, worn, standing_of}
use Rattle.part.specs.declared.answers.Standing.{Standing}
use Rattle.part.specs.declared.answers.Standing.TheVariants.{Idle, Running, Suspended}
use Rattle.part.specs.InTheWay.{hid, barred, hid_beside, barred_beside}
use Rattle.part.specs.Calls.{stands, hides, bars, hides_beside, bars_beside, peek_no, burn_no, begin_no}
use Rattle.part.specs.Standings.{stood}
use Rattle.part.proofs.Standings.{stood_is}
use Rattle.joined.specs.Pile.{raised, either, pile, either_stands}
use Rattle.joined.proofs.Rows.{block_left, block_right}

-- not both sides have an erasure
abbrev pub One : Meaning → Meaning → Type 0
One m n = (stands m && stands n) ≡ false

stands_either : (k : ℕ) (d e : Option Erasure) → is_some (either d (raised k e)) ≡ (is_some d || is_some e)
stands_either k None None = refl
stands_either k None (Some e) = refl
stands_either k (Some d) e = refl

-- What of the two stands, at a glance.
pub standing_both : (k : ℕ) (d e : Option Erasure) → standing_of (either d (raised k e)) ≡ either_stands (standing_of d) (standing_of e) k
standing_both k None None = refl
standing_both k None (Some e) = by_running e.running
  where
    by_running : (r : Bool) → cond r (Running (k + e.block)) (Suspended (k + e.block)) ≡ either_stands Idle (cond r (Running e.block) (Suspended e.block)) k
    by_running true = refl
    by_running false = refl
standing_both k (Some d) e = by_running d.running
  where
    by_running : (r : Bool) → cond r (Running d.block) (Suspended d.block) ≡ either_stands (cond r (Running d.block) (Suspended d.block)) (standing_of e) k
    by_running true = refl
    by_running false = refl

idle : (t : Standing) → stood t ≡ false → t ≡ Idle
idle Idle o = refl
idle (Running own) o = absurd (true≢false o)
idle (Suspended own) o = absurd (true≢false o)

-- an erasure, if one stands, is of one of the first k blocks
abbrev Inside : ℕ → Standing → Type 0
Inside k Idle = Unit {0}
Inside k (Running own) = own < k
Inside k (Suspended own) = own < k

inside_by : (k : ℕ) (e : Option Erasure) → ErasureLawful k e → Inside k (standing_of e)
inside_by k None h = tt
inside_by k (Some e) h = cond_both e.running (Running e.block) (Suspended e.block) (Inside k) (λ _. h.0) (λ _. h.0)

-- What that hides and bars of k blocks and those behind them, by what each side hides and bars: the one place that goes by the rules of what is in
-- the way. An erasure of the other side hides a block only while it runs, and bars it whether it runs or not.
module _ (k b : ℕ) where
  hid_left : (s t : Standing) → (stood s && stood t) ≡ false → b < k → hid (either_stands s t k) b ≡ (hid_beside t || hid s b)
  hid_left Idle Idle o h = refl
  hid_left Idle (Running own) o h = refl
  hid_left Idle (Suspended own) o h = ne_eqb (k + own) b (λ q. omega arith)
  hid_left (Running own) t o h = rw (idle t o)
  hid_left (Suspended own) t o h = rw (idle t o)

  barred_left : (s t : Standing) → (stood s && stood t) ≡ false → barred (either_stands s t k) b ≡ (barred_beside t || barred s b)
  barred_left Idle Idle o = refl
  barred_left Idle (Running own) o = refl
  barred_left Idle (Suspended own) o = refl
  barred_left (Running own) t o = rw (idle t o)
  barred_left (Suspended own) t o = rw (idle t o)

  hid_right : (s t : Standing) → (stood s && stood t) ≡ false → Inside k s → hid (either_stands s t k) (k + b) ≡ (hid_beside s || hid t b)
  hid_right Idle Idle o h = refl
  hid_right Idle (Running own) o h = refl
  hid_right Idle (Suspended own) o h = grind (arith, nat_tests)
  hid_right (Running own) t o h = refl
  hid_right (Suspended own) t o h = rw (idle t o) (ne_eqb own (k + b) (λ q. omega (arith, h)))

  barred_right : (s t : Standing) → (stood s && stood t) ≡ false → barred (either_stands s t k) (k + b) ≡ (barred_beside s || barred t b)
  barred_right Idle Idle o = refl
  barred_right Idle (Running own) o = refl
  barred_right Idle (Suspended own) o = refl
  barred_right (Running own) t o = refl
  barred_right (Suspended own) t o = refl

module _ (m n : Meaning) (o : One m n) where
  standing_pile : standing_of (pile m n).erasure ≡ either_stands (standing_of m.erasure) (standing_of n.erasure) (count m)
  standing_pile = standing_both (count m) m.erasure n.erasure

  not_both : (stood (standing_of m.erasure) && stood (standing_of n.erasure)) ≡ false
  not_both = rw (stood_is m, stood_is n) o

  pub hides_left : (b : ℕ) → b < count m → hides (pile m n) b ≡ (hides_beside n || hides m b)
  unfolding hides
  hides_left b h = ap (λ (s : Standing). hid s b) standing_pile ∙ hid_left (count m) b (standing_of m.erasure) (standing_of n.erasure) not_both h

  pub hides_right : Lawful m → (b : ℕ) → hides (pile m n) (count m + b) ≡ (hides_beside m || hides n b)
  unfolding hides
  hides_right lm b =
      ap (λ (s : Standing). hid s (count m + b)) standing_pile
      ∙ hid_right (count m) b (standing_of m.erasure) (standing_of n.erasure) not_both (inside_by (count m) m.erasure lm.erasure)

  pub bars_left : (b : ℕ) → bars (pile m n) b ≡ (bars_beside n || bars m b)
  unfolding bars
  bars_left b = ap (λ (s : Standing). barred s b) standing_pile ∙ barred_left (count m) b (standing_of m.erasure) (standing_of n.erasure) not_both

  pub bars_right : (b : ℕ) → bars (pile m n) (count m + b) ≡ (bars_beside m || bars n b)
  unfolding bars
  bars_right b =
      ap (λ (s : Standing). barred s (count m + b)) standing_pile ∙ barred_right (count m) b (standing_of m.erasure) (standing_of n.erasure) not_both

-- A refusal in the way, before and after another check.
or_cond : (x y : Bool) (s t : Option Cause) → cond (x || y) s t ≡ cond x s (cond y s t)
or_cond true y s t = refl
or_cond false y s t = refl

cond_or : (x y : Bool) (s t : Option Cause) → cond (x || y) s t ≡ cond y s (cond x s t)
cond_or true true s t = refl
cond_or true false s t = refl
cond_or false true s t = refl
cond_or false false s t = refl

later_or : (x y z : Bool) (r s t : Option Cause) → cond x r (cond (y || z) s t) ≡ cond (not x && y) s (cond x r (cond z s t))
later_or true y z r s t = refl
later_or false y z r s t = or_cond y z s t

module _ (m n : Meaning) (lm : Lawful m) (o : One m n) where
  size_both : size (pile m n) ≡ size m + size n
  size_both = length-append m.cells n.cells

  count_both : count (pile m n) ≡ count m + count n
  count_both = length-append m.sizes n.sizes

  pub guarded_left : (b : ℕ) → b < count m → guarded (pile m n) b ≡ guarded m b
  guarded_left b h = get_or_append_left m.guards n.guards false b (omega (arith, lm.guards))

  pub guarded_right : (b : ℕ) → count m ≤ b → guarded (pile m n) b ≡ guarded n (b - count m)
  guarded_right b h = get_or-append_right m.guards n.guards (count m) b false lm.guards h

  pub worn_left : (b : ℕ) → b < count m → worn (pile m n) b ≡ worn m b
  worn_left b h = get_or_append_left m.wears n.wears false b (omega (arith, lm.wears))

  pub worn_right : (b : ℕ) → worn (pile m n) (count m + b) ≡ worn n b
  worn_right b =
      get_or-append_right m.wears n.wears (count m) (count m + b) false lm.wears (omega arith)
      ∙ ap (worn n) (omega arith)

  pub cell_left : (a : ℕ) → a < size m → cell (pile m n) a ≡ cell m a
  cell_left a h = get_or_append_left m.cells n.cells 0 a h

  pub cell_right : (a : ℕ) → size m ≤ a → cell (pile m n) a ≡ cell n (a - size m)
  cell_right a h = get_or-append_right m.cells n.cells (size m) a 0 refl h

  stand : stands (pile m n) ≡ (stands m || stands n)
  stand = stands_either (count m) m.erasure n.erasure

  module _ (a : ℕ) (h : a < size m) where
    inside : leb (size (pile m n)) a ≡ false
    inside = lt-leb _ a (omega (arith, size_both))

    in_first : leb (size m) a ≡ false
    in_first = lt-leb _ a h

    of_left : block (pile m n) a ≡ block m a
    of_left = block_left m.sizes n.sizes a (omega (arith, lm.whole))

    within : block m a < count m
    within = block_within m.sizes a (omega (arith, lm.whole))

    pub peek_left : peek_no (pile m n) a ≡ cond (hides_beside n) (Some ErasureInTheWay) (peek_no m a)
    peek_left =
        let s : hides (pile m n) (block (pile m n) a) ≡ (hides_beside n || hides m (block m a)) =
        ap (hides (pile m n)) of_left ∙ hides_left m n o (block m a) within in
        rw (inside, in_first, s) (or_cond (hides_beside n) (hides m (block m a)) _ _)

    pub burn_left : (byte : ℕ) → burn_no (pile m n) a byte ≡ cond (bars_beside n) (Some ErasureInTheWay) (burn_no m a byte)
    burn_left byte =
        let s : bars (pile m n) (block (pile m n) a) ≡ (bars_beside n || bars m (block m a)) =
        ap (bars (pile m n)) of_left ∙ bars_left m n o (block m a) in
        let g : guarded (pile m n) (block (pile m n) a) ≡ guarded m (block m a) = ap (guarded (pile m n)) of_left ∙ guarded_left (block m a) within in
        let w : worn (pile m n) (block (pile m n) a) ≡ worn m (block m a) = ap (worn (pile m n)) of_left ∙ worn_left (block m a) within in
        rw (inside, in_first, s, g, cell_left a h, w) (or_cond (bars_beside n) (bars m (block m a)) _ _)

  module _ (a : ℕ) (h : size m ≤ a) where
    outer : leb (size (pile m n)) a ≡ nat_le (size n) (a - size m)
    outer = ap (λ (k : ℕ). leb k a) size_both ∙ grind (arith, nat_tests)

    of_right : block (pile m n) a ≡ count m + block n (a - size m)
    of_right =
        block_right m.sizes n.sizes a (omega (arith, lm.whole))
        ∙ ap (λ (k : ℕ). count m + block n (a - k)) lm.whole

    pub peek_right : peek_no (pile m n) a
        ≡ cond (not (nat_le (size n) (a - size m)) && hides_beside m) (Some ErasureInTheWay) (peek_no n (a - size m))
    peek_right =
        let b = block n (a - size m) in
        let s : hides (pile m n) (block (pile m n) a) ≡ (hides_beside m || hides n b) =
        ap (hides (pile m n)) of_right ∙ hides_right m n o lm b in
        rw (outer, s) (later_or (nat_le (size n) (a - size m)) (hides_beside m) (hides n b) _ _ _)

    pub burn_right : (byte : ℕ) → burn_no (pile m n) a byte
        ≡ cond (not (nat_le (size n) (a - size m)) && bars_beside m) (Some ErasureInTheWay) (burn_no n (a - size m) byte)
    burn_right byte =
        let b = block n (a - size m) in
        let s : bars (pile m n) (block (pile m n) a) ≡ (bars_beside m || bars n b) =
        ap (bars (pile m n)) of_right ∙ bars_right m n o b in
        let g : guarded (pile m n) (block (pile m n) a) ≡ guarded n b =
        ap (guarded (pile m n)) of_right ∙ guarded_right (count m + b) (omega arith) ∙ ap (guarded n) (omega arith) in
        let w : worn (pile m n) (block (pile m n) a) ≡ worn n b = ap (worn (pile m n)) of_right ∙ worn_right b in
        rw (outer, s, g, cell_right a h, w) (later_or (nat_le (size n) (a - size m)) (bars_beside m) (bars n b) _ _ _)

  pub begin_left : (b : ℕ) → b < count m
      → begin_no (pile m n) b ≡ cond (stands n) (Some ErasureInTheWay) (begin_no m b)
  begin_left b h =
      let i : leb (count (pile m n)) b ≡ false = lt-leb _ b (omega (arith, count_both)) in
      rw (i, lt-leb (count m) b h, stand, guarded_left b h) (cond_or (stands m) (stands n) _ _)

  pub begin_right : (b : ℕ) → count m ≤ b → begin_no (pile m n) b
      ≡ cond (not (nat_le (count n) (b - count m)) && stands m) (Some ErasureInTheWay) (begin_no n (b - count m))
  begin_right b h =
      let i : leb (count (pile m n)) b ≡ leb (count n) (b - count m) = ap (λ (k : ℕ). leb k b) count_both ∙ grind (arith, nat_tests) in
      rw (i, stand, guarded_right b h) (later_or (nat_le (count n) (b - count m)) (stands m) (stands n) _ _ _)
