-- The laws of a part.
use Rattle.std.proofs.Common.{◌≡◌, ℕ, ◌+◌, ◌-◌, ◌<◌, ◌≤◌, Bool, true, false, cond, eqb, ltb, leb, List, [], ◌∷◌, length, get_or, set, Some, None, Option, is_some, sym, refl, ap, ◌∙◌, subst, inl, inr, arith}
use Rattle.std.proofs.lemmas.List.{length-set, get_or_past, get_or-set_same, get_or-set_other}
use Rattle.std.proofs.lemmas.Bool.{lt-ltb, le-ltb, ltb-true, ne_eqb, cases_lt, cases_Bool, cases_eq, cond-true, cond-false, cond_both, both_ways, true≢false}
use Rattle.fault.specs.declared.cause.Cause.{Cause}
use Rattle.fault.specs.Causes.{number_of}
use Rattle.geometry.specs.Blocks.{block_of}
use Rattle.geometry.proofs.Wiping.{wiped_at, length_wiped}
use Rattle.part.specs.declared.answers.Progress.TheVariants.{Running}
use Rattle.part.specs.declared.answers.Turn.{Turn}
use Rattle.part.specs.declared.answers.Turn.TheVariants.{Done, Nothing}
use Rattle.part.specs.Meaning.{Erasure, Meaning, size, count, cell, block, guarded, worn, with_cells, with_erasure, ticked, ErasureLawful, Lawful}
use Rattle.part.specs.Calls.{longest, longest_burn, longest_hold, stands, bars, burn_no, begin_no, Took, Refused, BurntBy, Burnt, BegunBy, turned, can_hold, HeldBy, Held, gone_on, erased, run_on, passed, progress, after_pass}
use Rattle.part.specs.Laws.{Call, look, burn, begin, hold, go_on, pass, Made, Run, none, more, spares, AllSpare, SameBlocks, PartLaws}
use Rattle.part.proofs.Clocks.{ticked_more}
use Rattle.part.proofs.Granting.{burnable, erasable}
use Rattle.part.proofs.Standings.{bars_own}

same_blocks : (m n : Meaning) → n ≡ m → SameBlocks m n
same_blocks m n e = record {
  sizes = ap (λ (x : Meaning). x.sizes) e;
  guards = ap (λ (x : Meaning). x.guards) e;
  wears = ap (λ (x : Meaning). x.wears) e;
  size = ap size e;
}

-- The end of an erasure leaves the cells of every other block, and of a worn one.
erased_length : (m : Meaning) (b : ℕ) → length (erased m b) ≡ length m.cells
erased_length m b =
    cond_both (worn m b) _ _ (λ (c : List ℕ). length c ≡ length m.cells) (λ _. refl) (λ _. length_wiped m.sizes b 0xFF m.cells)

erased_other : (m : Meaning) (b a : ℕ) → b < count m → a < size m → (b ≡ block m a → ⊥) → get_or (erased m b) a 0 ≡ cell m a
erased_other m b a l h n =
    cond_both (worn m b) _ _ (λ (c : List ℕ). get_or c a 0 ≡ cell m a) (λ _. refl)
    (λ _. wiped_at m.sizes b 0xFF m.cells a l h ∙ cond-false (eqb (block m a) b) _ _ (ne_eqb _ _ (λ e. n (sym e))))

erased_worn : (m : Meaning) (b a : ℕ) → b < count m → a < size m → worn m (block m a) ≡ true → get_or (erased m b) a 0 ≡ cell m a
erased_worn m b a l h w =
    elim (cases_eq b (block m a)) [
      | inl e ↦ ap (λ (c : List ℕ). get_or c a 0) (cond-true (worn m b) _ _ (ap (worn m) e ∙ w))
      | inr n ↦ erased_other m b a l h n
    ]

-- Time: what it does to one cell, and what it leaves.
pub record Kept (m n : Meaning) (a : ℕ) : Type 0 where
  pub blocks : SameBlocks m n
  pub same : cell n a ≡ cell m a

run_kept : (m : Meaning) (n a : ℕ) (o : Option Erasure)
    → ((e : Erasure) → o ≡ Some e → get_or (erased m e.block) a 0 ≡ cell m a) → Kept m (run_on m n o) a
run_kept m n a None k = record { blocks = same_blocks m m refl; same = refl }
run_kept m n a (Some e) k =
    cond_both e.running _ _ (λ (x : Meaning). Kept m x a)
    (λ _. cond_both (ltb n e.left) _ _ (λ (x : Meaning). Kept m x a)
    (λ _. record { blocks = record { sizes = refl; guards = refl; wears = refl; size = refl }; same = refl })
    (λ _. record { blocks = record { sizes = refl; guards = refl; wears = refl; size = erased_length m e.block }; same = k e refl }))
    (λ _. record { blocks = same_blocks m m refl; same = refl })

-- A call, by what it does.
module _ (m : Meaning) (a : ℕ)
    (ended : (e : Erasure) → m.erasure ≡ Some e → get_or (erased m e.block) a 0 ≡ cell m a) where
  took_kept : (least most : ℕ) (x n : Meaning) → Took least most x n → Kept m x a → Kept m n a
  took_kept least most x n t k = subst (λ (y : Meaning). Kept m y a) (sym t.is) (record { blocks = record { sizes = k.blocks.sizes; guards = k.blocks.guards; wears = k.blocks.wears; size = k.blocks.size }; same = k.same })

  itself : Kept m m a
  itself = record { blocks = same_blocks m m refl; same = refl }

  refused_kept : (t : Bool) (n : Meaning) → Refused t m n → Kept m n a
  refused_kept true n r = took_kept 0 longest_burn m n r itself
  refused_kept false n r = subst (λ (y : Meaning). Kept m y a) (sym r) itself

  burnt_kept : (o : Option Cause) (x byte : ℕ) (n : Meaning) → (o ≡ None → x ≡ a → ⊥) → BurntBy m x byte o n → Kept m n a
  burnt_kept None x byte n s t =
      took_kept 1 longest_burn (with_cells m (set m.cells x byte)) n t
      (record {
        blocks = record { sizes = refl; guards = refl; wears = refl; size = length-set m.cells x byte };
        same = get_or-set_other m.cells x a byte 0 (λ e. s refl (sym e));
      })
  burnt_kept (Some c) x byte n s t = refused_kept (eqb (number_of c) 8) n t

  begun_kept : (o : Option Cause) (b : ℕ) (n : Meaning) → BegunBy m b o n → Kept m n a
  begun_kept None b n t = subst (λ (y : Meaning). Kept m y a) (sym t.is) (record { blocks = record { sizes = refl; guards = refl; wears = refl; size = refl }; same = refl })
  begun_kept (Some c) b n t = subst (λ (y : Meaning). Kept m y a) (sym t) itself

  held_kept : (t : Turn) (n : Meaning) → HeldBy m t n → Kept m n a
  held_kept Done n t = took_kept 0 longest_hold (with_erasure m (turned false m.erasure)) n t (record { blocks = record { sizes = refl; guards = refl; wears = refl; size = refl }; same = refl })
  held_kept Nothing n t = subst (λ (y : Meaning). Kept m y a) (sym t) itself

  passed_kept : (n : ℕ) → Kept m (after_pass m n) a
  passed_kept n =
      cond_both (leb n longest) _ _ (λ (y : Meaning). Kept m y a)
      (λ _. let k = run_kept m n a m.erasure ended in
      record { blocks = record { sizes = k.blocks.sizes; guards = k.blocks.guards; wears = k.blocks.wears; size = k.blocks.size }; same = k.same })
      (λ _. itself)

  -- Every call leaves the cell, unless it is burnt, or its block's erasure ends.
  call_kept : (c : Call) (n : Meaning) → ((x byte : ℕ) → c ≡ burn x byte → burn_no m x byte ≡ None → x ≡ a → ⊥) → Made m c n → Kept m n a
  call_kept look n s d = subst (λ (y : Meaning). Kept m y a) (sym d) itself
  call_kept (burn x byte) n s d = burnt_kept (burn_no m x byte) x byte n (s x byte refl) d
  call_kept (begin b) n s d = begun_kept (begin_no m b) b n d
  call_kept hold n s d = held_kept (can_hold m.erasure) n d
  call_kept go_on n s d = subst (λ (y : Meaning). Kept m y a) (sym d) (record { blocks = record { sizes = refl; guards = refl; wears = refl; size = refl }; same = refl })
  call_kept (pass k) n s d = subst (λ (y : Meaning). Kept m y a) (sym d) (passed_kept k)

-- What a call leaves of the erasure: the block that stands is the one that stood, or the one that was begun.
abbrev On : (ℕ → Type 0) → Option Erasure → Type 0
On P None = Unit {0}
On P (Some e) = P e.block × (1 ≤ e.left)

turned_on : (P : ℕ → Type 0) (r : Bool) (o : Option Erasure) → On P o → On P (turned r o)
turned_on P r None p = tt
turned_on P r (Some e) p = p

run_erasure : (P : ℕ → Type 0) (m : Meaning) (n : ℕ) (o : Option Erasure) → m.erasure ≡ o → On P o → On P (run_on m n o).erasure
run_erasure P m n None e p = subst (On P) (sym e) tt
run_erasure P m n (Some x) e p =
    cond_both x.running _ _ (λ (y : Meaning). On P y.erasure)
    (λ _. cond_both (ltb n x.left) _ _ (λ (y : Meaning). On P y.erasure) (λ l. (p.0, omega (arith, ltb-true n x.left l))) (λ _. tt))
    (λ _. subst (On P) (sym e) p)

module _ (m : Meaning) (P : ℕ → Type 0) (p : On P m.erasure) where
  took_on : (least most : ℕ) (x n : Meaning) → Took least most x n → On P x.erasure → On P n.erasure
  took_on least most x n t q = subst (λ (y : Meaning). On P y.erasure) (sym t.is) q

  refused_on : (t : Bool) (n : Meaning) → Refused t m n → On P n.erasure
  refused_on true n r = took_on 0 longest_burn m n r p
  refused_on false n r = subst (λ (y : Meaning). On P y.erasure) (sym r) p

  burnt_on : (o : Option Cause) (x byte : ℕ) (n : Meaning) → BurntBy m x byte o n → On P n.erasure
  burnt_on None x byte n t = took_on 1 longest_burn (with_cells m (set m.cells x byte)) n t p
  burnt_on (Some c) x byte n t = refused_on (eqb (number_of c) 8) n t

  begun_on : (o : Option Cause) (b : ℕ) (n : Meaning) → (o ≡ None → P b) → BegunBy m b o n → On P n.erasure
  begun_on None b n s t = subst (λ (y : Meaning). On P y.erasure) (sym t.is) (s refl, t.low)
  begun_on (Some c) b n s t = subst (λ (y : Meaning). On P y.erasure) (sym t) p

  held_on : (t : Turn) (n : Meaning) → HeldBy m t n → On P n.erasure
  held_on Done n t = took_on 0 longest_hold (with_erasure m (turned false m.erasure)) n t (turned_on P false m.erasure p)
  held_on Nothing n t = subst (λ (y : Meaning). On P y.erasure) (sym t) p

  call_on : (c : Call) (n : Meaning) → ((b : ℕ) → c ≡ begin b → begin_no m b ≡ None → P b) → Made m c n → On P n.erasure
  call_on look n s d = subst (λ (y : Meaning). On P y.erasure) (sym d) p
  call_on (burn x byte) n s d = burnt_on (burn_no m x byte) x byte n d
  call_on (begin b) n s d = begun_on (begin_no m b) b n (s b refl) d
  call_on hold n s d = held_on (can_hold m.erasure) n d
  call_on go_on n s d = subst (λ (y : Meaning). On P y.erasure) (sym d) (turned_on P true m.erasure p)
  call_on (pass k) n s d =
      subst (λ (y : Meaning). On P y.erasure) (sym d)
      (cond_both (leb k longest) _ _ (λ (y : Meaning). On P y.erasure) (λ _. run_erasure P m k m.erasure refl p) (λ _. p))

blocks_trans : (m k n : Meaning) → SameBlocks m k → SameBlocks k n → SameBlocks m n
blocks_trans m k n p q = record { sizes = q.sizes ∙ p.sizes; guards = q.guards ∙ p.guards; wears = q.wears ∙ p.wears; size = q.size ∙ p.size }

abbrev All : (Call → Type 0) → List Call → Type 0
All Fine [] = Unit {0}
All Fine (c ∷ cs) = Fine c × All Fine cs

-- A run of calls leaves a cell, where no erasure that may end touches it, no burn that is accepted is at it, and every erasure that is begun is
-- again such a one.
module _ (m : Meaning) (a : ℕ) (P : ℕ → Type 0) (Fine : Call → Type 0)
    (safe : (k : Meaning) → SameBlocks m k → (e : Erasure) → P e.block → get_or (erased k e.block) a 0 ≡ cell k a)
    (burns : (k : Meaning) → SameBlocks m k → (x byte : ℕ) → Fine (burn x byte) → burn_no k x byte ≡ None → x ≡ a → ⊥)
    (begins : (k : Meaning) → SameBlocks m k → (b : ℕ) → Fine (begin b) → begin_no k b ≡ None → P b) where
  on_block : (o : Option Erasure) (e : Erasure) → On P o → o ≡ Some e → P e.block
  on_block None e p d = let z : ◌≡◌ {A = ℕ} 0 1 = cc in absurd (omega arith)
  on_block (Some x) e p d = let same : x ≡ e = cc in subst (λ (y : Erasure). P y.block) same p.0

  run_keeps : (k n : Meaning) (cs : List Call) → Run k cs n → All Fine cs → SameBlocks m k → On P k.erasure → (v : ℕ) → cell k a ≡ v → cell n a ≡ v
  run_keeps k n cs (none x) f l p v e = e
  run_keeps k n cs (more {k = j} {c = c} {cs = rest} d r) f l p v e =
      let one = call_kept k a (λ x y. safe k l x (on_block k.erasure x p y)) c j
      (λ x byte i q. burns k l x byte (subst Fine i f.0) q) d in
      let on = call_on k P p c j (λ b i q. begins k l b (subst Fine i f.0) q) d in
      run_keeps j n rest r f.1 (blocks_trans m k j l one.blocks) on v (one.same ∙ e)

-- The laws.
fixed : (m n : Meaning) (cs : List Call) → Run m cs n → SameBlocks m n
fixed m n cs (none x) = same_blocks m m refl
fixed m n cs (more {k = k} {c = c} {cs = rest} d r) = blocks_trans m k n one.blocks (fixed k n rest r)
  where
    -- every call leaves the cell behind the last, which there is not
    one : Kept m k (size m)
    one =
        call_kept m (size m)
        (λ e q. get_or_past (erased m e.block) (size m) 0 (omega (arith, erased_length m e.block)) ∙ sym (get_or_past m.cells (size m) 0 (omega arith)))
        c k (λ x byte i q l. absurd (omega (arith, (burnable m x byte q).within))) d

nothing_stands : (o : Option Erasure) (P : ℕ → Type 0) → is_some o ≡ false → On P o
nothing_stands None P e = tt
nothing_stands (Some x) P e = absurd (true≢false e)

same_block : (m k : Meaning) (a : ℕ) → SameBlocks m k → block k a ≡ block m a
same_block m k a l = ap (λ (s : List ℕ). block_of s a) l.sizes

lasts : (m k n : Meaning) (a byte : ℕ) (cs : List Call) → Lawful m → burn_no m a byte ≡ None → Burnt m a byte k
    → Run k cs n → AllSpare a (block m a) cs → cell n a ≡ byte
lasts m k n a byte cs w free t r f =
    let g = burnable m a byte free in
    let took : Took 1 longest_burn (with_cells m (set m.cells a byte)) k = subst (λ (o : Option Cause). BurntBy m a byte o k) free t in
    let x : Meaning = with_cells m (set m.cells a byte) in
    let sizes : k.sizes ≡ m.sizes = ap (λ (y : Meaning). y.sizes) took.is in
    let long : size k ≡ size m = ap (λ (y : Meaning). size y) took.is ∙ length-set m.cells a byte in
    let P : ℕ → Type 0 = λ b. (b < count m) × (b ≡ block m a → ⊥) in
    run_keeps k a P (spares a (block m a))
    (λ j l e p. erased_other j e.block a (omega (arith, p.0, ap length (l.sizes ∙ sizes))) (omega (arith, g.within, long, l.size))
    (λ q. p.1 (q ∙ same_block k j a l ∙ ap (λ (s : List ℕ). block_of s a) sizes)))
    (λ j l y z q d. q)
    (λ j l b q d. (omega (arith, (erasable j b d).within, ap length (l.sizes ∙ sizes)), q))
    k n cs r f (same_blocks k k refl)
    (subst (On P) (sym (ap (λ (y : Meaning). y.erasure) took.is)) (first m.erasure refl w.erasure)) byte
    (ap (λ (y : Meaning). cell y a) took.is ∙ get_or-set_same m.cells a byte 0 g.within)
  where
    -- the erasure that stands, if any, is of another block, since it would bar its own
    first : (o : Option Erasure) → m.erasure ≡ o → ErasureLawful (count m) o → On (λ b. (b < count m) × (b ≡ block m a → ⊥)) o
    first None d l = tt
    first (Some e) d l = ((l.0, λ q. both_ways _ (ap (bars m) q ∙ (burnable m a byte free).free) (bars_own m e d)), l.1)

all_fine : (cs : List Call) → All (λ _. Unit {0}) cs
all_fine [] = tt
all_fine (c ∷ cs) = (tt, all_fine cs)

guarded_kept : (m n : Meaning) (cs : List Call) → Lawful m → stands m ≡ false → Run m cs n
    → (a : ℕ) → a < size m → guarded m (block m a) ≡ true → cell n a ≡ cell m a
guarded_kept m n cs w s r a h g =
    let P : ℕ → Type 0 = λ b. (b < count m) × (b ≡ block m a → ⊥) in
    let still_guarded : (k : Meaning) → SameBlocks m k → guarded k (block k a) ≡ true =
    λ k l. ap (λ (x : List Bool). get_or x (block k a) false) l.guards ∙ ap (guarded m) (same_block m k a l) ∙ g in
    run_keeps m a P (λ _. Unit {0})
    (λ k l e p. erased_other k e.block a (omega (arith, p.0, ap length l.sizes)) (omega (arith, h, l.size)) (λ q. p.1 (q ∙ same_block m k a l)))
    (λ k l x byte f d q. both_ways _ (ap (λ (y : ℕ). guarded k (block k y)) (sym q) ∙ (burnable k x byte d).open_block) (still_guarded k l))
    (λ k l b f d. (
      omega (arith, (erasable k b d).within, ap length l.sizes),
      λ q. both_ways _ (ap (guarded k) (same_block m k a l ∙ sym q) ∙ (erasable k b d).open_block) (still_guarded k l),
    ))
    m n cs r (all_fine cs) (same_blocks m m refl) (nothing_stands m.erasure P s) (cell m a) refl

worn_kept : (m n : Meaning) (cs : List Call) → Lawful m → Run m cs n
    → (a : ℕ) → a < size m → worn m (block m a) ≡ true → cell n a ≡ cell m a
worn_kept m n cs w r a h g =
    let P : ℕ → Type 0 = λ b. b < count m in
    let still_worn : (k : Meaning) → SameBlocks m k → worn k (block k a) ≡ true =
    λ k l. ap (λ (x : List Bool). get_or x (block k a) false) l.wears ∙ ap (worn m) (same_block m k a l) ∙ g in
    run_keeps m a P (λ _. Unit {0})
    (λ k l e p. erased_worn k e.block a (omega (arith, p, ap length l.sizes)) (omega (arith, h, l.size)) (still_worn k l))
    (λ k l x byte f d q. both_ways _ (ap (λ (y : ℕ). worn k (block k y)) (sym q) ∙ (burnable k x byte d).sound) (still_worn k l))
    (λ k l b f d. omega (arith, (erasable k b d).within, ap length l.sizes))
    m n cs r (all_fine cs) (same_blocks m m refl) (first m.erasure w.erasure) (cell m a) refl
  where
    first : (o : Option Erasure) → ErasureLawful (count m) o → On (λ b. b < count m) o
    first None l = tt
    first (Some e) l = l

not_early : (m : Meaning) (e : Erasure) (n : ℕ) → m.erasure ≡ Some e → e.running ≡ true → n < e.left → progress m n m.erasure ≡ Running
not_early m e n d r l =
    ap (progress m n) d ∙ cond-true e.running _ _ r ∙ cond-true (ltb n e.left) _ _ (lt-ltb n e.left l)

there_and_back : (o : Option Erasure) → can_hold o ≡ Done → turned true (turned false o) ≡ o
there_and_back None e = refl
there_and_back (Some x) e = by x.running refl e
  where
    by : (t : Bool) → x.running ≡ t → cond t Done Nothing ≡ Done → Some (record x { running = true }) ≡ Some x
    by true d e = ap (λ (t : Bool). Some (record x { running = t })) (sym d)
    by false d e = let z : ◌≡◌ {A = ℕ} 0 1 = cc in absurd (omega arith)

held_and_gone : (m n : Meaning) → can_hold m.erasure ≡ Done → Held m n → (t : ℕ) × (t ≤ longest_hold) × (gone_on n ≡ ticked m t)
held_and_gone m n e h =
    let took : Took 0 longest_hold (with_erasure m (turned false m.erasure)) n = subst (λ (t : Turn). HeldBy m t n) e h in (
      took.time,
      took.high,
      ap gone_on took.is ∙ ap (λ (o : Option Erasure). ticked (with_erasure m o) took.time) (there_and_back m.erasure e),
    )

-- Time after time.
run_ticked : (x : Meaning) (a n : ℕ) (o : Option Erasure) → run_on (ticked x a) n o ≡ ticked (run_on x n o) a
run_ticked x a n None = refl
run_ticked x a n (Some e) = by e.running (ltb n e.left)
  where
    by : (r l : Bool) → cond r (cond l (with_erasure (ticked x a) (Some (record e { left = e.left - n }))) (with_erasure (with_cells (ticked x a) (erased x e.block)) None)) (ticked x a)
        ≡ ticked (cond r (cond l (with_erasure x (Some (record e { left = e.left - n }))) (with_erasure (with_cells x (erased x e.block)) None)) x) a
    by true true = refl
    by true false = refl
    by false l = refl

run_twice : (m : Meaning) (a b : ℕ) (o : Option Erasure) → m.erasure ≡ o
    → run_on (run_on m a o) b (run_on m a o).erasure ≡ run_on m (a + b) o
run_twice m a b None d = ap (run_on m b) d
run_twice m a b (Some e) d =
    elim (cases_Bool e.running) [
      | inr r ↦
          let still : (n : ℕ) → run_on m n (Some e) ≡ m = λ n. cond-false e.running _ _ r in
          ap (λ (x : Meaning). run_on x b x.erasure) (still a) ∙ ap (run_on m b) d ∙ still b ∙ sym (still (a + b))
      | inl r ↦ elim (cases_lt a e.left) [
        | inl l ↦
            let x : Erasure = record e { left = e.left - a } in
            let first : run_on m a (Some e) ≡ with_erasure m (Some x) = cond-true e.running _ _ r ∙ cond-true (ltb a e.left) _ _ (lt-ltb a e.left l) in
            ap (λ (y : Meaning). run_on y b y.erasure) first ∙ second l x refl r
        | inr l ↦
            let first : run_on m a (Some e) ≡ with_erasure (with_cells m (erased m e.block)) None =
            cond-true e.running _ _ r ∙ cond-false (ltb a e.left) _ _ (le-ltb a e.left l) in
            ap (λ (y : Meaning). run_on y b y.erasure) first
            ∙ sym (cond-true e.running _ _ r ∙ cond-false (ltb (a + b) e.left) _ _ (le-ltb (a + b) e.left (omega arith)))
      ]
    ]
  where
    second : a < e.left → (x : Erasure) → x ≡ record e { left = e.left - a } → e.running ≡ true
        → run_on (with_erasure m (Some x)) b (Some x) ≡ run_on m (a + b) (Some e)
    second l x i r =
        subst (λ (y : Erasure). run_on (with_erasure m (Some y)) b (Some y) ≡ run_on m (a + b) (Some e)) (sym i)
        (elim (cases_lt b (e.left - a)) [
          | inl k ↦
              let n : e.left - a - b ≡ e.left - (a + b) = omega arith in
              cond-true e.running _ _ r ∙ cond-true (ltb b (e.left - a)) _ _ (lt-ltb b (e.left - a) k)
              ∙ ap (λ (w : ℕ). with_erasure m (Some (record e { left = w }))) n
              ∙ sym (cond-true e.running _ _ r ∙ cond-true (ltb (a + b) e.left) _ _ (lt-ltb (a + b) e.left (omega arith)))
          | inr k ↦
              cond-true e.running _ _ r ∙ cond-false (ltb b (e.left - a)) _ _ (le-ltb b (e.left - a) k)
              ∙ sym (cond-true e.running _ _ r ∙ cond-false (ltb (a + b) e.left) _ _ (le-ltb (a + b) e.left (omega arith)))
        ])

pub passed_add : (m : Meaning) (a b : ℕ) → passed (passed m a) b ≡ passed m (a + b)
passed_add m a b =
    let x : Meaning = run_on m a m.erasure in
    ap (λ (y : Meaning). ticked y b) (run_ticked x a b x.erasure)
    ∙ ticked_more (run_on x b x.erasure) a b
    ∙ ap (λ (y : Meaning). ticked y (a + b)) (run_twice m a b m.erasure refl)

passes_add : (m : Meaning) (a b : ℕ) → Lawful m → leb a longest ≡ true → leb b longest ≡ true → leb (a + b) longest ≡ true
    → after_pass (after_pass m a) b ≡ after_pass m (a + b)
passes_add m a b w p q r =
    cond-true (leb b longest) _ _ q ∙ ap (λ (y : Meaning). passed y b) (cond-true (leb a longest) _ _ p)
    ∙ passed_add m a b ∙ sym (cond-true (leb (a + b) longest) _ _ r)

pub part_laws : PartLaws
part_laws = record {
  lasts = lasts;
  guarded_kept = guarded_kept;
  worn_kept = worn_kept;
  fixed = fixed;
  not_early = not_early;
  held_and_gone = held_and_gone;
  passes_add = passes_add;
}
