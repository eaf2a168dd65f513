-- Where the blocks of a row lie, and which block an address lies in.
use Rattle.std.proofs.Common.{◌≡◌, ℕ, zero, suc, ◌+◌, ◌-◌, ◌<◌, ◌≤◌, Bool, true, false, ◌&&◌, eqb, ltb, leb, List, [], ◌∷◌, length, get_or, sym, refl, ap, ◌∙◌, inl, inr, add-one, arith}
use Rattle.std.specs.List.{position_or_len, position}
use Rattle.std.specs.Option.{unwrap_or}
use Rattle.std.proofs.lemmas.List.{length-map, get_or-map}
use Rattle.std.proofs.lemmas.Bool.{lt-ltb, le-ltb, cases_lt, and_parts, eqb-true, false≢true, cond_both, cases_eq, cases_Bool, eq-eqb, ne_eqb, le-leb, leb-true, ltb-true}
use Rattle.geometry.specs.declared.block.Block.{Block}
use Rattle.geometry.specs.Blocks.{total, start_of, block_of}
use Rattle.geometry.specs.Plans.{Plan, Named, dead, chips, plan_among, plan_of, starts_of, sizes_of, holds, contiguous, Contiguous, IsTable, LaidOut}
use Rattle.geometry.specs.BlockTables.{Unbroken}

-- Block b reaches from its start to its end, and holds no other address.
pub block_is : (sizes : List ℕ) (k b : ℕ) → b < length sizes → start_of sizes b ≤ k → k < start_of sizes b + get_or sizes b 0
    → block_of sizes k ≡ b
block_is [] k b l s e = absurd (omega arith)
block_is (w ∷ ws) k zero l s e = let h : k < w = omega arith in rw (lt-ltb k w h)
block_is (w ∷ ws) k (suc b) l s e =
    let h : w ≤ k = omega arith in
    let ih : block_of ws (k - w) ≡ b = block_is ws (k - w) b (omega arith) (omega arith) (omega arith) in
    rw (le-ltb k w h, ih) (omega arith)

pub in_block : (sizes : List ℕ) (k b : ℕ) → block_of sizes k ≡ b → b < length sizes
    → (start_of sizes b ≤ k) × (k < start_of sizes b + get_or sizes b 0)
in_block [] k b e l = absurd (omega arith)
in_block (w ∷ ws) k zero e l =
    elim (cases_lt k w) [ inl h ↦ (omega arith, omega arith) | inr h ↦ absurd (omega (arith, rw (le-ltb k w h) at e)) ]
in_block (w ∷ ws) k (suc b) e l =
    elim (cases_lt k w) [
      | inl h ↦ absurd (omega (arith, rw (lt-ltb k w h) at e))
      | inr h ↦
          let f : 1 + block_of ws (k - w) ≡ suc b = rw (le-ltb k w h) at e in
          let ih : (start_of ws b ≤ k - w) × (k - w < start_of ws b + get_or ws b 0) = in_block ws (k - w) b (omega arith) (omega arith) in
          (omega (arith, ih.0), omega (arith, ih.1))
    ]

-- An address below the end of the last block lies in a block, and no other address does.
pub block_within : (sizes : List ℕ) (k : ℕ) → k < total sizes → block_of sizes k < length sizes
block_within [] k h = absurd (omega arith)
block_within (w ∷ ws) k h =
    elim (cases_lt k w) [
      | inl l ↦ rw (lt-ltb k w l) (omega arith)
      | inr l ↦ rw (le-ltb k w l) (omega (arith, block_within ws (k - w) (omega arith)))
    ]

pub block_le : (sizes : List ℕ) (k : ℕ) → block_of sizes k ≤ length sizes
block_le [] k = omega arith
block_le (w ∷ ws) k =
    elim (cases_lt k w) [ inl l ↦ rw (lt-ltb k w l) (omega arith) | inr l ↦ rw (le-ltb k w l) (omega (arith, block_le ws (k - w))) ]

-- The test over a table says where each block begins, and where the last one ends.
pub table_start : (from : ℕ) (starts sizes : List ℕ) (end : ℕ) → contiguous from starts sizes end ≡ true
    → (b : ℕ) → b < length sizes → get_or starts b 0 ≡ from + start_of sizes b
table_start from [] [] end t b l = absurd (omega arith)
table_start from [] (w ∷ ws) end t b l = absurd (false≢true t)
table_start from (s ∷ ss) [] end t b l = absurd (false≢true t)
table_start from (s ∷ ss) (w ∷ ws) end t zero l =
    omega (arith, eqb-true s from (and_parts _ _ (and_parts _ _ t).0).0)
table_start from (s ∷ ss) (w ∷ ws) end t (suc b) l =
    omega (arith, table_start (from + w) ss ws end (and_parts _ _ t).1 b (omega arith))

pub table_end : (from : ℕ) (starts sizes : List ℕ) (end : ℕ) → contiguous from starts sizes end ≡ true → from + total sizes ≡ end
table_end from [] [] end t = omega (arith, eqb-true from end t)
table_end from [] (w ∷ ws) end t = absurd (false≢true t)
table_end from (s ∷ ss) [] end t = absurd (false≢true t)
table_end from (s ∷ ss) (w ∷ ws) end t = omega (arith, table_end (from + w) ss ws end (and_parts _ _ t).1)

pub start_next : (sizes : List ℕ) (b : ℕ) → b < length sizes → start_of sizes (b + 1) ≡ start_of sizes b + get_or sizes b 0
start_next [] b l = absurd (omega arith)
start_next (w ∷ ws) zero l = omega arith
start_next (w ∷ ws) (suc b) l = rw add-one (let ih = start_next ws b (omega arith) in let jh = rw add-one at ih in omega (arith, jh))

pub start_end : (sizes : List ℕ) (b : ℕ) → b + 1 ≡ length sizes → start_of sizes b + get_or sizes b 0 ≡ total sizes
start_end [] b e = absurd (omega arith)
start_end (w ∷ ws) zero e = omega (arith, none ws (omega arith))
  where
    none : (xs : List ℕ) → length xs ≡ 0 → total xs ≡ 0
    none [] e = refl
    none (x ∷ xs) e = absurd (omega arith)
start_end (w ∷ ws) (suc b) e = omega (arith, start_end ws b (omega arith))

-- What the test over a whole table means.
pub laid_out : (p : Plan) → Contiguous p → LaidOut p
laid_out p t =
    let at : (b : ℕ) → b < length p.sizes → get_or p.starts b 0 ≡ start_of p.sizes b = λ b l. omega (arith, table_start 0 p.starts p.sizes p.size t b l) in
    let end : total p.sizes ≡ p.size = omega (arith, table_end 0 p.starts p.sizes p.size t) in
    record {
      first = λ l. at 0 l;
      next = λ b l. omega (arith, at (b + 1) l, at b (omega arith), start_next p.sizes b (omega arith));
      last = λ b e. omega (arith, at b (omega arith), start_end p.sizes b e, end);
      some = λ a h.
          let l : block_of p.sizes a < length p.sizes = block_within p.sizes a (omega arith) in
          let i = in_block p.sizes a (block_of p.sizes a) refl l in
          (block_of p.sizes a, l, omega (arith, i.0, at _ l), omega (arith, i.1, at _ l));
      one = λ a b c lb lc sb eb sc ec.
          sym (block_is p.sizes a b lb (omega (arith, at b lb)) (omega (arith, at b lb)))
          ∙ block_is p.sizes a c lc (omega (arith, at c lc)) (omega (arith, at c lc));
    }

-- The first block that holds an address is the one that the address lies in.
found : (blocks : List Block) (from end a : ℕ) → contiguous from (starts_of blocks) (sizes_of blocks) end ≡ true → from ≤ a
    → position_or_len (holds a) blocks ≡ block_of (sizes_of blocks) (a - from)
found [] from end a t h = refl
found (b ∷ bs) from end a t h =
    let parts = and_parts _ _ t in
    let begins : b.start ≡ from = eqb-true b.start from (and_parts _ _ parts.0).0 in
    elim (cases_lt (a - from) b.size) [
      | inl l ↦ rw (lt-ltb (a - from) b.size l, le-leb b.start a (omega arith), lt-ltb a (b.start + b.size) (omega arith))
      | inr l ↦
          let e : a - from - b.size ≡ a - (from + b.size) = omega arith in
          rw (le-ltb (a - from) b.size l, le-ltb a (b.start + b.size) (omega arith), le-leb b.start a (omega arith), e)
          (ap (λ (n : ℕ). 1 + n) (found bs (from + b.size) end a parts.1 (omega arith)))
    ]

-- A table has a block for each size of the plan.
pub table_long : (blocks : List Block) (sizes : List ℕ) → sizes_of blocks ≡ sizes → length blocks ≡ length sizes
table_long blocks sizes w = sym (length-map blocks (λ (b : Block). b.size)) ∙ ap (λ (xs : List ℕ). length xs) w

-- The table of a plan is a row.
pub unbroken : (p : Plan) (blocks : List Block) → Contiguous p → IsTable p blocks → Unbroken blocks
unbroken p blocks t is =
    rw (is.starts, is.sizes)
    (ap (contiguous 0 p.starts p.sizes) (omega (arith, table_end 0 p.starts p.sizes p.size t)) ∙ t)

-- Block b of a row begins where the blocks before it end.
pub row_block : (blocks : List Block) (b : ℕ) (none : Block) → Unbroken blocks → b < length blocks
    → ((get_or blocks b none).start ≡ start_of (sizes_of blocks) b) × ((get_or blocks b none).size ≡ get_or (sizes_of blocks) b 0)
row_block blocks b none t h =
    let l : b < length (sizes_of blocks) = omega (arith, table_long blocks (sizes_of blocks) refl) in
    let at : get_or (starts_of blocks) b 0 ≡ start_of (sizes_of blocks) b =
    omega (arith, table_start 0 (starts_of blocks) (sizes_of blocks) (total (sizes_of blocks)) t b l) in (
      sym (get_or-map (λ (x : Block). x.start) blocks b none 0 h) ∙ at,
      sym (get_or-map (λ (x : Block). x.size) blocks b none 0 h),
    )

pub holder_is : (blocks : List Block) (a n : ℕ) → Unbroken blocks → n ≡ length blocks
    → unwrap_or (position (holds a) blocks) n ≡ block_of (sizes_of blocks) a
holder_is blocks a n t e =
    let z : a - 0 ≡ a = omega arith in
    let g : position_or_len (holds a) blocks ≡ block_of (sizes_of blocks) a = rw z at (found blocks 0 (total (sizes_of blocks)) a t (omega arith)) in
    let l : length blocks ≡ length (sizes_of blocks) = table_long blocks (sizes_of blocks) refl in
    elim (cases_lt (position_or_len (holds a) blocks) (length blocks)) [
      | inl h ↦ rw (lt-ltb (position_or_len (holds a) blocks) (length blocks) h) g
      | inr h ↦ rw (le-ltb (position_or_len (holds a) blocks) (length blocks) h) (omega (arith, block_le (sizes_of blocks) a))
    ]

-- A test that the plan of each chip passes, and that of no chip.
abbrev pub each_plan : (Plan → Bool) → List Named → Bool
each_plan test [] = test dead
each_plan test (named ∷ rest) = test named.plan && each_plan test rest

-- What each plan passes, the plan of every number passes.
plan_passes : (test : Plan → Bool) (kind : ℕ) (all : List Named) → each_plan test all ≡ true → test (plan_among kind all) ≡ true
plan_passes test kind [] t = t
plan_passes test kind (named ∷ rest) t =
    let parts = and_parts (test named.plan) (each_plan test rest) t in
    cond_both (eqb kind named.kind) named.plan (plan_among kind rest) (λ (p : Plan). test p ≡ true)
    (λ _. parts.0) (λ _. plan_passes test kind rest parts.1)

pub every_plan : (test : Plan → Bool) → each_plan test chips ≡ true → (kind : ℕ) → test (plan_of kind) ≡ true
every_plan test t kind = plan_passes test kind chips t

pub every_contiguous : (kind : ℕ) → Contiguous (plan_of kind)
every_contiguous kind = every_plan (λ (p : Plan). contiguous 0 p.starts p.sizes p.size) refl kind

pub every_laid_out : (kind : ℕ) → LaidOut (plan_of kind)
every_laid_out kind = laid_out (plan_of kind) (every_contiguous kind)

pub every_total : (kind : ℕ) → total (plan_of kind).sizes ≡ (plan_of kind).size
every_total kind = omega (arith, table_end 0 (plan_of kind).starts (plan_of kind).sizes (plan_of kind).size (every_contiguous kind))

-- an address inside the chip lies in one of its blocks
pub every_block : (kind a : ℕ) → a < (plan_of kind).size → block_of (plan_of kind).sizes a < length (plan_of kind).sizes
every_block kind a h = block_within (plan_of kind).sizes a (omega (arith, every_total kind))

pub every_few : (kind : ℕ) → length (plan_of kind).sizes ≤ 128
every_few kind = leb-true _ _ (every_plan (λ (p : Plan). leb (length p.sizes) 128) refl kind)

-- An address lies between a block's start and end just where it lies in the block.
pub stretch_is : (sizes : List ℕ) (k b : ℕ) → b < length sizes
    → (leb (start_of sizes b) k && ltb k (start_of sizes b + get_or sizes b 0)) ≡ eqb (block_of sizes k) b
stretch_is sizes k b l =
    elim (cases_eq (block_of sizes k) b) [
      | inl e ↦
          let i = in_block sizes k b e l in
          rw (le-leb _ k i.0, lt-ltb k _ i.1, eq-eqb _ _ e)
      | inr n ↦ rw (ne_eqb _ _ n) (outside n)
    ]
  where
    outside : (block_of sizes k ≡ b → ⊥) → (leb (start_of sizes b) k && ltb k (start_of sizes b + get_or sizes b 0)) ≡ false
    outside n = elim (cases_Bool (leb (start_of sizes b) k && ltb k (start_of sizes b + get_or sizes b 0))) [
      | inl y ↦
          let p = and_parts (leb (start_of sizes b) k) (ltb k (start_of sizes b + get_or sizes b 0)) y in
          absurd (n (block_is sizes k b l (leb-true _ _ p.0) (ltb-true _ _ p.1)))
      | inr y ↦ y
    ]
