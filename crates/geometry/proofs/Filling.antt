-- What filling some blocks does to each cell.
use Rattle.std.proofs.Common.{◌≡◌, ℕ, suc, ◌+◌, ◌-◌, ◌<◌, min, Bool, true, false, cond, ◌&&◌, eqb, ltb, leb, List, [], ◌∷◌, ◌++◌, map, length, get_or, take, drop, replicate, refl, ap, ◌∙◌, inl, inr, arith}
use Rattle.std.proofs.lemmas.List.{length-take, length-drop, length-append, length-map, get_or_append_left, get_or-append_right, get_or-take, get_or-drop, get_or-map, length-replicate, get_or-replicate}
use Rattle.std.proofs.lemmas.Bool.{lt-ltb, le-ltb, le-leb, lt-leb, eq-eqb, ne_eqb, cases_lt, cases_eq}
use Rattle.std.proofs.lemmas.Bool.Decides.{nat_tests}
use Rattle.geometry.specs.declared.set.BlockSet.{BlockSet}
use Rattle.geometry.specs.Sets.{has}
use Rattle.geometry.specs.Blocks.{start_of, block_of, filled_from, filled}
use Rattle.geometry.proofs.Placing.{stretch_is}

-- A stretch from `from` on, `width` cells long, that is set to v as far as there are cells: s and e are where it begins and ends there.
pub stretch_set : (xs : List ℕ) (from width v s e k : ℕ) → s ≡ min from (length xs) → e ≡ min (s + width) (length xs) → k < length xs
    → get_or (take s xs ++ (replicate (e - s) v ++ drop (e - s) (drop s xs))) k 0 ≡ cond (leb from k && ltb k (from + width)) v (get_or xs k 0)
stretch_set xs from width v s e k hs he hk =
    let before : List ℕ = take s xs in
    let here : List ℕ = replicate (e - s) v in
    let after : List ℕ = drop (e - s) (drop s xs) in
    let long : length before ≡ s = length-take s xs ∙ omega arith in
    elim (cases_lt k s) [
      | inl l ↦
          let a : get_or (before ++ (here ++ after)) k 0 ≡ get_or xs k 0 = get_or_append_left before (here ++ after) 0 k (omega arith) ∙ get_or-take s xs k 0 l in
          let low : leb from k ≡ false = lt-leb from k (omega arith) in
          rw (a, low)
      | inr l ↦
          let a : get_or (before ++ (here ++ after)) k 0 ≡ get_or (here ++ after) (k - s) 0 = get_or-append_right before (here ++ after) s k 0 long l in
          let low : leb from k ≡ true = le-leb from k (omega arith) in
          elim (cases_lt k e) [
            | inl m ↦
                let b : get_or (here ++ after) (k - s) 0 ≡ get_or here (k - s) 0 = get_or_append_left here after 0 (k - s) (simp length-replicate (omega arith)) in
                let c : get_or here (k - s) 0 ≡ v = get_or-replicate (e - s) (k - s) v 0 (omega arith) in
                let high : ltb k (from + width) ≡ true = lt-ltb k (from + width) (omega arith) in
                rw (a, b, c, low, high)
            | inr m ↦
                let b : get_or (here ++ after) (k - s) 0 ≡ get_or after (k - s - (e - s)) 0 = get_or-append_right here after (e - s) (k - s) 0 (length-replicate (e - s) v) (omega arith) in
                let c : get_or after (k - s - (e - s)) 0 ≡ get_or xs k 0 =
                get_or-drop (e - s) (drop s xs) (k - s - (e - s)) 0
                ∙ get_or-drop s xs (e - s + (k - s - (e - s))) 0 ∙ ap (λ (i : ℕ). get_or xs i 0) (omega arith) in
                let high : ltb k (from + width) ≡ false = le-ltb k (from + width) (omega arith) in
                rw (a, b, c, low, high)
          ]
    ]

-- one block, filled or left as it is
abbrev stretch : Bool → ℕ → List ℕ → List ℕ
stretch t v xs = cond t (map (λ _. v) xs) xs

length_stretch : (t : Bool) (v : ℕ) (xs : List ℕ) → length (stretch t v xs) ≡ length xs
length_stretch true v xs = length-map xs (λ _. v)
length_stretch false v xs = refl

get_or_stretch : (t : Bool) (v : ℕ) (xs : List ℕ) (k : ℕ) → k < length xs → get_or (stretch t v xs) k 0 ≡ cond t v (get_or xs k 0)
get_or_stretch true v xs k h = get_or-map (λ _. v) xs k 0 0 h
get_or_stretch false v xs k h = refl

-- Filling the blocks of a mask, cell by cell: a cell's block decides.
filled_from_at : (sizes : List ℕ) (first : ℕ) (set : BlockSet) (v : ℕ) (cells : List ℕ) (k : ℕ) → k < length cells
    → get_or (filled_from first sizes set v cells) k 0
    ≡ cond (ltb (block_of sizes k) (length sizes) && has set (first + block_of sizes k)) v (get_or cells k 0)
filled_from_at [] first set v cells k h = refl
filled_from_at (w ∷ ws) first set v cells k h =
    let here : List ℕ = stretch (has set first) v (take w cells) in
    let rest : List ℕ = filled_from (first + 1) ws set v (drop w cells) in
    let long : length here ≡ min w (length cells) = length_stretch (has set first) v (take w cells) ∙ length-take w cells in
    elim (cases_lt k w) [
      | inl l ↦
          let a : get_or (here ++ rest) k 0 ≡ get_or here k 0 = get_or_append_left here rest 0 k (omega arith) in
          let b : get_or here k 0 ≡ cond (has set first) v (get_or (take w cells) k 0) = get_or_stretch (has set first) v (take w cells) k (simp length-take (omega arith)) in
          let c : get_or (take w cells) k 0 ≡ get_or cells k 0 = get_or-take w cells k 0 l in
          let z : first + 0 ≡ first = omega arith in
          let t : ltb 0 (suc (length ws)) ≡ true = lt-ltb 0 (suc (length ws)) (omega arith) in
          rw (a, b, c, lt-ltb k w l, z, t)
      | inr l ↦
          let a : get_or (here ++ rest) k 0 ≡ get_or rest (k - w) 0 = get_or-append_right here rest w k 0 (omega arith) l in
          let b = filled_from_at ws (first + 1) set v (drop w cells) (k - w) (simp length-drop (omega arith)) in
          let c : get_or (drop w cells) (k - w) 0 ≡ get_or cells k 0 = get_or-drop w cells (k - w) 0 ∙ ap (λ (i : ℕ). get_or cells i 0) (omega arith) in
          let z : first + 1 + block_of ws (k - w) ≡ first + (1 + block_of ws (k - w)) = omega arith in
          let t : ltb (1 + block_of ws (k - w)) (suc (length ws)) ≡ ltb (block_of ws (k - w)) (length ws) = grind (arith, nat_tests) in
          rw (a, b, c, le-ltb k w l, z, t)
    ]

length_filled_from : (sizes : List ℕ) (first : ℕ) (set : BlockSet) (v : ℕ) (cells : List ℕ) → length (filled_from first sizes set v cells) ≡ length cells
length_filled_from [] first set v cells = refl
length_filled_from (w ∷ ws) first set v cells =
    let here : List ℕ = stretch (has set first) v (take w cells) in
    let rest : List ℕ = filled_from (first + 1) ws set v (drop w cells) in
    let a : length (here ++ rest) ≡ length here + length rest = length-append here rest in
    let b : length here ≡ min w (length cells) = length_stretch (has set first) v (take w cells) ∙ length-take w cells in
    let c : length rest ≡ length cells - w = length_filled_from ws (first + 1) set v (drop w cells) ∙ length-drop w cells in
    omega arith

-- A cell is set where its block is one of the set, and stays in every other block.
pub filled_at : (sizes : List ℕ) (set : BlockSet) (v : ℕ) (cells : List ℕ) (k : ℕ) → k < length cells
    → get_or (filled sizes set v cells) k 0 ≡ cond (ltb (block_of sizes k) (length sizes) && has set (block_of sizes k)) v (get_or cells k 0)
unfolding filled
filled_at sizes set v cells k h =
    let z : 0 + block_of sizes k ≡ block_of sizes k = omega arith in
    rw z at (filled_from_at sizes 0 set v cells k h)

pub length_filled : (sizes : List ℕ) (set : BlockSet) (v : ℕ) (cells : List ℕ) → length (filled sizes set v cells) ≡ length cells
unfolding filled
length_filled sizes set v cells = length_filled_from sizes 0 set v cells

-- The loop over the blocks: those below b are done.
pub filled_none : (sizes : List ℕ) (set : BlockSet) (v k x : ℕ) → x ≡ cond (ltb (block_of sizes k) 0 && has set (block_of sizes k)) v x
filled_none sizes set v k x = let t : ltb (block_of sizes k) 0 ≡ false = le-ltb _ 0 (omega arith) in rw t

-- Block b is not of the set, and so nothing changes.
pub filled_skip : (sizes : List ℕ) (set : BlockSet) (v b k x y : ℕ) → has set b ≡ false
    → y ≡ cond (ltb (block_of sizes k) b && has set (block_of sizes k)) v x
    → y ≡ cond (ltb (block_of sizes k) (b + 1) && has set (block_of sizes k)) v x
filled_skip sizes set v b k x y n e =
    elim (cases_eq (block_of sizes k) b) [
      | inl s ↦
          let m : has set (block_of sizes k) ≡ false = rw s n in
          let p : ltb (block_of sizes k) b ≡ false = le-ltb _ b (omega arith) in
          let q : ltb (block_of sizes k) (b + 1) ≡ true = lt-ltb _ (b + 1) (omega arith) in
          rw (q, m) (rw p at e)
      | inr s ↦ let q : ltb (block_of sizes k) (b + 1) ≡ ltb (block_of sizes k) b = grind (arith, nat_tests) in rw q e
    ]

-- Block b is of the set, and its stretch of cells is set.
pub filled_more : (sizes : List ℕ) (set : BlockSet) (v b k x y z : ℕ) → b < length sizes → has set b ≡ true
    → y ≡ cond (ltb (block_of sizes k) b && has set (block_of sizes k)) v x
    → z ≡ cond (leb (start_of sizes b) k && ltb k (start_of sizes b + get_or sizes b 0)) v y
    → z ≡ cond (ltb (block_of sizes k) (b + 1) && has set (block_of sizes k)) v x
filled_more sizes set v b k x y z l t e f =
    let g : z ≡ cond (eqb (block_of sizes k) b) v y = rw (stretch_is sizes k b l) at f in
    elim (cases_eq (block_of sizes k) b) [
      | inl s ↦
          let m : has set (block_of sizes k) ≡ true = rw s t in
          let q : ltb (block_of sizes k) (b + 1) ≡ true = lt-ltb _ (b + 1) (omega arith) in
          rw (q, m) (rw (eq-eqb _ _ s) at g)
      | inr s ↦
          let q : ltb (block_of sizes k) (b + 1) ≡ ltb (block_of sizes k) b = grind (arith, nat_tests) in
          rw q (rw (ne_eqb _ _ s) at g ∙ e)
    ]
