-- What wiping one block does to each cell, and to two rows of blocks end to end.
use Rattle.std.proofs.Common.{◌≡◌, ℕ, zero, suc, ◌+◌, ◌-◌, ◌<◌, min, Bool, false, cond, ◌&&◌, eqb, ltb, leb, List, [], ◌∷◌, ◌++◌, map, length, get_or, take, drop, sym, refl, ap, ◌∙◌, inl, inr, arith}
use Rattle.std.proofs.lemmas.List.{length-take, length-drop, length-append, length-map, get_or_append_left, get_or-append_right, get_or-take, get_or-drop, get_or-map, append_assoc, take-append-le, drop-append-le, take-append-drop, ext_get_or}
use Rattle.std.proofs.lemmas.Bool.{lt-ltb, le-ltb, ne_eqb, cases_lt}
use Rattle.std.proofs.lemmas.Bool.Decides.{nat_tests}
use Rattle.geometry.specs.Blocks.{total, start_of, block_of, wiped}
use Rattle.geometry.proofs.Placing.{stretch_is}

pub length_wiped : (sizes : List ℕ) (b v : ℕ) (cells : List ℕ) → length (wiped sizes b v cells) ≡ length cells
length_wiped [] b v cells = refl
length_wiped (w ∷ ws) zero v cells =
    simp (length-append, length-map, length-take, length-drop) (omega arith)
length_wiped (w ∷ ws) (suc b) v cells =
    let ih = length_wiped ws b v (drop w cells) in
    simp (length-append, length-take) (omega (arith, ih, length-drop w cells))

-- A cell is set where it lies in block b, and stays everywhere else.
pub wiped_at : (sizes : List ℕ) (b v : ℕ) (cells : List ℕ) (k : ℕ) → b < length sizes → k < length cells
    → get_or (wiped sizes b v cells) k 0 ≡ cond (eqb (block_of sizes k) b) v (get_or cells k 0)
wiped_at [] b v cells k l h = absurd (omega arith)
wiped_at (w ∷ ws) zero v cells k l h =
    let here : List ℕ = map (λ _. v) (take w cells) in
    let long : length here ≡ min w (length cells) = length-map (take w cells) (λ _. v) ∙ length-take w cells in
    elim (cases_lt k w) [
      | inl j ↦
          let a : get_or (here ++ drop w cells) k 0 ≡ get_or here k 0 = get_or_append_left here (drop w cells) 0 k (omega arith) in
          let b : get_or here k 0 ≡ v = get_or-map (λ _. v) (take w cells) k 0 0 (simp length-take (omega arith)) in
          rw (a, b, lt-ltb k w j)
      | inr j ↦
          let a : get_or (here ++ drop w cells) k 0 ≡ get_or (drop w cells) (k - w) 0 = get_or-append_right here (drop w cells) w k 0 (omega arith) j in
          let b : get_or (drop w cells) (k - w) 0 ≡ get_or cells k 0 = get_or-drop w cells (k - w) 0 ∙ ap (λ (i : ℕ). get_or cells i 0) (omega arith) in
          let n : eqb (1 + block_of ws (k - w)) 0 ≡ false = ne_eqb _ 0 (λ e. omega arith) in
          rw (a, b, le-ltb k w j, n)
    ]
wiped_at (w ∷ ws) (suc b) v cells k l h =
    let rest : List ℕ = wiped ws b v (drop w cells) in
    let long : length (take w cells) ≡ min w (length cells) = length-take w cells in
    elim (cases_lt k w) [
      | inl j ↦
          let a : get_or (take w cells ++ rest) k 0 ≡ get_or (take w cells) k 0 = get_or_append_left (take w cells) rest 0 k (omega arith) in
          let c : get_or (take w cells) k 0 ≡ get_or cells k 0 = get_or-take w cells k 0 j in
          let n : eqb 0 (suc b) ≡ false = ne_eqb 0 (suc b) (λ e. omega arith) in
          rw (a, c, lt-ltb k w j, n)
      | inr j ↦
          let a : get_or (take w cells ++ rest) k 0 ≡ get_or rest (k - w) 0 = get_or-append_right (take w cells) rest w k 0 (omega arith) j in
          let c = wiped_at ws b v (drop w cells) (k - w) (omega arith) (simp length-drop (omega arith)) in
          let d : get_or (drop w cells) (k - w) 0 ≡ get_or cells k 0 = get_or-drop w cells (k - w) 0 ∙ ap (λ (i : ℕ). get_or cells i 0) (omega arith) in
          let n : eqb (1 + block_of ws (k - w)) (suc b) ≡ eqb (block_of ws (k - w)) b = grind (arith, nat_tests) in
          rw (a, c, d, le-ltb k w j, n)
    ]

-- Two rows of blocks end to end: a block of the first, and a block of the second.
pub wiped_left : (ws us : List ℕ) (b v : ℕ) (xs ys : List ℕ) → total ws ≡ length xs → b < length ws
    → wiped (ws ++ us) b v (xs ++ ys) ≡ wiped ws b v xs ++ ys
wiped_left [] us b v xs ys e l = absurd (omega arith)
wiped_left (w ∷ ws) us zero v xs ys e l =
    let t : take w (xs ++ ys) ≡ take w xs = take-append-le w xs ys (omega arith) in
    let d : drop w (xs ++ ys) ≡ drop w xs ++ ys = drop-append-le w xs ys (omega arith) in
    rw (t, d) (sym (append_assoc (map (λ _. v) (take w xs)) (drop w xs) ys))
wiped_left (w ∷ ws) us (suc b) v xs ys e l =
    let t : take w (xs ++ ys) ≡ take w xs = take-append-le w xs ys (omega arith) in
    let d : drop w (xs ++ ys) ≡ drop w xs ++ ys = drop-append-le w xs ys (omega arith) in
    let ih = wiped_left ws us b v (drop w xs) ys (simp length-drop (omega arith)) (omega arith) in
    rw (t, d, ih) (sym (append_assoc (take w xs) (wiped ws b v (drop w xs)) ys))

pub wiped_right : (ws us : List ℕ) (b v : ℕ) (xs ys : List ℕ) → total ws ≡ length xs
    → wiped (ws ++ us) (length ws + b) v (xs ++ ys) ≡ xs ++ wiped us b v ys
wiped_right [] us b v [] ys e = ap (λ (i : ℕ). wiped us i v ys) (omega arith)
wiped_right [] us b v (x ∷ xs) ys e = absurd (omega arith)
wiped_right (w ∷ ws) us b v xs ys e =
    let n : suc (length ws) + b ≡ suc (length ws + b) = omega arith in
    let t : take w (xs ++ ys) ≡ take w xs = take-append-le w xs ys (omega arith) in
    let d : drop w (xs ++ ys) ≡ drop w xs ++ ys = drop-append-le w xs ys (omega arith) in
    let ih = wiped_right ws us b v (drop w xs) ys (simp length-drop (omega arith)) in
    ap (λ (i : ℕ). wiped (w ∷ (ws ++ us)) i v (xs ++ ys)) n
    ∙ rw (t, d, ih) (sym (append_assoc (take w xs) (drop w xs) (wiped us b v ys)) ∙ ap (λ (zs : List ℕ). zs ++ wiped us b v ys) (take-append-drop w xs))

-- Setting the stretch of a block wipes the block.
pub wiped_by_stretch : (sizes : List ℕ) (b v : ℕ) (cells new : List ℕ) → b < length sizes → length new ≡ length cells
    → ((k : ℕ) → k < length cells → get_or new k 0 ≡ cond (leb (start_of sizes b) k && ltb k (start_of sizes b + get_or sizes b 0)) v (get_or cells k 0))
    → new ≡ wiped sizes b v cells
wiped_by_stretch sizes b v cells new l n f =
    ext_get_or 0 new (wiped sizes b v cells) (n ∙ sym (length_wiped sizes b v cells))
    (λ k h.
    let within : k < length cells = omega arith in
    f k within ∙ ap (λ (t : Bool). cond t v (get_or cells k 0)) (stretch_is sizes k b l) ∙ sym (wiped_at sizes b v cells k l within))
