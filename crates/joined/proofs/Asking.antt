-- What two parts end to end answer to the questions.
use Rattle.std.specs.Prelude.{◌≡◌, ℕ, ◌+◌, ◌-◌, ◌<◌, ◌≤◌, Bool, true, false, cond, not, ◌&&◌, ltb, ◌++◌, Some, None, Option, nat_le, nat_lt, slice_index, slice_index_or, refl}
use Rattle.std.proofs.Common.{sym, ap, ◌∙◌, arith}
use Rattle.std.proofs.lemmas.List.{length-append, get_or_append_left, get_or-append_right}
use Rattle.std.proofs.lemmas.Bool.{lt-ltb, leb-true, and_parts, cond_both}
use Rattle.std.proofs.lemmas.Bool.Decides.{nat_tests}
use Rattle.geometry.specs.declared.block.Block.{Block}
use Rattle.geometry.specs.Blocks.{start_of}
use Rattle.part.specs.declared.answers.Standing.{Standing}
use Rattle.part.specs.declared.answers.Shape.{Shape}
use Rattle.part.specs.Meaning.{Meaning, Lawful, size, count, standing_of, shape_of}
use Rattle.part.specs.Standings.{stood}
use Rattle.part.specs.Calls.{block_at}
use Rattle.part.proofs.Standings.{stood_is}
use Rattle.joined.specs.Pile.{most_bytes, pile, fits, either_stands, later, LaterRoom}
use Rattle.joined.proofs.Refusing.{standing_both}
use Rattle.joined.proofs.Rows.{start_left, start_right, start_most}

-- What both tell at a glance.
pub shape_both : (m n : Meaning) → shape_of (pile m n)
    ≡ record { size = size m + size n; blocks = count m + count n; standing = either_stands (standing_of m.erasure) (standing_of n.erasure) (count m) }
shape_both m n =
    ap (λ (k : ℕ). record { size = k; blocks = count (pile m n); standing = standing_of (pile m n).erasure }) (length-append m.cells n.cells)
    ∙ ap (λ (k : ℕ). record { size = size m + size n; blocks = k; standing = standing_of (pile m n).erasure }) (length-append m.sizes n.sizes)
    ∙ ap (λ (s : Standing). record { size = size m + size n; blocks = count m + count n; standing = s }) (standing_both (count m) m.erasure n.erasure)

pub shape_by : (s t : Shape) (m n : Meaning) (r : Standing) → s ≡ shape_of m → t ≡ shape_of n → r ≡ either_stands s.standing t.standing s.blocks
    → record { size = s.size + t.size; blocks = s.blocks + t.blocks; standing = r } ≡ shape_of (pile m n)
shape_by s t m n r e f q =
    ap (λ (x : Standing). record { size = s.size + t.size; blocks = s.blocks + t.blocks; standing = x }) q
    ∙ ap (λ (x : Shape). record { size = x.size + t.size; blocks = x.blocks + t.blocks; standing = either_stands x.standing t.standing x.blocks }) e
    ∙ ap (λ (x : Shape). record { size = size m + x.size; blocks = count m + x.blocks; standing = either_stands (standing_of m.erasure) x.standing (count m) }) f
    ∙ sym (shape_both m n)

-- The test over the two shapes is the test over the two meanings.
pub fits_by : (s t : Shape) (m n : Meaning) (r : Bool) → s ≡ shape_of m → t ≡ shape_of n
    → r ≡ (nat_le (s.size + t.size) 16777216 && nat_le (s.blocks + t.blocks) 1024 && not (stood s.standing && stood t.standing))
    → r ≡ fits m n
fits_by s t m n r e f q =
    q
    ∙ ap (λ (x : Shape). nat_le (x.size + t.size) 16777216 && nat_le (x.blocks + t.blocks) 1024 && not (stood x.standing && stood t.standing)) e
    ∙ ap (λ (x : Shape). nat_le (size m + x.size) 16777216 && nat_le (count m + x.blocks) 1024 && not (stood (standing_of m.erasure) && stood x.standing)) f
    ∙ rw (stood_is m, stood_is n)

-- Where a block lies.
pub block_left : (m n : Meaning) (b : ℕ) → b < count m → block_at (pile m n) b ≡ block_at m b
block_left m n b h =
    let i : ltb b (count (pile m n)) ≡ true = lt-ltb b _ (omega (arith, length-append m.sizes n.sizes)) in
    let s : start_of (m.sizes ++ n.sizes) b ≡ start_of m.sizes b = start_left m.sizes n.sizes b (omega arith) in
    let w : slice_index_or (m.sizes ++ n.sizes) b 0 ≡ slice_index_or m.sizes b 0 = get_or_append_left m.sizes n.sizes 0 b h in
    rw (i, lt-ltb b (count m) h, s, w)

pub block_right : (m n : Meaning) → Lawful m → (b : ℕ) → count m ≤ b → block_at (pile m n) b ≡ later (block_at n (b - count m)) (size m)
block_right m n lm b h =
    let i : ltb b (count (pile m n)) ≡ ltb (b - count m) (count n) =
    ap (ltb b) (length-append m.sizes n.sizes) ∙ grind (arith, nat_tests) in
    let s : start_of (m.sizes ++ n.sizes) b ≡ size m + start_of n.sizes (b - count m) =
    start_right m.sizes n.sizes b h ∙ ap (λ (k : ℕ). k + start_of n.sizes (b - count m)) lm.whole in
    let w : slice_index_or (m.sizes ++ n.sizes) b 0 ≡ slice_index_or n.sizes (b - count m) 0 = get_or-append_right m.sizes n.sizes (count m) b 0 refl h in
    rw (i, s, w) (by (nat_lt (b - count m) (count n)))
  where
    by : (t : Bool) → cond t (Some (record { start = size m + start_of n.sizes (b - count m); size = slice_index n.sizes (b - count m) })) None
        ≡ later (cond t (Some (record { start = start_of n.sizes (b - count m); size = slice_index n.sizes (b - count m) })) None) (size m)
    by true = refl
    by false = refl

-- The beginning of a block of the second side fits, the first side's size added.
pub later_room : (m n : Meaning) → Lawful n → fits m n ≡ true → (b : ℕ) → LaterRoom (block_at n b) (size m)
later_room m n ln f b =
    cond_both (nat_lt b (count n)) (Some (record { start = start_of n.sizes b; size = slice_index n.sizes b })) None
    (λ (o : Option Block). LaterRoom o (size m))
    (λ _. omega (arith, start_most n.sizes b, ln.whole, leb-true (size m + size n) most_bytes (and_parts _ _ (and_parts _ _ f).0).0))
    (λ _. tt)
