-- Where the books lie: each address of a book is inside the part and in the book's block.
use Rattle.std.proofs.Common.{◌≡◌, ℕ, zero, suc, ◌+◌, ◌<◌, ◌≤◌, List, [], ◌∷◌, length, get_or, sym, ap, ◌∙◌, inl, inr, arith, Bool, false}
use Rattle.std.proofs.lemmas.Bool.{cases_lt}
use Rattle.geometry.specs.Blocks.{total, start_of}
use Rattle.geometry.proofs.Placing.{block_is}
use Rattle.part.specs.Meaning.{Meaning, size, count, block}
use Rattle.book.specs.Pairs.{Pair, book_size, changed}
use Rattle.book.specs.Finding.{begins, width}
use Rattle.book.proofs.Seats.{Seated, SameOutside, SameInside}

-- The two books stay where they are as long as the blocks, the guards and the size do, spoilt or not.
pub seated_on : (m n : Meaning) (b : Pair) (spoilt : Bool) → n.sizes ≡ m.sizes → n.guards ≡ m.guards → size n ≡ size m → Seated m b
    → Seated n (record b { spoilt = spoilt })
seated_on m n b spoilt e g l s =
    let count_same : count n ≡ count m = ap length e in
    record {
      whole = ap total e ∙ s.whole ∙ sym l;
      current_in = omega (arith, s.current_in);
      spare_in = omega (arith, s.spare_in);
      current_start = s.current_start ∙ sym (ap (λ (w : List ℕ). start_of w b.current.block) e);
      spare_start = s.spare_start ∙ sym (ap (λ (w : List ℕ). start_of w b.spare.block) e);
      current_width = ap (λ (w : List ℕ). get_or w b.current.block 0) e ∙ s.current_width;
      spare_width = ap (λ (w : List ℕ). get_or w b.spare.block 0) e ∙ s.spare_width;
      distinct = s.distinct;
      current_open = ap (λ (w : List Bool). get_or w b.current.block false) g ∙ s.current_open;
      spare_open = ap (λ (w : List Bool). get_or w b.spare.block false) g ∙ s.spare_open;
    }

-- the same books the other way round
pub seated_changed : (m : Meaning) (b : Pair) → Seated m b → Seated m (changed b)
seated_changed m b s = record {
  whole = s.whole;
  current_in = s.spare_in;
  spare_in = s.current_in;
  current_start = s.spare_start;
  spare_start = s.current_start;
  current_width = s.spare_width;
  spare_width = s.current_width;
  distinct = λ d. s.distinct (sym d);
  current_open = s.spare_open;
  spare_open = s.current_open;
}

-- a block ends inside the row
block_ends : (sizes : List ℕ) (b : ℕ) → b < length sizes → start_of sizes b + get_or sizes b 0 ≤ total sizes
block_ends [] b l = absurd (omega arith)
block_ends (w ∷ ws) zero l = omega arith
block_ends (w ∷ ws) (suc b) l = omega (arith, block_ends ws b (omega arith))

-- k addresses from one on lie inside a part, and in its block b
pub record Lies (m : Meaning) (from k b : ℕ) : Type 0 where
  pub inside : from + k ≤ size m
  pub at_block : (a : ℕ) → from ≤ a → a < from + k → block m a ≡ b

lies : (m : Meaning) (start n b : ℕ) → total m.sizes ≡ length m.cells → b < count m → start ≡ begins m b → width m b ≡ book_size n
    → Lies m start (book_size n) b
lies m start n b t l s w = record {
  inside = omega (arith, block_ends m.sizes b l);
  at_block = λ a g h. block_is m.sizes a b l (omega arith) (omega arith);
}

pub current_lies : (m : Meaning) (b : Pair) → Seated m b → Lies m b.current.start (book_size b.positions) b.current.block
current_lies m b s =
    lies m b.current.start b.positions b.current.block s.whole s.current_in s.current_start s.current_width

pub spare_lies : (m : Meaning) (b : Pair) → Seated m b → Lies m b.spare.start (book_size b.positions) b.spare.block
spare_lies m b s =
    lies m b.spare.start b.positions b.spare.block s.whole s.spare_in s.spare_start s.spare_width

-- Stretches of two blocks do not overlap.
pub lies_apart : (m : Meaning) (s t k c d : ℕ) → Lies m s k c → Lies m t k d → (c ≡ d → ⊥) → (xs ys : List ℕ)
    → SameOutside s k xs ys → SameInside t k xs ys
lies_apart m s t k c d x y n xs ys o a l h =
    elim (cases_lt a s) [
      | inl j ↦ o a (inl j)
      | inr j ↦ elim (cases_lt a (s + k)) [
        | inl i ↦ absurd (n (sym (x.at_block a j i) ∙ y.at_block a l h))
        | inr i ↦ o a (inr i)
      ]
    ]
