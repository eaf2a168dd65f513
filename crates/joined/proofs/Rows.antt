-- Two rows of blocks end to end.
use Rattle.std.specs.Prelude.{◌≡◌, ℕ, zero, suc, ◌+◌, ◌-◌, ◌<◌, ◌≤◌, List, [], ◌∷◌, ◌++◌, length}
use Rattle.std.proofs.Common.{ap, inl, inr, arith}
use Rattle.std.proofs.lemmas.List.{take-append-le}
use Rattle.std.proofs.lemmas.Bool.{lt-ltb, le-ltb, cases_lt}
use Rattle.geometry.specs.Blocks.{total, start_of, block_of}

pub total_both : (ws us : List ℕ) → total (ws ++ us) ≡ total ws + total us
total_both [] us = omega arith
total_both (w ∷ ws) us = omega (arith, total_both ws us)

pub start_left : (ws us : List ℕ) (b : ℕ) → b ≤ length ws → start_of (ws ++ us) b ≡ start_of ws b
start_left ws us b h = ap total (take-append-le b ws us h)

pub start_right : (ws us : List ℕ) (b : ℕ) → length ws ≤ b → start_of (ws ++ us) b ≡ total ws + start_of us (b - length ws)
start_right [] us b h = let e : b - 0 ≡ b = omega arith in rw e (omega arith)
start_right (w ∷ ws) us zero h = absurd (omega arith)
start_right (w ∷ ws) us (suc b) h =
    let e : suc b - suc (length ws) ≡ b - length ws = omega arith in
    rw e (omega (arith, start_right ws us b (omega arith)))

-- the block of an address of the first row, and of an address of the second
pub block_left : (ws us : List ℕ) (a : ℕ) → a < total ws → block_of (ws ++ us) a ≡ block_of ws a
block_left [] us a h = absurd (omega arith)
block_left (w ∷ ws) us a h =
    elim (cases_lt a w) [
      | inl l ↦ rw (lt-ltb a w l)
      | inr l ↦ rw (le-ltb a w l, block_left ws us (a - w) (omega arith))
    ]

pub block_right : (ws us : List ℕ) (a : ℕ) → total ws ≤ a → block_of (ws ++ us) a ≡ length ws + block_of us (a - total ws)
block_right [] us a h = let e : a - 0 ≡ a = omega arith in rw e (omega arith)
block_right (w ∷ ws) us a h =
    let e : a - (w + total ws) ≡ a - w - total ws = omega arith in
    rw (le-ltb a w (omega arith), e) (omega (arith, block_right ws us (a - w) (omega arith)))

pub start_most : (ws : List ℕ) (b : ℕ) → start_of ws b ≤ total ws
start_most [] zero = omega arith
start_most [] (suc b) = omega arith
start_most (w ∷ ws) zero = omega arith
start_most (w ∷ ws) (suc b) = omega (arith, start_most ws b)
