-- Equal blocks in a row.
use Rattle.std.proofs.Common.{◌≡◌, ℕ, zero, suc, ◌+◌, ◌*◌, ◌/◌, ◌%◌, ◌<◌, ◌≤◌, false, length, get_or, replicate, refl, ap, ◌∙◌, suc-mul, arith}
use Rattle.std.proofs.lemmas.Nat.{div-add-mod', div_below, mod_below}
use Rattle.std.proofs.lemmas.List.{length-replicate, get_or-replicate, take-replicate}
use Rattle.geometry.specs.Blocks.{total, start_of, block_of}
use Rattle.geometry.proofs.Placing.{block_is}

pub total_equal : (n w : ℕ) → total (replicate n w) ≡ n * w
total_equal zero w = omega arith
total_equal (suc n) w = omega (arith, total_equal n w, suc-mul n w)

pub start_equal : (n w b : ℕ) → b ≤ n → start_of (replicate n w) b ≡ b * w
start_equal n w b h = ap total (take-replicate b n w h) ∙ total_equal b w

-- the block of an address is its quotient
pub block_equal : (n w a : ℕ) → 0 < w → a < n * w → block_of (replicate n w) a ≡ a / w
block_equal n w a p h =
    let b : ℕ = a / w in
    let l : b < n = div_below a w n p h in
    let len : length (replicate n w) ≡ n = length-replicate n w in
    let s : start_of (replicate n w) b ≡ b * w = start_equal n w b (omega arith) in
    let g : get_or (replicate n w) b 0 ≡ w = get_or-replicate n b w 0 l in
    let d : b * w + a % w ≡ a = div-add-mod' a w in
    block_is (replicate n w) a b (omega arith) (omega arith) (omega (arith, mod_below a w p))

-- none of them is marked
pub none_marked : (n b : ℕ) → get_or (replicate n false) b false ≡ false
none_marked zero b = refl
none_marked (suc n) zero = refl
none_marked (suc n) (suc b) = none_marked n b
