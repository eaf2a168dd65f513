-- A call that a test grants or refuses: what its answer says of the test.
use Rattle.std.proofs.Common.{◌≡◌, ℕ, Bool, true, false, cond, Ok, Err, refl, arith}

pub granted : {X E : Type 0} (t : Bool) (x z : X) (y : E) → cond t (Ok x) (Err y) ≡ Ok z → t ≡ true
granted true x z y e = refl
granted false x z y e = let w : ◌≡◌ {A = ℕ} 0 1 = cc in absurd (omega arith)

pub denied : {X E : Type 0} (t : Bool) (x : X) (y w : E) → cond t (Ok x) (Err y) ≡ Err w → (t ≡ false) × (w ≡ y)
denied true x y w e = let z : ◌≡◌ {A = ℕ} 0 1 = cc in absurd (omega arith)
denied false x y w e = (refl, cc)
