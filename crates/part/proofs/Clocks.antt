-- The clock of a part.
use Rattle.std.proofs.Common.{◌≡◌, ℕ, ◌+◌, ◌%◌, ◌<◌, ap, arith}
use Rattle.part.specs.Meaning.{Meaning, ticked}

pub ticked_none : (m : Meaning) → m.clock < 4294967296 → ticked m 0 ≡ m
ticked_none m h =
    let e : (m.clock + 0) % 4294967296 ≡ m.clock = omega arith in
    ap (λ (c : ℕ). record m { clock = c }) e

pub ticked_more : (m : Meaning) (a b : ℕ) → ticked (ticked m a) b ≡ ticked m (a + b)
ticked_more m a b =
    let e : ((m.clock + a) % 4294967296 + b) % 4294967296 ≡ (m.clock + (a + b)) % 4294967296 = omega arith in
    ap (λ (c : ℕ). record m { clock = c }) e
