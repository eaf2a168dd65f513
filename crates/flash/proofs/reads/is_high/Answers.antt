use Rattle.std.proofs.Common.{◌≡◌, ◌/◌, ◌^◌, ◌≤◌, arith}
use Rattle.std.proofs.Math.Nat.{div-eq_of_lt}
use Rattle.std.proofs.Math.Pow.{pow_mono}
use Rattle.std.proofs.lemmas.Bool.{le-ltb}
use Rattle.flash.proofs.reads.is_high.Goals as goal

pub returns-else-place-lt-BITS : goal.returns-else-place-lt-BITS
returns-else-place-lt-BITS c =
    let m : 2 ^ 32 ≤ 2 ^ c.args.place = pow_mono {i = 32} {j = c.args.place} (omega arith) in
    let z : c.args.address / 2 ^ c.args.place ≡ 0 = div-eq_of_lt (omega (arith, c.ranges.address.fits)) in
    rw (le-ltb c.args.place 32 (omega arith), z)
