use Rattle.std.proofs.Common.{◌≡◌, ◌/◌, ◌^◌, ◌≤◌, arith}
use Rattle.std.proofs.Math.Nat.{div-eq_of_lt}
use Rattle.std.proofs.Math.Pow.{pow_mono}
use Rattle.std.proofs.lemmas.Bool.{le-ltb}
use Rattle.geometry.proofs.set.is_set.Goals as goal

pub returns-else-place-lt-LARGEST_SET : goal.returns-else-place-lt-LARGEST_SET
returns-else-place-lt-LARGEST_SET c =
    let m : 2 ^ 128 ≤ 2 ^ c.args.place = pow_mono {i = 128} {j = c.args.place} (omega arith) in
    let z : c.args.mask / 2 ^ c.args.place ≡ 0 = div-eq_of_lt (omega (arith, c.ranges.mask.fits)) in
    rw (le-ltb c.args.place 128 (omega arith), z)
