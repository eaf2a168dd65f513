use Rattle.std.proofs.Common.{◌^◌, ◌≤◌, sym, arith}
use Rattle.std.proofs.Math.Nat.{mod-eq_of_lt}
use Rattle.std.proofs.Math.Pow.{pow_mono}
use Rattle.geometry.proofs.datasheet.low_bits.Goals as goal

pub returns-else-bits-lt-BITS : goal.returns-else-bits-lt-BITS
returns-else-bits-lt-BITS c =
    let m : 2 ^ 32 ≤ 2 ^ c.args.bits = pow_mono {i = 32} {j = c.args.bits} (omega arith) in
    sym (mod-eq_of_lt (omega (arith, c.ranges.address.fits)))
