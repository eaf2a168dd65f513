-- What an array can be made of.
use Rattle.std.specs.Prelude.{ℕ, ◌*◌, Bool, true, if◌then◌else◌, ◌&&◌, Ok, Err, Result, ◌==◌, nat_le, nat_lt}
use Rattle.fault.specs.declared.cause.Cause.TheVariants.{UnfitMaking}
use Rattle.fault.specs.declared.faults.PartFault.{PartFault}
use Rattle.part.specs.declared.answers.Standing.{Standing}
use Rattle.array.specs.declared.array.Layout.{Layout}
use Rattle.part.specs.declared.answers.Standing.TheVariants.{Idle, Running, Suspended}

-- the most blocks, and the fewest and the most bytes of a block
abbrev pub most_blocks : ℕ
most_blocks = 256

abbrev pub least_width : ℕ
least_width = 64

abbrev pub most_width : ℕ
most_width = 65536

-- the numbers are inside their limits: 1 to 256 equal blocks of 64 to 65,536 bytes
abbrev pub possible : Layout → Bool
possible l = nat_le 1 l.count && nat_le l.count most_blocks && nat_le least_width l.width && nat_le l.width most_width

-- how many bytes the blocks have together
abbrev pub bytes : Layout → ℕ
bytes l = l.count * l.width

-- numbers inside their limits, and so many bytes of memory as the blocks have
abbrev pub fit : Layout → ℕ → Bool
fit l len = possible l && len == bytes l

-- the refusal of what does not fit
abbrev pub unfit : PartFault
unfit = record { cause = UnfitMaking; place = 0 }

-- what a call answers that only asks whether something fits
abbrev pub fitting : Bool → Result (Unit {0}) PartFault
fitting fits = if fits then Ok tt else Err unfit

-- what the checking call answers
abbrev pub checked : Layout → ℕ → Result (Unit {0}) PartFault
checked l len = fitting (fit l len)

-- the erasure that stands is in one of the blocks
abbrev pub in_blocks : Standing → ℕ → Bool
in_blocks Idle count = true
in_blocks (Running b) count = nat_lt b count
in_blocks (Suspended b) count = nat_lt b count
