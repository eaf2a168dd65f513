-- Sets of blocks: block b is in a set where bit b of the set's mask is 1.
use Rattle.std.specs.Prelude.{ℕ, ◌-◌, ◌/◌, ◌%◌, ◌^◌, min, Bool, if◌then◌else◌, ◌==◌, nat_lt, bit_and, bit_or, bit_xor, count_ones}
use Rattle.geometry.specs.declared.set.BlockSet.{BlockSet}

-- how many blocks a set has room for: blocks 0 to 127
abbrev pub largest_set : ℕ
largest_set = 128

-- bit b of a number is 1
abbrev pub bit : ℕ → ℕ → Bool
bit mask b = mask / 2 ^ b % 2 == 1

-- block b is in a set
abbrev pub has : BlockSet → ℕ → Bool
has set b = bit set.mask b

-- no block
abbrev pub none : BlockSet
none = record { mask = 0 }

-- block b alone; no block, where there is no room for b
abbrev pub only : ℕ → BlockSet
only b = record { mask = (if nat_lt b largest_set then 2 ^ b else 0) }

-- blocks 0 to n - 1, as far as there is room
abbrev pub first : ℕ → BlockSet
first n = record { mask = 2 ^ min n largest_set - 1 }

-- how many blocks a set has
abbrev pub count_of : BlockSet → ℕ
count_of set = count_ones set.mask

-- the blocks of either set
abbrev pub union : BlockSet → BlockSet → BlockSet
union set other = record { mask = bit_or set.mask other.mask }

-- the blocks of a set less those that are in the other too
abbrev pub without : BlockSet → BlockSet → BlockSet
without set other = record { mask = bit_xor set.mask (bit_and set.mask other.mask) }

-- the two sets share a block
abbrev pub meets : BlockSet → BlockSet → Bool
meets set other = nat_lt 0 (bit_and set.mask other.mask)

-- each block of a set is in the other
abbrev pub is_within : BlockSet → BlockSet → Bool
is_within set other = bit_and set.mask other.mask == set.mask
