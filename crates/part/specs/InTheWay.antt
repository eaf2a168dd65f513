-- What an erasure is in the way of: this is the one place that says it, by what a part tells at a glance of its erasure. The erasure is of block
-- `own`, and runs or is suspended.
use Rattle.std.specs.Prelude.{ℕ, Bool, true, false, ◌==◌}
use Rattle.part.specs.declared.answers.Standing.{Standing}
use Rattle.part.specs.declared.answers.Standing.TheVariants.{Idle, Running, Suspended}

-- No cell of block b can be peeked: one that runs hides every block, and one that is suspended its own.
abbrev pub hid : Standing → ℕ → Bool
hid Idle b = false
hid (Running own) b = true
hid (Suspended own) b = own == b

-- No cell of block b can be burnt: it bars every block, whether it runs or is suspended.
abbrev pub barred : Standing → ℕ → Bool
barred Idle b = false
barred (Running own) b = true
barred (Suspended own) b = true

-- The same of a neighbour's blocks, as of the other side of a joined part.
abbrev pub hid_beside : Standing → Bool
hid_beside Idle = false
hid_beside (Running own) = true
hid_beside (Suspended own) = false

abbrev pub barred_beside : Standing → Bool
barred_beside Idle = false
barred_beside (Running own) = true
barred_beside (Suspended own) = true
