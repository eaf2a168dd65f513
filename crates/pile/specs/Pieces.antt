-- The pieces of a pile.
use Rattle.std.specs.Prelude.{ℕ, Bool, List, [], ◌∷◌, ◌++◌, length, drop, replicate}
use Rattle.geometry.specs.Plans.{plan_of}
use Rattle.chip.specs.Setups as chips
use Rattle.chip.specs.Making.{fresh}
use Rattle.part.specs.Meaning.{Meaning, with_cells}
use Rattle.array.specs.Limits as arrays
use Rattle.array.specs.Means.{blank}
use Rattle.joined.specs.Pile.{made}
use Rattle.driver.specs.Rig.{meaning}
use Rattle.tc58.specs.Rigs.{rig_of}
use Rattle.pile.specs.declared.kind.Kind.{Kind}
use Rattle.pile.specs.declared.kind.Kind.TheVariants.{Chip, Array}

-- a chip's setup or an array's layout with which a piece can be made
abbrev pub fits : Kind → Bool
fits (Chip s) = chips.fit s (plan_of s.kind).size
fits (Array l) = arrays.possible l

-- a new piece, FFh throughout: a fresh chip under its driver, or an array; no erasure, and no time has passed
abbrev pub piece_of : Kind → Meaning
piece_of (Chip s) = meaning (rig_of (fresh s (replicate (plan_of s.kind).size 0xFF)))
piece_of (Array l) = blank l

-- new pieces put behind a part one after the other
abbrev pub piled : Meaning → List Kind → Meaning
piled m [] = m
piled m (k ∷ ks) = piled (made m (piece_of k)) ks

-- the same part with these cells from address 0 on, and behind them its own
abbrev pub begun_with : List ℕ → Meaning → Meaning
begun_with cells m = with_cells m (cells ++ drop (length cells) m.cells)
