-- What an array means as a part: equal blocks, none guarded or worn; an erasure always has 1 microsecond left.
use Rattle.std.specs.Prelude.{ℕ, true, false, if◌then◌else◌, List, [], length, replicate, Some, None, vec_items, Option}
use Rattle.part.specs.declared.answers.Standing.{Standing}
use Rattle.part.specs.declared.answers.Standing.TheVariants.{Idle, Running, Suspended}
use Rattle.part.specs.Meaning.{Erasure, Meaning}
use Rattle.array.specs.declared.array.Array.{Array}
use Rattle.array.specs.declared.array.Layout.{Layout}
use Rattle.array.specs.Limits.{least_width, bytes, fit}

abbrev pub erasure_of : Standing → Option Erasure
erasure_of Idle = None
erasure_of (Running b) = Some (record { block = b; left = 1; running = true })
erasure_of (Suspended b) = Some (record { block = b; left = 1; running = false })

-- equal blocks on these cells
abbrev pub equal_blocks : Layout → List ℕ → Standing → ℕ → Meaning
equal_blocks l cells standing clock = record {
  cells = cells;
  sizes = replicate l.count l.width;
  guards = replicate l.count false;
  wears = replicate l.count false;
  erasure = erasure_of standing;
  clock = clock;
}

abbrev pub means : Array → Meaning
means s = equal_blocks s.layout (vec_items s.cells) s.standing s.clock

-- the layout of a dead array: no blocks
abbrev pub no_blocks : Layout
no_blocks = record { count = 0; width = least_width }

-- a new array: no erasure, and no time has passed
abbrev pub new_array : Layout → List ℕ → Meaning
new_array l cells = equal_blocks l cells Idle 0

-- one made of what does not fit is dead
abbrev pub made : Layout → List ℕ → Meaning
made l cells = if fit l (length cells) then new_array l cells else new_array no_blocks []

-- a new array with FFh throughout
abbrev pub blank : Layout → Meaning
blank l = new_array l (replicate (bytes l) 0xFF)
