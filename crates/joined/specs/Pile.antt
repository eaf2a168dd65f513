-- Two parts end to end.
use Rattle.std.specs.Prelude.{◌≡◌, ℕ, ◌+◌, ◌<◌, Bool, true, false, not, ◌&&◌, if◌then◌else◌, [], ◌++◌, Some, None, Ok, Err, Option, Result, nat_le}
use Rattle.geometry.specs.declared.block.Block.{Block}
use Rattle.fault.specs.declared.faults.PartFault.{PartFault}
use Rattle.part.specs.declared.answers.Shape.{Shape}
use Rattle.part.specs.declared.answers.Standing.{Standing}
use Rattle.part.specs.declared.answers.Standing.TheVariants.{Idle, Running, Suspended}
use Rattle.part.specs.Meaning.{Erasure, Meaning, count, shape_of}
use Rattle.part.specs.Calls.{stands}
use Rattle.part.specs.Standings.{stood}

-- the same erasure, its block k numbers higher
abbrev pub raised : ℕ → Option Erasure → Option Erasure
raised k None = None
raised k (Some e) = Some (record e { block = k + e.block })

-- the first's erasure, or else the second's
abbrev pub either : Option Erasure → Option Erasure → Option Erasure
either None e = e
either (Some d) e = Some d

-- Two parts end to end: the second one's cells and blocks follow the first one's. The clock is the first one's.
abbrev pub pile : Meaning → Meaning → Meaning
pile m n = record {
  cells = m.cells ++ n.cells;
  sizes = m.sizes ++ n.sizes;
  guards = m.guards ++ n.guards;
  wears = m.wears ++ n.wears;
  erasure = either m.erasure (raised (count m) n.erasure);
  clock = m.clock;
}

-- no blocks, no cells and no erasure, only a clock
abbrev pub no_part : ℕ → Meaning
no_part clock = record { cells = []; sizes = []; guards = []; wears = []; erasure = None; clock = clock }

-- the most bytes and the most blocks of a joined part
abbrev pub most_bytes : ℕ
most_bytes = 16777216

abbrev pub most_blocks : ℕ
most_blocks = 1024

-- together not too large
abbrev pub small : Shape → Shape → Bool
small s t = nat_le (s.size + t.size) most_bytes && nat_le (s.blocks + t.blocks) most_blocks

-- together not too large, and at most one erasure: so it is with the sides of every joined part that is live
abbrev pub fits : Meaning → Meaning → Bool
fits m n = small (shape_of m) (shape_of n) && not (stands m && stands n)

-- Which two parts can be joined: together not too large, and with no erasure.
abbrev pub joinable : Meaning → Meaning → Bool
joinable m n = small (shape_of m) (shape_of n) && not (stands m) && not (stands n)

-- What a joined part means: the two end to end while it is live; one that is not is dead.
abbrev pub joined : Bool → Meaning → Meaning → Meaning
joined live m n = if live then pile m n else no_part m.clock

-- a new joined part, live if the two can be joined
abbrev pub made : Meaning → Meaning → Meaning
made m n = joined (joinable m n) m n

-- The same in the words of the sides' answers.

-- the first's standing, or else the second's with its block k numbers higher
abbrev pub either_stands : Standing → Standing → ℕ → Standing
either_stands Idle Idle k = Idle
either_stands Idle (Running b) k = Running (k + b)
either_stands Idle (Suspended b) k = Suspended (k + b)
either_stands (Running b) s k = Running b
either_stands (Suspended b) s k = Suspended b

-- which two parts of these shapes can be joined
abbrev pub shapes_joinable : Shape → Shape → Bool
shapes_joinable s t = small s t && not (stood s.standing) && not (stood t.standing)

-- no number over 4,294,967,295 comes of raising the block by k
abbrev pub Room : Standing → ℕ → Type 0
Room Idle k = Unit {0}
Room (Running b) k = k + b < 4294967296
Room (Suspended b) k = k + b < 4294967296

-- a block that begins k bytes later
abbrev pub later : Option Block → ℕ → Option Block
later None k = None
later (Some b) k = Some (record b { start = k + b.start })

-- no number over 4,294,967,295 comes of it
abbrev pub LaterRoom : Option Block → ℕ → Type 0
LaterRoom None k = Unit {0}
LaterRoom (Some b) k = k + b.start < 4294967296

-- the answer, with another place in its fault
abbrev pub placed : {X : Type 0} → Result X PartFault → ℕ → Result X PartFault
placed (Ok x) place = Ok x
placed (Err f) place = Err (record f { place = place })

-- what is known of the two sides once a joined part was asked whether it is live: their shapes
abbrev pub Asked : Bool → Meaning → Meaning → Option (Shape × Shape) → Type 0
Asked live m n None = live ≡ false
Asked live m n (Some p) = (live ≡ true) × (p.0 ≡ shape_of m) × (p.1 ≡ shape_of n)
