-- Why a pile is not made.
use Rattle.std.specs.Prelude.{◌≡◌, ℕ, ◌+◌, Bool, true, cond, if◌then◌else◌, not, List, [], ◌∷◌, length, Some, None, Ok, Err, Option, Result, nat_le, position}
use Rattle.array.specs.Limits.{unfit}
use Rattle.pile.specs.declared.kind.Kind.{Kind}
use Rattle.pile.specs.declared.unmade.Unmade.{Unmade}
use Rattle.pile.specs.declared.unmade.Unmade.TheVariants.{TooMany, Refused, TooLong, Memory}
use Rattle.part.specs.declared.answers.Shape.{Shape}
use Rattle.part.specs.declared.answers.Standing.TheVariants.{Idle}
use Rattle.part.specs.Meaning.{size}
use Rattle.joined.specs.Pile.{small}
use Rattle.pile.specs.Pieces.{fits, piece_of, piled}

-- the piece of that number is refused, if any is
abbrev pub refused : Option ℕ → Option Unmade
refused None = None
refused (Some n) = Some (Refused n unfit)

-- What stands against a pile of these pieces, memory aside: that there are more than four, or else the first piece whose numbers do not fit.
abbrev pub objection : Kind → List Kind → Option Unmade
objection first more = cond (nat_le (length more) 3) (refused (position (λ k. not (fits k)) (first ∷ more))) (Some TooMany)

-- how many bytes a pile of these pieces has
abbrev pub size_of : Kind → List Kind → ℕ
size_of first more = size (piled (piece_of first) more)

-- Once nothing stands against the pieces, no more cells can be given than the pile has bytes.
abbrev pub or_too_long : Bool → Option Unmade → Option Unmade
or_too_long fits (Some o) = Some o
or_too_long fits None = if fits then None else Some TooLong

-- what stands against a pile of these pieces that begins with so many cells
unfoldable pub objection_to : Kind → List Kind → ℕ → Option Unmade
objection_to first more cells = or_too_long (nat_le cells (size_of first more)) (objection first more)

-- The answer is that objection. With none it is this value.
abbrev pub Checked : {A : Type 0} → Option Unmade → A → Result A Unmade → Type 0
Checked (Some o) x r = r ≡ Err o
Checked None x r = r ≡ Ok x

-- The answer is that objection. With none a part is made, or there is no memory for it.
abbrev pub Answered : {P : Type 0} → Option Unmade → Result P Unmade → Type 0
Answered (Some o) r = r ≡ Err o
Answered None (Ok p) = Unit {0}
Answered None (Err e) = e ≡ Memory

-- the numbers of each piece fit
abbrev pub AllFit : List Kind → Type 0
AllFit [] = Unit {0}
AllFit (k ∷ ks) = (fits k ≡ true) × AllFit ks

-- In words of shapes: two new parts end to end, in which no erasure stands.
abbrev pub beside : Shape → Shape → Shape
beside s t =
    if small s t then record { size = s.size + t.size; blocks = s.blocks + t.blocks; standing = Idle }
    else record { size = 0; blocks = 0; standing = Idle }
