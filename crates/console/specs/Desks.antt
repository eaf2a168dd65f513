-- A console by what its part means and the books that it has open.
use Rattle.std.specs.Prelude.{ℕ, Bool, false, not, ◌&&◌, Some, None, Option}
use Rattle.part.specs.Meaning.{Meaning}
use Rattle.part.specs.Calls.{stands}
use Rattle.part.specs.Neighbours.{elapsed}
use Rattle.book.specs.declared.books.Books.{Books}
use Rattle.book.specs.Pairs.{Pair}
use Rattle.book.specs.Views.{pair_of}

-- what its part means, and its books, if it is open
pub record Desk : Type 0 where
  pub part : Meaning
  pub books : Option Pair

abbrev pub books_of : Option Books → Option Pair
books_of None = None
books_of (Some b) = Some (pair_of b)

abbrev pub desk : Meaning → Option Books → Desk
desk m o = record { part = m; books = books_of o }

abbrev pub closed : Meaning → Desk
closed m = record { part = m; books = None }

abbrev pub opened : Meaning → Pair → Desk
opened m b = record { part = m; books = Some b }

-- the microseconds by which the clock of a part has moved
abbrev pub moved : Meaning → Meaning → ℕ
moved m n = elapsed m.clock n.clock

abbrev pub is_spoilt : Option Pair → Bool
is_spoilt None = false
is_spoilt (Some b) = b.spoilt

-- No erasure stands, and no book is spoilt.
abbrev pub is_quiet : Desk → Bool
is_quiet d = not (stands d.part) && not (is_spoilt d.books)
