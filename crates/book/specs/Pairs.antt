-- The two books of a console.
use Rattle.std.specs.Prelude.{ℕ, ◌+◌, ◌*◌, Bool, ◌||◌, nat_le}
use Rattle.book.specs.declared.book.Book.{Book}

-- how many bytes a book of n positions has: a page for its head, and one for each position
abbrev pub book_size : ℕ → ℕ
book_size n = 64 * (n + 1)

-- two books of n positions do not overlap
abbrev pub apart : ℕ → ℕ → ℕ → Bool
apart s t n = nat_le (s + book_size n) t || nat_le (t + book_size n) s

-- the current book, the other one, the number of positions, and whether the other is spoilt: its erasure ended as worn
pub record Pair : Type 0 where
  pub current : Book
  pub spare : Book
  pub positions : ℕ
  pub spoilt : Bool

-- the other book is current, and this one is to be erased
abbrev pub changed : Pair → Pair
changed b = record { current = b.spare; spare = b.current; positions = b.positions; spoilt = b.spoilt }

abbrev pub spoilt_if : Bool → Pair → Pair
spoilt_if s b = record { current = b.current; spare = b.spare; positions = b.positions; spoilt = b.spoilt || s }
