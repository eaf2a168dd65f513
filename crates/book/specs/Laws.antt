-- What holds of the books whatever is stored in them. The calls' contracts name these laws; they
-- speak of the definitions that the same contracts use.
use Rattle.std.specs.Prelude.{◌≡◌, ℕ, ◌+◌, ◌<◌, ◌≤◌, true, false, cond, List, Some, None, Ok, Err, Option, Result, ◌==◌, slice_index}
use Rattle.fault.specs.declared.cause.Cause.TheVariants.{Worn}
use Rattle.fault.specs.declared.faults.PartFault.{PartFault}
use Rattle.part.specs.Meaning.{Meaning, cell, worn, ticked}
use Rattle.part.specs.Calls.{hides, bars}
use Rattle.book.specs.Pages.{page_at, line_at, used, is_line, spelled, shown, page_of, blank, readable_page, readable_pages, readable_book}
use Rattle.book.specs.Reading.{reading, fetched_of, page_bytes}
use Rattle.book.specs.Burning.{Step, Ran, laid, line_added, will_hold, book_copied}
use Rattle.book.specs.Pairs.{Pair, book_size}
use Rattle.book.specs.Seats.{Seated, SameOutside, Rewritten, StopsFit}

-- the page of a position in the current book, and in the other
abbrev pub current_page : Pair → ℕ → ℕ
current_page b p = page_at b.current.start p

abbrev pub spare_page : Pair → ℕ → ℕ
spare_page b p = page_at b.spare.start p

-- where the last used line of a page begins
abbrev pub last_line : List ℕ → ℕ → ℕ
last_line cells at = line_at at (used (slice_index cells at))

-- k cells from an address on are bytes
abbrev pub AreBytes : List ℕ → ℕ → ℕ → Type 0
AreBytes cells from k = (a : ℕ) → from ≤ a → a < from + k → slice_index cells a < 256

pub record ReadLaws : Type 0 where
  -- A page of which no line is used is empty.
  pub unused : (cells : List ℕ) (at : ℕ) → is_line (used (slice_index cells at)) ≡ false → shown cells at ≡ None
  -- A page whose last used line is FFh throughout is empty: it does not have every stop drawn.
  pub cleared : (cells : List ℕ) (at : ℕ) → is_line (used (slice_index cells at)) ≡ true
      → blank cells (last_line cells at) 8 ≡ true → shown cells at ≡ None
  -- Any other page shows the number that the eight bytes of its last used line spell.
  pub filled : (cells : List ℕ) (at : ℕ) → is_line (used (slice_index cells at)) ≡ true → AreBytes cells (last_line cells at) 8
      → blank cells (last_line cells at) 8 ≡ false → shown cells at ≡ Some (spelled cells (last_line cells at) 8)
  -- A page that can be read shows at most 63 stops.
  pub fits : (cells : List ℕ) (at : ℕ) → readable_page cells at ≡ true → StopsFit (shown cells at)
  -- Unless the erasure hides the current book, each of its positions is read, as its page stands in the cells.
  pub granted : (m : Meaning) (b : Pair) → Seated m b → hides m b.current.block ≡ false
      → (p : ℕ) → p ≤ b.positions → reading m (current_page b p) ≡ Ok (page_of m.cells (current_page b p))
  -- That takes the tally, and eight bytes more where a line is used.
  pub fetches : (m : Meaning) (b : Pair) → Seated m b → hides m b.current.block ≡ false
      → (p : ℕ) → p ≤ b.positions → page_bytes m (current_page b p) ≡ fetched_of (cell m (current_page b p))

-- A page after one line more: it can be read and shows the new stops, or nothing; the cells of other pages are as they were.
pub record LineDone (m : Meaning) (at : ℕ) (new : Option ℕ) (r : Result (Unit {0}) PartFault) (n : Meaning) : Type 0 where
  pub accepted : r ≡ Ok tt
  pub cells : List ℕ
  pub writes : Rewritten m cells n
  pub shows : shown cells at ≡ new
  pub readable : readable_page cells at ≡ true
  pub keeps : SameOutside at 64 m.cells cells

-- A burn was refused, and no cell has changed.
pub record WornRefused (m : Meaning) (r : Result (Unit {0}) PartFault) (n : Meaning) : Type 0 where
  pub fault : PartFault
  pub time : ℕ
  pub refused : r ≡ Err fault
  pub is : n ≡ ticked m time

-- the refusal of a worn block
abbrev pub AsWorn : Result (Unit {0}) PartFault → Type 0
AsWorn (Ok u) = ⊥
AsWorn (Err fault) = fault.cause ≡ Worn

-- A position of the current book whose page can be read and has a line free, with no erasure that bars a burn there.
pub record LineFree (m : Meaning) (b : Pair) (p : ℕ) : Type 0 where
  pub seated : Seated m b
  pub unbarred : bars m b.current.block ≡ false
  pub low : 1 ≤ p
  pub high : p ≤ b.positions
  pub readable : readable_page m.cells (current_page b p) ≡ true
  pub free : used (cell m (current_page b p)) < 7

-- One line more was asked for at a position, of the tally that stands there.
abbrev pub LineAsked : Meaning → Pair → ℕ → Option ℕ → Result (Unit {0}) PartFault → Meaning → Type 0
LineAsked m b p new r n = Ran m (line_added (current_page b p) (cell m (current_page b p)) new) r n

pub record WriteLaws : Type 0 where
  -- A free line takes 63 stops, or none, unless the block is worn.
  pub done : (m n : Meaning) (b : Pair) (p : ℕ) (new : Option ℕ) (r : Result (Unit {0}) PartFault) → LineFree m b p → StopsFit new
      → worn m b.current.block ≡ false → LineAsked m b p new r n → LineDone m (current_page b p) new r n
  -- In a worn block the first burn is refused.
  pub worn_out : (m n : Meaning) (b : Pair) (p : ℕ) (new : Option ℕ) (r : Result (Unit {0}) PartFault) → LineFree m b p → StopsFit new
      → worn m b.current.block ≡ true → LineAsked m b p new r n → AsWorn r × WornRefused m r n
  -- Steps that are all accepted leave exactly the cells that they lay.
  pub exact : (m n : Meaning) (steps : List Step) → Ran m steps (Ok tt) n → n.cells ≡ laid m.cells steps

-- The other book after the copying: it is in use, can be read, and shows what the current one showed, at p the new stops; the
-- cells outside it are as they were.
pub record CopyDone (m : Meaning) (b : Pair) (p : ℕ) (new : Option ℕ) (r : Result (Unit {0}) PartFault) (n : Meaning) : Type 0 where
  pub accepted : r ≡ Ok tt
  pub cells : List ℕ
  pub writes : Rewritten m cells n
  pub head : slice_index cells b.spare.start ≡ 0
  pub readable : readable_book cells b.spare.start b.positions ≡ true
  pub shows : (q : ℕ) → 1 ≤ q → q ≤ b.positions
      → shown cells (spare_page b q) ≡ cond (q == p) new (shown m.cells (current_page b q))
  pub keeps : SameOutside b.spare.start (book_size b.positions) m.cells cells

-- A current book that can be read beside a blank one, with no erasure that hides the one or bars a burn in the other.
pub record CopyFree (m : Meaning) (b : Pair) : Type 0 where
  pub seated : Seated m b
  pub seen : hides m b.current.block ≡ false
  pub unbarred : bars m b.spare.block ≡ false
  pub readable : readable_pages m.cells b.current.start b.positions ≡ true
  pub blank_spare : blank m.cells b.spare.start (book_size b.positions) ≡ true

-- The copying was asked for, with new stops at p.
abbrev pub CopyAsked : Meaning → Pair → ℕ → Option ℕ → Result (Unit {0}) PartFault → Meaning → Type 0
CopyAsked m b p new r n = Ran m (book_copied (will_hold m b.current.start p new) b.spare.start b.positions) r n

pub record CopyLaws : Type 0 where
  -- A blank book takes the whole current one, unless its block is worn.
  pub done : (m n : Meaning) (b : Pair) (p : ℕ) (new : Option ℕ) (r : Result (Unit {0}) PartFault) → CopyFree m b → StopsFit new
      → worn m b.spare.block ≡ false → CopyAsked m b p new r n → CopyDone m b p new r n
  -- In a worn block the first burn is refused.
  pub worn_out : (m n : Meaning) (b : Pair) (p : ℕ) (new : Option ℕ) (r : Result (Unit {0}) PartFault) → CopyFree m b → StopsFit new
      → worn m b.spare.block ≡ true → CopyAsked m b p new r n → AsWorn r × WornRefused m r n
