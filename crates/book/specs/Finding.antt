-- What open looks for in two blocks of a part, and what it does with what it finds.
use Rattle.std.specs.Prelude.{◌≡◌, ℕ, ◌-◌, ◌/◌, ◌%◌, Bool, true, false, cond, not, ◌&&◌, ◌||◌, List, Some, None, Ok, Err, Option, Result, ◌==◌, nat_le, slice_index}
use Rattle.fault.specs.declared.cause.Cause.TheVariants.{NoSuchBlock, ErasureInTheWay, Guarded, UnfitBooks, NoReadableBook}
use Rattle.geometry.specs.Blocks.{start_of}
use Rattle.fault.specs.declared.faults.PartFault.{PartFault}
use Rattle.part.specs.Meaning.{Meaning, count, guarded}
use Rattle.part.specs.Calls.{answer, stands, burn_no, Burnt, begin_no, Begun}
use Rattle.book.specs.declared.finding.Finding.{Finding}
use Rattle.book.specs.declared.finding.Finding.TheVariants.{Fresh, First, Second, Neither}
use Rattle.book.specs.Pages.{blank, readable_book}
use Rattle.book.specs.Pairs.{Pair, book_size, changed}

-- where a block begins, and how many bytes it has
abbrev pub begins : Meaning → ℕ → ℕ
begins m b = start_of m.sizes b

abbrev pub width : Meaning → ℕ → ℕ
width m b = slice_index m.sizes b

-- a book is 128 to 8,192 bytes, a multiple of 64
abbrev pub fit_size : ℕ → Bool
fit_size w = nat_le 128 w && nat_le w 8192 && w % 64 == 0

-- how many positions a book of w bytes has
abbrev pub positions_of : ℕ → ℕ
positions_of w = w / 64 - 1

-- why two blocks are refused before a cell is looked at; the first block at fault is the place
abbrev pub books_no : Meaning → ℕ → ℕ → Option PartFault
books_no m a b =
    cond (nat_le (count m) a) (Some (record { cause = NoSuchBlock; place = a }))
    (cond (nat_le (count m) b) (Some (record { cause = NoSuchBlock; place = b }))
    (cond (a == b || not (width m a == width m b) || not (fit_size (width m a))) (Some (record { cause = UnfitBooks; place = 0 }))
    (cond (guarded m a) (Some (record { cause = Guarded; place = a }))
    (cond (guarded m b) (Some (record { cause = Guarded; place = b }))
    (cond (stands m) (Some (record { cause = ErasureInTheWay; place = a })) None)))))

-- 00h in a book's first byte means that it is in use
abbrev pub in_use : List ℕ → ℕ → Bool
in_use cells start = slice_index cells start == 0

-- Two blank books, or one that is in use and can be read beside one that is not in use.
abbrev pub found : List ℕ → ℕ → ℕ → ℕ → Finding
found cells s t n =
    cond (blank cells s (book_size n) && blank cells t (book_size n)) Fresh
    (cond (in_use cells s && not (in_use cells t) && readable_book cells s n) First
    (cond (in_use cells t && not (in_use cells s) && readable_book cells t n) Second Neither))

-- block a as the current book and block b as the other
abbrev pub pair : Meaning → ℕ → ℕ → Pair
pair m a b = record {
  current = record { block = a; start = begins m a };
  spare = record { block = b; start = begins m b };
  positions = positions_of (width m a);
  spoilt = false;
}

-- The current book is taken as it is. The other begins to be erased, unless it is blank.
abbrev pub Cleared : Bool → Meaning → Pair → Result Pair PartFault → Meaning → Type 0
Cleared true m b r n = (r ≡ Ok b) × (n ≡ m)
Cleared false m b r n = (r ≡ answer (begin_no m b.spare.block) b.spare.block b) × Begun m b.spare.block n

abbrev pub Taken : Meaning → Pair → Result Pair PartFault → Meaning → Type 0
Taken m b r n = Cleared (blank m.cells b.spare.start (book_size b.positions)) m b r n

-- Of two blank books the first comes into use.
abbrev pub Settled : Finding → Meaning → Pair → Result Pair PartFault → Meaning → Type 0
Settled Fresh m b r n = (r ≡ answer (burn_no m b.current.start 0) b.current.start b) × Burnt m b.current.start 0 n
Settled First m b r n = Taken m b r n
Settled Second m b r n = Taken m (changed b) r n
Settled Neither m b r n = (r ≡ Err (record { cause = NoReadableBook; place = 0 })) × (n ≡ m)

abbrev pub OpenedIf : Option PartFault → Meaning → ℕ → ℕ → Result Pair PartFault → Meaning → Type 0
OpenedIf (Some f) m a b r n = (r ≡ Err f) × (n ≡ m)
OpenedIf None m a b r n = Settled (found m.cells (begins m a) (begins m b) (positions_of (width m a))) m (pair m a b) r n

-- Two blocks of a part are taken for books, or refused.
unfoldable pub Opened : Meaning → ℕ → ℕ → Result Pair PartFault → Meaning → Type 0
Opened m a b r n = OpenedIf (books_no m a b) m a b r n
