-- What reading and writing do to books, as laws that callers use.
use Rattle.std.proofs.Common.{◌≡◌, ℕ, zero, suc, ◌+◌, ◌<◌, ◌≤◌, Bool, true, false, cond, eqb, List, length, get_or, set, None, Ok, Option, Result, sym, refl, ap, ◌∙◌, ap₂, inl, inr, arith}
use Rattle.std.proofs.lemmas.List.{get_or-set_same}
use Rattle.std.proofs.lemmas.Bool.{and_from, eq-eqb, ne_eqb, lt-leb, cases_lt, cond-true, cond-false, cond_both}
use Rattle.fault.specs.declared.cause.Cause.{Cause}
use Rattle.geometry.proofs.Wiping.{wiped_at}
use Rattle.fault.specs.declared.faults.PartFault.{PartFault}
use Rattle.part.specs.Meaning.{Meaning, size, cell, worn}
use Rattle.part.specs.Calls.{hides, bars, peek_no, erased}
use Rattle.book.specs.declared.page.Page.{Page}
use Rattle.book.specs.Pages.{page_at, line_at, used, is_line, shown, page_of, blank, readable_page, readable_pages, readable_book}
use Rattle.book.specs.Reading.{unless, fault_at, first, peeks_no, reading, fetched_of, page_bytes}
use Rattle.book.specs.Burning.{Ran, line_added, stops_of, will_hold, book_copied}
use Rattle.book.specs.Pairs.{Pair, book_size}
pub use Rattle.book.specs.Laws.{LineDone, WornRefused, CopyDone}
use Rattle.book.specs.Laws.{AsWorn}
use Rattle.book.proofs.Seats.{Seated, SameOutside, SameInside, StopsFit}
-- what is read depends on the cells of the stretch alone
pub use Rattle.book.proofs.Stretches.{blank_same}
use Rattle.book.proofs.Stretches.{blank_from, blank_part}
pub use Rattle.book.proofs.Showing.{shown_same, page_same, pages_same, pages_at, pages_from, shown_fits}
use Rattle.book.proofs.Showing.{line_in, BlankPage, blank_page}
use Rattle.book.proofs.Counting.{bytes_all}
use Rattle.book.proofs.Ground.{Lies, current_lies, spare_lies, lies_apart}
use Rattle.book.proofs.Laying.{Ready, WornOut, granted, worn_out, worn_cause}
use Rattle.book.proofs.Lines.{Added, added, some_line}
use Rattle.book.proofs.Changing.{head_leaves, head_rest, BookMade, book_made, some_steps}

-- A page outside the erasure's reach is read as it stands.
module _ (m : Meaning) (from k b : ℕ) (lies : Lies m from k b) (h : hides m b ≡ false) where
  peek_free : (a : ℕ) → from ≤ a → a < from + k → peek_no m a ≡ None
  peek_free a l g =
      cond-false _ _ _ (lt-leb (size m) a (omega (arith, lies.inside)))
      ∙ cond-false _ _ _ (ap (hides m) (lies.at_block a l g) ∙ h)

  peeks_free : (at i : ℕ) → from ≤ at → at + i ≤ from + k → peeks_no m at i ≡ None
  unfolding peeks_no
  peeks_free at zero l g = refl
  peeks_free at (suc i) l g =
      ap₂ (λ (o : Option PartFault) (c : Option Cause). first o (fault_at c (at + i))) (peeks_free at i l (omega arith))
      (peek_free (at + i) (omega arith) (omega arith))

  page_free : (at : ℕ) → from ≤ at → at + 64 ≤ from + k → reading m at ≡ Ok (page_of m.cells at)
  unfolding reading
  page_free at l g =
      let u : ℕ = used (cell m at) in
      let line : cond (is_line u) (peeks_no m (line_at at u) 8) None ≡ None =
      cond_both (is_line u) (peeks_no m (line_at at u) 8) None (λ (o : Option PartFault). o ≡ None)
      (λ t. peeks_free (line_at at u) 8 (omega arith) (omega (arith, (line_in u t).1))) (λ _. refl) in
      ap₂ (λ (c : Option Cause) (o : Option PartFault). unless (first (fault_at c at) o) (page_of m.cells at))
      (peek_free at l (omega arith)) line

  bytes_free : (at : ℕ) → from ≤ at → at + 64 ≤ from + k → page_bytes m at ≡ fetched_of (cell m at)
  bytes_free at l g =
      let u : ℕ = used (cell m at) in
      bytes_all m at (peek_free at l (omega arith)) (λ t. peeks_free (line_at at u) 8 (omega arith) (omega (arith, (line_in u t).1)))

pub fetches : (m : Meaning) (b : Pair) → Seated m b → hides m b.current.block ≡ false → (p : ℕ) → p ≤ b.positions
    → page_bytes m (page_at b.current.start p) ≡ fetched_of (cell m (page_at b.current.start p))
fetches m b s h p l =
    bytes_free m b.current.start (book_size b.positions) b.current.block (current_lies m b s) h
    (page_at b.current.start p) (omega arith) (omega arith)

pub reads : (m : Meaning) (b : Pair) → Seated m b → hides m b.current.block ≡ false → (p : ℕ) → p ≤ b.positions
    → reading m (page_at b.current.start p) ≡ Ok (page_of m.cells (page_at b.current.start p))
reads m b s h p l =
    page_free m b.current.start (book_size b.positions) b.current.block (current_lies m b s) h
    (page_at b.current.start p) (omega arith) (omega arith)

-- One line more.
worn_refused : (m : Meaning) (r : Result (Unit {0}) PartFault) (n : Meaning) → WornOut m r n → WornRefused m r n
worn_refused m r n w = record { fault = w.0; time = w.1; refused = w.2; is = w.3 }

current_ready : (m : Meaning) (b : Pair) → Seated m b → bars m b.current.block ≡ false
    → Ready m b.current.start (book_size b.positions) b.current.block
current_ready m b s e = record { lies = current_lies m b s; free = e; open_block = s.current_open }

spare_ready : (m : Meaning) (b : Pair) → Seated m b → bars m b.spare.block ≡ false
    → Ready m b.spare.start (book_size b.positions) b.spare.block
spare_ready m b s e = record { lies = spare_lies m b s; free = e; open_block = s.spare_open }

-- the steps of one line more
current_line : (m : Meaning) (b : Pair) (p : ℕ) (new : Option ℕ) → Seated m b → p ≤ b.positions
    → readable_page m.cells (page_at b.current.start p) ≡ true
    → used (get_or m.cells (page_at b.current.start p) 0) < 7 → StopsFit new
    → Added b.current.start (book_size b.positions) m.cells (page_at b.current.start p)
    (get_or m.cells (page_at b.current.start p) 0) new
current_line m b p new s high t u f =
    added b.current.start (book_size b.positions) m.cells (page_at b.current.start p) _ new refl t u f
    (omega arith) (omega arith) (omega (arith, (current_lies m b s).inside))

pub line_done : (m : Meaning) (b : Pair) (p : ℕ) (new : Option ℕ) → Seated m b → bars m b.current.block ≡ false → 1 ≤ p → p ≤ b.positions
    → readable_page m.cells (page_at b.current.start p) ≡ true
    → used (get_or m.cells (page_at b.current.start p) 0) < 7 → StopsFit new → worn m b.current.block ≡ false
    → (r : Result (Unit {0}) PartFault) (n : Meaning)
    → Ran m (line_added (page_at b.current.start p) (get_or m.cells (page_at b.current.start p) 0) new) r n
    → LineDone m (page_at b.current.start p) new r n
line_done m b p new s e low high t u f w r n x =
    let steps = current_line m b p new s high t u f in
    let g = granted m b.current.start (book_size b.positions) b.current.block (current_ready m b s e) w
    steps.makes.lays refl (some_line _ _ new) r n x in
    record {
      accepted = g.accepted;
      cells = steps.makes.cells;
      writes = g.writes;
      shows = steps.shows;
      readable = steps.readable;
      keeps = steps.makes.keeps;
    }

pub line_worn : (m : Meaning) (b : Pair) (p : ℕ) (new : Option ℕ) → Seated m b → bars m b.current.block ≡ false → 1 ≤ p → p ≤ b.positions
    → readable_page m.cells (page_at b.current.start p) ≡ true
    → used (get_or m.cells (page_at b.current.start p) 0) < 7 → StopsFit new → worn m b.current.block ≡ true
    → (r : Result (Unit {0}) PartFault) (n : Meaning)
    → Ran m (line_added (page_at b.current.start p) (get_or m.cells (page_at b.current.start p) 0) new) r n
    → WornRefused m r n
line_worn m b p new s e low high t u f w r n x =
    worn_refused m r n (worn_out m b.current.start (book_size b.positions) b.current.block (current_ready m b s e) w
    (current_line m b p new s high t u f).makes.lays refl (some_line _ _ new) r n x)

pub line_cause : (m : Meaning) (b : Pair) (p : ℕ) (new : Option ℕ) → Seated m b → bars m b.current.block ≡ false → p ≤ b.positions
    → readable_page m.cells (page_at b.current.start p) ≡ true
    → used (get_or m.cells (page_at b.current.start p) 0) < 7 → StopsFit new → worn m b.current.block ≡ true
    → (r : Result (Unit {0}) PartFault) (n : Meaning)
    → Ran m (line_added (page_at b.current.start p) (get_or m.cells (page_at b.current.start p) 0) new) r n → AsWorn r
line_cause m b p new s e high t u f w r n x =
    worn_cause m b.current.start (book_size b.positions) b.current.block (current_ready m b s e) w
    (current_line m b p new s high t u f).makes.lays refl (some_line _ _ new) r n x

-- The change of books.

-- what each position is to hold
abbrev to_hold : Meaning → Pair → ℕ → Option ℕ → ℕ → Option ℕ
to_hold m b p new q = cond (eqb q p) new (shown m.cells (page_at b.current.start q))

will_be : (m : Meaning) (b : Pair) (p : ℕ) (new : Option ℕ) → Seated m b → hides m b.current.block ≡ false
    → (q : ℕ) → 1 ≤ q → q ≤ b.positions → will_hold m b.current.start p new q ≡ Ok (to_hold m b p new q)
will_be m b p new s v q l h =
    let i = reads m b s v q h in
    ap (λ (r : Result Page PartFault). cond (eqb q p) (Ok new) (stops_of r)) i ∙ by (eqb q p)
  where
    by : (t : Bool) → ◌≡◌ {A = Result (Option ℕ) PartFault} (cond t (Ok new) (Ok (shown m.cells (page_at b.current.start q))))
        (Ok (cond t new (shown m.cells (page_at b.current.start q))))
    by true = refl
    by false = refl

-- the steps of the change
spare_book : (m : Meaning) (b : Pair) (p : ℕ) (new : Option ℕ) → Seated m b → hides m b.current.block ≡ false
    → readable_pages m.cells b.current.start b.positions ≡ true
    → blank m.cells b.spare.start (book_size b.positions) ≡ true → StopsFit new
    → BookMade m.cells b.spare.start (will_hold m b.current.start p new) (to_hold m b p new) b.positions
spare_book m b p new s v t k f =
    book_made m.cells b.spare.start (will_hold m b.current.start p new) (to_hold m b p new) b.positions
    (spare_lies m b s).inside k (will_be m b p new s v)
    (λ q l h. cond_both (eqb q p) new _ StopsFit (λ _. f)
    (λ _. shown_fits m.cells (page_at b.current.start q) (pages_at m.cells b.current.start b.positions t q l h)))

pub copy_done : (m : Meaning) (b : Pair) (p : ℕ) (new : Option ℕ) → Seated m b → hides m b.current.block ≡ false → bars m b.spare.block ≡ false
    → readable_pages m.cells b.current.start b.positions ≡ true
    → blank m.cells b.spare.start (book_size b.positions) ≡ true
    → StopsFit new → worn m b.spare.block ≡ false
    → (r : Result (Unit {0}) PartFault) (n : Meaning)
    → Ran m (book_copied (will_hold m b.current.start p new) b.spare.start b.positions) r n
    → CopyDone m b p new r n
copy_done m b p new s v e t k f w r n x =
    let steps = spare_book m b p new s v t k f in
    let g = granted m b.spare.start (book_size b.positions) b.spare.block (spare_ready m b s e) w
    steps.makes.lays refl (some_steps _ _ b.positions) r n x in
    record {
      accepted = g.accepted;
      cells = steps.makes.cells;
      writes = g.writes;
      head = steps.head;
      readable = steps.readable;
      shows = steps.shows;
      keeps = steps.makes.keeps;
    }

pub copy_worn : (m : Meaning) (b : Pair) (p : ℕ) (new : Option ℕ) → Seated m b → hides m b.current.block ≡ false → bars m b.spare.block ≡ false
    → readable_pages m.cells b.current.start b.positions ≡ true
    → blank m.cells b.spare.start (book_size b.positions) ≡ true
    → StopsFit new → worn m b.spare.block ≡ true
    → (r : Result (Unit {0}) PartFault) (n : Meaning)
    → Ran m (book_copied (will_hold m b.current.start p new) b.spare.start b.positions) r n
    → WornRefused m r n
copy_worn m b p new s v e t k f w r n x =
    worn_refused m r n (worn_out m b.spare.start (book_size b.positions) b.spare.block (spare_ready m b s e) w
    (spare_book m b p new s v t k f).makes.lays refl (some_steps _ _ b.positions) r n x)

pub copy_cause : (m : Meaning) (b : Pair) (p : ℕ) (new : Option ℕ) → Seated m b → hides m b.current.block ≡ false → bars m b.spare.block ≡ false
    → readable_pages m.cells b.current.start b.positions ≡ true
    → blank m.cells b.spare.start (book_size b.positions) ≡ true
    → StopsFit new → worn m b.spare.block ≡ true
    → (r : Result (Unit {0}) PartFault) (n : Meaning)
    → Ran m (book_copied (will_hold m b.current.start p new) b.spare.start b.positions) r n → AsWorn r
copy_cause m b p new s v e t k f w r n x =
    worn_cause m b.spare.start (book_size b.positions) b.spare.block (spare_ready m b s e) w
    (spare_book m b p new s v t k f).makes.lays refl (some_steps _ _ b.positions) r n x

-- A blank book whose head is burnt is readable, and empty at each position.
pub record FreshBook (cells : List ℕ) (start n : ℕ) : Type 0 where
  pub head : get_or cells start 0 ≡ 0
  pub readable : readable_book cells start n ≡ true
  pub empty : (q : ℕ) → 1 ≤ q → q ≤ n → shown cells (page_at start q) ≡ None

pub fresh_book : (cells : List ℕ) (start n : ℕ) → start < length cells → blank cells start (book_size n) ≡ true → FreshBook (set cells start 0) start n
fresh_book cells start n l t =
    let new : List ℕ = set cells start 0 in
    let page : (q : ℕ) → 1 ≤ q → q ≤ n → BlankPage new (page_at start q) =
    λ q i h. blank_page new (page_at start q) (blank_same cells new (page_at start q) 64 (head_leaves cells start q i)
    ∙ blank_part cells start (book_size n) (page_at start q) 64 t (omega arith) (omega arith)) in
    record {
      head = get_or-set_same cells start 0 0 l;
      readable = and_from _ _ (blank_same cells new (start + 1) 63 (head_rest cells start)
          ∙ blank_part cells start (book_size n) (start + 1) 63 t (omega arith) (omega arith))
          (pages_from new start n (λ q i h. (page q i h).readable));
      empty = λ q i h. (page q i h).empty;
    }

-- The end of the other book's erasure.
pub erased_spare : (m : Meaning) (b : Pair) → Seated m b → worn m b.spare.block ≡ false
    → blank (erased m b.spare.block) b.spare.start (book_size b.positions) ≡ true
erased_spare m b s w =
    let lies = spare_lies m b s in
    blank_from (erased m b.spare.block) b.spare.start (book_size b.positions)
    (λ a l h.
    ap (λ (c : List ℕ). get_or c a 0) (cond-false (worn m b.spare.block) _ _ w)
    ∙ wiped_at m.sizes b.spare.block 255 m.cells a s.spare_in (omega (arith, lies.inside))
    ∙ cond-true _ _ _ (eq-eqb _ _ (lies.at_block a l h)))

pub erased_current : (m : Meaning) (b : Pair) → Seated m b
    → SameInside b.current.start (book_size b.positions) m.cells (erased m b.spare.block)
erased_current m b s a l h =
    let lies = current_lies m b s in
    cond_both (worn m b.spare.block) _ _ (λ (c : List ℕ). get_or c a 0 ≡ cell m a) (λ _. refl)
    (λ _. wiped_at m.sizes b.spare.block 255 m.cells a s.spare_in (omega (arith, lies.inside))
    ∙ cond-false _ _ _ (ne_eqb _ _ (λ e. s.distinct (sym (lies.at_block a l h) ∙ e))))

-- The two books do not overlap.
pub books_apart_back : (m : Meaning) (b : Pair) → Seated m b → (xs ys : List ℕ)
    → SameOutside b.current.start (book_size b.positions) xs ys → SameInside b.spare.start (book_size b.positions) xs ys
books_apart_back m b s xs ys k =
    lies_apart m b.current.start b.spare.start (book_size b.positions) b.current.block b.spare.block
    (current_lies m b s) (spare_lies m b s) s.distinct xs ys k

-- A page of a book, and what lies outside of it.
pub page_inside : (start n p : ℕ) (xs ys : List ℕ) → p ≤ n → SameInside start (book_size n) xs ys → SameInside (page_at start p) 64 xs ys
page_inside start n p xs ys l s a i h = s a (omega arith) (omega arith)

pub page_apart : (start p q : ℕ) (xs ys : List ℕ) → (p ≡ q → ⊥) → SameOutside (page_at start p) 64 xs ys → SameInside (page_at start q) 64 xs ys
page_apart start p q xs ys d s a l h =
    elim (cases_lt q p) [
      | inl j ↦ s a (inl (omega arith))
      | inr j ↦ elim (cases_lt p q) [ inl i ↦ s a (inr (omega arith)) | inr i ↦ absurd (d (omega arith)) ]
    ]
