-- What two books are once they were opened, and that they are opened again as they are.
use Rattle.std.proofs.Common.{◌≡◌, ℕ, ◌-◌, ◌/◌, ◌≤◌, Bool, true, false, cond, not, ◌&&◌, ◌⊎◌, List, get_or, set, is_some, Some, None, Ok, Option, Result, sym, refl, ap, ◌∙◌, subst, inl, inr, arith}
use Rattle.std.proofs.lemmas.List.{length-set}
use Rattle.std.proofs.lemmas.Bool.{cases_Bool, both_ways, and_parts, eqb-true, eq-eqb, ne_eqb, cond-true, cond-false}
use Rattle.fault.specs.declared.cause.Cause.{Cause}
use Rattle.fault.specs.declared.faults.PartFault.{PartFault}
use Rattle.part.specs.Meaning.{Erasure, Meaning, worn, with_cells, with_erasure, Lawful}
use Rattle.part.specs.Calls.{answer, burn_no, BurntBy, Took, begin_no, BegunBy, Started}
use Rattle.book.specs.declared.finding.Finding.{Finding}
use Rattle.book.specs.declared.finding.Finding.TheVariants.{Fresh, First, Second, Neither}
use Rattle.book.specs.Pages.{page_at, shown, blank, readable_book}
use Rattle.book.specs.Pairs.{Pair, book_size, changed}
use Rattle.book.specs.Finding.{begins, width, positions_of, books_no, in_use, found, pair, Cleared, Taken, Settled, OpenedIf, Opened}
use Rattle.book.proofs.Seats.{Seated}
use Rattle.book.proofs.Ground.{seated_on, seated_changed}
use Rattle.book.proofs.Stretches.{blank_at}
use Rattle.book.proofs.Lines.{same_wider, same_set}
use Rattle.book.proofs.Effects.{blank_same, books_apart_back, fresh_book}
use Rattle.book.proofs.Surveying.{found_first, found_second}
use Rattle.book.proofs.Seating.{SeatsFree, seats_free, both_inside}

-- The other book is blank, or it is being erased, or it is spoilt.
pub data Rest (m : Meaning) (c : Pair) : Type 0 where
  ready : m.erasure ≡ None → c.spoilt ≡ false → blank m.cells c.spare.start (book_size c.positions) ≡ true → Rest m c
  erasing : (left : ℕ) → m.erasure ≡ Some (record { block = c.spare.block; left = left; running = true }) → c.spoilt ≡ false → Rest m c
  spoilt : m.erasure ≡ None → c.spoilt ≡ true → worn m c.spare.block ≡ true → Rest m c

-- two blocks in one order or the other
abbrev pub InBlocks : ℕ → ℕ → Pair → Type 0
InBlocks a b c = ((c.current.block ≡ a) × (c.spare.block ≡ b)) ⊎ ((c.current.block ≡ b) × (c.spare.block ≡ a))

-- two blank books
abbrev pub BothBlank : Meaning → ℕ → ℕ → Type 0
BothBlank m a b = (blank m.cells (begins m a) (width m a) ≡ true) × (blank m.cells (begins m b) (width m b) ≡ true)

-- A part meant m; its blocks a and b were opened as the books c, and it means n.
pub record OpenBooks (m : Meaning) (a b : ℕ) (c : Pair) (n : Meaning) : Type 0 where
  pub free : books_no m a b ≡ None
  pub seated : Seated n c
  pub blocks : InBlocks a b c
  pub sizes : n.sizes ≡ m.sizes
  pub guards : n.guards ≡ m.guards
  pub wears : n.wears ≡ m.wears
  pub positions : c.positions ≡ positions_of (width m a)
  pub head : get_or n.cells c.current.start 0 ≡ 0
  pub readable : readable_book n.cells c.current.start c.positions ≡ true
  pub rest : Rest n c
  pub empty : BothBlank m a b → (q : ℕ) → 1 ≤ q → q ≤ c.positions → shown n.cells (page_at c.current.start q) ≡ None

-- the answer that is expected
ok_is : {X : Type 0} (x y : X) → ◌≡◌ {A = Result X PartFault} (Ok x) (Ok y) → x ≡ y
ok_is x y e = cc

answered : {X : Type 0} (o : Option Cause) (place : ℕ) (x y : X) → Ok x ≡ answer o place y → (o ≡ None) × (x ≡ y)
answered None place x y e = (refl, ok_is x y e)
answered (Some cause) place x y e = let z : ◌≡◌ {A = ℕ} 0 1 = cc in absurd (omega arith)

none_stands : (o : Option Erasure) → is_some o ≡ false → o ≡ None
none_stands None e = refl
none_stands (Some x) e = let z : ◌≡◌ {A = Bool} true false = e in absurd (both_ways true z refl)

-- What is found, with the tests that say so.
data Finds (xs : List ℕ) (s t n : ℕ) : Finding → Type 0 where
  fresh : blank xs s (book_size n) ≡ true → blank xs t (book_size n) ≡ true → Finds xs s t n Fresh
  first : in_use xs s ≡ true → readable_book xs s n ≡ true → Finds xs s t n First
  second : in_use xs t ≡ true → readable_book xs t n ≡ true → Finds xs s t n Second
  neither : Finds xs s t n Neither

finds : (xs : List ℕ) (s t n : ℕ) → Finds xs s t n (found xs s t n)
finds xs s t n =
    elim (cases_Bool (blank xs s (book_size n) && blank xs t (book_size n))) [
      | inl e ↦ let p = and_parts _ _ e in subst (Finds xs s t n) (sym (cond-true _ Fresh _ e)) (fresh p.0 p.1)
      | inr e ↦ subst (Finds xs s t n) (sym (cond-false _ Fresh _ e)) (elim (cases_Bool one) [
        | inl d ↦
            let p = and_parts (in_use xs s && not (in_use xs t)) (readable_book xs s n) d in
            subst (Finds xs s t n) (sym (cond-true one First (cond two Second Neither) d)) (first (and_parts (in_use xs s) _ p.0).0 p.1)
        | inr d ↦ subst (Finds xs s t n) (sym (cond-false one First (cond two Second Neither) d)) (elim (cases_Bool two) [
          | inl g ↦
              let p = and_parts (in_use xs t && not (in_use xs s)) (readable_book xs t n) g in
              subst (Finds xs s t n) (sym (cond-true two Second Neither g)) (second (and_parts (in_use xs t) _ p.0).0 p.1)
          | inr g ↦ subst (Finds xs s t n) (sym (cond-false two Second Neither g)) neither
        ])
      ])
    ]
  where
    one : Bool
    one = in_use xs s && not (in_use xs t) && readable_book xs s n

    two : Bool
    two = in_use xs t && not (in_use xs s) && readable_book xs t n

-- where the two books lie, before anything is written
seated_free : (m : Meaning) (a b : ℕ) → Lawful m → SeatsFree m a b → Seated m (pair m a b)
seated_free m a b l s = record {
  whole = l.whole;
  current_in = s.fits.one;
  spare_in = s.fits.two;
  current_start = refl;
  spare_start = refl;
  current_width = s.fits.sized;
  spare_width = sym s.fits.equal ∙ s.fits.sized;
  distinct = s.fits.distinct;
  current_open = s.first_open;
  spare_open = s.second_open;
}

-- a blank book is not in use
not_both : (xs : List ℕ) (at k : ℕ) → 1 ≤ k → blank xs at k ≡ true → get_or xs at 0 ≡ 0 → ⊥
not_both xs at k l t e = let f : get_or xs at 0 ≡ 255 = blank_at xs at k t at (omega arith) (omega arith) in omega arith

module _ (m : Meaning) (a b : ℕ) (l : Lawful m) (free : books_no m a b ≡ None) (s : SeatsFree m a b) where
  idle : m.erasure ≡ None
  idle = none_stands m.erasure s.still

  -- Two blank books: the head of the first is burnt.
  begun_fresh : (c : Pair) (n : Meaning) → blank m.cells (begins m a) (book_size (positions_of (width m a))) ≡ true
      → blank m.cells (begins m b) (book_size (positions_of (width m a))) ≡ true
      → Settled Fresh m (pair m a b) (Ok c) n → OpenBooks m a b c n
  begun_fresh c n t u x =
      let start : ℕ = begins m a in
      let seats = seated_free m a b l s in
      let inside = (both_inside m a b (pair m a b) l free refl).1 in
      let e = answered (burn_no m start 0) start c (pair m a b) x.0 in
      let took : Took 1 300 (with_cells m (set m.cells start 0)) n = subst (λ (o : Option Cause). BurntBy m start 0 o n) e.0 x.1 in
      let f = fresh_book m.cells start (positions_of (width m a)) (omega (arith, inside)) t in
      let cells : List ℕ = set m.cells start 0 in
      subst (λ (v : Pair). OpenBooks m a b v n) (sym e.1) (subst (λ (v : Meaning). OpenBooks m a b (pair m a b) v) (sym took.is) (record {
        free = free;
        seated = seated_on m _ (pair m a b) false refl refl (length-set m.cells start 0) seats;
        blocks = inl (refl, refl);
        sizes = refl;
        guards = refl;
        wears = refl;
        positions = refl;
        head = f.head;
        readable = f.readable;
        rest = ready idle refl (blank_same m.cells cells (begins m b) (book_size (positions_of (width m a)))
            (books_apart_back m (pair m a b) seats m.cells cells
            (same_wider m.cells cells start (book_size (positions_of (width m a))) start 1 (omega arith) (omega arith) (same_set m.cells start 0))) ∙ u);
        empty = λ _. f.empty;
      }))

  -- A book that is in use is taken as it is, and the other begins to be erased unless it is blank.
  module _ (p : Pair) (seats : Seated m p) (in_blocks : InBlocks a b p) (many : p.positions ≡ positions_of (width m a)) (sound : p.spoilt ≡ false)
      (head : get_or m.cells p.current.start 0 ≡ 0) (readable : readable_book m.cells p.current.start p.positions ≡ true)
      (never : BothBlank m a b → ⊥) where
    with_rest : (e : Option Erasure) → Rest (with_erasure m e) p → OpenBooks m a b p (with_erasure m e)
    with_rest e r = record {
      free = free;
      seated = seated_on m _ p p.spoilt refl refl refl seats;
      blocks = in_blocks;
      sizes = refl;
      guards = refl;
      wears = refl;
      positions = many;
      head = head;
      readable = readable;
      rest = r;
      empty = λ i. absurd (never i);
    }

    abbrev By : Bool → Pair → Meaning → Type 0
    By t c n = Cleared t m p (Ok c) n

    taken : (c : Pair) (n : Meaning) → Taken m p (Ok c) n → OpenBooks m a b c n
    taken c n x = elim (cases_Bool (blank m.cells p.spare.start (book_size p.positions))) [
      | inl t ↦
          let y : By true c n = subst (λ (v : Bool). By v c n) t x in
          subst (λ (v : Pair). OpenBooks m a b v n) (sym (ok_is c p y.0)) (subst (λ (v : Meaning). OpenBooks m a b p v) (sym y.1)
          (with_rest m.erasure (ready idle sound t)))
      | inr t ↦
          let y : By false c n = subst (λ (v : Bool). By v c n) t x in
          let e = answered (begin_no m p.spare.block) p.spare.block c p y.0 in
          let g : Started m p.spare.block n = subst (λ (o : Option Cause). BegunBy m p.spare.block o n) e.0 y.1 in
          subst (λ (v : Pair). OpenBooks m a b v n) (sym e.1) (subst (λ (v : Meaning). OpenBooks m a b p v) (sym g.is)
          (with_rest (Some (record { block = p.spare.block; left = g.left; running = true })) (erasing g.left refl sound)))
    ]

  settled : (w : Finding) → Finds m.cells (begins m a) (begins m b) (positions_of (width m a)) w → (c : Pair) (n : Meaning)
      → Settled w m (pair m a b) (Ok c) n → OpenBooks m a b c n
  settled Fresh (fresh t u) c n x = begun_fresh c n t u x
  settled First (first h r) c n x =
      let head : get_or m.cells (begins m a) 0 ≡ 0 = eqb-true _ 0 h in
      taken (pair m a b) (seated_free m a b l s) (inl (refl, refl)) refl refl head r
      (λ i. not_both m.cells (begins m a) (width m a) (omega (arith, s.fits.sized)) i.0 head) c n x
  settled Second (second h r) c n x =
      let head : get_or m.cells (begins m b) 0 ≡ 0 = eqb-true _ 0 h in
      taken (changed (pair m a b)) (seated_changed m (pair m a b) (seated_free m a b l s)) (inr (refl, refl)) refl refl head r
      (λ i. not_both m.cells (begins m b) (width m b) (omega (arith, s.fits.sized, s.fits.equal)) i.1 head) c n x
  settled Neither neither c n x = let z : ◌≡◌ {A = ℕ} 0 1 = cc in absurd (omega arith)

pub opened_books : (m : Meaning) (a b : ℕ) (c : Pair) (n : Meaning) → Lawful m → Opened m a b (Ok c) n → OpenBooks m a b c n
unfolding Opened
opened_books m a b c n l x = by (books_no m a b) refl x
  where
    by : (o : Option PartFault) → books_no m a b ≡ o → OpenedIf o m a b (Ok c) n → OpenBooks m a b c n
    by None d y = settled m a b l d (seats_free m a b d) _ (finds m.cells (begins m a) (begins m b) (positions_of (width m a))) c n y
    by (Some f) d y = let z : ◌≡◌ {A = ℕ} 0 1 = cc in absurd (omega arith)

-- The same test for a part that has the same blocks and guards, and no erasure either.
still_free : (o m : Meaning) (a b : ℕ) → books_no o a b ≡ None → m.sizes ≡ o.sizes → m.guards ≡ o.guards → m.erasure ≡ None → books_no m a b ≡ None
still_free o m a b f s g e =
    let idle : o.erasure ≡ None = none_stands o.erasure (seats_free o a b f).still in
    ap (λ (l : List ℕ). books_no (record m { sizes = l }) a b) s
    ∙ ap (λ (l : List Bool). books_no (record m { sizes = o.sizes; guards = l }) a b) g
    ∙ ap (λ (x : Option Erasure). books_no (record m { sizes = o.sizes; guards = o.guards; erasure = x }) a b) (e ∙ sym idle)
    ∙ f

-- two pairs of books with the same fields
pair_is : (c d : Pair) → c.current.block ≡ d.current.block → c.current.start ≡ d.current.start → c.spare.block ≡ d.spare.block
    → c.spare.start ≡ d.spare.start → c.positions ≡ d.positions → c.spoilt ≡ d.spoilt → c ≡ d
pair_is c d e f g h i j =
    ap (λ (x : ℕ). record { current = record { block = x; start = c.current.start }; spare = c.spare; positions = c.positions; spoilt = c.spoilt }) e
    ∙ ap (λ (x : ℕ). record { current = record { block = d.current.block; start = x }; spare = c.spare; positions = c.positions; spoilt = c.spoilt }) f
    ∙ ap (λ (x : ℕ). record { current = d.current; spare = record { block = x; start = c.spare.start }; positions = c.positions; spoilt = c.spoilt }) g
    ∙ ap (λ (x : ℕ). record { current = d.current; spare = record { block = d.spare.block; start = x }; positions = c.positions; spoilt = c.spoilt }) h
    ∙ ap (λ (x : ℕ). record { current = d.current; spare = d.spare; positions = x; spoilt = c.spoilt }) i
    ∙ ap (λ (x : Bool). record { current = d.current; spare = d.spare; positions = d.positions; spoilt = x }) j

-- Opening the blocks again takes the same books and changes nothing, where no erasure stands and no book is spoilt.
module _ (o m : Meaning) (a b : ℕ) (c : Pair) (r : Result Pair PartFault) (n : Meaning) (free : books_no o a b ≡ None)
    (sizes : m.sizes ≡ o.sizes) (guards : m.guards ≡ o.guards) (idle : m.erasure ≡ None) (seated : Seated m c)
    (many : c.positions ≡ positions_of (width o a)) (sound : c.spoilt ≡ false) (head : get_or m.cells c.current.start 0 ≡ 0)
    (readable : readable_book m.cells c.current.start c.positions ≡ true)
    (empty : blank m.cells c.spare.start (book_size c.positions) ≡ true) where
  many_here : c.positions ≡ positions_of (width m a)
  many_here = many ∙ ap (λ (l : List ℕ). get_or l a 0 / 64 - 1) (sym sizes)

  used_head : in_use m.cells c.current.start ≡ true
  used_head = eq-eqb _ 0 head

  unused_spare : in_use m.cells c.spare.start ≡ false
  unused_spare = ne_eqb _ 0 (not_both m.cells c.spare.start (book_size c.positions) (omega arith) empty)

  as_taken : Taken m c r n → (r ≡ Ok c) × (n ≡ m)
  as_taken x = subst (λ (t : Bool). Cleared t m c r n) empty x

  opened_on : Opened m a b r n → Settled (found m.cells (begins m a) (begins m b) (positions_of (width m a))) m (pair m a b) r n
  unfolding Opened
  opened_on x = subst (λ (f : Option PartFault). OpenedIf f m a b r n) (still_free o m a b free sizes guards idle) x

  one_way : c.current.block ≡ a → c.spare.block ≡ b → Opened m a b r n → (r ≡ Ok c) × (n ≡ m)
  one_way e f x =
      let same : c ≡ pair m a b = pair_is c (pair m a b) e (seated.current_start ∙ ap (begins m) e) f (seated.spare_start ∙ ap (begins m) f)
      many_here sound in
      let y : Settled (found m.cells c.current.start c.spare.start c.positions) m c r n =
      subst (λ (d : Pair). Settled (found m.cells d.current.start d.spare.start d.positions) m d r n) (sym same) (opened_on x) in
      as_taken (subst (λ (w : Finding). Settled w m c r n)
      (found_first m.cells c.current.start c.spare.start c.positions true used_head unused_spare readable) y)

  other_way : c.current.block ≡ b → c.spare.block ≡ a → Opened m a b r n → (r ≡ Ok c) × (n ≡ m)
  other_way e f x =
      let same : changed c ≡ pair m a b = pair_is (changed c) (pair m a b) f (seated.spare_start ∙ ap (begins m) f) e
      (seated.current_start ∙ ap (begins m) e) many_here sound in
      let y : Settled (found m.cells c.spare.start c.current.start c.positions) m (changed c) r n =
      subst (λ (d : Pair). Settled (found m.cells d.current.start d.spare.start d.positions) m d r n) (sym same) (opened_on x) in
      as_taken (subst (λ (w : Finding). Settled w m (changed c) r n)
      (found_second m.cells c.spare.start c.current.start c.positions true used_head unused_spare readable) y)

  pub opened_again : InBlocks a b c → Opened m a b r n → (r ≡ Ok c) × (n ≡ m)
  opened_again (inl e) x = one_way e.0 e.1 x
  opened_again (inr e) x = other_way e.0 e.1 x
