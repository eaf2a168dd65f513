-- What steps leave as it was, and that a page which they leave is read as before.
use Rattle.std.proofs.Common.{◌≡◌, ℕ, zero, suc, ◌+◌, ◌<◌, ◌≤◌, Bool, true, false, cond, eqb, leb, List, [], ◌∷◌, ◌++◌, length, get_or, set, Some, None, Ok, Err, Option, Result, sym, refl, ap, ◌∙◌, subst, inl, inr, arith}
use Rattle.std.proofs.lemmas.List.{length-set, get_or-set_other}
use Rattle.std.proofs.lemmas.Bool.{leb-true, or_cases}
use Rattle.fault.specs.declared.cause.Cause.{Cause}
use Rattle.fault.specs.declared.cause.Cause.TheVariants.{AddressOutside, ErasureInTheWay}
use Rattle.fault.specs.Causes.{number_of}
use Rattle.geometry.specs.Blocks.{block_of}
use Rattle.fault.specs.declared.faults.PartFault.{PartFault}
use Rattle.part.specs.Meaning.{Meaning, size, cell, with_cells}
use Rattle.part.specs.Calls.{peek_no, hides, burn_no, BurntBy, Refused, Took}
use Rattle.part.proofs.Standings.{hides_cells, hides_ticked}
use Rattle.book.specs.declared.page.Page.{Page}
use Rattle.book.specs.Pages.{page_at, line_at, used, is_line, shown, page_of}
use Rattle.book.specs.Reading.{unless, fault_at, first, peeks_no, page_no, reading}
use Rattle.book.specs.Burning.{Step, burn, stop, Ran, done, burnt, refused, stopped, bytes_burnt, page_copied, pages_copied, stops_of, will_hold}
use Rattle.book.specs.Pairs.{book_size, apart}
use Rattle.book.proofs.Seats.{SameInside, SameOutside}
use Rattle.book.proofs.Showing.{shown_same}
use Rattle.book.proofs.Steps.{bytes_none, bytes_more}

-- the burns lie in k cells from an address on
abbrev pub Within : ℕ → ℕ → List Step → Type 0
Within from k [] = Unit {0}
Within from k (burn a byte ∷ steps) = (from ≤ a) × (a < from + k) × Within from k steps
Within from k (stop f ∷ steps) = Within from k steps

pub within_then : (from k : ℕ) (xs ys : List Step) → Within from k xs → Within from k ys → Within from k (xs ++ ys)
within_then from k [] ys p q = q
within_then from k (burn a byte ∷ xs) ys p q = (p.0, p.1, within_then from k xs ys p.2 q)
within_then from k (stop f ∷ xs) ys p q = within_then from k xs ys p q

bytes_within : (from k at stops : ℕ) → from ≤ at → (i : ℕ) → at + i ≤ from + k → Within from k (bytes_burnt at stops i)
bytes_within from k at stops l zero h = subst (Within from k) (sym (bytes_none at stops)) tt
bytes_within from k at stops l (suc i) h =
    let n : i + 1 ≡ suc i = omega arith in
    subst (λ (j : ℕ). Within from k (bytes_burnt at stops j)) n
    (subst (Within from k) (sym (bytes_more at stops i))
    (within_then from k (bytes_burnt at stops i) _ (bytes_within from k at stops l i (omega arith)) (omega arith, omega arith, tt)))

page_within : (from k at : ℕ) (o : Result (Option ℕ) PartFault) → from ≤ at → at + 64 ≤ from + k → Within from k (page_copied at o)
page_within from k at (Ok None) l h = tt
page_within from k at (Ok (Some stops)) l h =
    within_then from k (bytes_burnt (line_at at 1) stops 8) _ (bytes_within from k (line_at at 1) stops (omega arith) 8 (omega arith)) (l, omega arith, tt)
page_within from k at (Err f) l h = tt

pub pages_within : (f : ℕ → Result (Option ℕ) PartFault) (to n i : ℕ) → i ≤ n → Within to (book_size n) (pages_copied f to i)
unfolding pages_copied
pages_within f to n zero l = tt
pages_within f to n (suc i) l =
    within_then to (book_size n) (pages_copied f to i) _ (pages_within f to n i (omega arith))
    (page_within to (book_size n) (page_at to (suc i)) (f (suc i)) (omega arith) (omega arith))

-- What stays: all but some cells, and the clock.
pub record Spared (from k : ℕ) (m n : Meaning) : Type 0 where
  pub sizes : n.sizes ≡ m.sizes
  pub hidden : (b : ℕ) → hides n b ≡ hides m b
  pub long : length n.cells ≡ length m.cells
  pub cells : SameOutside from k m.cells n.cells

spared_then : (from k : ℕ) (m x n : Meaning) → Spared from k m x → Spared from k x n → Spared from k m n
spared_then from k m x n p q = record {
  sizes = q.sizes ∙ p.sizes;
  hidden = λ b. q.hidden b ∙ p.hidden b;
  long = q.long ∙ p.long;
  cells = λ a o. q.cells a o ∙ p.cells a o;
}

spared_same : (from k : ℕ) (m n : Meaning) → n ≡ m → Spared from k m n
spared_same from k m n e = record {
  sizes = ap (λ (x : Meaning). x.sizes) e;
  hidden = λ b. ap (λ (x : Meaning). hides x b) e;
  long = ap (λ (x : Meaning). length x.cells) e;
  cells = λ a o. ap (λ (x : Meaning). get_or x.cells a 0) e;
}

spared_took : (from k least most : ℕ) (m x n : Meaning) → Took least most x n → Spared from k m x → Spared from k m n
spared_took from k least most m x n t s = record {
  sizes = ap (λ (y : Meaning). y.sizes) t.is ∙ s.sizes;
  hidden = λ b. ap (λ (y : Meaning). hides y b) t.is ∙ hides_ticked x t.time b ∙ s.hidden b;
  long = ap (λ (y : Meaning). length y.cells) t.is ∙ s.long;
  cells = λ a o. ap (λ (y : Meaning). get_or y.cells a 0) t.is ∙ s.cells a o;
}

spared_refused : (from k : ℕ) (m n : Meaning) (t : Bool) → Refused t m n → Spared from k m n
spared_refused from k m n true r = spared_took from k 0 300 m m n r (spared_same from k m m refl)
spared_refused from k m n false r = spared_same from k m n r

spared_burn : (from k a byte : ℕ) (m n : Meaning) (o : Option Cause) → from ≤ a → a < from + k → BurntBy m a byte o n → Spared from k m n
spared_burn from k a byte m n None l h b =
    spared_took from k 1 300 m (with_cells m (set m.cells a byte)) n b
    (record {
      sizes = refl;
      hidden = hides_cells m (set m.cells a byte);
      long = length-set m.cells a byte;
      cells = λ x o. get_or-set_other m.cells a x byte 0 (λ e. elim o [ inl p ↦ omega arith | inr p ↦ omega arith ]);
    })
spared_burn from k a byte m n (Some cause) l h b = spared_refused from k m n (eqb (number_of cause) 8) b

pub ran_spares : (from k : ℕ) (m n : Meaning) (steps : List Step) (r : Result (Unit {0}) PartFault) → Ran m steps r n → Within from k steps → Spared from k m n
ran_spares from k m n steps r (done x) w = spared_same from k m m refl
ran_spares from k m n steps r (burnt {k = x} {a = a} {byte = byte} {steps = rest} e b p) w =
    spared_then from k m x n (spared_burn from k a byte m x (burn_no m a byte) w.0 w.1 b) (ran_spares from k x n rest r p w.2)
ran_spares from k m n steps r (refused {a = a} {byte = byte} e b) w = spared_burn from k a byte m n (burn_no m a byte) w.0 w.1 b
ran_spares from k m n steps r stopped w = spared_same from k m m refl

-- A page is read as before where its cells, what is hidden and the blocks are as before.
peek_same : (m n : Meaning) (a : ℕ) → n.sizes ≡ m.sizes → ((b : ℕ) → hides n b ≡ hides m b) → length n.cells ≡ length m.cells → peek_no n a ≡ peek_no m a
peek_same m n a s h l =
    ap (λ (w : ℕ). refusal (leb w a) (hides n (block_of n.sizes a))) l
    ∙ ap (refusal (leb (size m) a)) (h (block_of n.sizes a))
    ∙ ap (λ (z : List ℕ). refusal (leb (size m) a) (hides m (block_of z a))) s
  where
    refusal : Bool → Bool → Option Cause
    refusal x y = cond x (Some AddressOutside) (cond y (Some ErasureInTheWay) None)

peeks_same : (m n : Meaning) (from : ℕ) → n.sizes ≡ m.sizes → ((b : ℕ) → hides n b ≡ hides m b) → length n.cells ≡ length m.cells
    → (k : ℕ) → peeks_no n from k ≡ peeks_no m from k
unfolding peeks_no
peeks_same m n from s h l zero = refl
peeks_same m n from s h l (suc k) =
    ap (λ (o : Option PartFault). first o (fault_at (peek_no n (from + k)) (from + k))) (peeks_same m n from s h l k)
    ∙ ap (λ (c : Option Cause). first (peeks_no m from k) (fault_at c (from + k))) (peek_same m n (from + k) s h l)

pub reading_same : (from k : ℕ) (m n : Meaning) (at : ℕ) → Spared from k m n → SameInside at 64 m.cells n.cells → reading n at ≡ reading m at
unfolding reading
reading_same from k m n at s c =
    let t : cell n at ≡ cell m at = c at (omega arith) (omega arith) in
    let b : (x : ℕ) → cond (is_line x) (peeks_no n (line_at at x) 8) None ≡ cond (is_line x) (peeks_no m (line_at at x) 8) None =
    λ x. ap (λ (o : Option PartFault). cond (is_line x) o None) (peeks_same m n (line_at at x) s.sizes s.hidden s.long 8) in
    let stop : page_no n at ≡ page_no m at =
    ap (λ (o : Option Cause). first (fault_at o at) (cond (is_line (used (cell n at))) (peeks_no n (line_at at (used (cell n at))) 8) None))
    (peek_same m n at s.sizes s.hidden s.long)
    ∙ ap (λ (o : Option PartFault). first (fault_at (peek_no m at) at) o) (b (used (cell n at)))
    ∙ ap (λ (x : ℕ). first (fault_at (peek_no m at) at) (cond (is_line (used x)) (peeks_no m (line_at at (used x)) 8) None)) t in
    let page : page_of n.cells at ≡ page_of m.cells at =
    ap (λ (x : ℕ). record { tally = x; stops = shown n.cells at }) t
    ∙ ap (λ (o : Option ℕ). record { tally = cell m at; stops = o }) (shown_same m.cells n.cells at c) in
    ap (λ (o : Option PartFault). unless o (page_of n.cells at)) stop ∙ ap (λ (x : Page). unless (page_no m at) x) page

-- Two books of n positions that do not overlap: the pages of one lie outside the other.
pub pages_apart : (s t n q : ℕ) (xs ys : List ℕ) → apart s t n ≡ true → q ≤ n → SameOutside t (book_size n) xs ys → SameInside (page_at s q) 64 xs ys
pages_apart s t n q xs ys a l o x low high =
    elim (or_cases (leb (s + book_size n) t) (leb (t + book_size n) s) a) [
      | inl e ↦ o x (inl (omega (arith, leb-true (s + book_size n) t e)))
      | inr e ↦ o x (inr (omega (arith, leb-true (t + book_size n) s e)))
    ]

-- What a position will hold is the same in the middle of the copying as it was before.
pub hold_same : (m n : Meaning) (from to count p q : ℕ) (new : Option ℕ) (steps : List Step) (r : Result (Unit {0}) PartFault)
    → apart from to count ≡ true → q ≤ count → Ran m steps r n → Within to (book_size count) steps
    → will_hold n from p new q ≡ will_hold m from p new q
hold_same m n from to count p q new steps r a l x w =
    let s = ran_spares to (book_size count) m n steps r x w in
    ap (λ (o : Result Page PartFault). cond (eqb q p) (Ok new) (stops_of o))
    (reading_same to (book_size count) m n (page_at from q) s (pages_apart from to count q m.cells n.cells a l s.cells))
