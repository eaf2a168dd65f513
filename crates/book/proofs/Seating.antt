-- Two blocks that are fit for books.
use Rattle.std.proofs.Common.{◌≡◌, ℕ, zero, suc, ◌+◌, ◌-◌, ◌/◌, ◌%◌, ◌<◌, ◌≤◌, Bool, true, false, cond, not, ◌&&◌, ◌||◌, eqb, ltb, leb, List, [], ◌∷◌, length, get_or, Some, None, Ok, Err, Option, Result, sym, refl, ap, ◌∙◌, ap₂, subst, inl, inr, arith}
use Rattle.std.proofs.lemmas.Bool.{eq-eqb, ne_eqb, ltb-true, lt-leb, leb-true, leb-false, le-leb, eqb-true, eqb-false, not-false, and_parts, or_parts, or_left, or_right, cond-false, cases_lt}
use Rattle.geometry.specs.declared.block.Block.{Block}
use Rattle.geometry.specs.Blocks.{total, start_of}
use Rattle.fault.specs.declared.faults.PartFault.{PartFault}
use Rattle.part.specs.Meaning.{Meaning, size, count, guarded, Lawful}
use Rattle.part.specs.Calls.{stands, block_at}
use Rattle.book.specs.Pages.{Addressable}
use Rattle.book.specs.Pairs.{Pair, book_size, apart}
use Rattle.book.specs.Reading.{unless}
use Rattle.book.specs.declared.finding.Finding.{Finding}
use Rattle.book.specs.Finding.{begins, width, fit_size, positions_of, books_no, pair, found, Settled, OpenedIf, Opened}
use Rattle.book.proofs.Peeking.{unless_ok, unless_err}

-- Blocks in a row.
before : (ws : List ℕ) (a b : ℕ) → a < b → b ≤ length ws → start_of ws a + get_or ws a 0 ≤ start_of ws b
before [] a b l h = absurd (omega arith)
before (w ∷ ws) a zero l h = absurd (omega arith)
before (w ∷ ws) zero (suc b) l h = omega arith
before (w ∷ ws) (suc a) (suc b) l h = omega (arith, before ws a b (omega arith) (omega arith))

pub ends : (ws : List ℕ) (b : ℕ) → b < length ws → start_of ws b + get_or ws b 0 ≤ total ws
ends [] b l = absurd (omega arith)
ends (w ∷ ws) zero l = omega arith
ends (w ∷ ws) (suc b) l = omega (arith, ends ws b (omega arith))

pub block_known : (m : Meaning) (b : ℕ) (x : Block) → block_at m b ≡ Some x → (b < count m) × (x.start ≡ begins m b) × (x.size ≡ width m b)
block_known m b x e = by (ltb b (count m)) refl e
  where
    by : (t : Bool) → ltb b (count m) ≡ t → cond t (Some (record { start = begins m b; size = width m b })) None ≡ Some x
        → (b < count m) × (x.start ≡ begins m b) × (x.size ≡ width m b)
    by true d e =
        let f : record { start = begins m b; size = width m b } ≡ x = cc in
        (ltb-true b (count m) d, sym (ap (λ (y : Block). y.start) f), sym (ap (λ (y : Block). y.size) f))
    by false d e = let z : ◌≡◌ {A = ℕ} 0 1 = cc in absurd (omega arith)

-- What the test of two blocks says.
pub record Fit (m : Meaning) (a b : ℕ) : Type 0 where
  pub one : a < count m
  pub two : b < count m
  pub distinct : a ≡ b → ⊥
  pub equal : width m a ≡ width m b
  pub sized : width m a ≡ book_size (positions_of (width m a))
  pub few : positions_of (width m a) ≤ 127
  pub some : 1 ≤ positions_of (width m a)

pub fit : (m : Meaning) (a b : ℕ) → a < count m → b < count m
    → (eqb a b || not (eqb (width m a) (width m b)) || not (fit_size (width m a))) ≡ false → Fit m a b
fit m a b l k t =
    let p = or_parts (eqb a b || not (eqb (width m a) (width m b))) (not (fit_size (width m a))) t in
    let q = or_parts (eqb a b) (not (eqb (width m a) (width m b))) p.0 in
    let w = width m a in
    let s = and_parts (leb 128 w && leb w 8192) (eqb (w % 64) 0) (not-false (fit_size w) p.1) in
    let u = and_parts (leb 128 w) (leb w 8192) s.0 in
    let low : 128 ≤ w = leb-true 128 w u.0 in
    let high : w ≤ 8192 = leb-true w 8192 u.1 in
    let even : w % 64 ≡ 0 = eqb-true (w % 64) 0 s.1 in
    record {
      one = l;
      two = k;
      distinct = eqb-false a b q.0;
      equal = eqb-true (width m a) (width m b) (not-false (eqb (width m a) (width m b)) q.1);
      sized = omega arith;
      few = omega arith;
      some = omega arith;
    }

pub clear : (m : Meaning) (a b : ℕ) → Fit m a b → apart (begins m a) (begins m b) (positions_of (width m a)) ≡ true
clear m a b f =
    let w = book_size (positions_of (width m a)) in
    elim (cases_lt a b) [
      | inl l ↦
          let h : begins m a + w ≤ begins m b = omega (arith, before m.sizes a b l (omega (arith, f.two)), f.sized) in
          or_left (leb (begins m a + w) (begins m b)) _ (le-leb (begins m a + w) (begins m b) h)
      | inr l ↦
          let k : b < a = elim (cases_lt b a) [ inl x ↦ x | inr x ↦ absurd (f.distinct (omega arith)) ] in
          let h : begins m b + w ≤ begins m a = omega (arith, before m.sizes b a k (omega (arith, f.one)), f.sized, f.equal) in
          or_right (leb (begins m a + w) (begins m b)) _ (le-leb (begins m b + w) (begins m a) h)
    ]

pub inside : (m : Meaning) (b w : ℕ) → Lawful m → b < count m → width m b ≡ w → begins m b + w ≤ size m
inside m b w l h e = omega (arith, ends m.sizes b h, l.whole)

-- and so inside the addresses of 32 bits
pub in_reach : (m : Meaning) (b w : ℕ) → Lawful m → b < count m → width m b ≡ w → Addressable (begins m b) w
in_reach m b w l h e = omega (arith, inside m b w l h e, l.small)

-- No cause to refuse.
pub no_cause : (m : Meaning) (a b : ℕ) → a < count m → b < count m
    → (eqb a b || not (eqb (width m a) (width m b)) || not (fit_size (width m a))) ≡ false
    → guarded m a ≡ false → guarded m b ≡ false → stands m ≡ false → books_no m a b ≡ None
no_cause m a b l k t ga gb s =
    cond-false (leb (count m) a) _ _ (lt-leb (count m) a l)
    ∙ cond-false (leb (count m) b) _ _ (lt-leb (count m) b k)
    ∙ cond-false (eqb a b || not (eqb (width m a) (width m b)) || not (fit_size (width m a))) _ _ t
    ∙ cond-false (guarded m a) _ _ ga ∙ cond-false (guarded m b) _ _ gb ∙ cond-false (stands m) _ _ s

-- The test as it is made on the blocks that were asked for.
module _ (m : Meaning) (a b : ℕ) (x y : Block) (t : Bool) (p : block_at m a ≡ Some x) (q : block_at m b ≡ Some y)
    (d : t ≡ fit_size x.size) (n : a ≡ b → ⊥) (w : x.size ≡ y.size) (f : t ≡ true) where
  tested : (eqb a b || not (eqb (width m a) (width m b)) || not (fit_size (width m a))) ≡ false
  tested =
      let i = (block_known m a x p).2 in
      let j = (block_known m b y q).2 in
      ap (λ (w : ℕ). eqb a b || not (eqb w (width m b)) || not (fit_size w)) (sym i)
      ∙ ap (λ (w : ℕ). eqb a b || not (eqb x.size w) || not (fit_size x.size)) (sym j)
      ∙ ap (λ (z : Bool). eqb a b || not (eqb x.size y.size) || not z) (sym d ∙ f)
      ∙ ap₂ (λ (i j : Bool). i || not j || false) (ne_eqb a b n) (eq-eqb x.size y.size w)

  pub fits_as_books : Fit m a b
  fits_as_books = fit m a b (block_known m a x p).0 (block_known m b y q).0 tested

  pub blocks_clear : apart x.start y.start (x.size / 64 - 1) ≡ true
  blocks_clear =
      let i = block_known m a x p in
      let j = block_known m b y q in
      ap (λ (s : ℕ). apart s y.start (x.size / 64 - 1)) i.1 ∙ ap (λ (s : ℕ). apart (begins m a) s (x.size / 64 - 1)) j.1
      ∙ ap (λ (w : ℕ). apart (begins m a) (begins m b) (w / 64 - 1)) i.2 ∙ clear m a b fits_as_books

  pub seats_taken : guarded m a ≡ false → guarded m b ≡ false → stands m ≡ false
      → Ok (record { current = record { block = a; start = x.start }; spare = record { block = b; start = y.start }; positions = x.size / 64 - 1; spoilt = false })
      ≡ unless (books_no m a b) (pair m a b)
  seats_taken ga gb s =
      let i = block_known m a x p in
      let j = block_known m b y q in
      ap (λ (z : ℕ). Ok (record { current = record { block = a; start = z }; spare = record { block = b; start = y.start }; positions = x.size / 64 - 1; spoilt = false })) i.1
      ∙ ap (λ (z : ℕ). Ok (record { current = record { block = a; start = begins m a }; spare = record { block = b; start = z }; positions = x.size / 64 - 1; spoilt = false })) j.1
      ∙ ap (λ (z : ℕ). Ok (record { current = record { block = a; start = begins m a }; spare = record { block = b; start = begins m b }; positions = z / 64 - 1; spoilt = false })) i.2
      ∙ sym (ap (λ (o : Option PartFault). unless o (pair m a b)) (no_cause m a b i.0 j.0 tested ga gb s))

-- What it says that there is no cause to refuse.
pub record SeatsFree (m : Meaning) (a b : ℕ) : Type 0 where
  pub fits : Fit m a b
  pub first_open : guarded m a ≡ false
  pub second_open : guarded m b ≡ false
  pub still : stands m ≡ false

passes : (t : Bool) (f : PartFault) (rest : Option PartFault) → cond t (Some f) rest ≡ None → (t ≡ false) × (rest ≡ None)
passes true f rest e = let z : ◌≡◌ {A = ℕ} 0 1 = cc in absurd (omega arith)
passes false f rest e = (refl, e)

pub seats_free : (m : Meaning) (a b : ℕ) → books_no m a b ≡ None → SeatsFree m a b
seats_free m a b e =
    let p = passes (leb (count m) a) _ _ e in
    let q = passes (leb (count m) b) _ _ p.1 in
    let r = passes (eqb a b || not (eqb (width m a) (width m b)) || not (fit_size (width m a))) _ _ q.1 in
    let s = passes (guarded m a) _ _ r.1 in
    let t = passes (guarded m b) _ _ s.1 in
    let u = passes (stands m) _ _ t.1 in
    record {
      fits = fit m a b (leb-false (count m) a p.0) (leb-false (count m) b q.0) r.0;
      first_open = s.0;
      second_open = t.0;
      still = u.0;
    }

-- Both books lie inside the part.
pub both_inside : (m : Meaning) (a b : ℕ) (c : Pair) → Lawful m → books_no m a b ≡ None → c ≡ pair m a b
    → (stands m ≡ false) × (c.current.start + book_size c.positions ≤ size m) × (c.spare.start + book_size c.positions ≤ size m)
both_inside m a b c l e d =
    let s = seats_free m a b e in
    let f = s.fits in (
      s.still,
      subst (λ (x : Pair). x.current.start + book_size x.positions ≤ size m) (sym d) (inside m a _ l f.one f.sized),
      subst (λ (x : Pair). x.spare.start + book_size x.positions ≤ size m) (sym d) (inside m b _ l f.two (sym f.equal ∙ f.sized)),
    )

pub open_refused : (m : Meaning) (a b : ℕ) (f : PartFault) → Err f ≡ unless (books_no m a b) (pair m a b) → Opened m a b (Err f) m
unfolding Opened
open_refused m a b f e =
    subst (λ (o : Option PartFault). OpenedIf o m a b (Err f) m) (sym (unless_err (books_no m a b) (pair m a b) f (sym e))) (refl, refl)

pub open_found : (m n : Meaning) (a b : ℕ) (c : Pair) (w : Finding) (r : Result Pair PartFault) → Ok c ≡ unless (books_no m a b) (pair m a b)
    → w ≡ found m.cells c.current.start c.spare.start c.positions → Settled w m c r n → Opened m a b r n
unfolding Opened
open_found m n a b c w r e d s =
    let u = unless_ok (books_no m a b) (pair m a b) c (sym e) in
    subst (λ (o : Option PartFault). OpenedIf o m a b r n) (sym u.0)
    (subst (λ (x : Pair). Settled (found m.cells x.current.start x.spare.start x.positions) m x r n) u.1
    (subst (λ (x : Finding). Settled x m c r n) d s))
