-- Looking through blocks in which nothing is in the way.
use Rattle.std.proofs.Common.{◌≡◌, ℕ, zero, suc, ◌+◌, ◌-◌, ◌*◌, ◌^◌, ◌<◌, ◌≤◌, Bool, true, false, cond, not, ◌&&◌, ◌||◌, eqb, ltb, List, get_or, None, Option, sym, refl, ap, ◌∙◌, subst, inl, inr, add-one, arith}
use mathlib.Core.Bool.{beq}
use Rattle.std.proofs.lemmas.Bool.{true≢false, lt-leb, le-ltb, lt-ltb, eq-eqb, eqb-true, cond-false, cases_Bool, and_from, and_left, and_right, both_ways}
use Rattle.fault.specs.declared.cause.Cause.{Cause}
use Rattle.fault.specs.declared.faults.PartFault.{PartFault}
use Rattle.part.specs.Meaning.{Meaning, size, block}
use Rattle.part.specs.Calls.{stands, hides, outside, peek_no}
use Rattle.part.proofs.Standings.{hides_none}
use Rattle.book.specs.declared.finding.Finding.{Finding}
use Rattle.book.specs.declared.finding.Finding.TheVariants.{Fresh, First, Second, Neither}
use Rattle.book.specs.Pages.{page_at, line_at, used, blank, spelled, fit_line, readable_with, readable_page, readable_pages, readable_book}
use Rattle.book.specs.Reading.{fault_at, first, peeks_no}
use Rattle.book.specs.Pairs.{book_size}
use Rattle.book.specs.Finding.{in_use, found}
use Rattle.book.proofs.Stretches.{blank_at}
use Rattle.book.proofs.Showing.{pages_at}
use Rattle.book.proofs.Peeking.{peeks_none, peeks_more}

-- Without an erasure every address inside can be peeked.
pub peek_free : (m : Meaning) (a : ℕ) → stands m ≡ false → a < size m → peek_no m a ≡ None
peek_free m a s l = cond-false (outside m a) _ _ (lt-leb (size m) a l) ∙ cond-false (hides m (block m a)) _ _ (hides_none m (block m a) s)

pub peeks_free : (m : Meaning) (from : ℕ) → stands m ≡ false → (k : ℕ) → from + k ≤ size m → peeks_no m from k ≡ None
peeks_free m from s zero l = peeks_none m from
peeks_free m from s (suc k) l =
    subst (λ (j : ℕ). peeks_no m from j ≡ None) (add-one k)
    (peeks_more m from k
    ∙ ap (λ (o : Option PartFault). first o (fault_at (peek_no m (from + k)) (from + k))) (peeks_free m from s k (omega arith))
    ∙ ap (λ (o : Option Cause). fault_at o (from + k)) (peek_free m (from + k) s (omega arith)))

-- FFh byte by byte.
pub blank_none : (xs : List ℕ) (from : ℕ) → blank xs from 0 ≡ true
unfolding blank
blank_none xs from = refl

pub blank_more : (xs : List ℕ) (from i : ℕ) → blank xs from i ≡ true → get_or xs (from + i) 0 ≡ 255 → blank xs from (i + 1) ≡ true
unfolding blank
blank_more xs from i t e = subst (λ (k : ℕ). blank xs from k ≡ true) (sym (add-one i)) (and_from _ _ t (eq-eqb _ _ e))

pub blank_fails : (xs : List ℕ) (from k i : ℕ) → i < k → (get_or xs (from + i) 0 ≡ 255 → ⊥) → blank xs from k ≡ false
blank_fails xs from k i l d =
    elim (cases_Bool (blank xs from k)) [
      | inl t ↦ absurd (d (blank_at xs from k t (from + i) (omega arith) (omega arith)))
      | inr f ↦ f
    ]

-- A page.
pub page_unfit : (xs : List ℕ) (at u : ℕ) → u ≡ used (get_or xs at 0) → 7 < u → readable_page xs at ≡ false
unfolding readable_page
page_unfit xs at u e h =
    ap (λ (k : ℕ). readable_with xs at k) (sym e)
    ∙ and_left _ _ (and_left _ _ (and_left _ _ (and_left _ _ (le-ltb u 8 (omega arith)))))

pub page_fit : (xs : List ℕ) (at t u : ℕ) (w r l b : Bool) → t ≡ get_or xs at 0 → u ≡ used t → u < 8
    → w ≡ eqb t (256 - 2 ^ u) → r ≡ blank xs (at + 1) 7 → l ≡ (eqb u 0 || fit_line (spelled xs (line_at at u) 8)) → b ≡ blank xs (line_at at (u + 1)) (56 - 8 * u)
    → (w && r && l && b) ≡ readable_page xs at
unfolding readable_page
page_fit xs at t u w r l b d e h p q x y =
    let f : (ltb u 8 && w && r && l && b) ≡ readable_with xs at u = cc in
    ap (λ (z : Bool). z && w && r && l && b) (sym (lt-ltb u 8 h)) ∙ f ∙ ap (λ (k : ℕ). readable_with xs at k) (e ∙ ap used d)

-- A book, position by position.
pub positions_none : (xs : List ℕ) (start : ℕ) → readable_pages xs start 0 ≡ true
unfolding readable_pages
positions_none xs start = refl

pub positions_more : (xs : List ℕ) (start n : ℕ) → readable_pages xs start n ≡ true → readable_page xs (page_at start (n + 1)) ≡ true
    → readable_pages xs start (n + 1) ≡ true
unfolding readable_pages
positions_more xs start n t e =
    subst (λ (k : ℕ). readable_pages xs start k ≡ true) (sym (add-one n))
    (and_from _ _ t (subst (λ (k : ℕ). readable_page xs (page_at start k) ≡ true) (add-one n) e))

pub positions_fail : (xs : List ℕ) (start n q : ℕ) → 1 ≤ q → readable_page xs (page_at start q) ≡ false → q ≤ n → readable_pages xs start n ≡ false
positions_fail xs start n q l e h =
    elim (cases_Bool (readable_pages xs start n)) [
      | inl t ↦ absurd (both_ways _ e (pages_at xs start n t q l h))
      | inr f ↦ f
    ]

-- What two blocks hold, by their first bytes.
head_used : (xs : List ℕ) (s n : ℕ) → in_use xs s ≡ true → blank xs s (book_size n) ≡ false
head_used xs s n t =
    blank_fails xs s (book_size n) 0 (omega arith)
    (λ e. let z : s + 0 ≡ s = omega arith in
    let f : get_or xs s 0 ≡ 255 = subst (λ (a : ℕ). get_or xs a 0 ≡ 255) z e in
    omega (arith, eqb-true (get_or xs s 0) 0 t))

pub found_first : (xs : List ℕ) (s t n : ℕ) (r : Bool) → in_use xs s ≡ true → in_use xs t ≡ false → readable_book xs s n ≡ r
    → found xs s t n ≡ cond r First Neither
found_first xs s t n r us ut e =
    cond-false (blank xs s (book_size n) && blank xs t (book_size n)) _ _ (and_left _ _ (head_used xs s n us))
    ∙ ap (λ (x : Bool). cond (x && not (in_use xs t) && readable_book xs s n) First (cond (in_use xs t && not x && readable_book xs t n) Second Neither)) us
    ∙ ap (λ (x : Bool). cond (not x && readable_book xs s n) First (cond (x && false && readable_book xs t n) Second Neither)) ut
    ∙ ap (λ (x : Bool). cond x First Neither) e

pub found_second : (xs : List ℕ) (s t n : ℕ) (r : Bool) → in_use xs t ≡ true → in_use xs s ≡ false → readable_book xs t n ≡ r
    → found xs s t n ≡ cond r Second Neither
found_second xs s t n r ut us e =
    cond-false (blank xs s (book_size n) && blank xs t (book_size n)) _ _ (and_right _ _ (head_used xs t n ut))
    ∙ ap (λ (x : Bool). cond (x && not (in_use xs t) && readable_book xs s n) First (cond (in_use xs t && not x && readable_book xs t n) Second Neither)) us
    ∙ ap (λ (x : Bool). cond (x && true && readable_book xs t n) Second Neither) ut
    ∙ ap (λ (x : Bool). cond x Second Neither) e

pub found_alike : (xs : List ℕ) (s t n : ℕ) (b : Bool) → in_use xs s ≡ in_use xs t → (blank xs s (book_size n) && blank xs t (book_size n)) ≡ b
    → found xs s t n ≡ cond b Fresh Neither
found_alike xs s t n b e d =
    ap (λ (x : Bool). cond x Fresh (cond (in_use xs s && not (in_use xs t) && readable_book xs s n) First
    (cond (in_use xs t && not (in_use xs s) && readable_book xs t n) Second Neither))) d
    ∙ ap (λ (x : Bool). cond b Fresh (cond (x && not (in_use xs t) && readable_book xs s n) First
    (cond (in_use xs t && not x && readable_book xs t n) Second Neither))) e
    ∙ ap (λ (f : Finding). cond b Fresh f) (by (in_use xs t))
  where
    by : (x : Bool) → cond (x && not x && readable_book xs s n) First (cond (x && not x && readable_book xs t n) Second Neither) ≡ Neither
    by true = refl
    by false = refl

-- The two tests of the first bytes.
pub both_alike : (x y : Bool) → beq x y ≡ true → x ≡ y
both_alike true true e = refl
both_alike true false e = absurd (true≢false (sym e))
both_alike false true e = absurd (true≢false (sym e))
both_alike false false e = refl

pub other_way : (x y : Bool) → beq x y ≡ false → y ≡ not x
other_way true true e = absurd (true≢false e)
other_way true false e = refl
other_way false true e = refl
other_way false false e = absurd (true≢false e)
