-- What makes a page readable, and what it shows then.
use Rattle.std.proofs.Common.{◌≡◌, ℕ, zero, suc, ◌+◌, ◌-◌, ◌*◌, ◌^◌, ◌<◌, ◌≤◌, Bool, true, false, cond, ◌&&◌, ◌||◌, eqb, ltb, List, get_or, Some, None, Option, sym, refl, ap, ◌∙◌, ap₂, inl, inr, arith, lit<}
use Rattle.std.proofs.lemmas.Bool.{and_parts, and_from, or_cases, or_left, eqb-true, eq-eqb, ne_eqb, ltb-true, lt-ltb, cases_lt, cases_Bool, both_ways, cond-false, cond_both}
use Rattle.book.specs.Pages.{page_at, line_at, used, is_line, spelled, registration, shown, blank, fit_line, readable_with, readable_page, readable_pages}
use Rattle.book.specs.Pairs.{book_size}
use Rattle.book.proofs.Seats.{SameInside, StopsFit}
use Rattle.book.proofs.Stretches.{blank_same, blank_at, blank_part, spelled_same}
use Rattle.book.proofs.Tallies.{used_none}

-- a page of which k lines are used can be read
pub record Readable (cells : List ℕ) (at k : ℕ) : Type 0 where
  pub few : k < 8
  pub tally : get_or cells at 0 ≡ 256 - 2 ^ k
  pub rest : blank cells (at + 1) 7 ≡ true
  pub line : (eqb k 0 || fit_line (spelled cells (line_at at k) 8)) ≡ true
  pub beyond : blank cells (line_at at (k + 1)) (56 - 8 * k) ≡ true

pub readable_facts : (cells : List ℕ) (at : ℕ) → readable_page cells at ≡ true → Readable cells at (used (get_or cells at 0))
unfolding readable_page
readable_facts cells at t =
    let e = and_parts _ _ t in
    let d = and_parts _ _ e.0 in
    let c = and_parts _ _ d.0 in
    let b = and_parts _ _ c.0 in
    record { few = ltb-true _ _ b.0; tally = eqb-true _ _ b.1; rest = c.1; line = d.1; beyond = e.1 }

pub readable_from : (cells : List ℕ) (at k : ℕ) → used (get_or cells at 0) ≡ k → Readable cells at k → readable_page cells at ≡ true
unfolding readable_page
readable_from cells at k u f =
    ap (readable_with cells at) u
    ∙ and_from _ _
    (and_from _ _ (and_from _ _ (and_from _ _ (lt-ltb _ _ f.few) (eq-eqb _ _ f.tally)) f.rest) f.line) f.beyond

-- What is read depends on the cells of the page alone.
page_kept : (xs ys : List ℕ) (at : ℕ) → SameInside at 64 xs ys → readable_page xs at ≡ true → readable_page ys at ≡ true
page_kept xs ys at s t =
    let f = readable_facts xs at t in
    let k : ℕ = used (get_or xs at 0) in
    let few : k < 8 = f.few in
    let e : get_or ys at 0 ≡ get_or xs at 0 = s at (omega arith) (omega arith) in
    let line : spelled ys (line_at at k) 8 ≡ spelled xs (line_at at k) 8 =
    spelled_same xs ys (line_at at k) 8 (λ a l h. s a (omega arith) (omega arith)) in
    readable_from ys at k (ap used e) (record {
      few = few;
      tally = e ∙ f.tally;
      rest = blank_same xs ys (at + 1) 7 (λ a l h. s a (omega arith) (omega arith)) ∙ f.rest;
      line = ap (λ (n : ℕ). eqb k 0 || fit_line n) line ∙ f.line;
      beyond = blank_same xs ys (line_at at (k + 1)) (56 - 8 * k) (λ a l h. s a (omega arith) (omega arith)) ∙ f.beyond;
    })

same_tests : (s t : Bool) → (s ≡ true → t ≡ true) → (t ≡ true → s ≡ true) → t ≡ s
same_tests true t f g = f refl
same_tests false true f g = sym (g refl)
same_tests false false f g = refl

pub page_same : (xs ys : List ℕ) (at : ℕ) → SameInside at 64 xs ys → readable_page ys at ≡ readable_page xs at
page_same xs ys at s = same_tests _ _ (page_kept xs ys at s) (page_kept ys xs at (λ a l h. sym (s a l h)))

pub pages_same : (xs ys : List ℕ) (start n : ℕ) → SameInside start (book_size n) xs ys
    → readable_pages ys start n ≡ readable_pages xs start n
unfolding readable_pages
pages_same xs ys start zero s = refl
pages_same xs ys start (suc n) s =
    ap₂ ◌&&◌ (pages_same xs ys start n (λ a l h. s a l (omega arith)))
    (page_same xs ys (page_at start (suc n)) (λ a l h. s a (omega arith) (omega arith)))

-- each page of a readable book, and back
pub pages_at : (xs : List ℕ) (start n : ℕ) → readable_pages xs start n ≡ true → (q : ℕ) → 1 ≤ q → q ≤ n
    → readable_page xs (page_at start q) ≡ true
unfolding readable_pages
pages_at xs start zero t q l h = absurd (omega arith)
pages_at xs start (suc n) t q l h =
    let p = and_parts (readable_pages xs start n) (readable_page xs (page_at start (suc n))) t in
    elim (cases_lt n q) [
      | inr j ↦ pages_at xs start n p.0 q l j
      | inl j ↦
          let e : q ≡ suc n = omega arith in
          ap (λ (i : ℕ). readable_page xs (page_at start i)) e ∙ p.1
    ]

pub pages_from : (xs : List ℕ) (start n : ℕ) → ((q : ℕ) → 1 ≤ q → q ≤ n → readable_page xs (page_at start q) ≡ true)
    → readable_pages xs start n ≡ true
unfolding readable_pages
pages_from xs start zero f = refl
pages_from xs start (suc n) f =
    and_from _ _ (pages_from xs start n (λ q l h. f q l (omega arith))) (f (suc n) (omega arith) (omega arith))

-- what a page with k used lines shows
abbrev pub shown_with : List ℕ → ℕ → ℕ → Option ℕ
shown_with cells at k = cond (is_line k) (registration (spelled cells (line_at at k) 8)) None

-- where there is a line k
pub line_in : (k : ℕ) → is_line k ≡ true → (1 ≤ k) × (k < 8)
line_in k t = let p = and_parts (ltb 0 k) (ltb k 8) t in (ltb-true 0 k p.0, ltb-true k 8 p.1)

pub in_line : (k : ℕ) → 1 ≤ k → k < 8 → is_line k ≡ true
in_line k l h = and_from _ _ (lt-ltb 0 k l) (lt-ltb k 8 h)

pub shown_same : (xs ys : List ℕ) (at : ℕ) → SameInside at 64 xs ys → shown ys at ≡ shown xs at
shown_same xs ys at s =
    let k : ℕ = used (get_or xs at 0) in
    ap (λ (v : ℕ). shown_with ys at (used v)) (s at (omega arith) (omega arith))
    ∙ elim (cases_Bool (is_line k)) [
      | inl t ↦
          let p = line_in k t in
          ap (λ (n : ℕ). cond (is_line k) (registration n) None)
          (spelled_same xs ys (line_at at k) 8 (λ a l h. s a (omega arith) (omega (arith, p.1))))
      | inr t ↦ cond-false (is_line k) _ _ t ∙ sym (cond-false (is_line k) _ _ t)
    ]

-- a readable page shows at most 63 stops
registration_fits : (n : ℕ) → fit_line n ≡ true → StopsFit (registration n)
registration_fits n t =
    cond_both (eqb n 18446744073709551615) None (Some n) StopsFit (λ _. tt)
    (λ e. elim (or_cases _ _ t) [ inl l ↦ ltb-true _ _ l | inr d ↦ absurd (both_ways _ e d) ])

pub shown_fits : (xs : List ℕ) (at : ℕ) → readable_page xs at ≡ true → StopsFit (shown xs at)
shown_fits xs at t =
    let k : ℕ = used (get_or xs at 0) in
    cond_both (is_line k) (registration (spelled xs (line_at at k) 8)) None StopsFit
    (λ i. elim (or_cases (eqb k 0) _ (readable_facts xs at t).line) [
      | inl z ↦ absurd (omega (arith, (line_in k i).0, eqb-true k 0 z))
      | inr f ↦ registration_fits _ f
    ])
    (λ _. tt)

-- the number that a line of some stops, or of none, spells
abbrev pub line_value : Option ℕ → ℕ
line_value None = 18446744073709551615
line_value (Some stops) = stops

pub value_shows : (new : Option ℕ) → StopsFit new → registration (line_value new) ≡ new
value_shows None f = refl
value_shows (Some stops) f = cond-false (eqb stops 18446744073709551615) _ _ (ne_eqb _ _ (λ e. omega arith))

pub value_fits : (new : Option ℕ) → StopsFit new → fit_line (line_value new) ≡ true
value_fits None f = refl
value_fits (Some stops) f = or_left _ _ (lt-ltb _ _ f)

-- A blank page can be read, and shows nothing.
pub record BlankPage (cells : List ℕ) (at : ℕ) : Type 0 where
  pub tally : get_or cells at 0 ≡ 255
  pub unused : used (get_or cells at 0) ≡ 0
  pub readable : readable_page cells at ≡ true
  pub empty : shown cells at ≡ None

pub blank_page : (xs : List ℕ) (at : ℕ) → blank xs at 64 ≡ true → BlankPage xs at
blank_page xs at t =
    let e : get_or xs at 0 ≡ 255 = blank_at xs at 64 t at (omega arith) (omega arith) in
    let u : used (get_or xs at 0) ≡ 0 = ap used e ∙ used_none in
    record {
      tally = e;
      unused = u;
      readable = readable_from xs at 0 u (record {
        few = lit< tt;
        tally = e;
        rest = blank_part xs at 64 (at + 1) 7 t (omega arith) (omega arith);
        line = refl;
        beyond = blank_part xs at 64 (line_at at 1) 56 t (omega arith) (omega arith);
      });
      empty = ap (shown_with xs at) u;
    }
