-- The positions of a book go to a blank one, as steps that a part grants.
use Rattle.std.proofs.Common.{◌≡◌, ℕ, zero, suc, ◌+◌, ◌*◌, ◌≤◌, true, List, [], length, get_or, set, Some, None, Ok, Option, Result, sym, refl, ◌∙◌, subst, inl, inr, arith}
use lib.Count.{count_trailing_zeros}
use Rattle.std.proofs.lemmas.List.{length-set, get_or-set_same}
use Rattle.std.proofs.lemmas.Bool.{cases_lt, and_from}
use Rattle.fault.specs.declared.faults.PartFault.{PartFault}
use Rattle.book.specs.Pages.{page_at, shown, blank, readable_page, readable_book}
use Rattle.book.specs.Burning.{Step, burn, line_added, page_copied, pages_copied, book_copied}
use Rattle.book.specs.Pairs.{book_size}
use Rattle.book.proofs.Seats.{SameInside, StopsFit}
use Rattle.book.proofs.Stretches.{blank_same, blank_part}
use Rattle.book.proofs.Tallies.{used_none, clears_zero}
use Rattle.book.proofs.Showing.{page_same, shown_same, pages_from, blank_page}
use Rattle.book.proofs.Laying.{Lays, nothing, lays_then, has_last}
use Rattle.book.proofs.Lines.{same_clear, same_wider, same_then, same_set, Makes, one_burn, added}

-- One position.
record Copied (from k : ℕ) (xs : List ℕ) (at : ℕ) (new : Option ℕ) : Type 0 where
  makes : Makes from k xs (page_copied at (Ok new)) at 64
  shows : shown makes.cells at ≡ new
  readable : readable_page makes.cells at ≡ true

-- a filled position is one line more of a blank page
line_one : (at stops : ℕ) → line_added at 255 (Some stops) ≡ page_copied at (Ok (Some stops))
unfolding line_added count_trailing_zeros
line_one at stops = refl

copied : (from k : ℕ) (xs : List ℕ) (at : ℕ) (new : Option ℕ) → StopsFit new → blank xs at 64 ≡ true
    → from ≤ at → at + 64 ≤ from + k → at + 64 ≤ length xs → Copied from k xs at new
copied from k xs at None f t l h g =
    let p = blank_page xs at t in
    record {
      makes = record { cells = xs; lays = nothing xs; long = refl; keeps = λ a o. refl };
      shows = p.empty;
      readable = p.readable;
    }
copied from k xs at (Some stops) f t l h g =
    let p = blank_page xs at t in
    let x = added from k xs at 255 (Some stops) p.tally p.readable (omega (arith, used_none)) f l h g in
    record {
      makes = record {
        cells = x.makes.cells;
        lays = subst (λ (s : List Step). Lays from k xs s x.makes.cells) (line_one at stops) x.makes.lays;
        long = x.makes.long;
        keeps = x.makes.keeps;
      };
      shows = x.shows;
      readable = x.readable;
    }

-- The first n positions of a blank book at `to`, where position q is to hold h q.
module _ (k : ℕ) (xs : List ℕ) (to : ℕ) (F : ℕ → Result (Option ℕ) PartFault) (h : ℕ → Option ℕ) where
  record AllCopied (n : ℕ) : Type 0 where
    makes : Makes to k xs (pages_copied F to n) (page_at to 1) (64 * n)
    shows : (q : ℕ) → 1 ≤ q → q ≤ n → shown makes.cells (page_at to q) ≡ h q
    readable : (q : ℕ) → 1 ≤ q → q ≤ n → readable_page makes.cells (page_at to q) ≡ true

  -- one position more
  next_copied : (n : ℕ) (before : AllCopied n) → Copied to k before.makes.cells (page_at to (suc n)) (h (suc n))
      → F (suc n) ≡ Ok (h (suc n)) → AllCopied (suc n)
  unfolding pages_copied
  next_copied n before page e =
      let at : ℕ = page_at to (suc n) in
      let ys : List ℕ = before.makes.cells in
      let zs : List ℕ = page.makes.cells in
      let other : (q : ℕ) → q ≤ n → SameInside (page_at to q) 64 ys zs =
      λ q j. same_clear ys zs at 64 (page_at to q) 64 page.makes.keeps (inl (omega arith)) in
      record {
        makes = record {
          cells = zs;
          lays = lays_then before.makes.lays
              (subst (λ (r : Result (Option ℕ) PartFault). Lays to k ys (page_copied at r) zs) (sym e) page.makes.lays);
          long = page.makes.long ∙ before.makes.long;
          keeps = same_then xs ys zs (page_at to 1) (64 * suc n)
              (same_wider xs ys (page_at to 1) (64 * suc n) (page_at to 1) (64 * n) (omega arith) (omega arith) before.makes.keeps)
              (same_wider ys zs (page_at to 1) (64 * suc n) at 64 (omega arith) (omega arith) page.makes.keeps);
        };
        shows = λ q i j. elim (cases_lt q (suc n)) [
          | inl o ↦ shown_same ys zs (page_at to q) (other q (omega arith)) ∙ before.shows q i (omega arith)
          | inr o ↦
              let d : suc n ≡ q = omega arith in
              subst (λ (p : ℕ). shown zs (page_at to p) ≡ h p) d page.shows
        ];
        readable = λ q i j. elim (cases_lt q (suc n)) [
          | inl o ↦ page_same ys zs (page_at to q) (other q (omega arith)) ∙ before.readable q i (omega arith)
          | inr o ↦
              let d : suc n ≡ q = omega arith in
              subst (λ (p : ℕ). readable_page zs (page_at to p) ≡ true) d page.readable
        ];
      }

  -- the next page is still blank
  next_blank : (n : ℕ) → blank xs to (book_size (suc n)) ≡ true → (before : AllCopied n)
      → blank before.makes.cells (page_at to (suc n)) 64 ≡ true
  next_blank n t before =
      let at : ℕ = page_at to (suc n) in
      blank_same xs before.makes.cells at 64 (same_clear xs _ (page_at to 1) (64 * n) at 64 before.makes.keeps (inr (omega arith)))
      ∙ blank_part xs to (book_size (suc n)) at 64 t (omega arith) (omega arith)

  all_copied : (n : ℕ) → book_size n ≤ k → to + book_size n ≤ length xs → blank xs to (book_size n) ≡ true
      → ((q : ℕ) → 1 ≤ q → q ≤ n → F q ≡ Ok (h q)) → ((q : ℕ) → 1 ≤ q → q ≤ n → StopsFit (h q)) → AllCopied n
  unfolding pages_copied
  all_copied zero l g t e f = record {
    makes = record { cells = xs; lays = nothing xs; long = refl; keeps = λ a o. refl };
    shows = λ q i j. absurd (omega arith);
    readable = λ q i j. absurd (omega arith);
  }
  all_copied (suc n) l g t e f =
      let before = all_copied n (omega arith) (omega arith)
      (blank_part xs to (book_size (suc n)) to (book_size n) t (omega arith) (omega arith)) (λ q i j. e q i (omega arith)) (λ q i j. f q i (omega arith)) in
      let long : length before.makes.cells ≡ length xs = before.makes.long in
      next_copied n before
      (copied to k _ (page_at to (suc n)) (h (suc n)) (f (suc n) (omega arith) (omega arith)) (next_blank n t before)
      (omega arith) (omega arith) (omega arith))
      (e (suc n) (omega arith) (omega arith))

-- Burning the head leaves the pages, and the rest of the head.
pub head_leaves : (xs : List ℕ) (to q : ℕ) → 1 ≤ q → SameInside (page_at to q) 64 xs (set xs to 0)
head_leaves xs to q l = same_clear xs _ to 1 (page_at to q) 64 (same_set xs to 0) (inr (omega arith))

pub head_rest : (xs : List ℕ) (to : ℕ) → SameInside (to + 1) 63 xs (set xs to 0)
head_rest xs to = same_clear xs _ to 1 (to + 1) 63 (same_set xs to 0) (inr (omega arith))

-- All positions, and the head.
pub record BookMade (xs : List ℕ) (to : ℕ) (F : ℕ → Result (Option ℕ) PartFault) (h : ℕ → Option ℕ) (n : ℕ) : Type 0 where
  pub makes : Makes to (book_size n) xs (book_copied F to n) to (book_size n)
  pub head : get_or makes.cells to 0 ≡ 0
  pub readable : readable_book makes.cells to n ≡ true
  pub shows : (q : ℕ) → 1 ≤ q → q ≤ n → shown makes.cells (page_at to q) ≡ h q

module _ (xs : List ℕ) (to : ℕ) (F : ℕ → Result (Option ℕ) PartFault) (h : ℕ → Option ℕ) (n : ℕ) where
  -- the rest of the head is still blank
  rest_blank : blank xs to (book_size n) ≡ true → (all : AllCopied (book_size n) xs to F h n)
      → blank all.makes.cells (to + 1) 63 ≡ true
  rest_blank t all =
      blank_same xs all.makes.cells (to + 1) 63
      (same_clear xs _ (page_at to 1) (64 * n) (to + 1) 63 all.makes.keeps (inl (omega arith)))
      ∙ blank_part xs to (book_size n) (to + 1) 63 t (omega arith) (omega arith)

  headed : to + book_size n ≤ length xs → blank xs to (book_size n) ≡ true → AllCopied (book_size n) xs to F h n → BookMade xs to F h n
  unfolding book_copied
  headed g t all =
      let ys : List ℕ = all.makes.cells in
      let zs : List ℕ = set ys to 0 in
      let long : length ys ≡ length xs = all.makes.long in
      record {
        makes = record {
          cells = zs;
          lays = lays_then all.makes.lays (one_burn to (book_size n) ys to 0 (omega arith) (omega arith) (clears_zero (get_or ys to 0)));
          long = length-set ys to 0 ∙ long;
          keeps = same_then xs ys zs to (book_size n)
              (same_wider xs ys to (book_size n) (page_at to 1) (64 * n) (omega arith) (omega arith) all.makes.keeps)
              (same_wider ys zs to (book_size n) to 1 (omega arith) (omega arith) (same_set ys to 0));
        };
        head = get_or-set_same ys to 0 0 (omega arith);
        readable = and_from _ _ (blank_same ys zs (to + 1) 63 (head_rest ys to) ∙ rest_blank t all)
            (pages_from zs to n (λ q i j. page_same ys zs (page_at to q) (head_leaves ys to q i) ∙ all.readable q i j));
        shows = λ q i j. shown_same ys zs (page_at to q) (head_leaves ys to q i) ∙ all.shows q i j;
      }

  pub book_made : to + book_size n ≤ length xs → blank xs to (book_size n) ≡ true
      → ((q : ℕ) → 1 ≤ q → q ≤ n → F q ≡ Ok (h q)) → ((q : ℕ) → 1 ≤ q → q ≤ n → StopsFit (h q)) → BookMade xs to F h n
  book_made g t e f = headed g t (all_copied (book_size n) xs to F h n (omega arith) g t e f)

pub some_steps : (F : ℕ → Result (Option ℕ) PartFault) (to n : ℕ) → book_copied F to n ≡ [] → ⊥
unfolding book_copied
some_steps F to n e = has_last (pages_copied F to n) (burn to 0) e
