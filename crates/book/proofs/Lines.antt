-- One line more of a page, as steps that a part grants.
use Rattle.std.proofs.Common.{◌≡◌, ℕ, zero, suc, ◌+◌, ◌-◌, ◌*◌, ◌^◌, ◌<◌, ◌≤◌, true, false, ◌⊎◌, List, [], ◌∷◌, ◌++◌, length, get_or, set, Some, None, Option, sym, refl, ap, ◌∙◌, subst, inl, inr, arith}
use Rattle.std.proofs.lemmas.List.{length-set, get_or-set_same, get_or-set_other}
use Rattle.std.proofs.lemmas.Bool.{cases_lt, cond-true, or_right}
use Rattle.part.specs.Calls.{needs_erase}
use Rattle.book.specs.Pages.{line_at, used, next_line, marked, byte_of, spelled, registration, shown, blank, fit_line, readable_page}
use Rattle.book.specs.Burning.{Step, burn, bytes_burnt, line_burnt, line_added}
use Rattle.book.proofs.Seats.{SameOutside, SameInside, StopsFit}
use Rattle.book.proofs.Stretches.{blank_same, blank_at, blank_part, spelled_same, spelled_bytes, spelled_blank}
use Rattle.book.proofs.Tallies.{marking, clears_blank}
use Rattle.book.proofs.Showing.{Readable, readable_facts, readable_from, shown_with, in_line, line_value, value_shows, value_fits}
use Rattle.book.proofs.Laying.{Lays, nothing, one_more, lays_then, has_last}

-- Where the cells of a stretch alone have changed, each other stretch is as it was.
pub same_clear : (xs ys : List ℕ) (from k at j : ℕ) → SameOutside from k xs ys → (at + j ≤ from) ⊎ (from + k ≤ at) → SameInside at j xs ys
same_clear xs ys from k at j s (inl o) a l h = s a (inl (omega arith))
same_clear xs ys from k at j s (inr o) a l h = s a (inr (omega arith))

-- a change inside a change
pub same_wider : (xs ys : List ℕ) (from k at j : ℕ) → from ≤ at → at + j ≤ from + k → SameOutside at j xs ys → SameOutside from k xs ys
same_wider xs ys from k at j l h s a (inl o) = s a (inl (omega arith))
same_wider xs ys from k at j l h s a (inr o) = s a (inr (omega arith))

pub same_then : (xs ys zs : List ℕ) (from k : ℕ) → SameOutside from k xs ys → SameOutside from k ys zs → SameOutside from k xs zs
same_then xs ys zs from k s t a o = t a o ∙ s a o

pub same_set : (xs : List ℕ) (a byte : ℕ) → SameOutside a 1 xs (set xs a byte)
same_set xs a byte c (inl o) = get_or-set_other xs a c byte 0 (λ e. omega arith)
same_set xs a byte c (inr o) = get_or-set_other xs a c byte 0 (λ e. omega arith)

-- What steps among k cells from an address on make of the cells, if they change no cells but j of them.
pub record Makes (from k : ℕ) (xs : List ℕ) (steps : List Step) (at j : ℕ) : Type 0 where
  pub cells : List ℕ
  pub lays : Lays from k xs steps cells
  pub long : length cells ≡ length xs
  pub keeps : SameOutside at j xs cells

-- one burn
pub one_burn : (from k : ℕ) (xs : List ℕ) (a byte : ℕ) → from ≤ a → a < from + k → needs_erase (get_or xs a 0) byte ≡ false
    → Lays from k xs (burn a byte ∷ []) (set xs a byte)
one_burn from k xs a byte l h c = one_more l h c (nothing _)

-- The first i bytes of a number go to blank cells.
record Bytes (from k : ℕ) (xs : List ℕ) (at n i : ℕ) : Type 0 where
  makes : Makes from k xs (bytes_burnt at n i) at i
  holds : (j : ℕ) → j < i → get_or makes.cells (at + j) 0 ≡ byte_of n j

bytes : (from k : ℕ) (xs : List ℕ) (at n i : ℕ) → from ≤ at → at + i ≤ from + k → at + i ≤ length xs → blank xs at i ≡ true
    → Bytes from k xs at n i
unfolding bytes_burnt
bytes from k xs at n zero l h g t = record {
  makes = record { cells = xs; lays = nothing xs; long = refl; keeps = λ a o. refl };
  holds = λ j i. absurd (omega arith);
}
bytes from k xs at n (suc i) l h g t =
    let before = bytes from k xs at n i l (omega arith) (omega arith) (blank_part xs at (suc i) at i t (omega arith) (omega arith)) in
    let ys : List ℕ = before.makes.cells in
    let zs : List ℕ = set ys (at + i) (byte_of n i) in
    let long : length ys ≡ length xs = before.makes.long in
    let free : get_or ys (at + i) 0 ≡ 255 =
    before.makes.keeps (at + i) (inr (omega arith)) ∙ blank_at xs at (suc i) t (at + i) (omega arith) (omega arith) in
    let clears : needs_erase (get_or ys (at + i) 0) (byte_of n i) ≡ false =
    ap (λ (v : ℕ). needs_erase v (byte_of n i)) free ∙ clears_blank (byte_of n i) (omega arith) in
    record {
      makes = record {
        cells = zs;
        lays = lays_then before.makes.lays (one_burn from k ys (at + i) (byte_of n i) (omega arith) (omega arith) clears);
        long = length-set ys (at + i) (byte_of n i) ∙ long;
        keeps = same_then xs ys zs at (suc i) (same_wider xs ys at (suc i) at i (omega arith) (omega arith) before.makes.keeps)
            (same_wider ys zs at (suc i) (at + i) 1 (omega arith) (omega arith) (same_set ys (at + i) (byte_of n i)));
      };
      holds = λ j o. elim (cases_lt j i) [
        | inl p ↦ get_or-set_other ys (at + i) (at + j) (byte_of n i) 0 (λ e. omega arith) ∙ before.holds j p
        | inr p ↦
            let e : j ≡ i = omega arith in
            ap (λ (u : ℕ). get_or zs (at + u) 0) e ∙ get_or-set_same ys (at + i) (byte_of n i) 0 (omega arith) ∙ ap (byte_of n) (sym e)
      ];
    }

-- A line goes to eight blank cells.
record Lined (from k : ℕ) (xs : List ℕ) (at : ℕ) (new : Option ℕ) : Type 0 where
  makes : Makes from k xs (line_burnt at new) at 8
  spells : spelled makes.cells at 8 ≡ line_value new

lined : (from k : ℕ) (xs : List ℕ) (at : ℕ) (new : Option ℕ) → StopsFit new → from ≤ at → at + 8 ≤ from + k → at + 8 ≤ length xs
    → blank xs at 8 ≡ true → Lined from k xs at new
lined from k xs at None f l h g t = record {
  makes = record { cells = xs; lays = nothing xs; long = refl; keeps = λ a o. refl };
  spells = spelled_blank xs at t;
}
lined from k xs at (Some stops) f l h g t =
    let b = bytes from k xs at stops 8 l h g t in
    record { makes = b.makes; spells = spelled_bytes b.makes.cells at stops (omega arith) b.holds }

-- One line more of a readable page that has one left.
pub record Added (from k : ℕ) (xs : List ℕ) (at tally : ℕ) (new : Option ℕ) : Type 0 where
  pub makes : Makes from k xs (line_added at tally new) at 64
  pub shows : shown makes.cells at ≡ new
  pub readable : readable_page makes.cells at ≡ true

pub added : (from k : ℕ) (xs : List ℕ) (at tally : ℕ) (new : Option ℕ) → get_or xs at 0 ≡ tally → readable_page xs at ≡ true → used tally < 7
    → StopsFit new → from ≤ at → at + 64 ≤ from + k → at + 64 ≤ length xs → Added from k xs at tally new
unfolding line_added
added from k xs at tally new e t u f l h g =
    let o : ℕ = used tally in
    let next : o + 1 ≡ next_line tally = omega arith in
    let facts : Readable xs at o = subst (λ (v : ℕ). Readable xs at (used v)) e (readable_facts xs at t) in
    let m = marking o u in
    let full : tally ≡ 256 - 2 ^ o = sym e ∙ facts.tally in
    let low : marked tally ≡ 256 - 2 ^ (o + 1) = ap marked full ∙ m.tally in
    let line = lined from k xs (line_at at (o + 1)) new f (omega arith) (omega arith) (omega arith)
    (blank_part xs (line_at at (o + 1)) (56 - 8 * o) (line_at at (o + 1)) 8 facts.beyond (omega arith) (omega arith)) in
    let ys : List ℕ = line.makes.cells in
    let zs : List ℕ = set ys at (marked tally) in
    let long : length ys ≡ length xs = line.makes.long in
    let was : get_or ys at 0 ≡ tally = line.makes.keeps at (inl (omega arith)) ∙ e in
    let clears : needs_erase (get_or ys at 0) (marked tally) ≡ false =
    ap (λ (v : ℕ). needs_erase v (marked tally)) was ∙ ap (λ (v : ℕ). needs_erase v (marked v)) full ∙ m.clears in
    let now : get_or zs at 0 ≡ 256 - 2 ^ (o + 1) = get_or-set_same ys at (marked tally) 0 (omega arith) ∙ low in
    let count : used (get_or zs at 0) ≡ o + 1 = ap used now ∙ m.used in
    let tallied : SameOutside at 1 ys zs = same_set ys at (marked tally) in
    let spells : spelled zs (line_at at (o + 1)) 8 ≡ line_value new =
    spelled_same ys zs (line_at at (o + 1)) 8 (same_clear ys zs at 1 (line_at at (o + 1)) 8 tallied (inr (omega arith))) ∙ line.spells in
    let apart : (from k : ℕ) → at + 1 ≤ from → (from + k ≤ line_at at (o + 1)) ⊎ (line_at at (o + 1) + 8 ≤ from)
    → blank zs from k ≡ blank xs from k =
    λ from k i s. blank_same ys zs from k (same_clear ys zs at 1 from k tallied (inr i))
    ∙ blank_same xs ys from k (same_clear xs ys (line_at at (o + 1)) 8 from k line.makes.keeps s) in
    record {
      makes = record {
        cells = zs;
        lays = subst (λ (v : ℕ). Lays from k xs (line_burnt (line_at at v) new ++ (burn at (marked tally) ∷ [])) zs) next
            (lays_then line.makes.lays (one_burn from k ys at (marked tally) (omega arith) (omega arith) clears));
        long = length-set ys at (marked tally) ∙ long;
        keeps = same_then xs ys zs at 64 (same_wider xs ys at 64 (line_at at (o + 1)) 8 (omega arith) (omega arith) line.makes.keeps)
            (same_wider ys zs at 64 at 1 (omega arith) (omega arith) tallied);
      };
      shows = ap (shown_with zs at) count ∙ cond-true _ _ _ (in_line (o + 1) (omega arith) (omega arith))
          ∙ ap registration spells ∙ value_shows new f;
      readable = readable_from zs at (o + 1) count (record {
        few = omega arith;
        tally = now;
        rest = apart (at + 1) 7 (omega arith) (inl (omega arith)) ∙ facts.rest;
        line = or_right _ _ (ap fit_line spells ∙ value_fits new f);
        beyond = apart (line_at at (o + 1 + 1)) (56 - 8 * (o + 1)) (omega arith) (inr (omega arith))
            ∙ blank_part xs (line_at at (o + 1)) (56 - 8 * o) (line_at at (o + 1 + 1)) (56 - 8 * (o + 1)) facts.beyond
            (omega arith) (omega arith);
      });
    }

pub some_line : (at tally : ℕ) (new : Option ℕ) → line_added at tally new ≡ [] → ⊥
unfolding line_added
some_line at tally new e = has_last (line_burnt (line_at at (next_line tally)) new) (burn at (marked tally)) e
