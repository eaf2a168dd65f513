-- What set and clear do to the books.
use Rattle.std.proofs.Common.{◌≡◌, ℕ, ◌+◌, ◌<◌, ◌≤◌, Bool, true, false, cond, eqb, leb, List, length, get_or, is_some, Some, None, Ok, Err, Option, Result, sym, refl, ap, ◌∙◌, subst, inl, inr, arith}
use Rattle.std.specs.Prelude.{is_ok, is_none, MatchResult}
use Rattle.std.proofs.lemmas.Bool.{cases_Bool, ltb-true, leb-true, and_parts, and_from, eqb-true, lt-leb, cond-true, cond-false, both_ways, eqb-false}
use Rattle.fault.specs.declared.cause.Cause.{Cause}
use Rattle.fault.specs.declared.cause.Cause.TheVariants.{PositionOutside, StopOutside}
use Rattle.fault.specs.declared.faults.PartFault.{PartFault}
use Rattle.part.specs.Meaning.{Meaning, count, worn, with_cells, with_erasure, ticked}
use Rattle.part.specs.Calls.{answer, begin_no, BegunBy, Started}
use Rattle.part.proofs.Standings.{hides_none, bars_none}
use Rattle.book.specs.Pages.{page_at, used, shown, page_of, blank, readable_page, readable_pages, readable_book}
use Rattle.book.specs.Burning.{Ran, line_added}
use Rattle.book.specs.declared.page.Page.{Page}
use Rattle.book.specs.Reading.{reading}
use Rattle.book.specs.Pairs.{Pair, book_size, changed, spoilt_if}
use Rattle.book.proofs.Seats.{SameOutside, SameInside, StopsFit}
use Rattle.book.proofs.Ground.{seated_on, seated_changed}
use Rattle.book.proofs.Lines.{same_clear, same_wider}
use Rattle.book.proofs.Effects.{reads, blank_same, shown_same, page_same, pages_at, pages_from, page_apart, books_apart_back, WornRefused, line_done, line_worn, copy_done, copy_worn}
use Rattle.fault.specs.declared.faults.ConsoleFault.{ConsoleFault}
use Rattle.console.specs.declared.answers.Said.{Said}
use Rattle.console.specs.declared.answers.Said.TheVariants.{Done}
use Rattle.console.specs.Desks.{Desk, opened, moved}
use Rattle.console.specs.Faults.{no_place, reported, Refuses}
use Rattle.console.specs.Checks.{fits}
use Rattle.console.specs.Waiting.{let_end, ends_worn}
use Rattle.console.specs.Storing.{Changes, Turned, Writes, Stored, StoresOn, Stores}
use Rattle.console.specs.declared.answers.Answer.{Answer}
use Rattle.console.specs.declared.call.Call.TheVariants.{Set, Clear}
use Rattle.console.specs.Calls.{Replies}
use Rattle.console.proofs.Ways.{Went, empty, line, change, spoilt as refused, went}
use Rattle.console.proofs.Tables.{Table, look, is_position, outside}
use Rattle.console.proofs.Keeping.{Rest, ready, erasing, spoilt, InBlocks, Keeps, keeps_ticked, keeps_for, Goes}

-- the table with something new at p, if it was accepted
abbrev pub put : ℕ → Option ℕ → Bool → Table → Table
put p new accepted f q = cond accepted (cond (eqb q p) new (f q)) (f q)

-- What a store leaves; only a worn block refuses it.
pub record Put (o : Meaning) (a b : ℕ) (f : Table) (p : ℕ) (new : Option ℕ) (r : Result (Unit {0}) PartFault) (n : Meaning) (z : Pair) : Type 0 where
  pub keeps : Keeps o a b (put p new (is_ok r) f) n z
  pub sure : worn o a ≡ false → worn o b ≡ false → r ≡ Ok tt

-- neither book is in a worn block
pub unworn : (o : Meaning) (a b : ℕ) (f : Table) (m : Meaning) (c : Pair) → Keeps o a b f m c → worn o a ≡ false → worn o b ≡ false
    → (worn m c.current.block ≡ false) × (worn m c.spare.block ≡ false)
unworn o a b f m c k s t =
    let at : (x y : ℕ) → x ≡ y → worn o y ≡ false → worn m x ≡ false =
    λ x y e w. ap (λ (l : List Bool). get_or l x false) k.wears ∙ ap (worn o) e ∙ w in
    elim k.blocks [
      | inl e ↦ (at c.current.block a e.0 s, at c.spare.block b e.1 t)
      | inr e ↦ (at c.current.block b e.0 t, at c.spare.block a e.1 s)
    ]

blocks_changed : (a b : ℕ) (c : Pair) → InBlocks a b c → InBlocks a b (changed c)
blocks_changed a b c (inl e) = inr (e.1, e.0)
blocks_changed a b c (inr e) = inl (e.1, e.0)

module _ (o : Meaning) (a b : ℕ) (f : Table) (k : Meaning) (c : Pair) (p : ℕ) (new : Option ℕ) (h : Keeps o a b f k c) (idle : k.erasure ≡ None)
    (low : 1 ≤ p) (high : p ≤ c.positions) (fit : StopsFit new) where
  -- A refusal by a worn block.
  put_worn : (r : Result (Unit {0}) PartFault) (n : Meaning) → WornRefused k r n → ((worn o a ≡ false) → (worn o b ≡ false) → ⊥)
      → Put o a b f p new r n c
  put_worn r n w never = record {
    keeps = subst (λ (x : Result (Unit {0}) PartFault). Keeps o a b (put p new (is_ok x) f) n c) (sym w.refused)
        (subst (λ (x : Meaning). Keeps o a b f x c) (sym w.is) (keeps_ticked o a b f k c w.time h));
    sure = λ s t. absurd (never s t);
  }

  book : (blank k.cells (c.current.start + 1) 63 ≡ true) × (readable_pages k.cells c.current.start c.positions ≡ true)
  book = and_parts _ _ h.readable

  -- One line more.
  module _ (cells : List ℕ) (same : SameOutside (page_at c.current.start p) 64 k.cells cells) where
    wide : SameOutside c.current.start (book_size c.positions) k.cells cells
    wide = same_wider k.cells cells c.current.start (book_size c.positions) (page_at c.current.start p) 64 (omega arith) (omega arith) same

    apart_from : (q : ℕ) → eqb q p ≡ false → SameInside (page_at c.current.start q) 64 k.cells cells
    apart_from q d = page_apart c.current.start p q k.cells cells (λ e. eqb-false q p d (sym e)) same

    rest_cells : (time : ℕ) → Rest k c → Rest (ticked (with_cells k cells) time) c
    rest_cells time (ready i s t) =
        ready i s (blank_same k.cells cells c.spare.start (book_size c.positions) (books_apart_back k c h.seated k.cells cells wide) ∙ t)
    rest_cells time (erasing left i s) = let z : ◌≡◌ {A = ℕ} 0 1 = cc in absurd (omega arith)
    rest_cells time (spoilt i s w) = spoilt i s w

    page_after : shown cells (page_at c.current.start p) ≡ new → (q : ℕ) → 1 ≤ q → q ≤ c.positions
        → shown cells (page_at c.current.start q) ≡ cond (eqb q p) new (f q)
    page_after s q l i = elim (cases_Bool (eqb q p)) [
      | inl t ↦ ap (λ (x : ℕ). shown cells (page_at c.current.start x)) (eqb-true q p t) ∙ s ∙ sym (cond-true (eqb q p) new (f q) t)
      | inr t ↦ shown_same k.cells cells (page_at c.current.start q) (apart_from q t) ∙ h.shows q l i ∙ sym (cond-false (eqb q p) new (f q) t)
    ]

    page_readable : readable_page cells (page_at c.current.start p) ≡ true → (q : ℕ) → 1 ≤ q → q ≤ c.positions
        → readable_page cells (page_at c.current.start q) ≡ true
    page_readable s q l i = elim (cases_Bool (eqb q p)) [
      | inl t ↦ ap (λ (x : ℕ). readable_page cells (page_at c.current.start x)) (eqb-true q p t) ∙ s
      | inr t ↦ page_same k.cells cells (page_at c.current.start q) (apart_from q t)
          ∙ pages_at k.cells c.current.start c.positions book.1 q l i
    ]

    keeps_line : (time : ℕ) → length cells ≡ length k.cells → shown cells (page_at c.current.start p) ≡ new
        → readable_page cells (page_at c.current.start p) ≡ true → Keeps o a b (put p new true f) (ticked (with_cells k cells) time) c
    keeps_line time l s t = record {
      seated = seated_on k _ c c.spoilt refl refl l h.seated;
      blocks = h.blocks;
      sizes = h.sizes;
      guards = h.guards;
      wears = h.wears;
      positions = h.positions;
      head = same c.current.start (inl (omega arith)) ∙ h.head;
      readable = and_from _ _
          (blank_same k.cells cells (c.current.start + 1) 63
          (same_clear k.cells cells (page_at c.current.start p) 64 (c.current.start + 1) 63 same (inl (omega arith))) ∙ book.0)
          (pages_from cells c.current.start c.positions (page_readable t));
      shows = page_after s;
      rest = rest_cells time h.rest;
    }

  put_line : used (get_or k.cells (page_at c.current.start p) 0) < 7
      → (r : Result (Unit {0}) PartFault) (n : Meaning) → Ran k (line_added (page_at c.current.start p) (get_or k.cells (page_at c.current.start p) 0) new) r n
      → Put o a b f p new r n c
  put_line u r n x =
      let t : readable_page k.cells (page_at c.current.start p) ≡ true = pages_at k.cells c.current.start c.positions book.1 p low high in
      elim (cases_Bool (worn k c.current.block)) [
        | inl w ↦ put_worn r n (line_worn k c p new h.seated (bars_none k c.current.block (ap is_some idle)) low high t u fit w r n x)
            (λ s i. both_ways (worn k c.current.block) (unworn o a b f k c h s i).0 w)
        | inr w ↦
            let d = line_done k c p new h.seated (bars_none k c.current.block (ap is_some idle)) low high t u fit w r n x in
            record {
              keeps = subst (λ (y : Result (Unit {0}) PartFault). Keeps o a b (put p new (is_ok y) f) n c) (sym d.accepted)
                  (subst (λ (y : Meaning). Keeps o a b (put p new true f) y c) (sym d.writes.is)
                  (keeps_line d.cells d.keeps d.writes.time d.writes.long d.shows d.readable));
              sure = λ s i. d.accepted;
            }
      ]

  -- The change of books, once everything is copied.
  module _ (cells : List ℕ) (time : ℕ) (long : length cells ≡ length k.cells) where
    abbrev copied : Meaning
    copied = ticked (with_cells k cells) time

    begin_granted : begin_no copied c.current.block ≡ None
    begin_granted =
        cond-false _ _ _ (lt-leb (count k) c.current.block h.seated.current_in)
        ∙ cond-false _ _ _ (ap is_some idle)
        ∙ cond-false _ _ _ h.seated.current_open

    keeps_changed : (n : Meaning) → Started copied c.current.block n → c.spoilt ≡ false → get_or cells c.spare.start 0 ≡ 0
        → readable_book cells c.spare.start c.positions ≡ true
        → ((q : ℕ) → 1 ≤ q → q ≤ c.positions → shown cells (page_at c.spare.start q) ≡ cond (eqb q p) new (shown k.cells (page_at c.current.start q)))
        → Keeps o a b (put p new true f) n (changed c)
    keeps_changed n g s i t u =
        subst (λ (y : Meaning). Keeps o a b (put p new true f) y (changed c)) (sym g.is) (record {
          seated = seated_changed (with_erasure copied (Some (record { block = c.current.block; left = g.left; running = true }))) c
              (seated_on k _ c c.spoilt refl refl long h.seated);
          blocks = blocks_changed a b c h.blocks;
          sizes = h.sizes;
          guards = h.guards;
          wears = h.wears;
          positions = h.positions;
          head = i;
          readable = t;
          shows = λ q l j. u q l j ∙ ap (cond (eqb q p) new) (h.shows q l j);
          rest = erasing g.left refl s;
        })

  put_change : blank k.cells c.spare.start (book_size c.positions) ≡ true → c.spoilt ≡ false
      → (r : Result (Unit {0}) PartFault) (n : Meaning) (z : Pair) → Changes k c p new r n z → Put o a b f p new r n z
  put_change t s r n z x =
      elim (cases_Bool (worn k c.spare.block)) [
        | inl w ↦
            let g = copy_worn k c p new h.seated (hides_none k c.current.block (ap is_some idle)) (bars_none k c.spare.block (ap is_some idle)) book.1 t fit w x.answer x.middle x.copies in
            let y : Turned (Err g.fault) x.middle c r n z = subst (λ (q : Result (Unit {0}) PartFault). Turned q x.middle c r n z) g.refused x.turns in
            subst (λ (v : Pair). Put o a b f p new r n v) (sym y.2)
            (put_worn r n (record { fault = g.fault; time = g.time; refused = y.0; is = y.1 ∙ g.is })
            (λ i j. both_ways (worn k c.spare.block) (unworn o a b f k c h i j).1 w))
        | inr w ↦
            let d = copy_done k c p new h.seated (hides_none k c.current.block (ap is_some idle)) (bars_none k c.spare.block (ap is_some idle)) book.1 t fit w x.answer x.middle x.copies in
            let y : Turned (Ok tt) x.middle c r n z = subst (λ (q : Result (Unit {0}) PartFault). Turned q x.middle c r n z) d.accepted x.turns in
            let v : Turned (Ok tt) (copied d.cells d.writes.time d.writes.long) c r n z =
            subst (λ (q : Meaning). Turned (Ok tt) q c r n z) d.writes.is y in
            let no = begin_granted d.cells d.writes.time d.writes.long in
            let accepted : r ≡ Ok tt = v.0 ∙ ap (λ (q : Option Cause). answer q c.current.block tt) no in
            let started : Started (copied d.cells d.writes.time d.writes.long) c.current.block n =
            subst (λ (q : Option Cause). BegunBy (copied d.cells d.writes.time d.writes.long) c.current.block q n) no v.1 in
            record {
              keeps = subst (λ (q : Result (Unit {0}) PartFault). Keeps o a b (put p new (is_ok q) f) n z) (sym accepted)
                  (subst (λ (q : Pair). Keeps o a b (put p new true f) n q) (sym v.2)
                  (keeps_changed d.cells d.writes.time d.writes.long n started s d.head d.readable d.shows));
              sure = λ i j. accepted;
            }
      ]

-- A position that is empty and is cleared stays as it is.
none_is : (x : Option ℕ) → is_none x ≡ true → x ≡ None
none_is None t = refl
none_is (Some s) t = let z : ◌≡◌ {A = Bool} false true = t in absurd (both_ways false refl z)

module _ (o : Meaning) (a b : ℕ) (f : Table) (k : Meaning) (c : Pair) (p : ℕ) (new : Option ℕ) (h : Keeps o a b f k c) (idle : k.erasure ≡ None)
    (low : 1 ≤ p) (high : p ≤ c.positions) (fit : StopsFit new) (r : Result (Unit {0}) PartFault) (n : Meaning) (z : Pair) where
  abbrev at : ℕ
  at = page_at c.current.start p

  abbrev seen : Page
  seen = page_of k.cells at

  -- each way
  put_went : Went k c p seen new r n z → Put o a b f p new r n z
  put_went (empty t e m d) =
      let i = and_parts _ _ t in
      let here : f p ≡ new = sym (h.shows p low high) ∙ none_is (shown k.cells at) i.0 ∙ sym (none_is new i.1) in
      record {
        keeps = subst (λ (q : Result (Unit {0}) PartFault). Keeps o a b (put p new (is_ok q) f) n z) (sym e)
            (subst (λ (q : Meaning). Keeps o a b (put p new true f) q z) (sym m)
            (subst (λ (q : Pair). Keeps o a b (put p new true f) k q) (sym d)
            (keeps_for o a b f (put p new true f) k c
            (λ q l j. elim (cases_Bool (eqb q p)) [
              | inl g ↦ ap f (eqb-true q p g) ∙ here ∙ sym (cond-true (eqb q p) new (f q) g)
              | inr g ↦ sym (cond-false (eqb q p) new (f q) g)
            ]) h)));
        sure = λ _ _. e;
      }
  put_went (line u x d) =
      subst (λ (q : Pair). Put o a b f p new r n q) (sym d) (put_line o a b f k c p new h idle low high fit u r n x)
  put_went (change s x) = by h.rest
    where
      by : Rest k c → Put o a b f p new r n z
      by (ready _ d t) = put_change o a b f k c p new h idle low high fit t d r n z x
      by (erasing _ i _) = let e : ◌≡◌ {A = ℕ} 0 1 = cc in absurd (omega arith)
      by (spoilt _ d _) = absurd (both_ways c.spoilt s d)
  put_went (refused s e m d) = record {
    keeps = subst (λ (q : Result (Unit {0}) PartFault). Keeps o a b (put p new (is_ok q) f) n z) (sym e)
        (subst (λ (q : Meaning). Keeps o a b f q z) (sym m) (subst (λ (q : Pair). Keeps o a b f k q) (sym d) h));
    sure = λ i j. by i j h.rest;
  }
    where
      by : worn o a ≡ false → worn o b ≡ false → Rest k c → r ≡ Ok tt
      by i j (ready _ g _) = absurd (both_ways c.spoilt g s)
      by i j (erasing _ _ g) = absurd (both_ways c.spoilt g s)
      by i j (spoilt _ _ w) = absurd (both_ways (worn k c.spare.block) (unworn o a b f k c h i j).1 w)

  pub put_on : Writes (reading k at) k c p new r n z → Put o a b f p new r n z
  put_on x = put_went (went k c p seen new r n z (subst (λ (q : Result Page PartFault). Writes q k c p new r n z)
      (reads k c h.seated (hides_none k c.current.block (ap is_some idle)) p high) x))

-- what it answers where no book block is worn
abbrev pub stored : ℕ → ℕ → Option ℕ → Result Said ConsoleFault
stored n p new = cond (is_position n p) (cond (fits new) (Ok Done) (Err (no_place StopOutside p))) (outside p)

-- What set or clear did, its microseconds aside.
pub record Saved (o : Meaning) (a b : ℕ) (f : Table) (c : Pair) (p : ℕ) (new : Option ℕ) (r : Result Answer ConsoleFault) (e : Desk) : Type 0 where
  pub books : Pair
  pub leaves : e ≡ opened e.part books
  pub keeps : Keeps o a b (put p new (is_ok r) f) e.part books
  pub sure : worn o a ≡ false → worn o b ≡ false → look r ≡ stored c.positions p new

stops_fit : (new : Option ℕ) → fits new ≡ true → StopsFit new
stops_fit None t = tt
stops_fit (Some stops) t = ltb-true stops 9223372036854775808 t

-- an accepted one says that it is done
abbrev done_in : ℕ → Unit {0} → Answer
done_in us _ = record { said = Done; us = us }

ok_reported : (us p : ℕ) (r : Result (Unit {0}) PartFault) → is_ok (reported p (done_in us) r) ≡ is_ok r
ok_reported us p (Ok u) = refl
ok_reported us p (Err fault) = refl

module _ (o : Meaning) (a b : ℕ) (f : Table) (m : Meaning) (c : Pair) (p : ℕ) (new : Option ℕ) (h : Keeps o a b f m c)
    (ended : Keeps o a b f (let_end m) (spoilt_if (ends_worn m) c)) (idle : (let_end m).erasure ≡ None) where
  saved_open : is_position c.positions p ≡ true → fits new ≡ true → (r : Result Answer ConsoleFault) (e : Desk) → StoresOn (opened m c) c p new r e
      → Saved o a b f c p new r e
  unfolding Stored
  saved_open t u r e x =
      let at_page = and_parts (leb 1 p) (leb p c.positions) t in
      let g = put_on o a b f (let_end m) (spoilt_if (ends_worn m) c) p new ended idle (leb-true 1 p at_page.0) (leb-true p c.positions at_page.1)
      (stops_fit new u) x.answer e.part x.books x.stored in
      let us : ℕ = moved m e.part in
      subst (λ (v : Result Answer ConsoleFault). Saved o a b f c p new v e) (sym x.says)
      (record {
        books = x.books;
        leaves = x.leaves;
        keeps = subst (λ (w : Bool). Keeps o a b (put p new w f) e.part x.books) (sym (ok_reported us p x.answer)) g.keeps;
        sure = λ i j. ap (λ (v : Result (Unit {0}) PartFault). look (reported p (done_in us) v)) (g.sure i j)
            ∙ sym (cond-true (is_position c.positions p) _ _ t ∙ cond-true (fits new) _ _ u);
      })

  saved_not : (cause : Cause) (r : Result Answer ConsoleFault) (e : Desk) → Refuses (opened m c) (no_place cause p) r e
      → ◌≡◌ {A = Result Said ConsoleFault} (Err (no_place cause p)) (stored c.positions p new) → Saved o a b f c p new r e
  saved_not cause r e x s =
      subst (λ (v : Result Answer ConsoleFault). Saved o a b f c p new v e) (sym x.0)
      (subst (λ (d : Desk). Saved o a b f c p new (Err (no_place cause p)) d) (sym x.1)
      (record { books = c; leaves = refl; keeps = h; sure = λ _ _. s }))

  abbrev If : Result Pair Cause → Result Answer ConsoleFault → Desk → Type 0
  If q r e = MatchResult q (λ b. StoresOn (opened m c) b p new r e) (λ cause. Refuses (opened m c) (no_place cause p) r e)

  pub saved : (r : Result Answer ConsoleFault) (e : Desk) → Stores (opened m c) p new r e → Saved o a b f c p new r e
  unfolding Stores
  saved r e x = elim (cases_Bool (is_position c.positions p)) [
    | inr t ↦
        let y : If (Err PositionOutside) r e = subst (λ (w : Result Pair Cause). If w r e) (cond-false (is_position c.positions p) _ _ t) x in
        saved_not PositionOutside r e y (sym (cond-false (is_position c.positions p) _ _ t))
    | inl t ↦
        let y : If (cond (fits new) (Ok c) (Err StopOutside)) r e =
        subst (λ (w : Result Pair Cause). If w r e) (cond-true (is_position c.positions p) _ _ t) x in
        elim (cases_Bool (fits new)) [
          | inr u ↦
              let z : If (Err StopOutside) r e = subst (λ (w : Result Pair Cause). If w r e) (cond-false (fits new) _ _ u) y in
              saved_not StopOutside r e z (sym (cond-true (is_position c.positions p) _ _ t ∙ cond-false (fits new) _ _ u))
          | inl u ↦ saved_open t u r e (subst (λ (w : Result Pair Cause). If w r e) (cond-true (fits new) _ _ u) y)
        ]
  ]

-- set and clear as calls of a list
module _ (o : Meaning) (a b : ℕ) (f : Table) (m : Meaning) (c : Pair) (h : Keeps o a b f m c)
    (ended : Keeps o a b f (let_end m) (spoilt_if (ends_worn m) c)) (idle : (let_end m).erasure ≡ None) where
  pub set_goes : (p stops : ℕ) (r : Result Answer ConsoleFault) (e : Desk) → Replies (opened m c) (Set p stops) r e → Goes o a b f m c (Set p stops) r e
  set_goes p stops r e x =
      let s = saved o a b f m c p (Some stops) h ended idle r e x in
      record { books = s.books; leaves = s.leaves; keeps = s.keeps; looks = λ never. absurd never; sure = s.sure; prompt = λ never. absurd never }

  pub clear_goes : (p : ℕ) (r : Result Answer ConsoleFault) (e : Desk) → Replies (opened m c) (Clear p) r e → Goes o a b f m c (Clear p) r e
  clear_goes p r e x =
      let s = saved o a b f m c p None h ended idle r e x in
      record { books = s.books; leaves = s.leaves; keeps = s.keeps; looks = λ never. absurd never; sure = s.sure; prompt = λ never. absurd never }
