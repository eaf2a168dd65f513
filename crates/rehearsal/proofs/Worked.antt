-- The worked examples: those on the chip come from there, and those on a console by the bytes that its calls burn.
use Rattle.std.proofs.Common.{◌≡◌, ℕ, ◌+◌, ◌<◌, ◌≤◌, Bool, true, false, cond, not, ◌&&◌, ◌||◌, eqb, leb, ltb, List, [], ◌∷◌, ◌++◌, map, length, get_or, set, is_some, is_none, Some, None, Ok, Option, Result, is_ok, sym, refl, ap, ◌∙◌, subst, subst₂, ap₂, inl, inr, arith, lit<}
use Rattle.std.specs.Prelude.{MatchResult}
use lib.Count.{count_trailing_zeros}
use Rattle.std.proofs.lemmas.List.{length-set, get_or-set_same, get_or-set_other}
use Rattle.std.proofs.lemmas.Bool.{cases_Bool, and_parts, and_from, ltb-true, leb-true, le-leb, lt-ltb, lt-leb, eqb-true, eqb-false, cond-true, cond-false}
use Rattle.fault.specs.declared.cause.Cause.{Cause}
use Rattle.geometry.specs.Blocks.{total, start_of, block_of}
use Rattle.geometry.specs.Plans.{bench}
use Rattle.chip.specs.Examples as chips
use Rattle.chip.proofs.Worked as chip_proofs
use Rattle.fault.specs.declared.faults.PartFault.{PartFault}
use Rattle.part.specs.Meaning.{Meaning, size, count, cell, block, worn, guarded, with_cells, ticked}
use Rattle.part.specs.Calls.{answer, burn_no, Burnt, Took, BurntBy}
use Rattle.part.proofs.Standings.{hides_none, bars_none}
use Rattle.part.proofs.Clocks.{ticked_more}
use Rattle.book.specs.declared.page.Page.{Page}
use Rattle.book.specs.Pages.{page_at, used, shown, page_of, blank, readable_page, readable_pages}
use Rattle.book.specs.Reading.{reading}
use Rattle.book.specs.Burning.{Step, burn, stop, Ran, bytes_burnt, line_added, laid}
use Rattle.book.specs.Pairs.{Pair, book_size, spoilt_if}
use Rattle.book.specs.Finding.{begins, width, fit_size, positions_of, found, pair, Settled, OpenedIf, Opened}
use Rattle.book.proofs.Seats.{Seated, StopsFit}
use Rattle.book.proofs.Stretches.{blank_at}
use Rattle.book.proofs.Tallies.{clears_zero}
use Rattle.book.proofs.Effects.{reads, pages_at, LineDone, line_done, fresh_book}
use Rattle.book.proofs.Seating.{no_cause}
use Rattle.book.proofs.LawsOfBooks.{write_laws}
use Rattle.fault.specs.declared.faults.ConsoleFault.{ConsoleFault}
use Rattle.console.specs.declared.answers.Answer.{Answer}
use Rattle.console.specs.declared.call.Call.{Call}
use Rattle.console.specs.declared.call.Call.TheVariants.{Set, Clear}
use Rattle.console.specs.Desks.{Desk, closed, opened, moved}
use Rattle.console.specs.Waiting.{let_end, let_end_by, ends_worn, ends_worn_by}
use Rattle.console.specs.declared.answers.Said.TheVariants.{Done}
use Rattle.console.specs.Faults.{no_place, reported, Refuses}
use Rattle.console.specs.Checks.{fits, is_position, store_books}
use Rattle.console.specs.Opening.{desk_after, Opens}
use Rattle.console.specs.Storing.{Goes, Writes, Stored, StoresOn, Stores}
use Rattle.rehearsal.specs.declared.line.Line.{Line}
use Rattle.rehearsal.specs.declared.line.Act.TheVariants as acts
use Rattle.rehearsal.specs.Accounts.{Plays, Played, none, more}
use Rattle.rehearsal.specs.Examples.{Cell, Example, cycles, calls, BenchPart, AllAccepted, Hold, ComesOut, Each, WorkedExamples}

-- The examples on the chip come out, and so do others after them.
chips_then : (xs : List chips.Example) (rest : List Example) → chips.Each xs → Each rest → Each (map cycles xs ++ rest)
chips_then [] rest t u = u
chips_then (x ∷ xs) rest t u = (t.0, chips_then xs rest t.1 u)

-- the byte that steps leave at an address, where v was
abbrev last_byte : List Step → ℕ → ℕ → ℕ
last_byte [] a v = v
last_byte (burn b byte ∷ steps) a v = last_byte steps a (cond (eqb a b) byte v)
last_byte (stop fault ∷ steps) a v = last_byte steps a v

-- The cells that steps lay.
laid_long : (xs : List ℕ) (steps : List Step) → length (laid xs steps) ≡ length xs
unfolding laid
laid_long xs [] = refl
laid_long xs (burn b byte ∷ steps) = laid_long (set xs b byte) steps ∙ length-set xs b byte
laid_long xs (stop fault ∷ steps) = laid_long xs steps

one_laid : (xs : List ℕ) (a b byte : ℕ) → a < length xs → get_or (set xs b byte) a 0 ≡ cond (eqb a b) byte (get_or xs a 0)
one_laid xs a b byte l = elim (cases_Bool (eqb a b)) [
  | inl t ↦
      let e : a ≡ b = eqb-true a b t in
      ap (λ (i : ℕ). get_or (set xs i byte) a 0) (sym e) ∙ get_or-set_same xs a byte 0 l ∙ sym (cond-true (eqb a b) byte (get_or xs a 0) t)
  | inr t ↦
      get_or-set_other xs b a byte 0 (eqb-false a b t) ∙ sym (cond-false (eqb a b) byte (get_or xs a 0) t)
]

laid_at : (xs : List ℕ) (steps : List Step) (a : ℕ) → a < length xs → get_or (laid xs steps) a 0 ≡ last_byte steps a (get_or xs a 0)
unfolding laid
laid_at xs [] a l = refl
laid_at xs (burn b byte ∷ steps) a l =
    laid_at (set xs b byte) steps a (omega (arith, length-set xs b byte)) ∙ ap (last_byte steps a) (one_laid xs a b byte l)
laid_at xs (stop fault ∷ steps) a l = laid_at xs steps a l

laid_more : (xs : List ℕ) (s t : List Step) → laid (laid xs s) t ≡ laid xs (s ++ t)
unfolding laid
laid_more xs [] t = refl
laid_more xs (burn b byte ∷ s) t = laid_more (set xs b byte) s t
laid_more xs (stop fault ∷ s) t = laid_more xs s t

-- the two books, by the sizes of the blocks
abbrev books_by : List ℕ → Pair
books_by s = record {
  current = record { block = 1; start = start_of s 1 };
  spare = record { block = 2; start = start_of s 2 };
  positions = positions_of (get_or s 1 0);
  spoilt = false;
}

abbrev books : Pair
books = books_by bench.sizes

-- the page of a position
abbrev page : ℕ → ℕ
page p = page_at 0x400 p

-- a part once these steps were made on it and some time has passed
abbrev past : Meaning → List Step → ℕ → Meaning
past m steps time = ticked (with_cells m (laid m.cells steps)) time

-- Other cells, and some time more.
past_later : (m : Meaning) (steps later : List Step) (time us : ℕ) (xs : List ℕ) → xs ≡ laid m.cells later
    → ticked (with_cells (past m steps time) xs) us ≡ past m later (time + us)
past_later m steps later time us xs e =
    ap (λ (ys : List ℕ). ticked (with_cells (past m steps time) ys) us) e ∙ ticked_more (with_cells m (laid m.cells later)) time us

-- A console stands on a part on which these steps were made, and position p shows this.
record Stands (m : Meaning) (steps : List Step) (p : ℕ) (was : Option ℕ) (e : Desk) : Type 0 where
  time : ℕ
  is : e ≡ opened (past m steps time) books
  readable : readable_page (laid m.cells steps) (page p) ≡ true
  shows : shown (laid m.cells steps) (page p) ≡ was

-- the byte that steps leave at an address of a blank block
abbrev left : List Step → ℕ → ℕ
left steps a = last_byte steps a 255

-- the steps with one line more at position p
abbrev line_more : List Step → ℕ → Option ℕ → List Step
line_more steps p new = steps ++ line_added (page p) (left steps (page p)) new

-- cells of block 1, by the steps
abbrev as_left : List Step → List Cell → Bool
as_left steps [] = true
as_left steps (c ∷ cs) = leb 0x400 c.address && ltb c.address 0x600 && eqb (left steps c.address) c.byte && as_left steps cs

-- opening burns the head of the first book
abbrev head : List Step
head = burn 0x400 0 ∷ []

module _ (m : Meaning) (part : BenchPart m) where
  long : length m.cells ≡ 32768
  long = sym part.lawful.whole ∙ ap total part.sizes

  many : count m ≡ 11
  many = ap length part.sizes

  first_begins : begins m 1 ≡ 0x400
  first_begins = ap (λ (s : List ℕ). start_of s 1) part.sizes

  second_begins : begins m 2 ≡ 0x600
  second_begins = ap (λ (s : List ℕ). start_of s 2) part.sizes

  first_wide : width m 1 ≡ 512
  first_wide = ap (λ (s : List ℕ). get_or s 1 0) part.sizes

  second_wide : width m 2 ≡ 512
  second_wide = ap (λ (s : List ℕ). get_or s 2 0) part.sizes

  first_blank : blank m.cells 0x400 512 ≡ true
  first_blank = ap₂ (blank m.cells) (sym first_begins) (sym first_wide) ∙ part.first_blank

  second_blank : blank m.cells 0x600 512 ≡ true
  second_blank = ap₂ (blank m.cells) (sym second_begins) (sym second_wide) ∙ part.second_blank

  -- where the books lie, whatever was burnt
  seated : (steps : List Step) (time : ℕ) → Seated (past m steps time) books
  seated steps time = record {
    whole = part.lawful.whole ∙ sym (laid_long m.cells steps);
    current_in = omega (arith, many);
    spare_in = omega (arith, many);
    current_start = sym first_begins;
    spare_start = sym second_begins;
    current_width = first_wide;
    spare_width = second_wide;
    distinct = λ e. omega (arith, e);
    current_open = part.first_open;
    spare_open = part.second_open;
  }

  -- a cell of block 1
  cell_left : (steps : List Step) (a : ℕ) → 0x400 ≤ a → a < 0x600 → get_or (laid m.cells steps) a 0 ≡ left steps a
  cell_left steps a l h =
      laid_at m.cells steps a (omega (arith, long)) ∙ ap (last_byte steps a) (blank_at m.cells 0x400 512 first_blank a l (omega arith))

  cells_left : (steps : List Step) (cs : List Cell) → as_left steps cs ≡ true → Hold (laid m.cells steps) cs
  cells_left steps [] t = tt
  cells_left steps (c ∷ cs) t =
      let p = and_parts (leb 0x400 c.address && ltb c.address 0x600 && eqb (left steps c.address) c.byte) (as_left steps cs) t in
      let q = and_parts (leb 0x400 c.address && ltb c.address 0x600) (eqb (left steps c.address) c.byte) p.0 in
      let r = and_parts (leb 0x400 c.address) (ltb c.address 0x600) q.0 in (
        cell_left steps c.address (leb-true 0x400 c.address r.0) (ltb-true c.address 0x600 r.1) ∙ eqb-true (left steps c.address) c.byte q.1,
        cells_left steps cs p.1,
      )

  -- That burn is granted, and so opening is accepted.
  burn_granted : burn_no m 0x400 0 ≡ None
  burn_granted =
      let at_block : block_of m.sizes 0x400 ≡ 1 = ap (λ (s : List ℕ). block_of s 0x400) part.sizes in
      cond-false _ _ _ (lt-leb (size m) 0x400 (omega (arith, long)))
      ∙ cond-false _ _ _ (bars_none m (block m 0x400) (ap is_some part.still))
      ∙ cond-false _ _ _ (ap (guarded m) at_block ∙ part.first_open)
      ∙ cond-false _ _ _ (clears_zero (cell m 0x400))
      ∙ cond-false _ _ _ (ap (worn m) at_block ∙ part.unworn.0)

  record Starts (r : Result Answer ConsoleFault) (p : ℕ) (e : Desk) : Type 0 where
    accepted : is_ok r ≡ true
    stands : Stands m head p None e

  opening : (p : ℕ) (r : Result Answer ConsoleFault) (e : Desk) → 1 ≤ p → p ≤ 7 → Opens (closed m) 1 2 r e → Starts r p e
  unfolding Opens Opened laid
  opening p r e low high x =
      let n : ℕ = positions_of (width m 1) in
      let fit : (eqb 1 2 || not (eqb (width m 1) (width m 2)) || not (fit_size (width m 1))) ≡ false =
      ap₂ (λ (v w : ℕ). eqb 1 2 || not (eqb v w) || not (fit_size v)) first_wide second_wide in
      let no = no_cause m 1 2 (omega (arith, many)) (omega (arith, many)) fit part.first_open part.second_open (ap is_some part.still) in
      let whole : book_size n ≡ 512 = ap (λ (w : ℕ). book_size (positions_of w)) first_wide in
      let one : blank m.cells (begins m 1) (book_size n) ≡ true = ap₂ (blank m.cells) first_begins whole ∙ first_blank in
      let two : blank m.cells (begins m 2) (book_size n) ≡ true = ap₂ (blank m.cells) second_begins whole ∙ second_blank in
      let blanks = and_from (blank m.cells (begins m 1) (book_size n)) (blank m.cells (begins m 2) (book_size n)) one two in
      let y : Settled (found m.cells (begins m 1) (begins m 2) n) m (pair m 1 2) x.taken x.part =
      subst (λ (o : Option PartFault). OpenedIf o m 1 2 x.taken x.part) no x.opens in
      let z : (x.taken ≡ answer (burn_no m (begins m 1) 0) (begins m 1) (pair m 1 2)) × Burnt m (begins m 1) 0 x.part =
      subst (λ w. Settled w m (pair m 1 2) x.taken x.part)
      (cond-true (blank m.cells (begins m 1) (book_size n) && blank m.cells (begins m 2) (book_size n)) _ _ blanks) y in
      let v : (x.taken ≡ answer (burn_no m 0x400 0) 0x400 books) × Burnt m 0x400 0 x.part =
      subst (λ (s : List ℕ). (x.taken ≡ answer (burn_no m (start_of s 1) 0) (start_of s 1) (books_by s)) × Burnt m (start_of s 1) 0 x.part) part.sizes z in
      let taken : x.taken ≡ Ok books = v.0 ∙ ap (λ (o : Option Cause). answer o 0x400 books) burn_granted in
      let took : Took 1 300 (with_cells m (set m.cells 0x400 0)) x.part = subst (λ (o : Option Cause). BurntBy m 0x400 0 o x.part) burn_granted v.1 in
      let fresh = fresh_book m.cells 0x400 7 (omega (arith, long)) first_blank in
      let parts = and_parts (blank (set m.cells 0x400 0) (0x400 + 1) 63) (readable_pages (set m.cells 0x400 0) 0x400 7) fresh.readable in
      record {
        accepted = ap is_ok (x.says ∙ ap (reported 0 (λ _. record { said = Done; us = moved m x.part })) taken);
        stands = record {
          time = took.time;
          is = x.leaves ∙ ap₂ desk_after took.is taken;
          readable = pages_at (set m.cells 0x400 0) 0x400 7 parts.1 p low high;
          shows = fresh.empty p low high;
        };
      }

  -- One line more, on the part.
  record Wrote (steps : List Step) (p : ℕ) (new : Option ℕ) (r : Result (Unit {0}) PartFault) (n : Meaning) (c : Pair) : Type 0 where
    accepted : r ≡ Ok tt
    time : ℕ
    is : n ≡ past m (line_more steps p new) time
    same : c ≡ books
    readable : readable_page (laid m.cells (line_more steps p new)) (page p) ≡ true
    shows : shown (laid m.cells (line_more steps p new)) (page p) ≡ new

  wrote_by : (steps : List Step) (time p : ℕ) (new : Option ℕ) (r : Result (Unit {0}) PartFault) (n : Meaning) (c : Pair) → 1 ≤ p → p ≤ 7
      → LineDone (past m steps time) (page p) new r n → c ≡ books
      → n.cells ≡ laid (laid m.cells steps) (line_added (page p) (get_or (laid m.cells steps) (page p) 0) new) → Wrote steps p new r n c
  wrote_by steps time p new r n c low high d same lays =
      let at : ℕ = page p in
      let cells : d.cells ≡ laid m.cells (line_more steps p new) =
      sym (ap (λ (x : Meaning). x.cells) d.writes.is) ∙ lays
      ∙ ap (λ (v : ℕ). laid (laid m.cells steps) (line_added at v new)) (cell_left steps at (omega arith) (omega arith))
      ∙ laid_more m.cells steps (line_added at (left steps at) new) in
      record {
        accepted = d.accepted;
        time = time + d.writes.time;
        is = d.writes.is ∙ past_later m steps (line_more steps p new) time d.writes.time d.cells cells;
        same = same;
        readable = subst (λ (xs : List ℕ). readable_page xs at ≡ true) cells d.readable;
        shows = subst (λ (xs : List ℕ). shown xs at ≡ new) cells d.shows;
      }

  wrote : (steps : List Step) (time p : ℕ) (was new : Option ℕ) (r : Result (Unit {0}) PartFault) (n : Meaning) (c : Pair) → 1 ≤ p → p ≤ 7
      → readable_page (laid m.cells steps) (page p) ≡ true → shown (laid m.cells steps) (page p) ≡ was → StopsFit new
      → (is_none was && is_none new) ≡ false → used (left steps (page p)) < 7
      → Stored (past m steps time) books p new r n c → Wrote steps p new r n c
  unfolding Stored let_end ends_worn
  wrote steps time p was new r n c low high readable shows fit some free x =
      let k : Meaning = past m steps time in
      let at : ℕ = page p in
      let here : Page = page_of k.cells at in
      let tally : get_or k.cells at 0 ≡ left steps at = cell_left steps at (omega arith) (omega arith) in
      let seats = seated steps time in
      let open_line : used (get_or k.cells at 0) < 7 = subst (λ (v : ℕ). used v < 7) (sym tally) free in
      let w : Writes (reading k at) k books p new r n c =
      subst₂ (λ (l : Meaning) (t : Bool). Writes (reading l at) l (spoilt_if t books) p new r n c) (ap (let_end_by k) part.still)
      (ap (ends_worn_by k) part.still) x in
      let y : Writes (Ok here) k books p new r n c =
      subst (λ (o : Result Page PartFault). Writes o k books p new r n c)
      (reads k books seats (hides_none k 1 (ap is_some part.still)) p high) w in
      let z : Ran k (line_added at (get_or k.cells at 0) new) r n × (c ≡ books) =
      subst (λ w. Goes w k books p here new r n c)
      (cond-false (is_none here.stops && is_none new) _ _ (ap (λ (o : Option ℕ). is_none o && is_none new) shows ∙ some)
      ∙ cond-true (ltb (used here.tally) 7) _ _ (lt-ltb (used here.tally) 7 open_line)) y in
      let d = line_done k books p new seats (bars_none k 1 (ap is_some part.still)) low high readable open_line fit part.unworn.0 r n z.0 in
      wrote_by steps time p new r n c low high d z.1
      (write_laws.exact k n (line_added at (get_or k.cells at 0) new)
      (subst (λ (v : Result (Unit {0}) PartFault). Ran k (line_added at (get_or k.cells at 0) new) v n) d.accepted z.0))

  -- The same as a call of a list.
  record Called (steps : List Step) (p : ℕ) (new : Option ℕ) (l : Line) (e : Desk) : Type 0 where
    accepted : is_ok l.reply ≡ true
    stands : Stands m (line_more steps p new) p new e

  called : (steps : List Step) (p : ℕ) (was new : Option ℕ) (d e : Desk) (l : Line) → Stands m steps p was d
      → 1 ≤ p → p ≤ 7 → fits new ≡ true → StopsFit new → (is_none was && is_none new) ≡ false → used (left steps (page p)) < 7
      → Stores d p new l.reply e → Called steps p new l e
  unfolding Stores
  called steps p was new d e l s low high fit stops some free x =
      let granted : store_books (Some books) p new ≡ Ok books =
      cond-true (is_position books p) _ _ (and_from _ _ (le-leb 1 p low) (le-leb p 7 high)) ∙ cond-true (fits new) _ _ fit in
      let at : Desk = opened (past m steps s.time) books in
      by (subst (λ (q : Result Pair Cause). MatchResult q (λ b. StoresOn at b p new l.reply e) (λ cause. Refuses at (no_place cause p) l.reply e)) granted
      (subst (λ (d : Desk). Stores d p new l.reply e) s.is x))
    where
      by : StoresOn (opened (past m steps s.time) books) books p new l.reply e → Called steps p new l e
      by y =
          let w = wrote steps s.time p was new y.answer e.part y.books low high s.readable s.shows stops some free y.stored in
          record {
            accepted = ap is_ok (y.says ∙ ap (reported p (λ _. record { said = Done; us = moved (past m steps s.time) e.part })) w.accepted);
            stands = record { time = w.time; is = y.leaves ∙ ap₂ opened w.is w.same; readable = w.readable; shows = w.shows };
          }

-- The first call of a list, and the rest.
record FirstCall (d : Desk) (c : Call) (cs : List Call) (log : List Line) (e : Desk) : Type 0 where
  line : Line
  lines : List Line
  middle : Desk
  is : log ≡ line ∷ lines
  plays : Plays d (acts.Call c) line middle
  goes_on : Played middle cs lines e

first_call : {d e : Desk} {c : Call} {cs : List Call} {log : List Line} → Played d (c ∷ cs) log e → FirstCall d c cs log e
first_call (more {k = k} {l = l} {ls = ls} x t) = record { line = l; lines = ls; middle = k; is = refl; plays = x; goes_on = t }

no_call : {d e : Desk} {log : List Line} → Played d [] log e → (log ≡ []) × (e ≡ d)
no_call (none d) = (refl, refl)

-- the steps of position 3 that is set to 1, and then cleared
abbrev set_steps : List Step
set_steps = line_more head 3 (Some 1)

abbrev clear_steps : List Step
clear_steps = line_more set_steps 3 None

-- each time a line is free
first_free : used (left head (page 3)) < 7
unfolding count_trailing_zeros
first_free = lit< tt

second_free : used (left set_steps (page 3)) < 7
unfolding count_trailing_zeros line_added bytes_burnt
second_free = lit< tt

-- The cells of a console that stands there.
cells_of : (m : Meaning) → BenchPart m → (steps : List Step) (p : ℕ) (was : Option ℕ) (e : Desk) → Stands m steps p was e
    → (cs : List Cell) → as_left steps cs ≡ true → Hold e.part.cells cs
cells_of m part steps p was e s cs t = subst (λ (d : Desk). Hold d.part.cells cs) (sym s.is) (cells_left m part steps cs t)

-- The two examples, for any cells that the steps leave.
one_set : (cs : List Cell) → as_left set_steps cs ≡ true → ComesOut (calls (Set 3 1 ∷ []) cs)
one_set cs t m r start e log part x y =
    let o = opening m part 3 r start (lit< tt) (lit< tt) x in
    let f = first_call y in
    let a = called m part head 3 None (Some 1) start f.middle f.line o.stands (lit< tt) (lit< tt) refl (lit< tt) refl first_free f.plays.replies in
    let g = no_call f.goes_on in
    record {
      opened = o.accepted;
      accepted = subst AllAccepted (sym (f.is ∙ ap (λ (ls : List Line). f.line ∷ ls) g.0)) (a.accepted, tt);
      holds = subst (λ (d : Desk). Hold d.part.cells cs) (sym g.1) (cells_of m part set_steps 3 (Some 1) f.middle a.stands cs t);
    }

set_and_clear : (cs : List Cell) → as_left clear_steps cs ≡ true → ComesOut (calls (Set 3 1 ∷ Clear 3 ∷ []) cs)
set_and_clear cs t m r start e log part x y =
    let o = opening m part 3 r start (lit< tt) (lit< tt) x in
    let f = first_call y in
    let a = called m part head 3 None (Some 1) start f.middle f.line o.stands (lit< tt) (lit< tt) refl (lit< tt) refl first_free f.plays.replies in
    let h = first_call f.goes_on in
    let b = called m part set_steps 3 (Some 1) None f.middle h.middle h.line a.stands (lit< tt) (lit< tt) refl tt refl second_free h.plays.replies in
    let g = no_call h.goes_on in
    record {
      opened = o.accepted;
      accepted = subst AllAccepted (sym (f.is ∙ ap (λ (ls : List Line). f.line ∷ ls) (h.is ∙ ap (λ (ls : List Line). h.line ∷ ls) g.0)))
          (a.accepted, (b.accepted, tt));
      holds = subst (λ (d : Desk). Hold d.part.cells cs) (sym g.1) (cells_of m part clear_steps 3 None h.middle b.stands cs t);
    }

pub worked_examples : WorkedExamples
unfolding count_trailing_zeros line_added bytes_burnt
worked_examples =
    chips_then chips.table (calls _ _ ∷ calls _ _ ∷ []) chip_proofs.worked_examples (one_set _ refl, (set_and_clear _ refl, tt))
