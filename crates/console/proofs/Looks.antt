-- What recall and next answer on a console that keeps its books, and that they leave it as it was.
use Rattle.std.proofs.Common.{◌≡◌, ℕ, zero, suc, ◌+◌, ◌-◌, ◌<◌, ◌≤◌, Bool, true, false, cond, leb, is_some, Some, None, Ok, Err, Option, Result, sym, refl, ap, ◌∙◌, subst, ap₂, ◌⊎◌, inl, inr, arith}
use Rattle.std.specs.Prelude.{is_ok, MatchResult}
use Rattle.std.proofs.lemmas.Bool.{and_parts, and_from, ne_eqb, leb-true, le-leb, cond-true, cond-false}
use Rattle.fault.specs.declared.cause.Cause.TheVariants.{PositionOutside}
use Rattle.fault.specs.declared.faults.PartFault.{PartFault}
use Rattle.part.specs.Meaning.{Erasure, Meaning, cell, with_erasure, ticked, Lawful}
use Rattle.part.specs.Calls.{Took, hides, can_hold, turned, HeldBy, Held, gone_on}
use Rattle.part.proofs.Clocks.{ticked_none}
use Rattle.part.proofs.Standings.{hides_none, hides_still}
use Rattle.book.specs.Pages.{page_at, page_of}
use Rattle.book.specs.Reading.{reading, counted, fetched_of, page_bytes}
use Rattle.book.specs.Burning.{stops_of}
use Rattle.book.specs.Pairs.{Pair}
use Rattle.book.proofs.Seats.{Seated}
use Rattle.book.proofs.Ground.{seated_on}
use Rattle.book.proofs.Effects.{reads, fetches}
use Rattle.fault.specs.declared.faults.ConsoleFault.{ConsoleFault}
use Rattle.console.specs.declared.answers.Said.{Said}
use Rattle.console.specs.declared.answers.Said.TheVariants.{Shows, Finds}
use Rattle.console.specs.declared.answers.Answer.{Answer}
use Rattle.console.specs.declared.call.Call.{Call}
use Rattle.console.specs.declared.call.Call.TheVariants.{Set, Clear, Recall, Next, Wait}
use Rattle.part.specs.Neighbours.{elapsed}
use Rattle.console.specs.Desks.{Desk, opened, moved}
use Rattle.console.specs.Faults.{no_place, reported, Refuses}
use Rattle.console.specs.Looking.{searched, filled_at, or_else, shows, shown, finds, found, Looks, Recalls, Nexts, goes_on, searched_bytes, Fetches, RecallFetches, NextFetches}
use Rattle.console.specs.Calls.{Replies}
use Rattle.console.specs.Showing.{OnlyLooks, Reports}
use Rattle.console.specs.Laws.{pages_bytes, how_far}
use Rattle.console.proofs.Tables.{Table, look, after, filled, or_then, nearest, is_position, tells}
use Rattle.console.proofs.Keeping.{Rest, ready, erasing, spoilt, Keeps, Goes, keeps_ticked, keeps_for}

-- What a look at a part finds: each page of the current book as it stands, in at most 15 microseconds.
record Glimpse (m : Meaning) (c : Pair) (held n : Meaning) : Type 0 where
  time : ℕ
  short : time ≤ 15
  is : n ≡ ticked m time
  page : (p : ℕ) → p ≤ c.positions → reading held (page_at c.current.start p) ≡ Ok (page_of m.cells (page_at c.current.start p))
  bytes : (p : ℕ) → p ≤ c.positions → page_bytes held (page_at c.current.start p) ≡ fetched_of (cell m (page_at c.current.start p))

-- Where no erasure stands there is nothing to hold.
glimpse_idle : (m : Meaning) (c : Pair) (held n : Meaning) → Lawful m → Seated m c → m.erasure ≡ None → Held m held → n ≡ gone_on held
    → Glimpse m c held n
glimpse_idle m c held n l s i h g =
    let same : held ≡ m = subst (λ (o : Option Erasure). HeldBy m (can_hold o) held) i h in
    let on : gone_on m ≡ m = ap (λ (o : Option Erasure). with_erasure m (turned true o)) i ∙ ap (with_erasure m) (sym i) in
    record {
      time = 0;
      short = omega arith;
      is = g ∙ ap gone_on same ∙ on ∙ sym (ticked_none m l.clock);
      page = λ p j.
          ap (λ (x : Meaning). reading x (page_at c.current.start p)) same
          ∙ reads m c s (hides_none m c.current.block (ap is_some i)) p j;
      bytes = λ p j.
          ap (λ (x : Meaning). page_bytes x (page_at c.current.start p)) same
          ∙ fetches m c s (hides_none m c.current.block (ap is_some i)) p j;
    }

-- A running erasure of the other book is held, and hides only that book's block.
glimpse_held : (m : Meaning) (c : Pair) (held n : Meaning) (left : ℕ) → Seated m c
    → m.erasure ≡ Some (record { block = c.spare.block; left = left; running = true }) → Held m held → n ≡ gone_on held → Glimpse m c held n
glimpse_held m c held n left s i h g =
    let x : Took 0 15 (with_erasure m (turned false m.erasure)) held = subst (λ (o : Option Erasure). HeldBy m (can_hold o) held) i h in
    let still : Meaning = ticked (with_erasure m (turned false m.erasure)) x.time in
    let off : hides still c.current.block ≡ false =
    hides_still still (record { block = c.spare.block; left = left; running = false }) c.current.block (ap (turned false) i) refl
    ∙ ne_eqb c.spare.block c.current.block (λ e. s.distinct (sym e)) in
    record {
      time = x.time;
      short = x.high;
      is =
          g ∙ ap gone_on x.is
          ∙ ap (λ (o : Option Erasure). ticked (with_erasure m (turned true (turned false o))) x.time) i
          ∙ ap (λ (o : Option Erasure). ticked (with_erasure m o) x.time) (sym i);
      page = λ p j.
          ap (λ (y : Meaning). reading y (page_at c.current.start p)) x.is
          ∙ reads still c (seated_on m _ c c.spoilt refl refl refl s) off p j;
      bytes = λ p j.
          ap (λ (y : Meaning). page_bytes y (page_at c.current.start p)) x.is
          ∙ fetches still c (seated_on m _ c c.spoilt refl refl refl s) off p j;
    }

-- A look, whatever state the other book is in.
glimpse : (m : Meaning) (c : Pair) (held n : Meaning) → Lawful m → Seated m c → Rest m c → Held m held → n ≡ gone_on held → Glimpse m c held n
glimpse m c held n l s (ready i f t) h g = glimpse_idle m c held n l s i h g
glimpse m c held n l s (erasing left i f) h g = glimpse_held m c held n left s i h g
glimpse m c held n l s (spoilt i f w) h g = glimpse_idle m c held n l s i h g

-- A look leaves the table as it is.
pub after_look : (call : Call) → OnlyLooks call → (accepted : Bool) (f : Table) (p : ℕ) → after call accepted f p ≡ f p
after_look (Set q stops) x t f p = absurd x
after_look (Clear q) x t f p = absurd x
after_look (Recall q) x true f p = refl
after_look (Recall q) x false f p = refl
after_look (Next q) x true f p = refl
after_look (Next q) x false f p = refl
after_look (Wait us) x t f p = absurd x

-- A look that took that time, and answered what the table tells.
module _ (o : Meaning) (a b : ℕ) (f : Table) (m : Meaning) (c : Pair) (lawful : Lawful m) (k : Keeps o a b f m c) where
  looked : (call : Call) (r : Result Answer ConsoleFault) (e : Desk) (time : ℕ) → OnlyLooks call → time ≤ 15 → e ≡ opened (ticked m time) c
      → look r ≡ tells c.positions f call → Reports time r → Goes o a b f m c call r e
  looked call r e time x h i t u =
      let n : Meaning = ticked m time in
      let clock : m.clock < 4294967296 = lawful.clock in
      let passed : elapsed m.clock n.clock ≡ time = omega arith in
      subst (λ (d : Desk). Goes o a b f m c call r d) (sym i)
      (record {
        books = c;
        leaves = refl;
        keeps = keeps_for o a b f (after call (is_ok r) f) n c (λ p _ _. sym (after_look call x (is_ok r) f p)) (keeps_ticked o a b f m c time k);
        looks = λ _. t;
        sure = λ _ _. t;
        prompt = λ _. (subst (λ (y : ℕ). y ≤ 15) (sym passed) h, subst (λ (y : ℕ). Reports y r) (sym passed) u);
      })

  -- a refused look
  left_alone : (call : Call) (r : Result Answer ConsoleFault) (e : Desk) (fault : ConsoleFault) → OnlyLooks call → e ≡ opened m c
      → r ≡ Err fault → Err fault ≡ tells c.positions f call → Goes o a b f m c call r e
  left_alone call r e fault x i t u =
      looked call r e 0 x (omega arith) (i ∙ ap (λ (n : Meaning). opened n c) (sym (ticked_none m lawful.clock)))
      (ap look t ∙ u) (subst (Reports 0) (sym t) tt)

  -- an accepted look
  accepted : (call : Call) (r : Result Answer ConsoleFault) (e : Desk) (said : Said) (time : ℕ) (n : Meaning) → OnlyLooks call → time ≤ 15
      → n ≡ ticked m time → e ≡ opened n c → r ≡ Ok (record { said = said; us = moved m n }) → Ok said ≡ tells c.positions f call
      → Goes o a b f m c call r e
  accepted call r e said time n x h j i t u =
      let clock : m.clock < 4294967296 = lawful.clock in
      let passed : elapsed m.clock (ticked m time).clock ≡ time = omega arith in
      looked call r e time x h (i ∙ ap (λ (y : Meaning). opened y c) j) (ap look t ∙ u)
      (subst (Reports time) (sym t) (ap (moved m) j ∙ passed))

  -- what a look leaves of the desk
  leaves : (p : ℕ) (sees : Meaning → Result Said PartFault) (r : Result Answer ConsoleFault) (e : Desk) (x : Looks (opened m c) p sees r e)
      → (e.part ≡ gone_on x.held) × (e ≡ opened e.part c)
  leaves p sees r e x =
      let i : e.part ≡ gone_on x.held = ap (λ (d : Desk). d.part) x.leaves in
      (i, x.leaves ∙ ap (λ (n : Meaning). opened n c) (sym i))

  -- a recall, by whether there is such a position
  recall_by : (p : ℕ) (r : Result Answer ConsoleFault) (e : Desk) (t : Bool) → is_position c.positions p ≡ t
      → MatchResult (cond t (Ok c) (Err PositionOutside)) (λ b. Looks (opened m c) p (shown b p) r e) (λ cause. Refuses (opened m c) (no_place cause p) r e)
      → Goes o a b f m c (Recall p) r e
  recall_by p r e true t x =
      let l = and_parts (leb 1 p) (leb p c.positions) t in
      let low : 1 ≤ p = leb-true 1 p l.0 in
      let high : p ≤ c.positions = leb-true p c.positions l.1 in
      let i = leaves p (shown c p) r e x in
      let g = glimpse m c x.held e.part lawful k.seated k.rest x.holds i.0 in
      let seen : shown c p x.held ≡ Ok (Shows (f p)) = ap shows (g.page p high) ∙ ap (λ (s : Option ℕ). Ok (Shows s)) (k.shows p low high) in
      accepted (Recall p) r e (Shows (f p)) g.time e.part tt g.short g.is i.1
      (x.says ∙ ap (reported p (λ said. record { said = said; us = moved m e.part })) seen) (sym (cond-true (is_position c.positions p) _ _ t))
  recall_by p r e false t x =
      left_alone (Recall p) r e (no_place PositionOutside p) tt x.1 x.0 (sym (cond-false (is_position c.positions p) _ _ t))

  -- the search on the part goes as on the table
  searched_all : (held : Meaning)
      → ((p : ℕ) → p ≤ c.positions → reading held (page_at c.current.start p) ≡ Ok (page_of m.cells (page_at c.current.start p)))
      → (p i : ℕ) → p + i ≤ c.positions → searched held c.current.start p i ≡ Ok (nearest f p i)
  unfolding searched nearest
  searched_all held page p zero h = refl
  searched_all held page p (suc i) h =
      let here : stops_of (reading held (page_at c.current.start (p + suc i))) ≡ Ok (f (p + suc i)) =
      ap stops_of (page (p + suc i) h) ∙ ap Ok (k.shows (p + suc i) (omega arith) h) in
      ap₂ or_else (searched_all held page p i (omega arith)) (ap (filled_at (p + suc i)) here ∙ one (p + suc i) (f (p + suc i)))
      ∙ both (nearest f p i) (filled (f (p + suc i)) (p + suc i))
    where
      one : (q : ℕ) (v : Option ℕ) → filled_at q (Ok v) ≡ Ok (filled v q)
      one q None = refl
      one q (Some stops) = refl

      both : (x y : Option ℕ) → or_else (Ok x) (Ok y) ≡ Ok (or_then x y)
      both None y = refl
      both (Some q) y = refl

  -- the bytes of the search, each page by its tally
  searched_takes : (held : Meaning)
      → ((p : ℕ) → p ≤ c.positions → reading held (page_at c.current.start p) ≡ Ok (page_of m.cells (page_at c.current.start p)))
      → ((p : ℕ) → p ≤ c.positions → page_bytes held (page_at c.current.start p) ≡ fetched_of (cell m (page_at c.current.start p)))
      → (p i : ℕ) → p + i ≤ c.positions
      → searched_bytes held c.current.start p i ≡ pages_bytes m.cells c.current.start p (how_far (nearest f p i) p (p + i))
  unfolding searched_bytes pages_bytes nearest
  searched_takes held page bytes p zero h = ap (pages_bytes m.cells c.current.start p) (zero_far p)
    where
      zero_far : (p : ℕ) → 0 ≡ p + 0 - p
      zero_far p = omega arith
  searched_takes held page bytes p (suc i) h =
      let here : ℕ = fetched_of (cell m (page_at c.current.start (p + suc i))) in
      ap₂ (λ (x y : ℕ). x + y) (searched_takes held page bytes p i (omega arith))
      (ap₂ (λ (r : Result (Option ℕ) PartFault) (n : ℕ). cond (goes_on r) n 0) (searched_all held page p i (omega arith)) (bytes (p + suc i) h))
      ∙ by (nearest f p i) (filled_or (f (p + suc i)))
    where
      filled_or : (v : Option ℕ) → (filled v (p + suc i) ≡ None) ⊎ (filled v (p + suc i) ≡ Some (p + suc i))
      filled_or None = inl refl
      filled_or (Some stops) = inr refl

      all : pages_bytes m.cells c.current.start p (p + i - p) + fetched_of (cell m (page_at c.current.start (p + suc i)))
          ≡ pages_bytes m.cells c.current.start p (p + suc i - p)
      all =
          let j : p + i - p ≡ i = omega arith in
          let k : suc i ≡ p + suc i - p = omega arith in
          ap (λ (n : ℕ). pages_bytes m.cells c.current.start p n + fetched_of (cell m (page_at c.current.start (p + suc i)))) j
          ∙ ap (pages_bytes m.cells c.current.start p) k

      by : (x : Option ℕ) → (filled (f (p + suc i)) (p + suc i) ≡ None) ⊎ (filled (f (p + suc i)) (p + suc i) ≡ Some (p + suc i))
          → pages_bytes m.cells c.current.start p (how_far x p (p + i))
          + cond (goes_on (Ok x)) (fetched_of (cell m (page_at c.current.start (p + suc i)))) 0
          ≡ pages_bytes m.cells c.current.start p (how_far (or_then x (filled (f (p + suc i)) (p + suc i))) p (p + suc i))
      by None (inl e) = all ∙ ap (λ (o : Option ℕ). pages_bytes m.cells c.current.start p (how_far o p (p + suc i))) (sym e)
      by None (inr e) = all ∙ ap (λ (o : Option ℕ). pages_bytes m.cells c.current.start p (how_far o p (p + suc i))) (sym e)
      by (Some q) s = omega arith

  -- what a recall and a next fetch, at a position that there is
  recall_takes : (p before now : ℕ) → 1 ≤ p → p ≤ c.positions → RecallFetches (opened m c) p before now
      → now ≡ counted before (fetched_of (cell m (page_at c.current.start p)))
  unfolding RecallFetches
  recall_takes p before now low high x =
      let t : is_position c.positions p ≡ true = and_from _ _ (le-leb 1 p low) (le-leb p c.positions high) in
      let y : Fetches (opened m c) (λ held. page_bytes held (page_at c.current.start p)) before now =
      subst (λ (b : Bool). MatchResult (cond b (Ok c) (Err PositionOutside)) (λ b. Fetches (opened m c) (λ held. page_bytes held (page_at b.current.start p)) before now)
      (λ cause. now ≡ before)) t x in
      let g = glimpse m c y.held (gone_on y.held) lawful k.seated k.rest y.holds refl in
      y.counts ∙ ap (counted before) (g.bytes p high)

  next_takes : (p before now : ℕ) → p ≤ c.positions → NextFetches (opened m c) p before now
      → now ≡ counted before (pages_bytes m.cells c.current.start p (how_far (nearest f p (c.positions - p)) p c.positions))
  unfolding NextFetches
  next_takes p before now high x =
      let t : leb p c.positions ≡ true = le-leb p c.positions high in
      let y : Fetches (opened m c) (λ held. searched_bytes held c.current.start p (c.positions - p)) before now =
      subst (λ (b : Bool). MatchResult (cond b (Ok c) (Err PositionOutside))
      (λ b. Fetches (opened m c) (λ held. searched_bytes held b.current.start p (b.positions - p)) before now) (λ cause. now ≡ before)) t x in
      let g = glimpse m c y.held (gone_on y.held) lawful k.seated k.rest y.holds refl in
      let n : p + (c.positions - p) ≡ c.positions = omega arith in
      y.counts
      ∙ ap (counted before) (searched_takes y.held g.page g.bytes p (c.positions - p) (omega arith)
      ∙ ap (λ (j : ℕ). pages_bytes m.cells c.current.start p (how_far (nearest f p (c.positions - p)) p j)) n)

  -- a next, by whether there is such a position
  next_by : (p : ℕ) (r : Result Answer ConsoleFault) (e : Desk) (t : Bool) → leb p c.positions ≡ t
      → MatchResult (cond t (Ok c) (Err PositionOutside)) (λ b. Looks (opened m c) p (found b p) r e) (λ cause. Refuses (opened m c) (no_place cause p) r e)
      → Goes o a b f m c (Next p) r e
  next_by p r e true t x =
      let high : p ≤ c.positions = leb-true p c.positions t in
      let i = leaves p (found c p) r e x in
      let g = glimpse m c x.held e.part lawful k.seated k.rest x.holds i.0 in
      let seen : found c p x.held ≡ Ok (Finds (nearest f p (c.positions - p))) =
      ap finds (searched_all x.held g.page p (c.positions - p) (omega arith)) in
      accepted (Next p) r e (Finds (nearest f p (c.positions - p))) g.time e.part tt g.short g.is i.1
      (x.says ∙ ap (reported p (λ said. record { said = said; us = moved m e.part })) seen) (sym (cond-true (leb p c.positions) _ _ t))
  next_by p r e false t x =
      left_alone (Next p) r e (no_place PositionOutside p) tt x.1 x.0 (sym (cond-false (leb p c.positions) _ _ t))

-- A recall, accepted or refused.
pub recall_goes : (o : Meaning) (a b : ℕ) (f : Table) (m : Meaning) (c : Pair) (p : ℕ) (r : Result Answer ConsoleFault) (e : Desk)
    → Lawful m → Keeps o a b f m c → Replies (opened m c) (Recall p) r e → Goes o a b f m c (Recall p) r e
unfolding Recalls
recall_goes o a b f m c p r e l k x = recall_by o a b f m c l k p r e (is_position c.positions p) refl x

-- A next, accepted or refused.
pub next_goes : (o : Meaning) (a b : ℕ) (f : Table) (m : Meaning) (c : Pair) (p : ℕ) (r : Result Answer ConsoleFault) (e : Desk)
    → Lawful m → Keeps o a b f m c → Replies (opened m c) (Next p) r e → Goes o a b f m c (Next p) r e
unfolding Nexts
next_goes o a b f m c p r e l k x = next_by o a b f m c l k p r e (leb p c.positions) refl x

-- What a recall and a next fetch.
pub recall_fetches : (o : Meaning) (a b : ℕ) (f : Table) (m : Meaning) (c : Pair) → Lawful m → Keeps o a b f m c
    → (p before now : ℕ) → 1 ≤ p → p ≤ c.positions → RecallFetches (opened m c) p before now
    → now ≡ counted before (fetched_of (cell m (page_at c.current.start p)))
recall_fetches o a b f m c l k p before now low high x = recall_takes o a b f m c l k p before now low high x

pub next_fetches : (o : Meaning) (a b : ℕ) (f : Table) (m : Meaning) (c : Pair) → Lawful m → Keeps o a b f m c
    → (p before now : ℕ) → p ≤ c.positions → NextFetches (opened m c) p before now
    → now ≡ counted before (pages_bytes m.cells c.current.start p (how_far (nearest f p (c.positions - p)) p c.positions))
next_fetches o a b f m c l k p before now high x = next_takes o a b f m c l k p before now high x
