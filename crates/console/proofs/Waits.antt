-- Time that passes on a console that keeps its books: the other book's erasure comes nearer to its end, or ends.
use Rattle.std.proofs.Common.{◌≡◌, ℕ, ◌+◌, ◌-◌, ◌<◌, ◌≤◌, Bool, true, false, cond, ◌&&◌, ◌||◌, leb, ltb, List, length, Some, None, Option, Result, sym, refl, ap, ◌∙◌, subst, ap₂, subst₂, inl, inr, arith}
use Rattle.std.proofs.Math.Bool.{or-false}
use Rattle.std.specs.Prelude.{is_ok}
use Rattle.std.proofs.lemmas.Bool.{and_parts, and_from, cond-true, cond-false, cond_both, lt-ltb, le-ltb, cases_lt}
use Rattle.geometry.proofs.Wiping.{length_wiped}
use Rattle.part.specs.declared.answers.Progress.TheVariants.{Finished, Worn}
use Rattle.part.specs.Meaning.{Erasure, Meaning, worn, with_cells, with_erasure, ticked, Lawful}
use Rattle.part.specs.Calls.{longest, erased, run_on, passed, progress, after_pass}
use Rattle.book.specs.Pages.{page_at, blank, readable_pages}
use Rattle.book.specs.Pairs.{Pair, book_size, spoilt_if}
use Rattle.book.proofs.Seats.{SameInside}
use Rattle.book.proofs.Ground.{seated_on}
use Rattle.book.proofs.Effects.{blank_same, shown_same, pages_same, page_inside, erased_spare, erased_current}
use Rattle.fault.specs.declared.faults.ConsoleFault.{ConsoleFault}
use Rattle.console.specs.declared.answers.Answer.{Answer}
use Rattle.console.specs.declared.call.Call.TheVariants.{Wait}
use Rattle.console.specs.Desks.{Desk, opened}
use Rattle.console.specs.Waiting.{wait_time, let_end_by, let_end, ends_worn_by, ends_worn, is_worn, pass_worn, waited as wait_report, Waits}
use Rattle.console.specs.Calls.{Replies}
use Rattle.console.proofs.Tables.{Table, look, after, tells}
use Rattle.console.proofs.Keeping.{Rest, ready, erasing, spoilt, Keeps, Goes, keeps_ticked, keeps_for}

-- A book that is not spoilt now is as spoilt as it was.
not_spoilt : (c : Pair) → spoilt_if false c ≡ c
not_spoilt c = ap (λ (s : Bool). record { current = c.current; spare = c.spare; positions = c.positions; spoilt = s }) (or-false c.spoilt)

-- the part after some time, with other cells and another erasure
abbrev later : Meaning → List ℕ → Option Erasure → ℕ → Meaning
later m cells x time = ticked (with_erasure (with_cells m cells) x) time

-- Where the cells of the current book are the same, what holds of it does too.
keeps_later : (o : Meaning) (a b : ℕ) (f : Table) (m : Meaning) (c : Pair) (cells : List ℕ) (x : Option Erasure) (time : ℕ) (s : Bool)
    → Keeps o a b f m c → length cells ≡ length m.cells → SameInside c.current.start (book_size c.positions) m.cells cells
    → Rest (later m cells x time) (spoilt_if s c) → Keeps o a b f (later m cells x time) (spoilt_if s c)
keeps_later o a b f m c cells x time s k l i t =
    let start : ℕ = c.current.start in
    let n : ℕ = c.positions in
    let parts = and_parts (blank m.cells (start + 1) 63) (readable_pages m.cells start n) k.readable in
    record {
      seated = seated_on m _ c (c.spoilt || s) refl refl l k.seated;
      blocks = k.blocks;
      sizes = k.sizes;
      guards = k.guards;
      wears = k.wears;
      positions = k.positions;
      head = i start (omega arith) (omega arith) ∙ k.head;
      readable = and_from (blank cells (start + 1) 63) (readable_pages cells start n)
          (blank_same m.cells cells (start + 1) 63 (λ q g h. i q (omega arith) (omega arith)) ∙ parts.0)
          (pages_same m.cells cells start n i ∙ parts.1);
      shows = λ p g h. shown_same m.cells cells (page_at start p) (page_inside start n p m.cells cells h i) ∙ k.shows p g h;
      rest = t;
    }

-- The other book's erasure runs.
module _ (m : Meaning) (c : Pair) (left : ℕ) (i : m.erasure ≡ Some (record { block = c.spare.block; left = left; running = true })) where
  -- It comes nearer to its end.
  nearer : (n : ℕ) → n < left
      → (passed m n ≡ later m m.cells (Some (record { block = c.spare.block; left = left - n; running = true })) n)
      × (is_worn (progress m n m.erasure) ≡ false)
  nearer n h =
      let t : ltb n left ≡ true = lt-ltb n left h in (
        ap (λ (x : Option Erasure). ticked (run_on m n x) n) i ∙ ap (λ (x : Meaning). ticked x n) (cond-true (ltb n left) _ _ t),
        ap (λ (x : Option Erasure). is_worn (progress m n x)) i ∙ ap is_worn (cond-true (ltb n left) _ _ t),
      )

  -- It ends, as worn where the block is.
  over : (n : ℕ) → left ≤ n
      → (passed m n ≡ later m (erased m c.spare.block) None n) × (is_worn (progress m n m.erasure) ≡ worn m c.spare.block)
  over n h =
      let t : ltb n left ≡ false = le-ltb n left h in (
        ap (λ (x : Option Erasure). ticked (run_on m n x) n) i ∙ ap (λ (x : Meaning). ticked x n) (cond-false (ltb n left) _ _ t),
        ap (λ (x : Option Erasure). is_worn (progress m n x)) i ∙ ap is_worn (cond-false (ltb n left) _ _ t) ∙ by (worn m c.spare.block),
      )
    where
      by : (w : Bool) → is_worn (cond w Worn Finished) ≡ w
      by true = refl
      by false = refl

-- What holds of a console holds after n microseconds.
module _ (o : Meaning) (a b : ℕ) (f : Table) (m : Meaning) (c : Pair) (k : Keeps o a b f m c) where
  -- where no erasure stands
  passed_idle : (n : ℕ) → m.erasure ≡ None → Keeps o a b f (passed m n) (spoilt_if (is_worn (progress m n m.erasure)) c)
  passed_idle n i =
      subst₂ (Keeps o a b f) (sym (ap (λ (x : Option Erasure). ticked (run_on m n x) n) i))
      (sym (ap (λ (x : Option Erasure). spoilt_if (is_worn (progress m n x)) c) i ∙ not_spoilt c)) (keeps_ticked o a b f m c n k)

  -- The part stays as large as it was.
  erased_long : length (erased m c.spare.block) ≡ length m.cells
  erased_long =
      cond_both (worn m c.spare.block) _ _ (λ (x : List ℕ). length x ≡ length m.cells) (λ _. refl)
      (λ _. length_wiped m.sizes c.spare.block 255 m.cells)

  -- The other book is blank once its erasure has ended, or it is spoilt.
  rest_over : (n : ℕ) (t : Bool) → worn m c.spare.block ≡ t → c.spoilt ≡ false
      → Rest (later m (erased m c.spare.block) None n) (spoilt_if (worn m c.spare.block) c)
  rest_over n true w s = spoilt refl (ap₂ ◌||◌ s w) w
  rest_over n false w s = ready refl (ap₂ ◌||◌ s w) (erased_spare m c k.seated w)

  -- where the other book is being erased
  passed_running : (n left : ℕ) → m.erasure ≡ Some (record { block = c.spare.block; left = left; running = true }) → c.spoilt ≡ false
      → Keeps o a b f (passed m n) (spoilt_if (is_worn (progress m n m.erasure)) c)
  passed_running n left i s =
      let to : (x : Meaning) (w : Bool) → (passed m n ≡ x) × (is_worn (progress m n m.erasure) ≡ w) → Keeps o a b f x (spoilt_if w c)
      → Keeps o a b f (passed m n) (spoilt_if (is_worn (progress m n m.erasure)) c) =
      λ x w e. subst₂ (λ (y : Meaning) (v : Bool). Keeps o a b f y (spoilt_if v c)) (sym e.0) (sym e.1) in
      elim (cases_lt n left) [
        | inl h ↦
            to _ false (nearer m c left i n h)
            (keeps_later o a b f m c m.cells (Some (record { block = c.spare.block; left = left - n; running = true })) n false k refl (λ q g l. refl)
            (erasing (left - n) refl (ap (λ (x : Bool). x || false) s)))
        | inr h ↦
            to _ (worn m c.spare.block) (over m c left i n h)
            (keeps_later o a b f m c (erased m c.spare.block) None n (worn m c.spare.block) k erased_long (erased_current m c k.seated)
            (rest_over n (worn m c.spare.block) refl s))
      ]

  passed_by : (n : ℕ) → Rest m c → Keeps o a b f (passed m n) (spoilt_if (is_worn (progress m n m.erasure)) c)
  passed_by n (ready i s t) = passed_idle n i
  passed_by n (erasing left i s) = passed_running n left i s
  passed_by n (spoilt i s w) = passed_idle n i

-- It holds after any time.
pub keeps_passed : (o : Meaning) (a b : ℕ) (f : Table) (m : Meaning) (c : Pair) (n : ℕ) → Keeps o a b f m c
    → Keeps o a b f (passed m n) (spoilt_if (is_worn (progress m n m.erasure)) c)
keeps_passed o a b f m c n k = passed_by o a b f m c k n k.rest

-- The console once its erasure has been let end.
pub record Ended (o : Meaning) (a b : ℕ) (f : Table) (m : Meaning) (c : Pair) : Type 0 where
  pub keeps : Keeps o a b f (let_end m) (spoilt_if (ends_worn m) c)
  pub idle : (let_end m).erasure ≡ None

-- Without an erasure nothing happens.
ended_idle : (o : Meaning) (a b : ℕ) (f : Table) (m : Meaning) (c : Pair) → Keeps o a b f m c → m.erasure ≡ None → Ended o a b f m c
unfolding let_end ends_worn
ended_idle o a b f m c k i =
    let same : let_end m ≡ m = ap (let_end_by m) i in
    let whole : spoilt_if (ends_worn m) c ≡ c = ap (λ (x : Option Erasure). spoilt_if (ends_worn_by m x) c) i ∙ not_spoilt c in
    record {
      keeps = subst₂ (Keeps o a b f) (sym same) (sym whole) k;
      idle = ap (λ (x : Meaning). x.erasure) same ∙ i;
    }

-- An erasure is given at least the time that is left of it.
ended_running : (o : Meaning) (a b : ℕ) (f : Table) (m : Meaning) (c : Pair) (left : ℕ) → Keeps o a b f m c
    → m.erasure ≡ Some (record { block = c.spare.block; left = left; running = true }) → Ended o a b f m c
unfolding let_end ends_worn
ended_running o a b f m c left k i =
    let ends : let_end m ≡ passed m (wait_time left) = ap (let_end_by m) i in
    let worn_end : ends_worn m ≡ worn m c.spare.block = ap (ends_worn_by m) i in
    let done = over m c left i (wait_time left) (omega arith) in
    let as_worn : ends_worn m ≡ is_worn (progress m (wait_time left) m.erasure) = worn_end ∙ sym done.1 in
    record {
      keeps = subst₂ (λ (x : Meaning) (w : Bool). Keeps o a b f x (spoilt_if w c)) (sym ends) (sym as_worn)
          (keeps_passed o a b f m c (wait_time left) k);
      idle = ap (λ (x : Meaning). x.erasure) (ends ∙ done.0);
    }

ended_by : (o : Meaning) (a b : ℕ) (f : Table) (m : Meaning) (c : Pair) → Keeps o a b f m c → Rest m c → Ended o a b f m c
ended_by o a b f m c k (ready i s t) = ended_idle o a b f m c k i
ended_by o a b f m c k (erasing left i s) = ended_running o a b f m c left k i
ended_by o a b f m c k (spoilt i s w) = ended_idle o a b f m c k i

-- It holds once the erasure has been let end.
pub keeps_ended : (o : Meaning) (a b : ℕ) (f : Table) (m : Meaning) (c : Pair) → Lawful m → Keeps o a b f m c → Ended o a b f m c
keeps_ended o a b f m c l k = ended_by o a b f m c k k.rest

-- A call of wait leaves the table as it is.
after_wait : (us : ℕ) (accepted : Bool) (f : Table) (p : ℕ) → after (Wait us) accepted f p ≡ f p
after_wait us true f p = refl
after_wait us false f p = refl

-- What a wait answers, and what holds after it.
module _ (o : Meaning) (a b : ℕ) (f : Table) (m : Meaning) (c : Pair) (k : Keeps o a b f m c) where
  -- one that left this and answered what the table tells
  waited : (us : ℕ) (r : Result Answer ConsoleFault) (e : Desk) (n : Meaning) (x : Pair) → Keeps o a b f n x → e ≡ opened n x
      → look r ≡ tells c.positions f (Wait us) → Goes o a b f m c (Wait us) r e
  waited us r e n x j i t =
      subst (λ (d : Desk). Goes o a b f m c (Wait us) r d) (sym i)
      (record {
        books = x;
        leaves = refl;
        keeps = keeps_for o a b f (after (Wait us) (is_ok r) f) n x (λ p _ _. sym (after_wait us (is_ok r) f p)) j;
        looks = λ z. absurd z;
        sure = λ _ _. t;
        prompt = λ z. absurd z;
      })

  -- the part and the books after a pass, accepted or refused
  wait_keeps : (us : ℕ) (t : Bool) → leb us longest ≡ t → Keeps o a b f (after_pass m us) (spoilt_if (pass_worn m us) c)
  wait_keeps us true t =
      let w : Bool = is_worn (progress m us m.erasure) in
      subst₂ (λ (x : Meaning) (v : Bool). Keeps o a b f x (spoilt_if v c)) (sym (cond-true (leb us longest) _ _ t))
      (sym (ap (λ (v : Bool). v && w) t)) (keeps_passed o a b f m c us k)
  wait_keeps us false t =
      let w : Bool = is_worn (progress m us m.erasure) in
      subst₂ (Keeps o a b f) (sym (cond-false (leb us longest) _ _ t))
      (sym (ap (λ (v : Bool). spoilt_if (v && w) c) t ∙ not_spoilt c)) k

  -- what it answers
  wait_told : (us : ℕ) (t : Bool) → leb us longest ≡ t → look (wait_report m us) ≡ tells c.positions f (Wait us)
  wait_told us true t = ap look (cond-true (leb us longest) _ _ t) ∙ sym (cond-true (leb us longest) _ _ t)
  wait_told us false t = ap look (cond-false (leb us longest) _ _ t) ∙ sym (cond-false (leb us longest) _ _ t)

-- A wait, accepted or refused.
pub wait_goes : (o : Meaning) (a b : ℕ) (f : Table) (m : Meaning) (c : Pair) (us : ℕ) (r : Result Answer ConsoleFault) (e : Desk)
    → Lawful m → Keeps o a b f m c → Replies (opened m c) (Wait us) r e → Goes o a b f m c (Wait us) r e
unfolding Waits
wait_goes o a b f m c us r e l k x =
    waited o a b f m c k us r e (after_pass m us) (spoilt_if (pass_worn m us) c) (wait_keeps o a b f m c k us (leb us longest) refl)
    x.1 (ap look x.0 ∙ wait_told o a b f m c k us (leb us longest) refl)
