-- The promise, from what each single call does.
use Rattle.std.proofs.Common.{◌≡◌, ℕ, ◌<◌, ◌≤◌, true, false, not, List, is_some, None, Ok, Option, sym, refl, ap, ◌∙◌, subst, arith}
use Rattle.std.specs.Prelude.{is_ok}
use Rattle.std.proofs.lemmas.Bool.{both_ways, and_parts, not-true}
use Rattle.part.specs.Meaning.{Meaning, worn, Lawful}
use Rattle.part.specs.Calls.{stands}
use Rattle.book.specs.Pages.{page_at, shown, blank}
use Rattle.book.specs.Pairs.{Pair, book_size}
use Rattle.book.specs.Finding.{width, positions_of}
use Rattle.book.proofs.Opening.{opened_again}
use Rattle.console.specs.declared.answers.Said.TheVariants.{Done}
use Rattle.console.specs.declared.call.Call.{Call}
use Rattle.console.specs.Desks.{Desk, opened, moved, is_quiet}
use Rattle.console.specs.Faults.{reported}
use Rattle.console.specs.Opening.{OpensOn, Opens, desk_after}
use Rattle.console.specs.Calls.{Replies}
use Rattle.rehearsal.specs.declared.line.Line.{Line}
use Rattle.console.specs.Showing.{books_show, Prompt}
use Rattle.rehearsal.specs.Accounts.{Run, Past, Played, none, more, Performed, Holds, HoldsFromBlank}
use Rattle.rehearsal.specs.Promises.{Kept, IsOpened, OnBlank, Sound, positions, past, ShowNothing, Alike, Trusty, Promise, SameAgain}
use Rattle.console.proofs.Tables.{Table, nothing, after, tells}
use Rattle.rehearsal.proofs.Tables.{Looked, Told, Sure, end, then}
use Rattle.console.proofs.Keeping.{Rest, ready, erasing, spoilt, Keeps}
use Rattle.console.proofs.Going.{goes, Took, took, keeps_opened}
use Rattle.rehearsal.proofs.Listing.{Last, holds, holds_from_blank, blank_case, kept, accepts, alike}

-- What holds after a list of calls, and what its account tells.
record After (o : Meaning) (a b : ℕ) (f : Table) (calls : List Call) (log : List Line) (e : Desk) : Type 0 where
  table : Table
  told : Told (positions_of (width o a)) f calls log table
  sure : worn o a ≡ false → worn o b ≡ false → Sure (positions_of (width o a)) f calls log
  books : Pair
  leaves : e ≡ opened e.part books
  keeps : Keeps o a b table e.part books
  lawful : Lawful e.part

played : (o : Meaning) (a b : ℕ) (f : Table) (d : Desk) (c : Pair) (calls : List Call) (log : List Line) (e : Desk) → Lawful d.part
    → d ≡ opened d.part c → Keeps o a b f d.part c → Played d calls log e → After o a b f calls log e
played o a b f d c calls log e l i k (none _) = record {
  table = f;
  told = end f;
  sure = λ _ _. end f;
  books = c;
  leaves = i;
  keeps = k;
  lawful = l;
}
played o a b f d c calls log e l i k (more {k = h} {c = call} {cs = cs} {l = line} {ls = ls} p rest) =
    let g = goes o a b f d.part c call line.reply h l k (subst (λ (x : Desk). Replies x call line.reply h) i p.replies) in
    let n : ℕ = positions_of (width o a) in
    let next = played o a b (after call (is_ok line.reply) f) h g.books cs ls e p.lawful g.leaves g.keeps rest in
    let looked : Looked n f call line = record {
      told = λ only. g.looks only ∙ ap (λ (x : ℕ). tells x f call) k.positions;
      prompt = λ only. subst (λ (x : ℕ). Prompt x line.after line.reply) (sym p.before)
          (subst (λ (x : ℕ). Prompt d.part.clock x line.reply) (sym p.after) (g.prompt only));
    } in
    record {
      table = next.table;
      told = then looked next.told;
      sure = λ s t. then (g.sure s t ∙ ap (λ (x : ℕ). tells x f call) k.positions) (next.sure s t);
      books = next.books;
      leaves = next.leaves;
      keeps = next.keeps;
      lawful = next.lawful;
    }

-- the table with which it begins
abbrev first_table : Meaning → Pair → Table
first_table m c p = shown m.cells (page_at c.current.start p)

-- One console that was opened.
module _ (calls : List Call) (r : Run) (p : Performed calls r) (z : IsOpened r) where
  abbrev m : Meaning
  m = r.before.part

  abbrev first_seat : ℕ
  first_seat = r.seats.first

  abbrev second_seat : ℕ
  second_seat = r.seats.second

  its_books : Took m first_seat second_seat p.start
  unfolding Opens
  its_books =
      took m first_seat second_seat r.opening.reply p.start p.lawful z.accepted
      (subst (λ (w : Option Pair). OpensOn w r.before first_seat second_seat r.opening.reply p.start) z.closed p.opens.replies)

  -- what its books show, as they stand in the cells
  in_cells : (q : ℕ) → books_show p.start q ≡ shown p.start.part.cells (page_at its_books.books.current.start q)
  in_cells q = ap (λ (d : Desk). books_show d q) its_books.leaves

  -- the list, from a table that says what they show
  list_run : (f : Table) → ((q : ℕ) → 1 ≤ q → q ≤ positions r → books_show p.start q ≡ f q) → After m first_seat second_seat f calls r.lines r.after
  list_run f s =
      let t = its_books in
      played m first_seat second_seat f p.start t.books calls r.lines r.after p.opens.lawful t.leaves
      (keeps_opened m first_seat second_seat t.books p.start.part f t.opens
      (λ q l h. sym (in_cells q) ∙ s q l (subst (λ (n : ℕ). q ≤ n) t.opens.positions h))) p.played

  nothing_shown : OnBlank r → ShowNothing (positions r) p.start
  nothing_shown b q l h = in_cells q ∙ its_books.opens.empty (b.first, b.second) q l (subst (λ (n : ℕ). q ≤ n) (sym its_books.opens.positions) h)

  kept_by : (Holding : Past → ℕ → Option ℕ → Type 0) (f : Table)
      → ((x : Past) (q : ℕ) (w : Option ℕ) → x.showed ≡ books_show p.start → Last x.calls x.lines q (f q) w → Holding x q w)
      → ((q : ℕ) → 1 ≤ q → q ≤ positions r → books_show p.start q ≡ f q) → Kept Holding (past calls r p.start) (positions r) r.after
  kept_by Holding f by s =
      let x = list_run f s in
      kept Holding (books_show p.start) f by (past calls r p.start) (positions r) x.table r.after refl x.told
      (λ c reply k only y.
      let g = goes m first_seat second_seat x.table r.after.part x.books c reply k x.lawful x.keeps
      (subst (λ (w : Desk). Replies w c reply k) x.leaves y) in
      (g.looks only ∙ ap (λ (n : ℕ). tells n x.table c) x.keeps.positions, g.prompt only))

  trusty : Trusty calls r p.start
  trusty = record {
    kept = kept_by Holds (books_show p.start)
        (λ x q w i l. holds x q w (subst (λ (v : Option ℕ). Last x.calls x.lines q v w) (sym (ap (λ (f : Table). f q) i)) l)) (λ _ _ _. refl);
    blank = nothing_shown;
    kept_from_blank = λ b. kept_by HoldsFromBlank nothing (λ x q w _ l. holds_from_blank x q w l) (nothing_shown b);
    accepts = λ s. accepts ((list_run (books_show p.start) (λ _ _ _. refl)).sure s.0 s.1);
  }

-- Two consoles that begin with one table.
alike_from : (calls : List Call) (quick slow : Run) (p : Performed calls quick) (q : Performed calls slow) (f : Table) → IsOpened quick → IsOpened slow
    → positions quick ≡ positions slow
    → ((i : ℕ) → 1 ≤ i → i ≤ positions quick → books_show p.start i ≡ f i) → ((i : ℕ) → 1 ≤ i → i ≤ positions slow → books_show q.start i ≡ f i)
    → Sound quick → Sound slow → Alike calls quick.lines slow.lines
alike_from calls quick slow p q f y z w s t u v =
    alike (positions quick) f calls quick.lines slow.lines ((list_run calls quick p y f s).sure u.0 u.1)
    (subst (λ (n : ℕ). Sure n f calls slow.lines) (sym w) ((list_run calls slow q z f t).sure v.0 v.1))

pub promised : (calls : List Call) (quick slow : Run) → Performed calls quick → Performed calls slow → Promise calls quick slow
promised calls quick slow p q = record {
  quick_trusty = trusty calls quick;
  slow_trusty = trusty calls slow;
  alike = λ x y a b w s u v.
      alike_from calls quick slow x y (books_show x.start) a b w (λ _ _ _. refl)
      (λ i l h. s i l (subst (λ (n : ℕ). i ≤ n) (sym w) h)) u v;
  alike_from_blank = λ a b c d w u v.
      alike_from calls quick slow p q nothing a b w (nothing_shown calls quick p a c) (nothing_shown calls slow q b d) u v;
  blank_case = blank_case;
}

-- The same of two lists of calls that are one, and of lines that were written before the other console's.
pub promised_of : (calls again : List Call) (quick slow : Run) (lines : List Line) → again ≡ calls → lines ≡ quick.lines → Performed calls quick
    → Performed again slow → Promise calls (record quick { lines = lines }) slow
promised_of calls again quick slow lines e d p q =
    promised calls (record quick { lines = lines }) slow
    (subst (λ (ls : List Line). Performed calls (record quick { lines = ls })) (sym d) p)
    (subst (λ (cs : List Call). Performed cs slow) e q)

-- Opening again.
quiet_ready : (e : Desk) (c : Pair) → e ≡ opened e.part c → is_quiet e ≡ true → Rest e.part c
    → (e.part.erasure ≡ None) × (c.spoilt ≡ false) × (blank e.part.cells c.spare.start (book_size c.positions) ≡ true)
quiet_ready e c i q rest = by rest
  where
    tests : (stands e.part ≡ false) × (c.spoilt ≡ false)
    tests =
        let p = and_parts (not (stands e.part)) (not c.spoilt) (subst (λ (d : Desk). is_quiet d ≡ true) i q) in
        (not-true (stands e.part) p.0, not-true c.spoilt p.1)

    by : Rest e.part c → (e.part.erasure ≡ None) × (c.spoilt ≡ false) × (blank e.part.cells c.spare.start (book_size c.positions) ≡ true)
    by (ready j s t) = (j, s, t)
    by (erasing left j s) = absurd (both_ways (stands e.part) tests.0 (ap is_some j))
    by (spoilt j s w) = absurd (both_ways c.spoilt tests.1 s)

no_time : (m : Meaning) → Lawful m → moved m m ≡ 0
no_time m l = let c : m.clock < 4294967296 = l.clock in omega arith

pub same_again : SameAgain
unfolding Opens
same_again m a b y start e calls log l o g p q r again x =
    let t = took m a b (Ok y) start l refl o in
    let z = played m a b (first_table start.part t.books) start t.books calls log e g t.leaves
    (keeps_opened m a b t.books start.part (first_table start.part t.books) t.opens (λ _ _ _. refl)) p in
    let k = z.keeps in
    let w = quiet_ready e z.books z.leaves q k.rest in
    let v = opened_again m e.part a b z.books x.taken x.part t.opens.free k.sizes k.guards w.0 k.seated k.positions w.1 k.head k.readable w.2
    k.blocks x.opens in
    let says : r ≡ Ok (record { said = Done; us = moved e.part x.part }) =
    x.says ∙ ap (reported 0 (λ _. record { said = Done; us = moved e.part x.part })) v.0 in
    let time : moved e.part x.part ≡ 0 = ap (moved e.part) v.1 ∙ no_time e.part z.lawful in (
      says ∙ ap (λ (n : ℕ). Ok (record { said = Done; us = n })) time,
      x.leaves ∙ ap (desk_after x.part) v.0 ∙ ap (λ (n : Meaning). opened n z.books) v.1 ∙ sym z.leaves,
    )
