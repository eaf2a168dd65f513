-- What holds of an open console between two calls.
use Rattle.std.proofs.Common.{◌≡◌, ℕ, ◌≤◌, true, false, get_or, Result, refl, ◌∙◌}
use Rattle.std.specs.Prelude.{is_ok}
use Rattle.part.specs.Meaning.{Meaning, worn, ticked}
use Rattle.book.specs.Pages.{page_at, shown, readable_book}
use Rattle.book.specs.Pairs.{Pair}
use Rattle.book.specs.Finding.{width, positions_of}
use Rattle.book.proofs.Seats.{Seated}
use Rattle.book.proofs.Ground.{seated_on}
pub use Rattle.book.proofs.Opening.{Rest, ready, erasing, spoilt, InBlocks}
use Rattle.fault.specs.declared.faults.ConsoleFault.{ConsoleFault}
use Rattle.console.specs.declared.answers.Answer.{Answer}
use Rattle.console.specs.declared.call.Call.{Call}
use Rattle.console.specs.Desks.{Desk, opened}
use Rattle.console.specs.Showing.{OnlyLooks, Prompt}
use Rattle.console.proofs.Tables.{Table, look, after, tells}

-- A part that meant o when its console was opened on blocks a and b means m, the books are c, and they hold what f says.
pub record Keeps (o : Meaning) (a b : ℕ) (f : Table) (m : Meaning) (c : Pair) : Type 0 where
  pub seated : Seated m c
  pub blocks : InBlocks a b c
  pub sizes : m.sizes ≡ o.sizes
  pub guards : m.guards ≡ o.guards
  pub wears : m.wears ≡ o.wears
  pub positions : c.positions ≡ positions_of (width o a)
  pub head : get_or m.cells c.current.start 0 ≡ 0
  pub readable : readable_book m.cells c.current.start c.positions ≡ true
  pub shows : (p : ℕ) → 1 ≤ p → p ≤ c.positions → shown m.cells (page_at c.current.start p) ≡ f p
  pub rest : Rest m c

-- One call: what it answered, and what holds after it.
pub record Goes (o : Meaning) (a b : ℕ) (f : Table) (m : Meaning) (c : Pair) (call : Call) (r : Result Answer ConsoleFault) (e : Desk) : Type 0 where
  pub books : Pair
  pub leaves : e ≡ opened e.part books
  pub keeps : Keeps o a b (after call (is_ok r) f) e.part books
  pub looks : OnlyLooks call → look r ≡ tells c.positions f call
  pub sure : worn o a ≡ false → worn o b ≡ false → look r ≡ tells c.positions f call
  pub prompt : OnlyLooks call → Prompt m.clock e.part.clock r

-- Time that passes without an erasure changes nothing of it.
rest_ticked : (m : Meaning) (c : Pair) (time : ℕ) → Rest m c → Rest (ticked m time) c
rest_ticked m c time (ready i s t) = ready i s t
rest_ticked m c time (erasing left i s) = erasing left i s
rest_ticked m c time (spoilt i s w) = spoilt i s w

pub keeps_ticked : (o : Meaning) (a b : ℕ) (f : Table) (m : Meaning) (c : Pair) (time : ℕ) → Keeps o a b f m c → Keeps o a b f (ticked m time) c
keeps_ticked o a b f m c time k = record {
  seated = seated_on m _ c c.spoilt refl refl refl k.seated;
  blocks = k.blocks;
  sizes = k.sizes;
  guards = k.guards;
  wears = k.wears;
  positions = k.positions;
  head = k.head;
  readable = k.readable;
  shows = k.shows;
  rest = rest_ticked m c time k.rest;
}

-- The same for a table that says the same of each position.
pub keeps_for : (o : Meaning) (a b : ℕ) (f g : Table) (m : Meaning) (c : Pair) → ((q : ℕ) → 1 ≤ q → q ≤ c.positions → f q ≡ g q) → Keeps o a b f m c
    → Keeps o a b g m c
keeps_for o a b f g m c e k = record {
  seated = k.seated;
  blocks = k.blocks;
  sizes = k.sizes;
  guards = k.guards;
  wears = k.wears;
  positions = k.positions;
  head = k.head;
  readable = k.readable;
  shows = λ q l h. k.shows q l h ∙ e q l h;
  rest = k.rest;
}
