-- What every call does to a console that keeps its books, and what an opening gives.
use Rattle.std.proofs.Common.{◌≡◌, ℕ, ◌≤◌, true, false, Ok, Err, Result, sym, refl, ap, ◌∙◌, subst}
use Rattle.std.specs.Prelude.{is_ok}
use Rattle.std.proofs.lemmas.Bool.{both_ways}
use Rattle.fault.specs.declared.faults.PartFault.{PartFault}
use Rattle.part.specs.Meaning.{Meaning, Lawful}
use Rattle.book.specs.Pages.{page_at, shown}
use Rattle.book.specs.Pairs.{Pair}
use Rattle.book.specs.Finding.{Opened}
use Rattle.book.proofs.Opening.{OpenBooks, opened_books}
use Rattle.fault.specs.declared.faults.ConsoleFault.{ConsoleFault}
use Rattle.console.specs.declared.answers.Said.TheVariants.{Done}
use Rattle.console.specs.declared.answers.Answer.{Answer}
use Rattle.console.specs.declared.call.Call.{Call}
use Rattle.console.specs.declared.call.Call.TheVariants.{Set, Clear, Recall, Next, Wait}
use Rattle.console.specs.Desks.{Desk, opened, moved}
use Rattle.console.specs.Faults.{reported}
use Rattle.console.specs.Opening.{OpensClosed, desk_after}
use Rattle.console.specs.Calls.{Replies}
use Rattle.console.proofs.Tables.{Table}
use Rattle.console.proofs.Keeping.{Keeps, Goes}
use Rattle.console.proofs.Stores.{set_goes, clear_goes}
use Rattle.console.proofs.Looks.{recall_goes, next_goes}
use Rattle.console.proofs.Waits.{keeps_ended, wait_goes}

-- Any of the five calls.
pub goes : (o : Meaning) (a b : ℕ) (f : Table) (m : Meaning) (c : Pair) (call : Call) (r : Result Answer ConsoleFault) (e : Desk) → Lawful m
    → Keeps o a b f m c → Replies (opened m c) call r e → Goes o a b f m c call r e
goes o a b f m c (Set p stops) r e l k x = let d = keeps_ended o a b f m c l k in set_goes o a b f m c k d.keeps d.idle p stops r e x
goes o a b f m c (Clear p) r e l k x = let d = keeps_ended o a b f m c l k in clear_goes o a b f m c k d.keeps d.idle p r e x
goes o a b f m c (Recall p) r e l k x = recall_goes o a b f m c p r e l k x
goes o a b f m c (Next p) r e l k x = next_goes o a b f m c p r e l k x
goes o a b f m c (Wait us) r e l k x = wait_goes o a b f m c us r e l k x

-- what an opening that was accepted has taken
pub record Took (m : Meaning) (a b : ℕ) (e : Desk) : Type 0 where
  pub books : Pair
  pub leaves : e ≡ opened e.part books
  pub opens : OpenBooks m a b books e.part

pub took : (m : Meaning) (a b : ℕ) (r : Result Answer ConsoleFault) (e : Desk) → Lawful m → is_ok r ≡ true → OpensClosed m a b r e → Took m a b e
took m a b r e l t x = by x.taken refl
  where
    by : (q : Result Pair PartFault) → x.taken ≡ q → Took m a b e
    by (Ok c) d =
        let y : Opened m a b (Ok c) x.part = subst (λ (q : Result Pair PartFault). Opened m a b q x.part) d x.opens in
        let i : e ≡ opened x.part c = x.leaves ∙ ap (desk_after x.part) d in
        let j : e.part ≡ x.part = ap (λ (z : Desk). z.part) i in
        record {
          books = c;
          leaves = i ∙ ap (λ (z : Meaning). opened z c) (sym j);
          opens = subst (λ (z : Meaning). OpenBooks m a b c z) (sym j) (opened_books m a b c x.part l y);
        }
    by (Err f) d =
        let y : is_ok r ≡ false = ap is_ok (x.says ∙ ap (reported 0 (λ _. record { said = Done; us = moved m x.part })) d) in
        absurd (both_ways (is_ok r) y t)

-- what then holds, by a table of what the books show
pub keeps_opened : (m : Meaning) (a b : ℕ) (c : Pair) (n : Meaning) (f : Table) → OpenBooks m a b c n
    → ((p : ℕ) → 1 ≤ p → p ≤ c.positions → shown n.cells (page_at c.current.start p) ≡ f p) → Keeps m a b f n c
keeps_opened m a b c n f x s = record {
  seated = x.seated;
  blocks = x.blocks;
  sizes = x.sizes;
  guards = x.guards;
  wears = x.wears;
  positions = x.positions;
  head = x.head;
  readable = x.readable;
  shows = s;
  rest = x.rest;
}
