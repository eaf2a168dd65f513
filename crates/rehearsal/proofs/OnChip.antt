-- A blank bench chip is a bench part, and so the examples come out on it.
use Rattle.std.proofs.Common.{◌≡◌, ℕ, ◌+◌, ◌≤◌, zero, suc, true, false, List, [], ◌∷◌, length, get_or, Some, sym, refl, ap, ◌∙◌, subst, arith, lit<}
use Rattle.std.specs.Prelude.{slice_index_or}
use Rattle.std.specs.List.{slice_get}
use Rattle.std.proofs.lemmas.List.{length-replicate, get_or-replicate}
use Rattle.geometry.specs.Blocks.{total, start_of}
use Rattle.geometry.specs.Plans.{plan_of, bench}
use Rattle.chip.specs.declared.setup.Setup.{Setup}
use Rattle.tc58.specs.Rigs.{marks}
use Rattle.part.specs.Meaning.{Meaning, Lawful}
use Rattle.book.specs.Pages.{blank}
use Rattle.book.proofs.Stretches.{blank_from}
use Rattle.console.specs.declared.call.Call.{Call}
use Rattle.console.specs.Desks.{Desk, closed}
use Rattle.rehearsal.specs.declared.line.Line.{Line}
use Rattle.rehearsal.specs.Accounts.{run, Performed}
use Rattle.rehearsal.specs.Examples.{Example, calls, table, BenchPart, ComesOut, Each}
use Rattle.rehearsal.specs.Bench.{blank_chip, BenchChip, OnBench, Came}
use Rattle.rehearsal.proofs.Worked.{worked_examples}

module _ (s : Setup) (u : BenchChip s) where
  abbrev m : Meaning
  m = blank_chip s

  sizes : m.sizes ≡ bench.sizes
  sizes = ap (λ (k : ℕ). (plan_of k).sizes) u.kind

  long : length m.cells ≡ 32768
  long = length-replicate (plan_of s.kind).size 255 ∙ ap (λ (k : ℕ). (plan_of k).size) u.kind

  -- it is FFh throughout
  blank_in : (from k : ℕ) → from + k ≤ 32768 → blank m.cells from k ≡ true
  blank_in from k l =
      let size : (plan_of s.kind).size ≡ 32768 = ap (λ (k : ℕ). (plan_of k).size) u.kind in
      blank_from m.cells from k (λ a i h. get_or-replicate (plan_of s.kind).size a 255 0 (omega (arith, size)))

  lawful : Lawful m
  lawful = record {
    whole = ap total sizes ∙ sym long;
    small = omega (arith, long);
    few = omega (arith, ap length sizes);
    guards = ap (λ (ws : List ℕ). length (marks 0 (length ws) s.protected)) sizes ∙ sym (ap length sizes);
    wears = ap (λ (ws : List ℕ). length (marks 0 (length ws) s.worn)) sizes ∙ sym (ap length sizes);
    erasure = tt;
    clock = lit< tt;
  }

  bench_part : BenchPart m
  bench_part = record {
    lawful = lawful;
    sizes = sizes;
    first_blank = ap (λ (ws : List ℕ). blank m.cells (start_of ws 1) (get_or ws 1 0)) sizes ∙ blank_in 0x400 512 (omega arith);
    second_blank = ap (λ (ws : List ℕ). blank m.cells (start_of ws 2) (get_or ws 2 0)) sizes ∙ blank_in 0x600 512 (omega arith);
    first_open = ap (λ (ws : List ℕ). slice_index_or (marks 0 (length ws) s.protected) 1 false) sizes ∙ u.first_open;
    second_open = ap (λ (ws : List ℕ). slice_index_or (marks 0 (length ws) s.protected) 2 false) sizes ∙ u.second_open;
    unworn = (
      ap (λ (ws : List ℕ). slice_index_or (marks 0 (length ws) s.worn) 1 false) sizes ∙ u.first_sound,
      ap (λ (ws : List ℕ). slice_index_or (marks 0 (length ws) s.worn) 2 false) sizes ∙ u.second_sound,
    );
    still = refl;
  }

-- A closed console on a blank chip is on the bench.
pub on_bench : (s : Setup) (d : Desk) → d ≡ closed (blank_chip s) → OnBench s d
on_bench s d e = record { console = e; bench = λ u. subst (λ (d : Desk). BenchPart d.part) (sym e) (bench_part s u) }

-- an example of a table that comes out
each_at : (xs : List Example) → Each xs → (i : ℕ) (x : Example) → slice_get xs i ≡ Some x → ComesOut x
each_at [] t i x e = absurd (grind (arith, e))
each_at (y ∷ ys) t zero x e = subst ComesOut (grind (arith, e)) t.0
each_at (y ∷ ys) t (suc i) x e = each_at ys t.1 i x e

-- The examples come out on the bench.
pub came : (s : Setup) (list : List Call) (log : List Line) (opening : Line) (d e : Desk) → OnBench s d
    → Performed list (run d (record { first = 1; second = 2 }) opening log e) → Came s list log (e, opening)
came s list log opening d e o q =
    let p : Performed list (run (closed (blank_chip s)) (record { first = 1; second = 2 }) opening log e) =
    subst (λ (d : Desk). Performed list (run d (record { first = 1; second = 2 }) opening log e)) o.console q in
    record {
      made = p;
      as_told = λ u i cells at.
          each_at table worked_examples i (calls list cells) at (blank_chip s) opening.reply p.start e log (bench_part s u) p.opens.replies p.played;
    }
