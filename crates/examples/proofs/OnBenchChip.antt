-- The bench chip of the programs is one on which the examples come out.
use Rattle.std.proofs.Common.{◌≡◌, List, [], ◌∷◌, sym, refl, subst}
use Rattle.workbench.specs.declared.bench_chip.TheConstants.{BENCH_CHIP}
use Rattle.part.specs.Meaning.{Meaning}
use Rattle.console.specs.declared.call.Call.{Call}
use Rattle.console.specs.declared.call.Call.TheVariants.{Set, Clear}
use Rattle.console.specs.Desks.{Desk}
use Rattle.rehearsal.specs.declared.line.Line.{Line}
use Rattle.rehearsal.specs.Bench.{BenchChip, Came}
use Rattle.examples.specs.Told.{AsTold, Listed}

usable : BenchChip BENCH_CHIP
usable = record { kind = refl; first_open = refl; second_open = refl; first_sound = refl; second_sound = refl }

-- the part of a console on which these calls came out
pub as_told : (list : List Call) (log : List Line) (e : Desk) (opening : Line) (m : Meaning) → m ≡ e.part → Came BENCH_CHIP list log (e, opening)
    → AsTold list m
as_told list log e opening m same c = subst (AsTold list) (sym same) (λ i cells at. (c.as_told usable i cells at).holds)

-- The two lists that the program makes are examples of the table.
pub set_listed : (m : Meaning) → AsTold (Set 3 1 ∷ []) m → Listed (Set 3 1 ∷ []) m
set_listed m told = record { number = 6; cells = _; listed = refl; holds = told 6 _ refl }

pub clear_listed : (m : Meaning) → AsTold (Set 3 1 ∷ Clear 3 ∷ []) m → Listed (Set 3 1 ∷ Clear 3 ∷ []) m
clear_listed m told = record { number = 7; cells = _; listed = refl; holds = told 7 _ refl }
