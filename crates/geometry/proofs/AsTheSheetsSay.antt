-- The constants of the source are those of the data sheets, by computing.
use Rattle.std.proofs.Common.{◌≡◌, ℕ, ◌≤◌, refl, arith}
use Rattle.std.proofs.lemmas.Bool.{ne_eqb}
use Rattle.geometry.specs.Plans.{top, bottom, bench, dead, plan_of}
use Rattle.geometry.specs.DataSheets.{Family, NoChip, Numbered, AsTheSheetsSay}

-- A number from 3 on is none of the three.
no_other : (kind : ℕ) → 3 ≤ kind → plan_of kind ≡ dead
no_other kind h = rw (ne_eqb kind 0 (λ e. omega arith), ne_eqb kind 1 (λ e. omega arith), ne_eqb kind 2 (λ e. omega arith))

pub as_the_sheets_say : AsTheSheetsSay
as_the_sheets_say = record {
  numbers = record { top = refl; bottom = refl; bench = refl; other = no_other };
  no_chip = record { size = refl; code = refl; starts = refl; sizes = refl };
  top = record { family = top_family; size = refl; code = refl; blocks = refl };
  bottom = record { family = bottom_family; size = refl; code = refl; blocks = refl };
  bench = record { family = bench_family; size = refl; code = refl; blocks = refl };
}
  where
    top_family : Family top
    top_family = record { maker = refl; first = refl; second = refl; bits = refl; a0 = refl; a1 = refl; a6 = refl }

    bottom_family : Family bottom
    bottom_family = record { maker = refl; first = refl; second = refl; bits = refl; a0 = refl; a1 = refl; a6 = refl }

    bench_family : Family bench
    bench_family = record { maker = refl; first = refl; second = refl; bits = refl; a0 = refl; a1 = refl; a6 = refl }
