-- The rows of a list, one by one.
use Rattle.std.proofs.Common.{◌≡◌, List, [], ◌∷◌, ◌++◌, Option, Some, None, refl, ap, sym, append_assoc}
use Rattle.std.specs.Option.{option_map}
use Rattle.std.proofs.lemmas.List.{append-nil}
use Rattle.console.specs.declared.call.Call.{Call as Made}
use Rattle.rehearsal.specs.declared.account.Seats.{Seats}
use Rattle.rehearsal.specs.declared.row.Row.{Row}
use Rattle.rehearsal.specs.Rows.{row_of}
use Rattle.script.specs.declared.entry.Request.TheVariants.{Open, Call, Quiet, Anew}
use Rattle.script.specs.declared.script.Step.{Step}
use Rattle.runner.specs.Listing.{rows_of}

-- the rows so far, and those of what is left
abbrev pub ahead : List Row → List Step → Option (List Row)
ahead rows steps = option_map (λ (more : List Row). rows ++ more) (rows_of steps)

pub at_first : (steps : List Step) → rows_of steps ≡ ahead [] steps
at_first steps = by (rows_of steps)
  where
    by : (o : Option (List Row)) → o ≡ option_map (λ (more : List Row). [] ++ more) o
    by None = refl
    by (Some rows) = refl

pub one_row : (rows : List Row) (x : Step) (xs : List Step) (c : Made) → x.request ≡ Call c → ahead rows (x ∷ xs) ≡ ahead (rows ++ row_of c ∷ []) xs
unfolding rows_of
one_row rows x xs c is = rw is (by (rows_of xs))
  where
    by : (o : Option (List Row)) → option_map (λ (more : List Row). rows ++ more) (option_map (λ more. row_of c ∷ more) o) ≡ option_map (λ (more : List Row). (rows ++ row_of c ∷ []) ++ more) o
    by None = refl
    by (Some more) = ap Some (sym (append_assoc rows (row_of c ∷ []) more))

pub no_open : (rows : List Row) (x : Step) (xs : List Step) (a b : Seats) → x.request ≡ Open a b → ahead rows (x ∷ xs) ≡ None
unfolding rows_of
no_open rows x xs a b is = rw is refl

pub no_quiet : (rows : List Row) (x : Step) (xs : List Step) → x.request ≡ Quiet → ahead rows (x ∷ xs) ≡ None
unfolding rows_of
no_quiet rows x xs is = rw is refl

pub no_anew : (rows : List Row) (x : Step) (xs : List Step) → x.request ≡ Anew → ahead rows (x ∷ xs) ≡ None
unfolding rows_of
no_anew rows x xs is = rw is refl

pub all_rows : (rows : List Row) → ahead rows [] ≡ Some rows
unfolding rows_of
all_rows rows = ap Some (append-nil rows)
