-- The four ways in which a page takes new stops, each with what makes it the way.
use Rattle.std.proofs.Common.{◌≡◌, ℕ, ◌<◌, true, false, cond, ◌&&◌, ltb, Ok, Err, Option, Result, is_none, subst, inl, inr}
use Rattle.std.proofs.lemmas.Bool.{cases_Bool, ltb-true, cond-true, cond-false}
use Rattle.fault.specs.declared.cause.Cause.TheVariants.{SpareSpoilt}
use Rattle.fault.specs.declared.faults.PartFault.{PartFault}
use Rattle.part.specs.Meaning.{Meaning}
use Rattle.book.specs.declared.page.Page.{Page}
use Rattle.book.specs.Pages.{page_at, used}
use Rattle.book.specs.Burning.{Ran, line_added}
use Rattle.book.specs.Pairs.{Pair}
use Rattle.console.specs.declared.storing.Way.{Way}
use Rattle.console.specs.declared.storing.Way.TheVariants.{Nothing, Line, Change, Spoilt}
use Rattle.console.specs.Storing.{way, Changes, Goes}

pub data Went (m : Meaning) (b : Pair) (p : ℕ) (page : Page) (new : Option ℕ) (r : Result (Unit {0}) PartFault) (n : Meaning) (c : Pair) : Type 0 where
  empty : (is_none page.stops && is_none new) ≡ true → r ≡ Ok tt → n ≡ m → c ≡ b → Went m b p page new r n c
  line : used page.tally < 7 → Ran m (line_added (page_at b.current.start p) page.tally new) r n → c ≡ b → Went m b p page new r n c
  change : b.spoilt ≡ false → Changes m b p new r n c → Went m b p page new r n c
  spoilt : b.spoilt ≡ true → r ≡ Err (record { cause = SpareSpoilt; place = 0 }) → n ≡ m → c ≡ b → Went m b p page new r n c

module _ (m : Meaning) (b : Pair) (p : ℕ) (page : Page) (new : Option ℕ) (r : Result (Unit {0}) PartFault) (n : Meaning) (c : Pair) where
  abbrev By : Way → Type 0
  By w = Goes w m b p page new r n c

  full : By (cond b.spoilt Spoilt Change) → Went m b p page new r n c
  full x = elim (cases_Bool b.spoilt) [
    | inl s ↦ let y : By Spoilt = subst By (cond-true b.spoilt Spoilt Change s) x in spoilt s y.0 y.1 y.2
    | inr s ↦ change s (subst By (cond-false b.spoilt Spoilt Change s) x)
  ]

  some : By (cond (ltb (used page.tally) 7) Line (cond b.spoilt Spoilt Change)) → Went m b p page new r n c
  some x = elim (cases_Bool (ltb (used page.tally) 7)) [
    | inl t ↦
        let y : By Line = subst By (cond-true (ltb (used page.tally) 7) Line (cond b.spoilt Spoilt Change) t) x in
        line (ltb-true (used page.tally) 7 t) y.0 y.1
    | inr t ↦ full (subst By (cond-false (ltb (used page.tally) 7) Line (cond b.spoilt Spoilt Change) t) x)
  ]

  pub went : By (way page new b.spoilt) → Went m b p page new r n c
  went x = elim (cases_Bool (is_none page.stops && is_none new)) [
    | inl t ↦ let y : By Nothing = subst By (cond-true (is_none page.stops && is_none new) Nothing _ t) x in empty t y.0 y.1 y.2
    | inr t ↦ some (subst By (cond-false (is_none page.stops && is_none new) Nothing _ t) x)
  ]
