-- What a part tells at a glance of its erasure is so of the erasure, and what follows from what an erasure hides and bars. What stands above uses
-- these laws, and not the text of the rules, but for two: the joined part, whose rules about its two sides follow from that text, and the driver,
-- which burns only where the chip is at rest.
use Rattle.std.proofs.Common.{◌≡◌, ℕ, Bool, true, false, cond, eqb, List, Some, None, Option, is_some, refl, ap, ◌∙◌}
use Rattle.std.proofs.lemmas.Bool.{true≢false}
use Rattle.part.specs.declared.answers.Standing.TheVariants.{Running, Suspended}
use Rattle.part.specs.Meaning.{Erasure, Meaning, guarded, with_cells, ticked, standing_of, shape_of}
use Rattle.part.specs.InTheWay.{hid, barred, barred_beside}
use Rattle.part.specs.Calls.{stands, running, runs, hides, bars, bars_beside, begin_no}
use Rattle.part.specs.Standings.{stood, ran, shape_begin_no}

stood_by : (e : Option Erasure) → stood (standing_of e) ≡ is_some e
stood_by None = refl
stood_by (Some e) = by_running e.running
  where
    by_running : (r : Bool) → stood (cond r (Running e.block) (Suspended e.block)) ≡ true
    by_running true = refl
    by_running false = refl

pub stood_is : (m : Meaning) → stood (standing_of m.erasure) ≡ stands m
stood_is m = stood_by m.erasure

ran_by : (e : Option Erasure) → ran (standing_of e) ≡ running e
ran_by None = refl
ran_by (Some e) = by_running e.running
  where
    by_running : (r : Bool) → ran (cond r (Running e.block) (Suspended e.block)) ≡ r
    by_running true = refl
    by_running false = refl

pub ran_is : (m : Meaning) → ran (standing_of m.erasure) ≡ runs m
ran_is m = ran_by m.erasure

pub hid_is : (m : Meaning) (b : ℕ) → hid (standing_of m.erasure) b ≡ hides m b
unfolding hides
hid_is m b = refl

pub barred_is : (m : Meaning) (b : ℕ) → barred (standing_of m.erasure) b ≡ bars m b
unfolding bars
barred_is m b = refl

pub begin_no_is : (m : Meaning) (b : ℕ) → shape_begin_no (shape_of m) b (guarded m b) ≡ begin_no m b
begin_no_is m b = rw (stood_is m)

-- Where no erasure stands nothing is hidden and no burn barred; one that is suspended hides its own block alone; and each bars its own block.
none_hidden : (e : Option Erasure) (b : ℕ) → is_some e ≡ false → hid (standing_of e) b ≡ false
none_hidden None b h = refl
none_hidden (Some e) b h = absurd (true≢false h)

pub hides_none : (m : Meaning) (b : ℕ) → stands m ≡ false → hides m b ≡ false
unfolding hides
hides_none m b h = none_hidden m.erasure b h

none_barred : (e : Option Erasure) (b : ℕ) → is_some e ≡ false → barred (standing_of e) b ≡ false
none_barred None b h = refl
none_barred (Some e) b h = absurd (true≢false h)

pub bars_none : (m : Meaning) (b : ℕ) → stands m ≡ false → bars m b ≡ false
unfolding bars
bars_none m b h = none_barred m.erasure b h

pub hides_still : (m : Meaning) (e : Erasure) (b : ℕ) → m.erasure ≡ Some e → e.running ≡ false → hides m b ≡ eqb e.block b
unfolding hides
hides_still m e b d r =
    ap (λ (o : Option Erasure). hid (standing_of o) b) d ∙ ap (λ (t : Bool). hid (cond t (Running e.block) (Suspended e.block)) b) r

own_barred : (b : ℕ) (r : Bool) → barred (cond r (Running b) (Suspended b)) b ≡ true
own_barred b true = refl
own_barred b false = refl

pub bars_own : (m : Meaning) (e : Erasure) → m.erasure ≡ Some e → bars m e.block ≡ true
unfolding bars
bars_own m e d = ap (λ (o : Option Erasure). barred (standing_of o) e.block) d ∙ own_barred e.block e.running

-- other cells, or another reading of the clock, change neither
pub hides_cells : (m : Meaning) (cells : List ℕ) (b : ℕ) → hides (with_cells m cells) b ≡ hides m b
unfolding hides
hides_cells m cells b = refl

pub hides_ticked : (m : Meaning) (n b : ℕ) → hides (ticked m n) b ≡ hides m b
unfolding hides
hides_ticked m n b = refl

pub bars_cells : (m : Meaning) (cells : List ℕ) (b : ℕ) → bars (with_cells m cells) b ≡ bars m b
unfolding bars
bars_cells m cells b = refl

pub bars_ticked : (m : Meaning) (n b : ℕ) → bars (ticked m n) b ≡ bars m b
unfolding bars
bars_ticked m n b = refl

-- Where an erasure does not bar a neighbour's cells it does not run.
still_beside : (e : Option Erasure) → barred_beside (standing_of e) ≡ false → running e ≡ false
still_beside None h = refl
still_beside (Some e) h = by_running e.running h
  where
    by_running : (r : Bool) → barred_beside (cond r (Running e.block) (Suspended e.block)) ≡ false → r ≡ false
    by_running true h = absurd (true≢false h)
    by_running false h = refl

pub unbarred_beside : (m : Meaning) → bars_beside m ≡ false → runs m ≡ false
unbarred_beside m h = still_beside m.erasure h
