-- The console's calls, put together from what their parts ensure.
use Rattle.std.proofs.Common.{◌≡◌, ℕ, Bool, true, false, cond, ◌&&◌, ◌||◌, leb, is_some, Some, None, Ok, Err, Option, Result, sym, refl, ap, ◌∙◌, subst, arith}
use Rattle.std.specs.Prelude.{MatchResult}
use Rattle.std.proofs.lemmas.Bool.{cond-true, cond-false, true≢false}
use Rattle.fault.specs.declared.cause.Cause.{Cause}
use Rattle.fault.specs.declared.cause.Cause.TheVariants.{OutOfTurn, TimeTooLong}
use Rattle.fault.specs.declared.faults.PartFault.{PartFault}
use Rattle.part.specs.declared.answers.Progress.{Progress}
use Rattle.part.specs.Meaning.{Meaning}
use Rattle.part.specs.Calls.{longest, answer, time_no, progress, after_pass}
use Rattle.book.specs.declared.books.Books.{Books}
use Rattle.book.specs.declared.page.Page.{Page}
use Rattle.book.specs.declared.spot.Spot.{Spot}
use Rattle.book.specs.Pages.{page_at}
use Rattle.book.specs.Reading.{reading}
use Rattle.book.specs.Pairs.{Pair, spoilt_if}
use Rattle.book.specs.Finding.{Opened}
use Rattle.book.specs.Views.{pair_of, pair_in}
use Rattle.fault.specs.declared.faults.ConsoleFault.{ConsoleFault}
use Rattle.fault.specs.Raising.{console_fault}
use Rattle.console.specs.declared.answers.Said.TheVariants.{Done}
use Rattle.console.specs.declared.answers.Answer.{Answer}
use Rattle.console.specs.declared.storing.Way.{Way}
use Rattle.console.specs.Desks.{Desk, books_of, desk, opened, moved}
use Rattle.console.specs.Faults.{at_position, no_place, placed, reported, Refuses}
use Rattle.console.specs.Waiting.{let_end, ends_worn, is_worn, pass_worn, WaitsOn, Waits}
use Rattle.console.specs.Checks.{Checked, store_books}
use Rattle.console.specs.Storing.{way, Goes, Writes, Stored, StoresOn, Stores}
use Rattle.console.specs.Opening.{desk_after, OpensOn, Opens}

-- What a check says by its answer.
checked_err : (q : Result Pair Cause) (p : ℕ) (f : ConsoleFault) → Checked q p (Err f) → (cause : Cause) × (q ≡ Err cause) × (f ≡ no_place cause p)
checked_err (Err cause) p f e = (cause, refl, cc)
checked_err (Ok b) p f e = absurd e

checked_ok : (q : Result Pair Cause) (p : ℕ) (s : Spot) → Checked q p (Ok s) → (q ≡ Ok (pair_of s.books)) × (s.position ≡ p)
checked_ok (Err cause) p s e = let z : ◌≡◌ {A = ℕ} 0 1 = cc in absurd (omega arith)
checked_ok (Ok b) p s e = (ap Ok (sym e.0), e.1)

-- A call that its check refuses, and one that is made on the books that it gives.
pub refused_by : (check : Option Pair → Result Pair Cause) (Does : Pair → Type 0) (d : Desk) (o : Option Pair) (p : ℕ) (f : ConsoleFault)
    (r : Result Answer ConsoleFault) → o ≡ d.books → Checked (check o) p (Err f) → r ≡ Err f
    → MatchResult (check d.books) Does (λ cause. Refuses d (no_place cause p) r d)
refused_by check Does d o p f r i x s =
    let c = checked_err (check o) p f x in
    subst (λ (q : Result Pair Cause). MatchResult q Does (λ cause. Refuses d (no_place cause p) r d)) (sym c.1 ∙ ap check i) (s ∙ ap Err c.2, refl)

pub fetched_none : (check : Option Pair → Result Pair Cause) (Does : Pair → Type 0) (d : Desk) (o : Option Pair) (p : ℕ) (f : ConsoleFault) (n : ℕ)
    → o ≡ d.books → Checked (check o) p (Err f) → MatchResult (check d.books) Does (λ cause. n ≡ n)
fetched_none check Does d o p f n i x =
    let c = checked_err (check o) p f x in
    subst (λ (q : Result Pair Cause). MatchResult q Does (λ cause. n ≡ n)) (sym c.1 ∙ ap check i) refl

pub made_by : (check : Option Pair → Result Pair Cause) (Does : Pair → Type 0) (No : Cause → Type 0) (d : Desk) (o : Option Pair) (p : ℕ) (s : Spot)
    → o ≡ d.books → Checked (check o) p (Ok s) → (s.position ≡ p → Does (pair_of s.books)) → MatchResult (check d.books) Does No
made_by check Does No d o p s i x does =
    let c = checked_ok (check o) p s x in
    subst (λ (q : Result Pair Cause). MatchResult q Does No) (sym c.0 ∙ ap check i) (does c.1)

-- what is reported of what the part answered
pub reported_err : {X : Type 0} (p : ℕ) (says : X → Answer) (q : Result X PartFault) (f : ConsoleFault) → placed p q ≡ Err f → Err f ≡ reported p says q
reported_err p says (Ok x) f e = let z : ◌≡◌ {A = ℕ} 0 1 = cc in absurd (omega arith)
reported_err p says (Err g) f e = let same : at_position p g ≡ f = cc in ap Err (sym same)

pub reported_ok : {X : Type 0} (p : ℕ) (says : X → Answer) (q : Result X PartFault) (x : X) → placed p q ≡ Ok x → Ok (says x) ≡ reported p says q
reported_ok p says (Ok y) x e = let same : y ≡ x = cc in ap (λ (z : _). Ok (says z)) (sym same)
reported_ok p says (Err g) x e = let z : ◌≡◌ {A = ℕ} 0 1 = cc in absurd (omega arith)

-- set and clear, from what the storing did.
pub stores_done : (d : Desk) (o : Option Books) (m n : Meaning) (p us : ℕ) (new : Option ℕ) (s : Spot) (c : Books) (q : Result (Unit {0}) PartFault)
    (r : Result Answer ConsoleFault) → desk m o ≡ d → Checked (store_books (books_of o) p new) p (Ok s)
    → Stored m (pair_of s.books) s.position new q n (pair_of c) → us ≡ moved m n → r ≡ reported p (λ _. record { said = Done; us = us }) q
    → Stores d p new r (desk n (Some c))
unfolding Stores
stores_done d o m n p us new s c q r i x y t w =
    subst (λ (k : Desk). MatchResult (store_books k.books p new) (λ b. StoresOn k b p new r (desk n (Some c))) (λ cause. Refuses k (no_place cause p) r (desk n (Some c)))) i
    (made_by (λ b. store_books b p new) (λ b. StoresOn (desk m o) b p new r (desk n (Some c))) _ (desk m o) (books_of o) p s refl x
    (λ at. record {
      answer = q;
      books = pair_of c;
      stored = subst (λ (i : ℕ). Stored m (pair_of s.books) i new q n (pair_of c)) at y;
      leaves = refl;
      says = w ∙ ap (λ (u : ℕ). reported p (λ _. record { said = Done; us = u }) q) t;
    }))

-- The page is read once the erasure has ended.
pub store_stopped : (m k n : Meaning) (b c : Pair) (p : ℕ) (new : Option ℕ) (f : PartFault) (w : Bool) → k ≡ let_end m → w ≡ ends_worn m → c ≡ spoilt_if w b
    → reading k (page_at c.current.start p) ≡ Err f → n ≡ k → Stored m b p new (Err f) n c
unfolding Stored
store_stopped m k n b c p new f w i j d e l =
    subst (λ (x : Result Page PartFault). Writes x (let_end m) (spoilt_if (ends_worn m) b) p new (Err f) n c)
    (sym (ap (λ (x : Meaning). reading x (page_at b.current.start p)) (sym i) ∙ ap (λ (x : Pair). reading k (page_at x.current.start p)) (sym d) ∙ e))
    (refl, l ∙ i, d ∙ ap (λ (x : Bool). spoilt_if x b) j)

pub store_gone : (m k h n : Meaning) (b c z : Pair) (p : ℕ) (new : Option ℕ) (page : Page) (v : Way) (r : Result (Unit {0}) PartFault) (w : Bool)
    → k ≡ let_end m → w ≡ ends_worn m → c ≡ spoilt_if w b → reading k (page_at c.current.start p) ≡ Ok page → h ≡ k
    → v ≡ way page new c.spoilt → Goes v h c p page new r n z → Stored m b p new r n z
unfolding Stored
store_gone m k h n b c z p new page v r w i j d e l t x =
    let s : c ≡ spoilt_if (ends_worn m) b = d ∙ ap (λ (y : Bool). spoilt_if y b) j in
    subst (λ (y : Result Page PartFault). Writes y (let_end m) (spoilt_if (ends_worn m) b) p new r n z)
    (sym (ap (λ (y : Meaning). reading y (page_at b.current.start p)) (sym i) ∙ ap (λ (y : Pair). reading k (page_at y.current.start p)) (sym d) ∙ e))
    (subst (λ (y : Pair). Goes (way page new y.spoilt) (let_end m) y p page new r n z) s
    (subst (λ (y : Meaning). Goes (way page new c.spoilt) y c p page new r n z) (l ∙ i)
    (subst (λ (y : Way). Goes y h c p page new r n z) t x)))

-- open.
none_is : (o : Option Books) → is_some o ≡ false → o ≡ None
none_is None e = refl
none_is (Some b) e = absurd (true≢false e)

pub opens_already : (m : Meaning) (o : Option Books) (a b : ℕ) → is_some o ≡ true → Opens (desk m o) a b (Err (no_place OutOfTurn 0)) (desk m o)
unfolding Opens
opens_already m None a b e = absurd (true≢false (sym e))
opens_already m (Some c) a b e = (refl, refl)

pub opens_done : (m n : Meaning) (o e : Option Books) (a b us : ℕ) (q : Result Books PartFault) (r : Result Answer ConsoleFault) → is_some o ≡ false
    → Opened m a b (pair_in q) n → us ≡ moved m n → r ≡ reported 0 (λ _. record { said = Done; us = us }) (pair_in q)
    → desk n e ≡ desk_after n (pair_in q) → Opens (desk m o) a b r (desk n e)
unfolding Opens
opens_done m n o e a b us q r c x t d l =
    subst (λ (y : Option Pair). OpensOn y (desk m o) a b r (desk n e)) (sym (ap books_of (none_is o c)))
    (record {
      taken = pair_in q;
      part = n;
      opens = x;
      says = d ∙ ap (λ (u : ℕ). reported 0 (λ _. record { said = Done; us = u }) (pair_in q)) t;
      leaves = l;
    })

pub opens_refused : (m n : Meaning) (o : Option Books) (a b : ℕ) (f : PartFault) (r : Result Answer ConsoleFault) → is_some o ≡ false
    → Opened m a b (Err f) n → r ≡ Err (console_fault f) → Opens (desk m o) a b r (desk n o)
opens_refused m n o a b f r c x d = opens_done m n o o a b (moved m n) (Err f) r c x refl d (ap (desk n) (none_is o c))

-- wait.
pub waits_closed : (m : Meaning) (o : Option Books) (n : ℕ) → o ≡ None → Waits (desk m o) n (Err (no_place OutOfTurn 0)) (desk m o)
unfolding Waits
waits_closed m o n e = subst (λ (x : Option Books). WaitsOn (books_of x) (desk m o) n (Err (no_place OutOfTurn 0)) (desk m o)) (sym e) (refl, refl)

pass_by : (t : Bool) (n : ℕ) (p q : Progress) → answer (cond t None (Some TimeTooLong)) n p ≡ Ok q → (t ≡ true) × (q ≡ p)
pass_by true n p q e = (refl, cc)
pass_by false n p q e = let z : ◌≡◌ {A = ℕ} 0 1 = cc in absurd (omega arith)

time_not : (t : Bool) (n : ℕ) (p : Progress) (f : PartFault) → answer (cond t None (Some TimeTooLong)) n p ≡ Err f → (t ≡ false) × (f ≡ record { cause = TimeTooLong; place = n })
time_not true n p f e = let z : ◌≡◌ {A = ℕ} 0 1 = cc in absurd (omega arith)
time_not false n p f e = (refl, cc)

pub waits_refused : (m k : Meaning) (o : Option Books) (b : Books) (n : ℕ) (f : PartFault) (r : Result Answer ConsoleFault) → o ≡ Some b
    → answer (time_no n) n (progress m n m.erasure) ≡ Err f → k ≡ after_pass m n → r ≡ Err (console_fault f) → Waits (desk m o) n r (desk k o)
unfolding Waits
waits_refused m k o b n f r e a s d =
    let p = time_not (leb n longest) n (progress m n m.erasure) f a in
    subst (λ (x : Option Books). WaitsOn (books_of x) (desk m o) n r (desk k o)) (sym e) (
      d ∙ ap (λ (x : PartFault). Err (console_fault x)) p.1 ∙ sym (cond-false (leb n longest) _ _ p.0),
      ap (λ (x : Option Books). desk k x) e
          ∙ ap (λ (x : Meaning). opened x (pair_of b)) s
          ∙ ap (opened (after_pass m n)) (spared b.spoilt ∙ ap (λ (t : Bool). spoilt_if (t && is_worn (progress m n m.erasure)) (pair_of b)) (sym p.0)),
    )
  where
    with_spoilt : Bool → Pair
    with_spoilt t = record { current = b.current; spare = b.spare; positions = b.positions; spoilt = t }

    spared : (t : Bool) → with_spoilt t ≡ with_spoilt (t || false)
    spared true = refl
    spared false = refl

pub waits_done : (m k : Meaning) (o : Option Books) (b c : Books) (n us : ℕ) (q : Progress) (w : Bool) → o ≡ Some b
    → answer (time_no n) n (progress m n m.erasure) ≡ Ok q → k ≡ after_pass m n → w ≡ is_worn q → pair_of c ≡ spoilt_if w (pair_of b) → us ≡ moved m k
    → Waits (desk m o) n (Ok (record { said = Done; us = us })) (desk k (Some c))
unfolding Waits
waits_done m k o b c n us q w e a s j d t =
    let p = pass_by (leb n longest) n (progress m n m.erasure) q a in
    let worn : w ≡ pass_worn m n = j ∙ ap is_worn p.1 ∙ ap (λ (x : Bool). x && is_worn (progress m n m.erasure)) (sym p.0) in
    subst (λ (x : Option Books). WaitsOn (books_of x) (desk m o) n (Ok (record { said = Done; us = us })) (desk k (Some c))) (sym e) (
      ap (λ (u : ℕ). Ok (record { said = Done; us = u })) (t ∙ ap (moved m) s) ∙ sym (cond-true (leb n longest) _ _ p.0),
      ap (λ (x : Meaning). opened x (pair_of c)) s ∙ ap (opened (after_pass m n)) (d ∙ ap (λ (x : Bool). spoilt_if x (pair_of b)) worn),
    )
