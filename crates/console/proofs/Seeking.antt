-- The search for the next filled position, one by one.
use Rattle.std.proofs.Common.{◌≡◌, ℕ, zero, suc, ◌+◌, ◌-◌, ◌<◌, ◌≤◌, Bool, false, cond, Some, None, Ok, Err, Option, Result, sym, refl, ap, ◌∙◌, subst, arith}
use Rattle.fault.specs.declared.faults.PartFault.{PartFault}
use Rattle.part.specs.Meaning.{Meaning}
use Rattle.book.specs.declared.page.Page.{Page}
use Rattle.book.specs.Pages.{page_at}
use Rattle.book.specs.Reading.{reading, counted, page_bytes}
use Rattle.book.specs.Burning.{stops_of}
use Rattle.book.proofs.Counting.{counted_more}
use Rattle.console.specs.Looking.{filled_at, or_else, searched, goes_on, searched_bytes}

pub searched_none : (m : Meaning) (start p : ℕ) → searched m start p 0 ≡ Ok None
unfolding searched
searched_none m start p = refl

searched_more : (m : Meaning) (start p k : ℕ)
    → searched m start p (suc k) ≡ or_else (searched m start p k) (filled_at (p + suc k) (stops_of (reading m (page_at start (p + suc k)))))
unfolding searched
searched_more m start p k = refl

-- One position more, by what was read there.
pub searched_on : (m : Meaning) (start p q : ℕ) (r : Result Page PartFault) → p ≤ q → searched m start p (q - p) ≡ Ok None → reading m (page_at start (q + 1)) ≡ r
    → searched m start p (q + 1 - p) ≡ filled_at (q + 1) (stops_of r)
searched_on m start p q r l e d =
    let i : suc (q - p) ≡ q + 1 - p = omega arith in
    let j : p + suc (q - p) ≡ q + 1 = omega arith in
    subst (λ (k : ℕ). searched m start p k ≡ filled_at (q + 1) (stops_of r)) i
    (searched_more m start p (q - p)
    ∙ ap (λ (x : Result (Option ℕ) PartFault). or_else x (filled_at (p + suc (q - p)) (stops_of (reading m (page_at start (p + suc (q - p))))))) e
    ∙ ap (λ (k : ℕ). filled_at k (stops_of (reading m (page_at start k)))) j
    ∙ ap (λ (x : Result Page PartFault). filled_at (q + 1) (stops_of x)) d)

-- What was found stays.
stays : (m : Meaning) (start p k : ℕ) (x : Result (Option ℕ) PartFault) → ((next : Result (Option ℕ) PartFault) → or_else x next ≡ x) → searched m start p k ≡ x
    → (j : ℕ) → searched m start p (k + j) ≡ x
stays m start p k x h e zero = subst (λ (i : ℕ). searched m start p i ≡ x) (omega arith) e
stays m start p k x h e (suc j) =
    let i : suc (k + j) ≡ k + suc j = omega arith in
    subst (λ (n : ℕ). searched m start p n ≡ x) i
    (searched_more m start p (k + j)
    ∙ ap (λ (y : Result (Option ℕ) PartFault). or_else y (filled_at (p + suc (k + j)) (stops_of (reading m (page_at start (p + suc (k + j))))))) (stays m start p k x h e j)
    ∙ h _)

pub searched_stops : (m : Meaning) (start p q n : ℕ) (f : PartFault) → p ≤ q → q < n → searched m start p (q - p) ≡ Ok None
    → reading m (page_at start (q + 1)) ≡ Err f → searched m start p (n - p) ≡ Err f
searched_stops m start p q n f l h e d =
    let i : q + 1 - p + (n - (q + 1)) ≡ n - p = omega arith in
    subst (λ (k : ℕ). searched m start p k ≡ Err f) i
    (stays m start p (q + 1 - p) (Err f) (λ _. refl) (searched_on m start p q (Err f) l e d) (n - (q + 1)))

pub searched_finds : (m : Meaning) (start p q n : ℕ) (page : Page) (s : ℕ) → p ≤ q → q < n → searched m start p (q - p) ≡ Ok None
    → reading m (page_at start (q + 1)) ≡ Ok page → page.stops ≡ Some s → searched m start p (n - p) ≡ Ok (Some (q + 1))
searched_finds m start p q n page s l h e d t =
    let i : q + 1 - p + (n - (q + 1)) ≡ n - p = omega arith in
    subst (λ (k : ℕ). searched m start p k ≡ Ok (Some (q + 1))) i
    (stays m start p (q + 1 - p) (Ok (Some (q + 1))) (λ _. refl)
    (searched_on m start p q (Ok page) l e d ∙ ap (λ (o : Option ℕ). filled_at (q + 1) (Ok o)) t) (n - (q + 1)))

pub searched_past : (m : Meaning) (start p q : ℕ) (page : Page) → p ≤ q → searched m start p (q - p) ≡ Ok None
    → reading m (page_at start (q + 1)) ≡ Ok page → page.stops ≡ None → searched m start p (q + 1 - p) ≡ Ok None
searched_past m start p q page l e d t =
    searched_on m start p q (Ok page) l e d ∙ ap (λ (o : Option ℕ). filled_at (q + 1) (Ok o)) t

-- The bytes that it fetches.
pub bytes_none : (m : Meaning) (start p : ℕ) → searched_bytes m start p 0 ≡ 0
unfolding searched_bytes
bytes_none m start p = refl

bytes_more : (m : Meaning) (start p k : ℕ)
    → searched_bytes m start p (suc k) ≡ searched_bytes m start p k + cond (goes_on (searched m start p k)) (page_bytes m (page_at start (p + suc k))) 0
unfolding searched_bytes
bytes_more m start p k = refl

-- one page more
pub bytes_on : (m : Meaning) (start p q b x y : ℕ) → p ≤ q → searched m start p (q - p) ≡ Ok None → x ≡ counted b (searched_bytes m start p (q - p))
    → y ≡ counted x (page_bytes m (page_at start (q + 1))) → y ≡ counted b (searched_bytes m start p (q + 1 - p))
bytes_on m start p q b x y l e h g =
    let i : suc (q - p) ≡ q + 1 - p = omega arith in
    let j : p + suc (q - p) ≡ q + 1 = omega arith in
    let more : searched_bytes m start p (q + 1 - p) ≡ searched_bytes m start p (q - p) + page_bytes m (page_at start (q + 1)) =
    subst (λ (k : ℕ). searched_bytes m start p k ≡ searched_bytes m start p (q - p) + page_bytes m (page_at start (q + 1))) i
    (bytes_more m start p (q - p)
    ∙ ap (λ (r : Result (Option ℕ) PartFault). searched_bytes m start p (q - p) + cond (goes_on r) (page_bytes m (page_at start (p + suc (q - p)))) 0) e
    ∙ ap (λ (k : ℕ). searched_bytes m start p (q - p) + page_bytes m (page_at start k)) j) in
    g ∙ ap (λ (n : ℕ). counted n (page_bytes m (page_at start (q + 1)))) h ∙ counted_more b (searched_bytes m start p (q - p)) _
    ∙ ap (counted b) (sym more)

-- Nothing is fetched behind what was found.
bytes_stay : (m : Meaning) (start p k : ℕ) (x : Result (Option ℕ) PartFault) → ((next : Result (Option ℕ) PartFault) → or_else x next ≡ x) → goes_on x ≡ false
    → searched m start p k ≡ x → (j : ℕ) → searched_bytes m start p (k + j) ≡ searched_bytes m start p k
bytes_stay m start p k x h g e zero = ap (searched_bytes m start p) (omega arith)
bytes_stay m start p k x h g e (suc j) =
    let i : suc (k + j) ≡ k + suc j = omega arith in
    let last : cond (goes_on (searched m start p (k + j))) (page_bytes m (page_at start (p + suc (k + j)))) 0 ≡ 0 =
    ap (λ (r : Result (Option ℕ) PartFault). cond (goes_on r) (page_bytes m (page_at start (p + suc (k + j)))) 0) (stays m start p k x h e j)
    ∙ ap (λ (t : Bool). cond t (page_bytes m (page_at start (p + suc (k + j)))) 0) g in
    let same = bytes_stay m start p k x h g e j in
    subst (λ (n : ℕ). searched_bytes m start p n ≡ searched_bytes m start p k) i
    (bytes_more m start p (k + j) ∙ omega (arith, last, same))

-- a page that ends the search
pub bytes_end : (m : Meaning) (start p q n b x y : ℕ) (r : Result Page PartFault) (z : Result (Option ℕ) PartFault) → p ≤ q → q < n
    → searched m start p (q - p) ≡ Ok None → reading m (page_at start (q + 1)) ≡ r → filled_at (q + 1) (stops_of r) ≡ z
    → ((next : Result (Option ℕ) PartFault) → or_else z next ≡ z) → goes_on z ≡ false
    → x ≡ counted b (searched_bytes m start p (q - p)) → y ≡ counted x (page_bytes m (page_at start (q + 1)))
    → y ≡ counted b (searched_bytes m start p (n - p))
bytes_end m start p q n b x y r z l h e d f o g u v =
    let i : q + 1 - p + (n - (q + 1)) ≡ n - p = omega arith in
    bytes_on m start p q b x y l e u v
    ∙ ap (counted b) (sym (bytes_stay m start p (q + 1 - p) z o g (searched_on m start p q r l e d ∙ f) (n - (q + 1)))
    ∙ ap (searched_bytes m start p) i)
