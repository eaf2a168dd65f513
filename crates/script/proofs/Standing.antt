-- Each step of a script stands in the text where it says so.
use Rattle.std.proofs.Common.{◌≡◌, ℕ, ◌+◌, ◌-◌, ◌≤◌, Bool, true, false, cond, List, [], ◌∷◌, ◌++◌, length, All, Option, Some, None, Result, Ok, Err, refl, sym, ap, subst, ◌∙◌, append_assoc, arith}
use Rattle.std.specs.Prelude.{IfOk, slice_range}
use Rattle.std.specs.List.{AllByRecursion, join_with_byte}
use Rattle.std.proofs.lemmas.List.{append-nil, length-append, take_at, drop_at}
use Rattle.std.proofs.lemmas.List.Elements.{All-from_recursion}
use Rattle.std.proofs.lemmas.List.Splits.{join_with_byte-slice_split}
use Rattle.script.specs.declared.entry.Pieces.{Pieces}
use Rattle.script.specs.Sayings.{Saying}
use Rattle.script.specs.Sayings as says
use Rattle.script.specs.declared.script.Step.{Step}
use Rattle.script.specs.declared.script.Script.{Script}
use Rattle.script.specs.declared.unread.Complaint.{Complaint}
use Rattle.script.specs.declared.unread.Unread.{Unread}
use Rattle.naming.specs.declared.wrong.Wrong.{Wrong}
use Rattle.naming.specs.declared.wrong.Wrong.TheVariants.{CellsOutOfPlace, TooEarly}
use Rattle.script.specs.Grammar.{line_read}
use Rattle.script.specs.Scripts.{Patch, Plan, Sketch, Gives, ◌>>=◌, plan, begun, is_ready, may_fill, with_patch, with_step, wrong_at, quick_named, slow_named, said, after_line, with_both, finished, lines_read, lines_of, script_of, Stands}

abbrev EachStands : List ℕ → List Step → Type 0
EachStands text steps = AllByRecursion (Stands text) steps

one_more : (text : List ℕ) (steps : List Step) (x : Step) → EachStands text steps → Stands text x → EachStands text (steps ++ x ∷ [])
one_more text [] x all this = (this, tt)
one_more text (y ∷ ys) x all this = (all.0, one_more text ys x all.1 this)

-- the value of a step that did not fail
bind_ok : {A B : Type 0} (r : Result A Complaint) (f : A → Result B Complaint) (y : B) → (r >>= f) ≡ Ok y → (x : A) × (r ≡ Ok x) × (f x ≡ Ok y)
bind_ok (Ok x) f y e = (x, refl, e)
bind_ok (Err d) f y e = absurd cc

abbrev ok : {A : Type 0} → A → Result A Complaint
ok x = Ok x

ok_is : {A : Type 0} (x y : A) → ok x ≡ ok y → x ≡ y
ok_is x y e = cc

-- a line at a place of the text
pub record LiesAt (text line : List ℕ) (a : ℕ) : Type 0 where
  pub within : a + length line ≤ length text
  pub is : slice_range text a (a + length line) ≡ line

lies : (front line rest : List ℕ) → LiesAt (front ++ (line ++ rest)) line (length front)
lies front line rest = record { within = omega (arith, length-append front (line ++ rest), length-append line rest); is = rw (size, drop_at front (line ++ rest) (length front) refl) (take_at line rest (length line) refl) }
  where
    size : length front + length line - length front ≡ length line
    size = omega arith

quick_steps : (n : ℕ) (o : Option Pieces) (p : Pieces) (s t : Sketch) → quick_named n o p s ≡ Ok t → t.steps ≡ s.steps
quick_steps n None p s t e = ap (λ (x : Sketch). x.steps) (sym (ok_is _ t e))
quick_steps n (Some q) p s t e = absurd cc

slow_steps : (n : ℕ) (o : Option Pieces) (p : Pieces) (s t : Sketch) → slow_named n o p s ≡ Ok t → t.steps ≡ s.steps
slow_steps n None p s t e = ap (λ (x : Sketch). x.steps) (sym (ok_is _ t e))
slow_steps n (Some q) p s t e = absurd cc

patch_steps : (n : ℕ) (may : Bool) (x : Patch) (s t : Sketch) → cond may (Ok (with_patch x s)) (wrong_at n CellsOutOfPlace) ≡ Ok t → t.steps ≡ s.steps
patch_steps n true x s t e = ap (λ (y : Sketch). y.steps) (sym (ok_is _ t e))
patch_steps n false x s t e = absurd cc

both_steps : (n : ℕ) (q s : Option Pieces) (patches : List Patch) (steps : List Step) (p : Plan) → with_both n q s patches steps ≡ Ok p → p.steps ≡ steps
both_steps n None s patches steps p e = absurd cc
both_steps n (Some q) None patches steps p e = absurd cc
both_steps n (Some q) (Some s) patches steps p e = ap (λ (x : Plan). x.steps) (sym (ok_is _ p e))

request_stands : (n : ℕ) (text : List ℕ) (ready : Bool) (s t : Sketch) (x : Step) → EachStands text s.steps → Stands text x → cond ready (Ok (with_step x s)) (wrong_at n TooEarly) ≡ Ok t → EachStands text t.steps
request_stands n text true s t x all this e = subst (λ (y : Sketch). EachStands text y.steps) (ok_is (with_step x s) t e) (one_more text s.steps x all this)
request_stands n text false s t x all this e = absurd cc

-- What a line that lies there adds stands there.
said_stands : (n a : ℕ) (text line : List ℕ) (s t : Sketch) (o : Result (Option Saying) Wrong) → line_read line ≡ o → LiesAt text line a → EachStands text s.steps
    → said n a (a + length line) s o ≡ Ok t → EachStands text t.steps
said_stands n a text line s t (Err w) o here all e = absurd cc
said_stands n a text line s t (Ok None) o here all e = subst (λ (y : Sketch). EachStands text y.steps) (ok_is s t e) all
said_stands n a text line s t (Ok (Some (says.Quick p))) o here all e = subst (λ (y : List Step). EachStands text y) (sym (quick_steps n s.quick p s t e)) all
said_stands n a text line s t (Ok (Some (says.Slow p))) o here all e = subst (λ (y : List Step). EachStands text y) (sym (slow_steps n s.slow p s t e)) all
said_stands n a text line s t (Ok (Some (says.Cells f))) o here all e =
    subst (λ (y : List Step). EachStands text y) (sym (patch_steps n (may_fill f.who s) (record { line = n; fill = f }) s t e)) all
said_stands n a text line s t (Ok (Some (says.Request r))) o here all e =
    request_stands n text (is_ready s) s t (record { request = r; start = a; end = a + length line }) all
    (record { order = omega arith; within = here.within; says = ap line_read here.is ∙ o }) e

line_stands : (n a : ℕ) (text line : List ℕ) (s t : Sketch) → LiesAt text line a → EachStands text s.steps → after_line n a s line ≡ Ok t → EachStands text t.steps
unfolding after_line
line_stands n a text line s t here all e = said_stands n a text line s t (line_read line) refl here all e

-- The lines that are left lie behind what has been read.
lines_stand : (lines : List (List ℕ)) (n : ℕ) (front : List ℕ) (s : Sketch) (p : Plan) → EachStands (front ++ join_with_byte 10 lines) s.steps
    → lines_read n (length front) s lines ≡ Ok p → EachStands (front ++ join_with_byte 10 lines) p.steps
unfolding lines_read
lines_stand [] n front s p all e = subst (λ (y : List Step). EachStands (front ++ []) y) (sym (both_steps n s.quick s.slow s.patches s.steps p e)) all
lines_stand (line ∷ []) n front s p all e =
    let b = bind_ok (after_line n (length front) s line) (finished n) p e in
    let t = b.0 in
    let here : LiesAt (front ++ line) line (length front) = subst (λ (x : List ℕ). LiesAt (front ++ x) line (length front)) (append-nil line) (lies front line []) in
    subst (λ (y : List Step). EachStands (front ++ line) y) (sym (both_steps n t.quick t.slow t.patches t.steps p b.2)) (line_stands n (length front) (front ++ line) line s t here all b.1)
lines_stand (line ∷ next ∷ lines) n front s p all e =
    let more : List ℕ = join_with_byte 10 (next ∷ lines) in
    let text : List ℕ = front ++ (line ++ 10 ∷ more) in
    let b = bind_ok (after_line n (length front) s line) (λ t. lines_read (n + 1) (length front + length line + 1) t (next ∷ lines)) p e in
    let t = b.0 in
    let behind : List ℕ = front ++ (line ++ 10 ∷ []) in
    let same : behind ++ more ≡ text = append_assoc front (line ++ 10 ∷ []) more ∙ ap (λ (x : List ℕ). front ++ x) (append_assoc line (10 ∷ []) more) in
    let far : length front + length line + 1 ≡ length behind = omega (arith, length-append front (line ++ 10 ∷ []), length-append line (10 ∷ [])) in
    let so_far : EachStands text t.steps = line_stands n (length front) text line s t (lies front line (10 ∷ more)) all b.1 in
    let after : lines_read (n + 1) (length behind) t (next ∷ lines) ≡ Ok p = ap (λ (a : ℕ). lines_read (n + 1) a t (next ∷ lines)) (sym far) ∙ b.2 in
    subst (λ (x : List ℕ). EachStands x p.steps) same
    (lines_stand (next ∷ lines) (n + 1) behind t p (subst (λ (x : List ℕ). EachStands x t.steps) (sym same) so_far) after)

text_stands : (text : List ℕ) (p : Plan) → script_of text ≡ Ok p → EachStands text p.steps
text_stands text p e =
    subst (λ (x : List ℕ). EachStands x p.steps) (join_with_byte-slice_split 10 text) (lines_stand (lines_of text) 1 [] begun p tt e)

pub steps_stand : (text : List ℕ) (r : Result Script Unread) → Gives (λ s. plan s) r (script_of text) → IfOk r (λ s. All (Stands text) s.steps.items)
steps_stand text (Ok s) h = All-from_recursion (Stands text) s.steps.items (text_stands text (plan s) h)
steps_stand text (Err e) h = tt
