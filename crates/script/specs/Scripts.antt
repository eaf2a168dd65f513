-- What a whole text says, line by line, and the first thing that is wrong with it.
use Rattle.std.specs.Prelude.{◌≡◌, ℕ, ◌+◌, ◌≤◌, Bool, List, [], ◌∷◌, ◌++◌, length, map, Option, Some, None, is_some, Result, Ok, Err, slice_range, if◌then◌else◌, ◌&&◌, ◌==◌}
use Rattle.std.specs.List.{slice_split}
use Rattle.script.specs.declared.entry.Pieces.{Pieces}
use Rattle.script.specs.declared.entry.Who.{Who}
use Rattle.script.specs.declared.entry.Who.TheVariants as consoles
use Rattle.script.specs.declared.script.Patch.{Patch as Noted}
use Rattle.script.specs.Sayings.{Fill, Saying, fill}
use Rattle.script.specs.Sayings as says
use Rattle.script.specs.declared.script.Step.{Step}
use Rattle.script.specs.declared.script.Script.{Script}
use Rattle.script.specs.declared.draft.Draft.{Draft}
use Rattle.script.specs.declared.unread.Complaint.{Complaint}
use Rattle.script.specs.declared.unread.Unread.{Unread}
use Rattle.script.specs.declared.unread.Unread.TheVariants as unread
use Rattle.naming.specs.declared.wrong.Wrong.{Wrong}
use Rattle.naming.specs.declared.wrong.Wrong.TheVariants.{QuickTwice, SlowTwice, CellsOutOfPlace, TooEarly, NoQuick, NoSlow}
use Rattle.script.specs.Grammar.{line_read}

-- bytes for the memory of a part, and the number of their line
pub record Patch : Type 0 where
  pub line : ℕ
  pub fill : Fill

-- the two parts, what is in their memory, and the steps
pub record Plan : Type 0 where
  pub quick : Pieces
  pub slow : Pieces
  pub patches : List Patch
  pub steps : List Step

-- what has been read so far
pub record Sketch : Type 0 where
  pub quick : Option Pieces
  pub slow : Option Pieces
  pub patches : List Patch
  pub steps : List Step

-- A script, and the draft of one, without where they lie in memory.
abbrev pub patch : Noted → Patch
patch x = record { line = x.line; fill = fill x.cells }

abbrev pub plan : Script → Plan
plan s = record { quick = s.quick; slow = s.slow; patches = map patch s.patches.items; steps = s.steps.items }

abbrev pub view : Draft → Sketch
view d = record { quick = d.quick; slow = d.slow; patches = map patch d.patches.items; steps = d.steps.items }

-- What a function returned, seen by view, is what is defined, unless memory ran out.
abbrev pub Fails : {Y : Type 0} → Unread → Result Y Complaint → Type 0
Fails unread.Memory read = Unit {0}
Fails (unread.Complaint c) read = read ≡ Err c

abbrev pub Gives : {X Y : Type 0} → (X → Y) → Result X Unread → Result Y Complaint → Type 0
Gives view (Ok x) read = read ≡ Ok (view x)
Gives view (Err e) read = Fails e read

infixl 10 ◌>>=◌
abbrev pub ◌>>=◌ : {A B : Type 0} → Result A Complaint → (A → Result B Complaint) → Result B Complaint
(Ok x) >>= f = f x
(Err e) >>= f = Err e

abbrev pub wrong_at : {A : Type 0} → ℕ → Wrong → Result A Complaint
wrong_at n w = Err (record { line = n; what = w })

abbrev pub begun : Sketch
begun = record { quick = None; slow = None; patches = []; steps = [] }

abbrev pub with_quick : Pieces → Sketch → Sketch
with_quick p s = record s { quick = Some p }

abbrev pub with_slow : Pieces → Sketch → Sketch
with_slow p s = record s { slow = Some p }

abbrev pub with_step : Step → Sketch → Sketch
with_step x s = record s { steps = s.steps ++ x ∷ [] }

abbrev pub with_patch : Patch → Sketch → Sketch
with_patch x s = record s { patches = s.patches ++ x ∷ [] }

-- both parts are named
abbrev pub is_ready : Sketch → Bool
is_ready s = is_some s.quick && is_some s.slow

-- the part of a console is named
abbrev pub names : Who → Sketch → Bool
names consoles.Quick s = is_some s.quick
names consoles.Slow s = is_some s.slow

-- its memory may be filled: its part is named, and there is no request yet
abbrev pub may_fill : Who → Sketch → Bool
may_fill who s = names who s && length s.steps == 0

abbrev pub quick_named : ℕ → Option Pieces → Pieces → Sketch → Result Sketch Complaint
quick_named n None p s = Ok (with_quick p s)
quick_named n (Some q) p s = wrong_at n QuickTwice

abbrev pub slow_named : ℕ → Option Pieces → Pieces → Sketch → Result Sketch Complaint
slow_named n None p s = Ok (with_slow p s)
slow_named n (Some q) p s = wrong_at n SlowTwice

-- Each part is named once, and both before any request; cells come between. The line has number n, and stands from a to b.
abbrev pub entered : (n a b : ℕ) → Sketch → Saying → Result Sketch Complaint
entered n a b s (says.Quick p) = quick_named n s.quick p s
entered n a b s (says.Slow p) = slow_named n s.slow p s
entered n a b s (says.Cells f) = if may_fill f.who s then Ok (with_patch (record { line = n; fill = f }) s) else wrong_at n CellsOutOfPlace
entered n a b s (says.Request r) = if is_ready s then Ok (with_step (record { request = r; start = a; end = b }) s) else wrong_at n TooEarly

abbrev pub said : (n a b : ℕ) → Sketch → Result (Option Saying) Wrong → Result Sketch Complaint
said n a b s (Err w) = wrong_at n w
said n a b s (Ok None) = Ok s
said n a b s (Ok (Some e)) = entered n a b s e

-- One more line.
unfoldable pub after_line : (n a : ℕ) → Sketch → List ℕ → Result Sketch Complaint
after_line n a s line = said n a (a + length line) s (line_read line)

-- At the end both parts are there.
abbrev pub with_both : ℕ → Option Pieces → Option Pieces → List Patch → List Step → Result Plan Complaint
with_both n None slow patches steps = wrong_at n NoQuick
with_both n (Some q) None patches steps = wrong_at n NoSlow
with_both n (Some q) (Some s) patches steps = Ok (record { quick = q; slow = s; patches = patches; steps = steps })

abbrev pub finished : ℕ → Sketch → Result Plan Complaint
finished n s = with_both n s.quick s.slow s.patches s.steps

-- The lines from number n on, which begins at a.
unfoldable pub lines_read : (n a : ℕ) → Sketch → List (List ℕ) → Result Plan Complaint
lines_read n a s [] = finished n s
lines_read n a s (line ∷ []) = after_line n a s line >>= finished n
lines_read n a s (line ∷ next ∷ lines) = after_line n a s line >>= λ t. lines_read (n + 1) (a + length line + 1) t (next ∷ lines)

-- A text is cut at each line end, 0Ah; behind the last one there is a line as well, mostly an empty one.
abbrev pub lines_of : List ℕ → List (List ℕ)
lines_of text = slice_split (λ b. b == 10) text

abbrev pub script_of : List ℕ → Result Plan Complaint
script_of text = lines_read 1 0 begun (lines_of text)

-- The bytes from start to end of a text are a line that says this request.
pub record Stands (text : List ℕ) (x : Step) : Type 0 where
  pub order : x.start ≤ x.end
  pub within : x.end ≤ length text
  pub says : line_read (slice_range text x.start x.end) ≡ Ok (Some (says.Request x.request))
