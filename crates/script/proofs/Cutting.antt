-- A text is cut into lines, and read line by line.
use Rattle.std.proofs.Common.{◌≡◌, ℕ, suc, ◌+◌, ◌-◌, ◌<◌, ◌≤◌, Bool, true, false, eqb, List, [], ◌∷◌, ◌++◌, length, get_or, take, drop, Result, Ok, Err, refl, sym, ap, ◌∙◌, add-zero, arith}
use Rattle.std.specs.List.{onto_first}
use Rattle.std.proofs.lemmas.Bool.{eq-eqb}
use Rattle.std.proofs.lemmas.List.{take-append-drop, append-nil, length-drop, get_or-drop}
use Rattle.std.proofs.lemmas.List.Splits.{slice_split_none, slice_split_at, slice_split-cons_yes, slice_split-cons_no}
use Rattle.words.proofs.Cutting.{below}
use Rattle.script.specs.declared.unread.Complaint.{Complaint}
use Rattle.script.specs.declared.unread.Unread.{Unread}
use Rattle.script.specs.declared.unread.Unread.TheVariants as unread
use Rattle.script.specs.Scripts.{Plan, Sketch, Fails, ◌>>=◌, after_line, finished, lines_read, lines_of}

-- the last line has no line end
pub last_line : (rest : List ℕ) (n : ℕ) → n ≤ length rest → ((k : ℕ) → k < n → get_or rest k 0 ≡ 10 → ⊥) → drop n rest ≡ [] → lines_of rest ≡ take n rest ∷ []
last_line rest n within before none =
    let whole : take n rest ++ [] ≡ rest = ap (λ (x : List ℕ). take n rest ++ x) (sym none) ∙ take-append-drop n rest in
    let same : take n rest ≡ rest = sym (append-nil (take n rest)) ∙ whole in
    ap lines_of (sym same) ∙ slice_split_none (λ b. eqb b 10) (take n rest) (below 10 rest n within before)

-- a line that has one
pub next_line : (rest more : List ℕ) (n y : ℕ) → n ≤ length rest → ((k : ℕ) → k < n → get_or rest k 0 ≡ 10 → ⊥) → (n < length rest → get_or rest n 0 ≡ 10) → drop n rest ≡ y ∷ more
    → lines_of rest ≡ take n rest ∷ lines_of more
next_line rest more n y within before there is =
    let at : get_or rest n 0 ≡ y = ap (λ (k : ℕ). get_or rest k 0) (sym (add-zero n)) ∙ sym (get_or-drop n rest 0 0) ∙ ap (λ (x : List ℕ). get_or x 0 0) is in
    let long : length rest - n ≡ suc (length more) = sym (length-drop n rest) ∙ ap length is in
    let end : y ≡ 10 = sym at ∙ there (omega arith) in
    ap lines_of (sym (take-append-drop n rest) ∙ ap (λ (x : List ℕ). take n rest ++ x) is)
    ∙ slice_split_at (λ b. eqb b 10) (take n rest) y more (below 10 rest n within before) (eq-eqb y 10 end)

-- there is always a line
a_line : (text : List ℕ) → (line : List ℕ) × (lines : List (List ℕ)) × (lines_of text ≡ line ∷ lines)
a_line [] = ([], [], refl)
a_line (x ∷ xs) = by (a_line xs) (eqb x 10) refl
  where
    by : (line : List ℕ) × (lines : List (List ℕ)) × (lines_of xs ≡ line ∷ lines) → (b : Bool) → eqb x 10 ≡ b → (line : List ℕ) × (lines : List (List ℕ)) × (lines_of (x ∷ xs) ≡ line ∷ lines)
    by more true e = ([], lines_of xs, slice_split-cons_yes (λ b. eqb b 10) x xs e)
    by more false e = (x ∷ more.0, more.1, slice_split-cons_no (λ b. eqb b 10) x xs e ∙ ap (onto_first x) more.2)

-- the line is the first, whether or not it has a line end
pub some_line : (rest after : List ℕ) (n : ℕ) → n ≤ length rest → ((k : ℕ) → k < n → get_or rest k 0 ≡ 10 → ⊥) → (n < length rest → get_or rest n 0 ≡ 10) → drop n rest ≡ after
    → (lines : List (List ℕ)) × (lines_of rest ≡ take n rest ∷ lines)
some_line rest [] n within before there is = ([], last_line rest n within before is)
some_line rest (y ∷ more) n within before there is = (lines_of more, next_line rest more n y within before there is)

-- the first line, and then the others
pub first_of : (n a : ℕ) (s : Sketch) (line more : List ℕ) → lines_read n a s (line ∷ lines_of more) ≡ (after_line n a s line >>= λ t. lines_read (n + 1) (a + length line + 1) t (lines_of more))
unfolding lines_read
first_of n a s line more =
    let m = a_line more in
    rw (m.2) refl

-- one more line was taken
pub goes_on : (n a : ℕ) (s t : Sketch) (rest more line : List ℕ) (total : Result Plan Complaint) → lines_of rest ≡ line ∷ lines_of more → after_line n a s line ≡ Ok t
    → lines_read n a s (lines_of rest) ≡ total → lines_read (n + 1) (a + length line + 1) t (lines_of more) ≡ total
goes_on n a s t rest more line total cut took so_far =
    let one : lines_read n a s (lines_of rest) ≡ lines_read (n + 1) (a + length line + 1) t (lines_of more) = ap (lines_read n a s) cut ∙ first_of n a s line more ∙ rw took refl in
    sym one ∙ so_far

-- a line was refused
pub fails : (e : Unread) (n a : ℕ) (s : Sketch) (rest line : List ℕ) (lines : List (List ℕ)) (total : Result Plan Complaint) → lines_of rest ≡ line ∷ lines → Fails e (after_line n a s line)
    → lines_read n a s (lines_of rest) ≡ total → Fails e total
unfolding lines_read
fails unread.Memory n a s rest line lines total cut refused so_far = tt
fails (unread.Complaint c) n a s rest line [] total cut refused so_far =
    let one : lines_read n a s (line ∷ []) ≡ Err c = rw refused refl in
    sym so_far ∙ ap (lines_read n a s) cut ∙ one
fails (unread.Complaint c) n a s rest line (next ∷ lines) total cut refused so_far =
    let one : lines_read n a s (line ∷ next ∷ lines) ≡ Err c = rw refused refl in
    sym so_far ∙ ap (lines_read n a s) cut ∙ one

-- the last line was taken
pub is_done : (n a : ℕ) (s t : Sketch) (rest line : List ℕ) (total : Result Plan Complaint) → lines_of rest ≡ line ∷ [] → after_line n a s line ≡ Ok t
    → lines_read n a s (lines_of rest) ≡ total → finished n t ≡ total
unfolding lines_read
is_done n a s t rest line total cut took so_far =
    let one : lines_read n a s (line ∷ []) ≡ finished n t = rw took refl in
    sym one ∙ sym (ap (lines_read n a s) cut) ∙ so_far
