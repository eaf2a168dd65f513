-- A script that is written line by line is read as that script.
use Rattle.std.proofs.Common.{◌≡◌, ℕ, ◌+◌, true, not, eqb, List, [], ◌∷◌, ◌++◌, length, map, Some, None, Ok, refl, sym, ap, ◌∙◌, append_assoc, arith}
use Rattle.std.specs.List.{AllByRecursion, list_all}
use Rattle.std.proofs.lemmas.Bool.{and_parts, not_from_false, ne_eqb}
use Rattle.std.proofs.lemmas.List.{append-nil, map_push}
use Rattle.std.proofs.lemmas.List.Concat.{flat_map-cons}
use Rattle.std.proofs.lemmas.List.Splits.{slice_split_at}
use Rattle.words.specs.Lines.{is_empty, spaced}
use Rattle.words.proofs.Cutting.{without}
use Rattle.script.specs.declared.entry.Pieces.{Pieces}
use Rattle.script.specs.declared.entry.Request.{Request}
use Rattle.script.specs.declared.entry.Who.{Who}
use Rattle.script.specs.declared.entry.Who.TheVariants as consoles
use Rattle.script.specs.declared.script.Patch.{Patch as Noted}
use Rattle.script.specs.Sayings.{Fill, Saying}
use Rattle.script.specs.Sayings as says
use Rattle.script.specs.declared.script.Step.{Step}
use Rattle.script.specs.Grammar.{words_read, line_read}
use Rattle.script.specs.Scripts.{Patch, Plan, Sketch, ◌>>=◌, patch, begun, entered, said, after_line, finished, lines_read, lines_of}
use Rattle.script.specs.Laws.{written, Proper, script_entries, script_text, ScriptsAgain}
use Rattle.script.proofs.Plain.{is_plain, plain_byte, plain_parts, weaker, spaced_all}
use Rattle.script.proofs.Again.{entries_again, written_plain}

-- a line for each entry, and the empty one behind the last line end
abbrev lines_for : List Saying → List (List ℕ)
lines_for [] = [] ∷ []
lines_for (e ∷ es) = spaced (written e) ∷ lines_for es

no_end : (b : ℕ) → plain_byte b ≡ true → not (eqb b 10) ≡ true
no_end b h = not_from_false (eqb b 10) (ne_eqb b 10 (λ e. absurd (omega (arith, (plain_parts b h).0))))

-- no line end in the words of an entry
one_line : (e : Saying) → Proper e → list_all (λ b. not (eqb b 10)) (spaced (written e)) ≡ true
one_line e h =
    spaced_all (λ b. not (eqb b 10)) refl (written e)
    (weaker is_plain (list_all (λ b. not (eqb b 10))) (λ w g. weaker plain_byte (λ b. not (eqb b 10)) no_end w (and_parts (not (is_empty w)) (list_all plain_byte w) g).1) (written e) (written_plain e h))

cut_again : (es : List Saying) → AllByRecursion Proper es → lines_of (script_text es) ≡ lines_for es
cut_again [] h = refl
cut_again (e ∷ es) h =
    let line : List ℕ = spaced (written e) in
    let text : script_text (e ∷ es) ≡ line ++ 10 ∷ script_text es = flat_map-cons (λ (x : Saying). spaced (written x) ++ 10 ∷ []) e es ∙ append_assoc line (10 ∷ []) (script_text es) in
    ap lines_of text ∙ slice_split_at (λ b. eqb b 10) line 10 (script_text es) (without 10 line (one_line e h.0)) refl ∙ ap (λ (ls : List (List ℕ)). line ∷ ls) (cut_again es h.1)

-- the first line, and then the others
first_for : (es : List Saying) (n a : ℕ) (s : Sketch) (line : List ℕ) → lines_read n a s (line ∷ lines_for es) ≡ (after_line n a s line >>= λ t. lines_read (n + 1) (a + length line + 1) t (lines_for es))
unfolding lines_read
first_for [] n a s line = refl
first_for (e ∷ es) n a s line = refl

-- an entry is taken for what it is
after_entry : (e : Saying) (n a : ℕ) (s : Sketch) → Proper e → after_line n a s (spaced (written e)) ≡ entered n a (a + length (spaced (written e))) s e
unfolding after_line
after_entry e n a s h = ap (said n a (a + length (spaced (written e))) s) (entries_again e h)

-- one entry is read, and then the others
entry_for : (e : Saying) (es : List Saying) (n a : ℕ) (s t : Sketch) → Proper e → entered n a (a + length (spaced (written e))) s e ≡ Ok t
    → lines_read n a s (lines_for (e ∷ es)) ≡ lines_read (n + 1) (a + length (spaced (written e)) + 1) t (lines_for es)
entry_for e es n a s t h took = first_for es n a s (spaced (written e)) ∙ rw (after_entry e n a s h, took) refl

nothing : line_read [] ≡ Ok None
unfolding line_read words_read
nothing = refl

-- the empty line at the end
end_for : (n a : ℕ) (s : Sketch) → lines_read n a s ([] ∷ []) ≡ finished n s
unfolding lines_read after_line
end_for n a s = rw nothing refl

abbrev request_of : Step → Request
request_of x = x.request

abbrev fill_of : Patch → Fill
fill_of x = x.fill

abbrev ready : Pieces → Pieces → List Patch → List Step → Sketch
ready q w patches steps = record { quick = Some q; slow = Some w; patches = patches; steps = steps }

-- one more among the cells of a script
pub one_patch_more : (xs : List Noted) (x : Noted) → map patch (xs ++ x ∷ []) ≡ map patch xs ++ patch x ∷ []
one_patch_more xs x = map_push patch xs x

-- what cells and requests make of a draft with both parts
abbrev Reads : Pieces → Pieces → List Patch → List Step → List Fill → List Request → (n a : ℕ) → List Saying → Type 0
Reads q w patches steps fs rs n a es =
    (p : Plan) × (lines_read n a (ready q w patches steps) (lines_for es) ≡ Ok p) × (p.quick ≡ q) × (p.slow ≡ w)
    × (map fill_of p.patches ≡ map fill_of patches ++ fs) × (map request_of p.steps ≡ map request_of steps ++ rs)

requests_read : (q w : Pieces) (patches : List Patch) (rs : List Request) (steps : List Step) (n a : ℕ) → AllByRecursion Proper (map (λ r. says.Request r) rs)
    → Reads q w patches steps [] rs n a (map (λ r. says.Request r) rs)
requests_read q w patches [] steps n a h =
    (record { quick = q; slow = w; patches = patches; steps = steps }, end_for n a (ready q w patches steps), refl, refl, sym (append-nil (map fill_of patches)), sym (append-nil (map request_of steps)))
requests_read q w patches (r ∷ rs) steps n a h =
    let e : Saying = says.Request r in
    let b : ℕ = a + length (spaced (written e)) in
    let x : Step = record { request = r; start = a; end = b } in
    let more = requests_read q w patches rs (steps ++ x ∷ []) (n + 1) (b + 1) h.1 in
    let one = entry_for e (map (λ r. says.Request r) rs) n a (ready q w patches steps) (ready q w patches (steps ++ x ∷ [])) h.0 refl in
    let longer : map request_of (steps ++ x ∷ []) ++ rs ≡ map request_of steps ++ r ∷ rs =
    ap (λ (ys : List Request). ys ++ rs) (map_push request_of steps x) ∙ append_assoc (map request_of steps) (r ∷ []) rs
    in
    (more.0, one ∙ more.1, more.2, more.3, more.4, more.5 ∙ longer)

filled : (n a b : ℕ) (q w : Pieces) (patches : List Patch) (f : Fill) → entered n a b (ready q w patches []) (says.Cells f) ≡ Ok (ready q w (patches ++ record { line = n; fill = f } ∷ []) [])
filled n a b q w patches f = by f.who refl
  where
    by : (who : Who) → f.who ≡ who → entered n a b (ready q w patches []) (says.Cells f) ≡ Ok (ready q w (patches ++ record { line = n; fill = f } ∷ []) [])
    by consoles.Quick e = rw e refl
    by consoles.Slow e = rw e refl

fills_read : (q w : Pieces) (fs : List Fill) (rs : List Request) (patches : List Patch) (n a : ℕ)
    → AllByRecursion Proper (map (λ f. says.Cells f) fs ++ map (λ r. says.Request r) rs)
    → Reads q w patches [] fs rs n a (map (λ f. says.Cells f) fs ++ map (λ r. says.Request r) rs)
fills_read q w [] rs patches n a h = requests_read q w patches rs [] n a h
fills_read q w (f ∷ fs) rs patches n a h =
    let e : Saying = says.Cells f in
    let b : ℕ = a + length (spaced (written e)) in
    let x : Patch = record { line = n; fill = f } in
    let more = fills_read q w fs rs (patches ++ x ∷ []) (n + 1) (b + 1) h.1 in
    let one = entry_for e (map (λ f. says.Cells f) fs ++ map (λ r. says.Request r) rs) n a (ready q w patches []) (ready q w (patches ++ x ∷ []) []) h.0 (filled n a b q w patches f) in
    let longer : map fill_of (patches ++ x ∷ []) ++ fs ≡ map fill_of patches ++ f ∷ fs =
    ap (λ (ys : List Fill). ys ++ fs) (map_push fill_of patches x) ∙ append_assoc (map fill_of patches) (f ∷ []) fs
    in
    (more.0, one ∙ more.1, more.2, more.3, more.4 ∙ longer, more.5)

pub scripts_again : ScriptsAgain
scripts_again quick slow fills requests h =
    let named : Sketch = record { quick = Some quick; slow = None; patches = []; steps = [] } in
    let behind = length (spaced (written (says.Quick quick))) in
    let later = length (spaced (written (says.Slow slow))) in
    let rest : List Saying = map (λ f. says.Cells f) fills ++ map (λ r. says.Request r) requests in
    let a = entry_for (says.Quick quick) (says.Slow slow ∷ rest) 1 0 begun named h.0 refl in
    let b = entry_for (says.Slow slow) rest (1 + 1) (0 + behind + 1) named (ready quick slow [] []) h.1.0 refl in
    let more = fills_read quick slow fills requests [] (1 + 1 + 1) (0 + behind + 1 + later + 1) h.1.1 in (
      more.0,
      ap (lines_read 1 0 begun) (cut_again (script_entries quick slow fills requests) h) ∙ a ∙ b ∙ more.1,
      record { quick_is = more.2; slow_is = more.3; fills_are = more.4; requests_are = more.5 },
    )
