-- An account grows by a line with each call.
use Rattle.std.proofs.Common.{◌≡◌, ℕ, ◌+◌, ◌<◌, List, [], ◌∷◌, ◌++◌, length, set, take, get_or, refl, sym, ap, ◌∙◌, subst}
use Rattle.std.proofs.lemmas.List.{map-set, get_or-map, length-map, take_more, take_more_set}
use Rattle.std.proofs.Math.Seq.{map-set_same}
use Rattle.console.specs.declared.call.Call.{Call}
use Rattle.console.specs.Desks.{Desk}
use Rattle.rehearsal.specs.declared.line.Line.{Line}
use Rattle.rehearsal.specs.declared.line.Act.TheVariants as acts
use Rattle.rehearsal.specs.declared.row.Row.{Row}
use Rattle.rehearsal.specs.declared.row.Side.{Side}
use Rattle.rehearsal.specs.declared.row.Side.TheVariants.{Quick, Slow}
use Rattle.rehearsal.specs.Rows.{calls_of, line_of, lines_of, other, noted}
use Rattle.rehearsal.specs.Accounts.{Plays, Played, none, more}

-- No call was made, and there is no line.
pub played_none : (d : Desk) (ls : List Line) → ls ≡ [] → Played d [] ls d
played_none d ls e = subst (λ (x : List Line). Played d [] x d) (sym e) (none d)

-- One call more, at the end of the list.
pub played_more : {d k e : Desk} {c : Call} {cs : List Call} {l : Line} {ls : List Line} → Played d cs ls k → Plays k (acts.Call c) l e
    → Played d (cs ++ c ∷ []) (ls ++ l ∷ []) e
played_more (none d) q = more q (none _)
played_more (more p ps) q = more p (played_more ps q)

-- The same, where the calls and the lines are said to be those and one more.
pub played_next : {d k e : Desk} {c : Call} {cs calls : List Call} {l : Line} {ls log : List Line} → calls ≡ cs ++ c ∷ []
    → log ≡ ls ++ l ∷ [] → Played d cs ls k → Plays k (acts.Call c) l e → Played d calls log e
played_next {d} {e = e} {calls = calls} {l = l} {ls = ls} x y ps p =
    subst (λ (log : List Line). Played d calls log e) (sym y)
    (subst (λ (calls : List Call). Played d calls (ls ++ l ∷ []) e) (sym x) (played_more ps p))

-- The line of one console is written into row i.
module _ (side : Side) (rows : List Row) (i : ℕ) (d : Row) (line : Line) where
  abbrev written : List Row
  written = set rows i (noted side line (get_or rows i d))

  -- The calls stay, and so do the other console's lines.
  same_call : (s : Side) (row : Row) → (noted s line row).call ≡ row.call
  same_call Quick row = refl
  same_call Slow row = refl

  same_beside : (s : Side) (row : Row) → line_of (other s) (noted s line row) ≡ line_of (other s) row
  same_beside Quick row = refl
  same_beside Slow row = refl

  its_line : (s : Side) (row : Row) → line_of s (noted s line row) ≡ line
  its_line Quick row = refl
  its_line Slow row = refl

  pub calls_stay : calls_of written ≡ calls_of rows
  calls_stay = map-set_same (λ (row : Row). row.call) rows i _ d (same_call side (get_or rows i d))

  pub beside_stays : lines_of (other side) written ≡ lines_of (other side) rows
  beside_stays = map-set_same (line_of (other side)) rows i _ d (same_beside side (get_or rows i d))

  -- One call more, and one line more.
  pub one_call_more : i < length rows → take (i + 1) (calls_of rows) ≡ take i (calls_of rows) ++ (get_or rows i d).call ∷ []
  one_call_more h =
      let k : i < length (calls_of rows) = subst (λ (n : ℕ). i < n) (sym (length-map rows (λ (row : Row). row.call))) h in
      take_more (calls_of rows) i d.call k
      ∙ ap (λ (c : Call). take i (calls_of rows) ++ c ∷ []) (get_or-map (λ (row : Row). row.call) rows i d d.call h)

  pub one_line_more : i < length rows → take (i + 1) (lines_of side written) ≡ take i (lines_of side rows) ++ line ∷ []
  one_line_more h =
      let k : i < length (lines_of side rows) = subst (λ (n : ℕ). i < n) (sym (length-map rows (line_of side))) h in
      ap (take (i + 1)) (map-set (line_of side) rows i (noted side line (get_or rows i d)))
      ∙ take_more_set (lines_of side rows) i (line_of side (noted side line (get_or rows i d))) k
      ∙ ap (λ (l : Line). take i (lines_of side rows) ++ l ∷ []) (its_line side (get_or rows i d))

-- So a turn of the loop: v is row i with its line.
pub record Turn (side : Side) (init rows : List Row) (i : ℕ) (v : Row) (start e : Desk) : Type 0 where
  pub played : Played start (take (i + 1) (calls_of init)) (take (i + 1) (lines_of side (set rows i v))) e
  pub calls : calls_of (set rows i v) ≡ calls_of init
  pub beside : lines_of (other side) (set rows i v) ≡ lines_of (other side) init

pub turn : (side : Side) (init rows : List Row) (i : ℕ) (d : Row) (line : Line) (v : Row) (start k e : Desk) → v ≡ noted side line (get_or rows i d)
    → i < length rows → Played start (take i (calls_of init)) (take i (lines_of side rows)) k → calls_of rows ≡ calls_of init
    → lines_of (other side) rows ≡ lines_of (other side) init → Plays k (acts.Call (get_or rows i d).call) line e → Turn side init rows i v start e
turn side init rows i d line v start k e w h p c b x =
    subst (λ (u : Row). Turn side init rows i u start e) (sym w) (record {
      played = played_next {d = start} {e = e}
          (ap (take (i + 1)) (sym c) ∙ one_call_more side rows i d line h ∙ ap (λ (cs : List Call). take i cs ++ (get_or rows i d).call ∷ []) c)
          (one_line_more side rows i d line h) p x;
      calls = calls_stay side rows i d line ∙ c;
      beside = beside_stays side rows i d line ∙ b;
    })
