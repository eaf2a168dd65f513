-- What an account says of the positions, call by call, and that the table of the positions says the same.
use Rattle.std.proofs.Common.{◌≡◌, ℕ, zero, suc, ◌<◌, Bool, true, false, eqb, leb, ltb, List, [], ◌∷◌, take, Some, None, Ok, Err, Option, Result, slice_get, is_ok, sym, refl, ap, ◌∙◌, subst, inl, inr, arith}
use Rattle.std.proofs.lemmas.Bool.{cases_Bool, cases_lt, cond-true, cond-false, eqb-true, eqb-false, le-leb, and_from}
use Rattle.part.specs.Calls.{longest}
use Rattle.fault.specs.declared.faults.ConsoleFault.{ConsoleFault}
use Rattle.console.specs.declared.answers.Answer.{Answer}
use Rattle.console.specs.declared.call.Call.{Call}
use Rattle.console.specs.declared.call.Call.TheVariants.{Set, Clear, Recall, Next, Wait}
use Rattle.console.specs.Desks.{Desk}
use Rattle.console.specs.Calls.{Replies}
use Rattle.rehearsal.specs.declared.line.Line.{Line}
use Rattle.rehearsal.specs.Accounts.{Accepted, LastSet, LastClear, Untouched, Emptied, Past, first_calls, Holds, as_set, cleared, as_opened, HoldsFromBlank, BlankCase}
use Rattle.console.specs.Showing.{OnlyLooks, Prompt}
use Rattle.rehearsal.specs.Promises.{Kept, Same, Alike, Proper, Accepts}
use Rattle.console.proofs.Tables.{Table, look, write, after, is_position, tells}
use Rattle.console.proofs.Telling.{shows_held, finds_nearest}
use Rattle.rehearsal.proofs.Tables.{Looked, Told, Sure, end, then}

-- 0 is not 1, which ends a clash of constructors.
no_one : ◌≡◌ {A = ℕ} 0 1 → ⊥
no_one e = omega arith

-- The last accepted write at p, in a list: none, a set, or a clear. v is what p held before the list, and w after it.
pub data Last (calls : List Call) (log : List Line) (p : ℕ) (v w : Option ℕ) : Type 0 where
  untouched : Untouched calls log p → w ≡ v → Last calls log p v w
  set_last : (s : ℕ) → LastSet calls log p s → w ≡ Some s → Last calls log p v w
  cleared_last : LastClear calls log p → w ≡ None → Last calls log p v w

-- The same of one call: yes says whether it was accepted.
data First (c : Call) (yes : Bool) (p : ℕ) (v w : Option ℕ) : Type 0 where
  leaves : ((s : ℕ) → c ≡ Set p s → yes ≡ true → ⊥) → (c ≡ Clear p → yes ≡ true → ⊥) → w ≡ v → First c yes p v w
  sets : (s : ℕ) → c ≡ Set p s → yes ≡ true → w ≡ Some s → First c yes p v w
  clears : c ≡ Clear p → yes ≡ true → w ≡ None → First c yes p v w

-- what an accepted call does to position p
first_yes : (c : Call) (p : ℕ) (v : Option ℕ) → First c true p v (write c p v)
first_yes (Set q s) p v =
    elim (cases_Bool (eqb p q)) [
      | inl t ↦ sets s (ap (λ (i : ℕ). Set i s) (sym (eqb-true p q t))) refl (cond-true (eqb p q) _ _ t)
      | inr t ↦ leaves (λ x e _. absurd (eqb-false p q t cc)) (λ e _. absurd (no_one cc)) (cond-false (eqb p q) _ _ t)
    ]
first_yes (Clear q) p v =
    elim (cases_Bool (eqb p q)) [
      | inl t ↦ clears (ap Clear (sym (eqb-true p q t))) refl (cond-true (eqb p q) _ _ t)
      | inr t ↦ leaves (λ x e _. absurd (no_one cc)) (λ e _. absurd (eqb-false p q t cc)) (cond-false (eqb p q) _ _ t)
    ]
first_yes (Recall q) p v =
    leaves (λ x e _. absurd (no_one cc)) (λ e _. absurd (no_one cc)) refl
first_yes (Next q) p v =
    leaves (λ x e _. absurd (no_one cc)) (λ e _. absurd (no_one cc)) refl
first_yes (Wait us) p v =
    leaves (λ x e _. absurd (no_one cc)) (λ e _. absurd (no_one cc)) refl

-- what a call does to position p, accepted or refused
first : (c : Call) (yes : Bool) (f : Table) (p : ℕ) → First c yes p (f p) (after c yes f p)
first c true f p = first_yes c p (f p)
first c false f p = leaves (λ s e t. absurd (no_one cc)) (λ e t. absurd (no_one cc)) refl

-- An accepted call that is the first of a list is its first call.
at_first : (c d : Call) (cs : List Call) (l : Line) (ls : List Line) → Accepted (c ∷ cs) (l ∷ ls) 0 d → (c ≡ d) × (is_ok l.reply ≡ true)
at_first c d cs l ls a =
    let w : ◌≡◌ {A = Option Line} (Some l) (Some a.line) = a.wrote in
    let x : ◌≡◌ {A = Option Call} (Some c) (Some d) = a.call in
    let e : l ≡ a.line = cc in
    (cc, ap (λ (x : Line). is_ok x.reply) e ∙ a.well)

-- A later one is the one before it of the rest.
at_rest : (c d : Call) (cs : List Call) (l : Line) (ls : List Line) (i : ℕ) → Accepted (c ∷ cs) (l ∷ ls) (suc i) d → Accepted cs ls i d
at_rest c d cs l ls i a = record { call = a.call; line = a.line; wrote = a.wrote; well = a.well }

-- And the other way.
to_first : (c d : Call) (cs : List Call) (l : Line) (ls : List Line) → c ≡ d → is_ok l.reply ≡ true → Accepted (c ∷ cs) (l ∷ ls) 0 d
to_first c d cs l ls e t = record { call = ap Some e; line = l; wrote = refl; well = t }

to_rest : (c d : Call) (cs : List Call) (l : Line) (ls : List Line) (i : ℕ) → Accepted cs ls i d → Accepted (c ∷ cs) (l ∷ ls) (suc i) d
to_rest c d cs l ls i a = record { call = a.call; line = a.line; wrote = a.wrote; well = a.well }

-- No accepted call after call i of the rest: none after call i + 1 of the list.
none_later : (c d : Call) (cs : List Call) (l : Line) (ls : List Line) (i : ℕ) → ((j : ℕ) → i < j → Accepted cs ls j d → ⊥)
    → (j : ℕ) → suc i < j → Accepted (c ∷ cs) (l ∷ ls) j d → ⊥
none_later c d cs l ls i h zero b a = absurd (omega arith)
none_later c d cs l ls i h (suc j) b a = h j (omega arith) (at_rest c d cs l ls j a)

-- None in the rest: none after the first.
none_after : (c d : Call) (cs : List Call) (l : Line) (ls : List Line) → ((j : ℕ) → Accepted cs ls j d → ⊥)
    → (j : ℕ) → 0 < j → Accepted (c ∷ cs) (l ∷ ls) j d → ⊥
none_after c d cs l ls h zero b a = absurd (omega arith)
none_after c d cs l ls h (suc j) b a = h j (at_rest c d cs l ls j a)

-- None in the rest, and the first is none: none in the list.
none_at_all : (c d : Call) (cs : List Call) (l : Line) (ls : List Line) → (c ≡ d → is_ok l.reply ≡ true → ⊥) → ((j : ℕ) → Accepted cs ls j d → ⊥)
    → (j : ℕ) → Accepted (c ∷ cs) (l ∷ ls) j d → ⊥
none_at_all c d cs l ls x h zero a = let y = at_first c d cs l ls a in x y.0 y.1
none_at_all c d cs l ls x h (suc j) a = h j (at_rest c d cs l ls j a)

-- The last write of a list, by its first call and the rest.
last_more : (c : Call) (cs : List Call) (l : Line) (ls : List Line) (p : ℕ) (v u w : Option ℕ) → First c (is_ok l.reply) p v u → Last cs ls p u w
    → Last (c ∷ cs) (l ∷ ls) p v w
last_more c cs l ls p v u w x (set_last s r e) =
    set_last s (record {
      when = suc r.when;
      was = to_rest c (Set p s) cs l ls r.when r.was;
      no_set = λ j t. none_later c (Set p t) cs l ls r.when (λ k. r.no_set k t) j;
      no_clear = none_later c (Clear p) cs l ls r.when r.no_clear;
    }) e
last_more c cs l ls p v u w x (cleared_last r e) =
    cleared_last (record {
      when = suc r.when;
      was = to_rest c (Clear p) cs l ls r.when r.was;
      no_set = λ j t. none_later c (Set p t) cs l ls r.when (λ k. r.no_set k t) j;
    }) e
last_more c cs l ls p v u w (leaves x y d) (untouched m e) =
    untouched (record {
      no_set = λ j t. none_at_all c (Set p t) cs l ls (x t) (λ k. m.no_set k t) j;
      no_clear = none_at_all c (Clear p) cs l ls y m.no_clear;
    }) (e ∙ d)
last_more c cs l ls p v u w (sets s x y d) (untouched m e) =
    set_last s (record {
      when = 0;
      was = to_first c (Set p s) cs l ls x y;
      no_set = λ j t. none_after c (Set p t) cs l ls (λ k. m.no_set k t) j;
      no_clear = none_after c (Clear p) cs l ls m.no_clear;
    }) (e ∙ d)
last_more c cs l ls p v u w (clears x y d) (untouched m e) =
    cleared_last (record {
      when = 0;
      was = to_first c (Clear p) cs l ls x y;
      no_set = λ j t. none_after c (Set p t) cs l ls (λ k. m.no_set k t) j;
    }) (e ∙ d)

-- An empty list has no accepted call.
none_of_none : (i : ℕ) (d : Call) → Accepted [] [] i d → ⊥
none_of_none i d a =
    let x : ◌≡◌ {A = Option Call} None (Some d) = a.call in
    absurd (no_one cc)

-- The last write at p, by the account of a list.
last : {n : ℕ} {f g : Table} {calls : List Call} {log : List Line} → Told n f calls log g → (p : ℕ) → Last calls log p (f p) (g p)
last (end f) p = untouched (record { no_set = λ j s. none_of_none j (Set p s); no_clear = λ j. none_of_none j (Clear p) }) refl
last {g = g} (then {f = f} {c = c} {cs = cs} {l = l} {ls = ls} x t) p =
    last_more c cs l ls p (f p) (after c (is_ok l.reply) f p) (g p) (first c (is_ok l.reply) f p) (last t p)

-- What a position holds, by the last write there.
pub holds : (past : Past) (p : ℕ) (w : Option ℕ) → Last past.calls past.lines p (past.showed p) w → Holds past p w
holds past p w (untouched m e) = as_opened m e
holds past p w (set_last s r e) = as_set s r e
holds past p w (cleared_last r e) = cleared r e

-- The same where it showed nothing before.
pub holds_from_blank : (past : Past) (p : ℕ) (w : Option ℕ) → Last past.calls past.lines p None w → HoldsFromBlank past p w
holds_from_blank past p w (untouched m e) = subst (HoldsFromBlank past p) (sym e) (λ i s a. absurd (m.no_set i s a))
holds_from_blank past p w (set_last s r e) = subst (HoldsFromBlank past p) (sym e) r
holds_from_blank past p w (cleared_last r e) = subst (HoldsFromBlank past p) (sym e) to
  where
    not_both : (j s : ℕ) → j ≡ r.when → Accepted past.calls past.lines j (Set p s) → ⊥
    not_both j s q b =
        let x : slice_get past.calls r.when ≡ Some (Clear p) = r.was.call in
        let y : slice_get past.calls r.when ≡ Some (Set p s) = subst (λ (k : ℕ). slice_get past.calls k ≡ Some (Set p s)) q b.call in
        absurd (no_one cc)

    to : Emptied past.calls past.lines p
    to j s b =
        elim (cases_lt j r.when) [
          | inl h ↦ (r.when, h, r.was)
          | inr h ↦ elim (cases_lt r.when j) [
            | inl k ↦ absurd (r.no_set j s k b)
            | inr k ↦ let q : j ≡ r.when = omega arith in absurd (not_both j s q b)
          ]
        ]

pub blank_case : BlankCase
blank_case past p v e (as_set s r i) = holds_from_blank past p v (set_last s r i)
blank_case past p v e (cleared r i) = holds_from_blank past p v (cleared_last r i)
blank_case past p v e (as_opened m i) = holds_from_blank past p v (untouched m (i ∙ e))

-- An account up to its line i, and what line i says.
record Upto (n : ℕ) (f : Table) (calls : List Call) (log : List Line) (i : ℕ) (c : Call) (l : Line) : Type 0 where
  table : Table
  told : Told n f (take i calls) (take i log) table
  looked : Looked n table c l

-- A call of a list and its line, with the account up to them.
upto : {n : ℕ} {f g : Table} {calls : List Call} {log : List Line} → Told n f calls log g
    → (i : ℕ) (c : Call) (l : Line) → slice_get calls i ≡ Some c → slice_get log i ≡ Some l → Upto n f calls log i c l
upto (end f) i c l x y = absurd (no_one cc)
upto {n = n} (then {f = f} {c = d} {l = k} a t) zero c l x y =
    let u : ◌≡◌ {A = Option Call} (Some d) (Some c) = x in
    let v : ◌≡◌ {A = Option Line} (Some k) (Some l) = y in
    let e : d ≡ c = cc in
    let h : k ≡ l = cc in
    record { table = f; told = end f; looked = subst (λ (o : Line). Looked n f c o) h (subst (λ (o : Call). Looked n f o k) e a) }
upto (then a t) (suc i) c l x y =
    let r = upto t i c l x y in
    record { table = r.table; told = then a r.told; looked = r.looked }

-- All that is promised of one console, by its table: f is the table before the list, and `showed` what the books showed.
pub kept : (Holding : Past → ℕ → Option ℕ → Type 0) (showed f : Table)
    → ((past : Past) (p : ℕ) (w : Option ℕ) → past.showed ≡ showed → Last past.calls past.lines p (f p) w → Holding past p w)
    → (past : Past) (n : ℕ) (g : Table) (e : Desk) → past.showed ≡ showed → Told n f past.calls past.lines g
    → ((c : Call) (r : Result Answer ConsoleFault) (k : Desk) → OnlyLooks c → Replies e c r k
    → (look r ≡ tells n g c) × Prompt e.part.clock k.part.clock r)
    → Kept Holding past n e
kept Holding showed f by past n g e i t h = record {
  recalls = λ p a b r k x. shows_held (Holding past) n g p a b (by past p (g p) i (last t p)) r (h (Recall p) r k tt x).0;
  nexts = λ p b r k x. finds_nearest (Holding past) n g p b (λ q _ _. by past q (g q) i (last t q)) r (h (Next p) r k tt x).0;
  recalls_inside = λ j p l x y a b.
      let u = upto t j (Recall p) l x y in
      shows_held (Holding (first_calls j past)) n u.table p a b (by (first_calls j past) p (u.table p) i (last u.told p)) l.reply (u.looked.told tt);
  nexts_inside = λ j p l x y b.
      let u = upto t j (Next p) l x y in
      finds_nearest (Holding (first_calls j past)) n u.table p b (λ q _ _. by (first_calls j past) q (u.table q) i (last u.told q)) l.reply
      (u.looked.told tt);
  prompt_inside = λ j c l x y o. (upto t j c l x y).looked.prompt o;
  prompt = λ c r k o x. (h c r k o x).1;
}

-- Two answers that are alike without their microseconds are the same.
same_by : (a b : Result Answer ConsoleFault) → look a ≡ look b → Same a b
same_by (Ok x) (Ok y) e = cc
same_by (Ok x) (Err g) e = absurd (no_one cc)
same_by (Err f) (Ok y) e = absurd (no_one cc)
same_by (Err f) (Err g) e = cc

look_ok : (r : Result Answer ConsoleFault) → is_ok (look r) ≡ is_ok r
look_ok (Ok x) = refl
look_ok (Err f) = refl

-- They are accepted or refused alike.
accepted_by : (a b : Result Answer ConsoleFault) → look a ≡ look b → is_ok a ≡ is_ok b
accepted_by a b e = sym (look_ok a) ∙ ap is_ok e ∙ look_ok b

-- Two answers to one call that equal tables tell are alike.
alike_first : (n : ℕ) (f g : Table) (c : Call) (a b : Result Answer ConsoleFault) → look a ≡ tells n f c → look b ≡ tells n g c → f ≡ g → look a ≡ look b
alike_first n f g c a b x y e = x ∙ ap (λ (h : Table). tells n h c) e ∙ sym y

-- So two accounts of one list are alike, from equal tables on: each call leaves equal tables.
alike_on : {n : ℕ} {f g : Table} {calls : List Call} {quick slow : List Line} → Sure n f calls quick → Sure n g calls slow → f ≡ g → Alike calls quick slow
alike_on (end f) t e i c x y p q r = absurd (no_one cc)
alike_on {n = n} (then {f = f} {c = d} {l = k} a s) (then {f = g} {l = m} b t) e zero c x y p q r =
    let u : ◌≡◌ {A = Option Line} (Some k) (Some x) = q in
    let v : ◌≡◌ {A = Option Line} (Some m) (Some y) = r in
    let h : k ≡ x = cc in
    let j : m ≡ y = cc in
    subst (λ (o : Line). Same o.reply y.reply) h
    (subst (λ (o : Line). Same k.reply o.reply) j (same_by k.reply m.reply (alike_first n f g d k.reply m.reply a b e)))
alike_on {n = n} (then {f = f} {c = d} {l = k} a s) (then {f = g} {l = m} b t) e (suc i) c x y p q r =
    let o = accepted_by k.reply m.reply (alike_first n f g d k.reply m.reply a b e) in
    alike_on s t (ap (λ (w : Bool). after d w f) o ∙ ap (λ (h : Table). after d (is_ok m.reply) h) e) i c x y p q r

-- Two accounts of one list that each say what one table tells are alike.
pub alike : (n : ℕ) (f : Table) (calls : List Call) (quick slow : List Line) → Sure n f calls quick → Sure n f calls slow → Alike calls quick slow
alike n f calls quick slow s t = alike_on s t refl

-- A call within the limits is told to be accepted.
module _ (n : ℕ) (f : Table) where
  told_ok : (c : Call) → Proper n c → is_ok (tells n f c) ≡ true
  told_ok (Set p s) q =
      ap is_ok (cond-true (is_position n p) _ _ (and_from _ _ (le-leb 1 p q.0) (le-leb p n q.1)) ∙ cond-true (ltb s 9223372036854775808) _ _ q.2)
  told_ok (Clear p) q = ap is_ok (cond-true (is_position n p) _ _ (and_from _ _ (le-leb 1 p q.0) (le-leb p n q.1)))
  told_ok (Recall p) q = ap is_ok (cond-true (is_position n p) _ _ (and_from _ _ (le-leb 1 p q.0) (le-leb p n q.1)))
  told_ok (Next p) q = ap is_ok (cond-true (leb p n) _ _ (le-leb p n q))
  told_ok (Wait us) q = ap is_ok (cond-true (leb us longest) _ _ (le-leb us longest q))

-- An account that says what the table tells accepts each of them.
pub accepts : {n : ℕ} {f : Table} {calls : List Call} {log : List Line} → Sure n f calls log → Accepts n calls log
accepts (end f) i c l p q r = absurd (no_one cc)
accepts {n = n} (then {f = f} {c = d} {l = k} a s) zero c l p q r =
    let u : ◌≡◌ {A = Option Call} (Some d) (Some c) = p in
    let v : ◌≡◌ {A = Option Line} (Some k) (Some l) = q in
    let h : d ≡ c = cc in
    let j : k ≡ l = cc in
    subst (λ (o : Line). is_ok o.reply ≡ true) j (sym (look_ok k.reply) ∙ ap is_ok a ∙ told_ok n f d (subst (Proper n) (sym h) r))
accepts (then a s) (suc i) c l p q r = accepts s i c l p q r
