-- What an account says, by a table of the positions alone.
use Rattle.std.proofs.Common.{◌≡◌, ℕ, List, [], ◌∷◌}
use Rattle.std.specs.Prelude.{is_ok}
use Rattle.console.specs.declared.call.Call.{Call}
use Rattle.console.specs.Showing.{OnlyLooks, Prompt}
use Rattle.rehearsal.specs.declared.line.Line.{Line}
use Rattle.console.proofs.Tables.{Table, look, after, tells}

-- what one line of an account says of recall and next
pub record Looked (n : ℕ) (f : Table) (c : Call) (l : Line) : Type 0 where
  pub told : OnlyLooks c → look l.reply ≡ tells n f c
  pub prompt : OnlyLooks c → Prompt l.before l.after l.reply

-- The account of a list says so of each of its calls; f is the table before the list, and g after it.
pub data Told (n : ℕ) : Table → List Call → List Line → Table → Type 0 where
  end : (f : Table) → Told n f [] [] f
  then : {f g : Table} {c : Call} {cs : List Call} {l : Line} {ls : List Line} → Looked n f c l → Told n (after c (is_ok l.reply) f) cs ls g
      → Told n f (c ∷ cs) (l ∷ ls) g

-- Each answer of an account is what the table tells.
pub data Sure (n : ℕ) : Table → List Call → List Line → Type 0 where
  end : (f : Table) → Sure n f [] []
  then : {f : Table} {c : Call} {cs : List Call} {l : Line} {ls : List Line} → look l.reply ≡ tells n f c → Sure n (after c (is_ok l.reply) f) cs ls
      → Sure n f (c ∷ cs) (l ∷ ls)
