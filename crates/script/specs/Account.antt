-- The text of an account.
use Rattle.std.specs.Prelude.{ℕ, Bool, List, [], ◌∷◌, ◌++◌, codes, ◌-◌}
use Rattle.std.specs.Fmt.{decimal}
use Rattle.words.specs.Lines.{spaced}
use Rattle.naming.specs.Complaints.{wrong_text}
use Rattle.script.specs.declared.unread.Complaint.{Complaint}
use Rattle.script.specs.declared.replies.Reply.{Reply}
use Rattle.script.specs.Answers.{text_of, verdict_text}

-- the words of a request, what both consoles answered, and whether it is the same
abbrev pub line_text : List (List ℕ) → Reply → Reply → Bool → List ℕ
line_text words quick slow same =
    spaced words ++ (codes ": " ++ (text_of quick ++ (codes " | " ++ (text_of slow ++ (codes " | " ++ (verdict_text same ++ (10 ∷ [])))))))

-- how many calls there were, how many of them were answered the same, and how many not
abbrev pub total_text : ℕ → ℕ → List ℕ
total_text calls same =
    decimal calls ++ (codes " calls, " ++ (decimal same ++ (codes " same, " ++ (decimal (calls - same) ++ (codes " different" ++ (10 ∷ []))))))

-- the number of a line, and what is wrong with it
abbrev pub complaint_text : Complaint → List ℕ
complaint_text c = codes "line " ++ (decimal c.line ++ (codes ": " ++ wrong_text c.what))
