-- The words in which what a pass found is told.
use Rattle.std.specs.Prelude.{ℕ, List, codes}
use Rattle.part.specs.declared.answers.Progress.{Progress}
use Rattle.part.specs.declared.answers.Progress.TheVariants.{Idle, Running, Suspended, Finished, Worn}

abbrev pub progress_text : Progress → List ℕ
progress_text Idle = codes "no erasure"
progress_text Running = codes "still running"
progress_text Suspended = codes "suspended"
progress_text Finished = codes "finished"
progress_text Worn = codes "ended in a worn block"
