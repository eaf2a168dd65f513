-- Time on a part that is not busy itself, while another is.
use Rattle.std.specs.Prelude.{ℕ, ◌+◌, ◌-◌, ◌%◌}
use Rattle.part.specs.declared.answers.Progress.{Progress}
use Rattle.part.specs.declared.answers.Progress.TheVariants.{Idle, Running, Suspended, Finished, Worn}

-- the microseconds from one reading of a clock to the next, modulo 4,294,967,296
abbrev pub elapsed : ℕ → ℕ → ℕ
elapsed before after = (after + 4294967296 - before) % 4294967296

-- what two passes in a row found, as one: an end that the first found, and otherwise what the second found
abbrev pub found_then : Progress → Progress → Progress
found_then Idle later = later
found_then Running later = later
found_then Suspended later = later
found_then Finished later = Finished
found_then Worn later = Worn
