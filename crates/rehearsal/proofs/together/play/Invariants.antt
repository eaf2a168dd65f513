use Rattle.std.proofs.Common.{◌≡◌, take}
use Rattle.rehearsal.specs.Rows.{calls_of, lines_of, other}
use Rattle.rehearsal.specs.Accounts.{Played}
use Rattle.rehearsal.proofs.together.play.Given as goal

abbrev pub invariant-loop-row : goal.invariant-loop-row
invariant-loop-row g l = record {
  played : Played l.initial.console (take l.row-index (calls_of l.initial.rows)) (take l.row-index (lines_of l.side l.rows)) l.console;
  calls : calls_of l.rows ≡ calls_of l.initial.rows;
  beside : lines_of (other l.side) l.rows ≡ lines_of (other l.side) l.initial.rows;
}
