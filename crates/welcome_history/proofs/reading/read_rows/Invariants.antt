use Rattle.std.proofs.Common.{◌≡◌, map, take, drop}
use Rattle.welcome_history.specs.Welcomes.{row_of}
use Rattle.welcome_history.proofs.reading.read_rows.Given as goal

-- the rows so far, and those that are left
abbrev pub invariant-loop-index : goal.invariant-loop-index
invariant-loop-index l = record {
  history : l.history ≡ map (row_of l.welcome.cards) (take l.index l.welcome.rows);
  rows : l.rows ≡ drop l.index l.welcome.rows;
}
