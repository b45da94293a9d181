use Rattle.std.proofs.Common.{take}
use Rattle.system_calls.specs.Rows.{RowsSoFar}
use Rattle.system_calls.proofs.listing.list_folder.Given as goal

abbrev pub invariant-loop-change : goal.invariant-loop-change
invariant-loop-change l = RowsSoFar l.changes (take l.change-index l.changes) l.folder l.rows
