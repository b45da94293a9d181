use Rattle.std.proofs.Common.{◌≡◌, ◌++◌}
use Rattle.mail_trait.specs.Folder.{rows_shown}
use Rattle.mail_trait.proofs.folder_list.shown_rows.Given as goal

-- the rows so far, and those of the names that are left
abbrev pub invariant-loop-name : goal.invariant-loop-name
invariant-loop-name l = l.rows.items ++ rows_shown l.name-iterator ≡ rows_shown l.fn.names.entries
