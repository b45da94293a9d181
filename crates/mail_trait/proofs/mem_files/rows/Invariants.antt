use Rattle.std.proofs.Common.{◌≡◌, ◌++◌, map}
use Rattle.mail_trait.specs.Files.{named}
use Rattle.mail_trait.specs.Post.{row_of}
use Rattle.mail_trait.proofs.mem_files.rows.Given as goal

-- the rows so far, and those of the files that are left
abbrev pub invariant-loop-name : goal.invariant-loop-name
invariant-loop-name l = l.rows.items ++ map row_of (map named l.name-iterator) ≡ map row_of (map named l.files.entries)
