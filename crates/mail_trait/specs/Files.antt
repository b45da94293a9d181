-- The files of a folder in memory, as a finite map.
use Rattle.std.specs.Prelude.{ℕ, List, String, Vec, map, string_bytes}
use Rattle.std.specs.BTreeMap.{BTreeMap}
use Rattle.std.specs.FinMap.{from_entries}
use Rattle.mail_trait.specs.Post.{Files}

-- the bytes of the name and of the file
abbrev pub named : {Y Z : Type 0} → String Y × Vec ℕ Z → List ℕ × List ℕ
named file = (string_bytes file.0, file.1.items)

abbrev pub files_of : {Y Z : Type 0} → BTreeMap (String Y) (Vec ℕ Z) → Files
files_of files = from_entries (map named files.entries)
