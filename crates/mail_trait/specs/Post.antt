-- What a mail folder has, and what its listing shows.
use Rattle.std.specs.Prelude.{◌≡◌, ◌≢◌, ℕ, Bool, true, false, List, map, length, min}
use Rattle.std.specs.Ordering.{nat_cmp}
use Rattle.std.specs.Cmp.Lexicographic.{slice_cmp}
use Rattle.std.specs.FinMap.{FinMap, entries, get}
use Rattle.group_fields.specs.Counts.{greatest_count}
use Rattle.mail_trait.specs.declared.listing.Entry.{Entry}
pub use Rattle.mail_trait.specs.declared.put.Put.{Put}

-- from the bytes of a name to the bytes of the file, with the names in the order of their bytes
abbrev pub Files : Type 0
Files = FinMap (slice_cmp nat_cmp) (List ℕ)

-- a file's row: its name, and how many bytes it has, as far as 64 bits count
abbrev pub row_of : List ℕ × List ℕ → Entry
row_of file = record { name = file.0; length = min (length file.1) greatest_count }

-- a row for each file, in the order of the names
abbrev pub rows_of : Files → List Entry
rows_of files = map row_of (entries files)

-- no other name has changed
abbrev pub SameElsewhere : List ℕ → Files → Files → Type 0
SameElsewhere name old new = (other : List ℕ) → other ≢ name → get new other ≡ get old other

-- one put: the name, the bytes, and whether they were put whole
abbrev pub put_of : List ℕ → List ℕ → Bool → Put
put_of name bytes is_whole = record { name = name; bytes = bytes; is_whole = is_whole }

abbrev pub whole_put : List ℕ → List ℕ → Put
whole_put name bytes = put_of name bytes true

abbrev pub failed_put : List ℕ → List ℕ → Put
failed_put name bytes = put_of name bytes false
