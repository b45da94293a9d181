-- The listing of a folder in memory, as far as it has come.
use Rattle.std.specs.Prelude.{◌≡◌, ◌⊎◌, ℕ, Bool, false, Option, Some, None, List, bytes_eq, String, IsTrue, IsSome}
use Rattle.std.specs.Option.{option_map}
use Rattle.std.specs.List.{list_any}
use Rattle.std.specs.BTreeMap.{BTreeMap, get_by_text}
use Rattle.system_calls.specs.Stored.{is_name, path_in, entry_of}
use Rattle.system_calls.specs.MemFiles.{all_changed, filled_by}
use Rattle.system_calls.specs.declared.stored.FolderEntry.{FolderEntry}
use Rattle.system_calls.specs.declared.changes.Change.{Change}

-- the row of a name
abbrev pub row_at : List Change → List ℕ → List ℕ → Option FolderEntry
row_at changes folder name = option_map entry_of (all_changed (path_in folder name) None changes)

abbrev pub is_path : List ℕ → Option (List ℕ) → Bool
is_path path None = false
is_path path (Some other) = bytes_eq other path

-- whether one of the changes puts something under the path
abbrev pub is_filled : List ℕ → List Change → Bool
is_filled path changes = list_any (λ change. is_path path (filled_by change)) changes

-- Of a name whose path this is there is the row that it has, where it has one. The others keep theirs.
pub record Enters {Y : Type 0} (changes : List Change) (folder path : List ℕ)
    (old new : BTreeMap (String Y) FolderEntry) : Type 0 where
  pub here : (name : List ℕ) → IsTrue (is_name name) → path ≡ path_in folder name
      → IsSome (row_at changes folder name) → get_by_text new name ≡ row_at changes folder name
  pub elsewhere : (name : List ℕ) → (get_by_text new name ≡ get_by_text old name)
      ⊎ (IsTrue (is_name name) × (get_by_text new name ≡ row_at changes folder name))

-- The rows are those of names that the first of the changes put something under.
pub record RowsSoFar {Y : Type 0} (changes first : List Change) (folder : List ℕ)
    (rows : BTreeMap (String Y) FolderEntry) : Type 0 where
  pub sound : (name : List ℕ) → (get_by_text rows name ≡ None)
      ⊎ (IsTrue (is_name name) × (get_by_text rows name ≡ row_at changes folder name))
  pub whole : (name : List ℕ) → IsTrue (is_name name) → IsTrue (is_filled (path_in folder name) first)
      → get_by_text rows name ≡ row_at changes folder name
