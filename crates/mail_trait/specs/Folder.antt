-- What the calls on a real mail folder leave of its files.
use Rattle.std.specs.Prelude.{◌≡◌, ◌≢◌, ◌⊎◌, ◌∷◌, ◌++◌, ◌&&◌, ℕ, Bool, true, false, not, nat_eq, bytes_eq}
use Rattle.std.specs.Prelude.{List, [], Option, Some, None, String, string_bytes, map, take, length}
use Rattle.std.specs.Prelude.{IsTrue, IsSomeAnd, MatchOption, if◌then◌else◌}
use Rattle.std.specs.Option.{option_and_then}
use Rattle.std.specs.Ordering.{nat_cmp}
use Rattle.std.specs.Cmp.Lexicographic.{slice_cmp}
use Rattle.std.specs.List.{starts_with}
use Rattle.std.specs.List.Sorted.{IsStrictlySortedBy}
use Rattle.system_calls.specs.Stored.{Paths, MayName, is_name, path_in}
use Rattle.system_calls.specs.declared.stored.StoredFile.{StoredFile}
use Rattle.system_calls.specs.declared.stored.FolderEntry.{FolderEntry}
use Rattle.mail_trait.specs.FileName.{temporary}
use Rattle.mail_trait.specs.declared.listing.Entry.{Entry}

-- a path under which a put writes before it renames
abbrev pub IsTemporary : List ℕ → List ℕ → Type 0
IsTemporary folder path = (rest : List ℕ) × (path ≡ path_in folder (temporary ++ rest))

-- a file for others too, whose bytes and whose name would survive a loss of power
abbrev pub lasting : List ℕ → StoredFile
lasting bytes = record { bytes = bytes; is_synced = true; is_named = true; is_plain = true; is_private = false }

-- each other path has what it had, but for temporary ones, and its name may survive where it would not have
abbrev pub KeepsOthers : List ℕ → List ℕ → Paths → Paths → Type 0
KeepsOthers folder path old new =
    (other : List ℕ) → other ≢ path → (IsTemporary folder other → ⊥) → MayName (old other) (new other)

-- the path has what it had, or all of the bytes
abbrev pub KeepsOrHas : List ℕ → List ℕ → Paths → Paths → Type 0
KeepsOrHas path bytes old new = (new path ≡ old path) ⊎ IsSomeAnd (new path) (λ file. file.bytes ≡ bytes)

-- the first bytes of the plain file that is there, or nothing where nothing is
abbrev pub Finds : ℕ → Option StoredFile → Option (List ℕ) → Type 0
Finds limit stored found = MatchOption found (stored ≡ None)
    (λ bytes. IsSomeAnd stored (λ file. IsTrue file.is_plain × (bytes ≡ take limit file.bytes)))

-- the length that the rows show for a name, if they do
abbrev pub length_in : List Entry → List ℕ → Option ℕ
length_in [] name = None
length_in (row ∷ rows) name = if bytes_eq name row.name then Some row.length else length_in rows name

-- how long a plain file is
abbrev pub plain_length : StoredFile → Option ℕ
plain_length file = if file.is_plain then Some (length file.bytes) else None

-- whether a listing may show the name
abbrev pub is_shown : List ℕ → Bool
is_shown name = is_name name && not (starts_with nat_eq name temporary)

-- The rows are exactly the plain files of the folder, in the order of the bytes of their names.
pub record Lists (folder : List ℕ) (files : Paths) (rows : List Entry) : Type 0 where
  pub ordered : IsStrictlySortedBy (slice_cmp nat_cmp) (map (λ row. row.name) rows)
  pub shown : (name : List ℕ) →
      length_in rows name ≡ (if is_shown name then option_and_then plain_length (files (path_in folder name)) else None)

-- the rows of the names that may be shown, of what the calls list
abbrev pub rows_shown : {Y : Type 0} → List (String Y × FolderEntry) → List Entry
rows_shown [] = []
rows_shown (name ∷ names) =
    if name.1.is_plain && not (starts_with nat_eq (string_bytes name.0) temporary)
    then record { name = string_bytes name.0; length = name.1.length } ∷ rows_shown names
    else rows_shown names
