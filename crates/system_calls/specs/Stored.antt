-- What there is under the paths, and what single calls make of it.
use Rattle.std.specs.Prelude.{◌≡◌, ◌≢◌, ◌⊎◌, ◌≤◌, ◌<◌, ◌+◌, ◌-◌, ◌==◌, ◌&&◌, ℕ, Bool, true, false, not, nat_eq}
use Rattle.std.specs.Prelude.{Option, Some, None, List, [], ◌∷◌, ◌++◌, length, take, drop, replicate, IsSomeAnd}
use Rattle.std.specs.Option.{option_map}
use Rattle.std.specs.List.{list_any}
use Rattle.group_fields.specs.Counts.{greatest_count}
use Rattle.system_calls.specs.declared.stored.StoredFile.{StoredFile}
use Rattle.system_calls.specs.declared.stored.FolderEntry.{FolderEntry}

-- what there is under each path
abbrev pub Paths : Type 0
Paths = List ℕ → Option StoredFile

abbrev pub SameFiles : Paths → Paths → Type 0
SameFiles old new = (path : List ℕ) → new path ≡ old path

-- no other path has changed
abbrev pub SameElsewhere : List ℕ → Paths → Paths → Type 0
SameElsewhere path old new = (other : List ℕ) → other ≢ path → new other ≡ old other

-- a file that was just made: empty, and nothing of it would survive a loss of power
abbrev pub fresh_file : Bool → StoredFile
fresh_file is_private =
    record { bytes = []; is_synced = false; is_named = false; is_plain = true; is_private = is_private }

-- these bytes at this place over others, with zeros in a gap before them
abbrev pub overwritten : ℕ → List ℕ → List ℕ → List ℕ
overwritten at bytes old =
    take at (old ++ replicate (at + length bytes - length old) 0) ++ bytes ++ drop (at + length bytes) old

-- a file after a write, which would not survive before the next sync
abbrev pub written : ℕ → List ℕ → StoredFile → StoredFile
written at bytes file = record file { bytes = overwritten at bytes file.bytes; is_synced = false }

abbrev pub synced : StoredFile → StoredFile
synced file = record file { is_synced = true }

abbrev pub named : StoredFile → StoredFile
named file = record file { is_named = true }

abbrev pub unnamed : StoredFile → StoredFile
unnamed file = record file { is_named = false }

-- One read from a place on into the front of a buffer: it may give fewer bytes than there are, and none only at the
-- end or into an empty buffer.
pub record ReadsSome (content : List ℕ) (at n : ℕ) (old new : List ℕ) : Type 0 where
  pub there : n ≤ length (drop at content)
  pub room : n ≤ length old
  pub bytes : new ≡ take n (drop at content) ++ drop n old
  pub none : n ≡ 0 → (old ≡ []) ⊎ (drop at content ≡ [])
  pub fits : at + n ≤ greatest_count

-- One write at a place, of the front of some bytes.
pub record WritesSome (at n : ℕ) (bytes : List ℕ) (old new : Option StoredFile) : Type 0 where
  pub there : IsSomeAnd old (λ file. 0 < n → new ≡ Some (written at (take n bytes) file))
  pub nothing : n ≡ 0 → new ≡ old
  pub fits : at + n ≤ greatest_count

-- A call that failed may have changed the bytes of a file and whether they would survive, and nothing else.
abbrev pub KeepsName : Option StoredFile → Option StoredFile → Type 0
KeepsName None new = new ≡ None
KeepsName (Some file) new =
    IsSomeAnd new (λ other. (other.is_named ≡ file.is_named) × (other.is_plain ≡ file.is_plain)
    × (other.is_private ≡ file.is_private))

-- A call that failed may have changed whether the bytes would survive, and nothing else.
abbrev pub KeepsBytes : Option StoredFile → Option StoredFile → Type 0
KeepsBytes None new = new ≡ None
KeepsBytes (Some file) new = IsSomeAnd new (λ other. other ≡ record file { is_synced = other.is_synced })

-- A name stays, and would survive if it would have before.
abbrev pub MayName : Option StoredFile → Option StoredFile → Type 0
MayName old new = (new ≡ old) ⊎ (new ≡ option_map named old)

-- whether a name may stand in a folder
abbrev pub is_name : List ℕ → Bool
is_name name = not (length name == 0) && not (list_any (nat_eq 47) name)

-- where the name stands in a folder
abbrev pub path_in : List ℕ → List ℕ → List ℕ
path_in folder name = folder ++ 47 ∷ name

-- what a listing tells of a file
abbrev pub entry_of : StoredFile → FolderEntry
entry_of file = record { is_plain = file.is_plain; length = length file.bytes }

-- A file has moved from one path to another, where its name would not survive before it is synced.
pub record Moves (from to : List ℕ) (old new : Paths) : Type 0 where
  pub arrives : IsSomeAnd (old from) (λ file. new to ≡ Some (unnamed file))
  pub leaves : from ≢ to → new from ≡ None
  pub others : (other : List ℕ) → other ≢ from → other ≢ to → new other ≡ old other
