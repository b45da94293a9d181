-- What a disk does to the file under its path, and to what there is under others.
use Rattle.std.specs.Prelude.{◌≡◌, ◌≢◌, ℕ, Option, Some, None, List, [], IsTrue, IsSome, IsSomeAnd}
use Rattle.std.specs.Option.{ForSome}
use Rattle.system_calls.specs.Stored.{Paths, MayName}
use Rattle.system_calls.specs.declared.stored.StoredFile.{StoredFile}
use Rattle.system_calls.specs.declared.file_calls.FileCalls.{Ghosts}
use Rattle.disk_trait.specs.Disk.{Wrote}
use Rattle.disk_trait.specs.declared.locked_file.LockedFile.{LockedFile}

-- the bytes of what there is under a path, and none where there is nothing
abbrev pub bytes_of : Option StoredFile → List ℕ
bytes_of None = []
bytes_of (Some file) = file.bytes

-- no path but this one has changed, but that names may have been synced
abbrev pub MayNameElsewhere : List ℕ → Paths → Paths → Type 0
MayNameElsewhere path old new = (other : List ℕ) → other ≢ path → MayName (old other) (new other)

-- a write was whole
abbrev pub WroteFile : ℕ → List ℕ → Option StoredFile → Option StoredFile → Type 0
WroteFile at bytes old new = IsSomeAnd new (λ file. Wrote at bytes (bytes_of old) file.bytes)

-- what there is, if there is something, is a plain file
abbrev pub IsPlain : Option StoredFile → Type 0
IsPlain stored = ForSome stored (λ file. IsTrue file.is_plain)

-- what there is, if there is something, would survive a loss of power with its name
pub record Survives (stored : Option StoredFile) : Type 0 where
  pub bytes : ForSome stored (λ file. IsTrue file.is_synced)
  pub name : ForSome stored (λ file. IsTrue file.is_named)

module _ {C F : Type 0} (calls : Ghosts C F) where
  -- what there is under its path
  abbrev pub stored_in : LockedFile C F → Option StoredFile
  stored_in disk = calls.file_at disk.calls disk.path

  -- An open file is that of the path, which is there and plain, and holds the lock. Its name would survive where it was
  -- synced.
  pub record IsReady (disk : LockedFile C F) : Type 0 where
    pub here : ForSome disk.file (λ file. calls.path_of file ≡ disk.path)
    pub locked : ForSome disk.file (λ file. IsTrue (calls.is_locked file))
    pub there : IsSome disk.file → IsSome (stored_in disk)
    pub plain : IsSome disk.file → IsPlain (stored_in disk)
    pub opened : IsTrue disk.is_named → IsSome disk.file
    pub named : IsTrue disk.is_named → ForSome (stored_in disk) (λ file. IsTrue file.is_named)

  -- what there is under the path, if there is something, is locked by the open file
  abbrev pub HoldsLock : LockedFile C F → Type 0
  HoldsLock disk = IsSome (stored_in disk)
      → IsSomeAnd disk.file (λ file. (calls.path_of file ≡ disk.path) × IsTrue (calls.is_locked file))
