-- What files in memory show.
use Rattle.std.specs.Prelude.{ℕ, Bool, Option, None, List}
use Rattle.system_calls.specs.MemFiles.{all_changed}
use Rattle.system_calls.specs.declared.stored.StoredFile.{StoredFile}
use Rattle.system_calls.specs.Plan.{failures_in}
use Rattle.system_calls.specs.declared.mem_files.MemFile.{MemFile}
use Rattle.system_calls.specs.declared.mem_files.MemFiles.{MemFiles}

-- what there is under each path
abbrev pub file_in : MemFiles → List ℕ → Option StoredFile
file_in files path = all_changed path None files.changes.items

-- how many calls have failed
abbrev pub failures_of : MemFiles → ℕ
failures_of files = failures_in files.plan

-- the path of an open file
abbrev pub path_of : MemFile → List ℕ
path_of file = file.path

-- whether an open file holds the lock
abbrev pub is_locked : MemFile → Bool
is_locked file = file.is_locked
