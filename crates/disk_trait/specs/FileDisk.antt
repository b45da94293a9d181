-- What a disk over a file shows of itself.
use Rattle.std.specs.Prelude.{ℕ, List, Option}
use Rattle.std.specs.declared.io.ErrorKind.{ErrorKind}
use Rattle.group_fields.specs.declared.counts.Counts.{Counts}
use Rattle.system_calls.specs.declared.stored.StoredFile.{StoredFile}
use Rattle.system_calls.specs.declared.file_calls.FileCalls.{Ghosts}
use Rattle.disk_trait.specs.LockedFile.{stored_in}
use Rattle.disk_trait.specs.declared.locked_file.LockedFile.{LockedFile}
use Rattle.disk_trait.specs.declared.file.FileDisk.{FileDisk}

-- how often it has failed, and wanted memory
abbrev pub counts_of : {C F : Type 0} {g : _} → FileDisk C F g → Counts
counts_of disk = disk.counts

-- the calls that it makes
abbrev pub calls_of : {C F : Type 0} {g : _} → FileDisk C F g → C
calls_of disk = disk.file.calls

-- the path of its file
abbrev pub path_of : {C F : Type 0} {g : _} → FileDisk C F g → List ℕ
path_of disk = disk.file.path

-- its file, as it opens and locks it
abbrev pub file_of : {C F : Type 0} {g : _} → FileDisk C F g → LockedFile C F
file_of disk = disk.file

-- the kind of its last failure
abbrev pub reason_of : {C F : Type 0} {g : _} → FileDisk C F g → Option ErrorKind
reason_of disk = disk.reason

-- what there is under the path of its file
abbrev pub stored : {C F : Type 0} {g : _} → Ghosts C F → FileDisk C F g → Option StoredFile
stored calls disk = stored_in calls disk.file
