-- What a disk in memory shows of itself.
use Rattle.std.specs.Prelude.{◌≡◌, ◌⊎◌, ℕ, List, length}
use Rattle.disk_trait.specs.declared.memory.MemDisk.{MemDisk}
use Rattle.group_fields.specs.declared.counts.Counts.{Counts}
use Rattle.group_fields.specs.Plan.{KeepsPlan, next_call}
use Rattle.system_calls.specs.Plan.{failing_in, made_in, counts_in}
use Rattle.disk_trait.specs.Replay.{Standing, fresh, replayed, IsImageSince}

-- what a read gives
abbrev pub content : MemDisk → List ℕ
content disk = disk.bytes.items

-- what is settled, and what is pending
abbrev pub standing : MemDisk → Standing
standing disk = replayed (fresh disk.first.items) disk.changes.items

-- the numbers of the calls that fail, from 1
abbrev pub failing_calls : MemDisk → List ℕ
failing_calls disk = failing_in disk.plan

-- how many calls there were
abbrev pub calls : MemDisk → ℕ
calls disk = made_in disk.plan

-- how often it has failed, and wanted memory
abbrev pub counted : MemDisk → Counts
counted disk = counts_in disk.plan

-- how many changes it went through
abbrev pub moments : MemDisk → ℕ
moments disk = length disk.changes.items

-- what a crash after at least so many changes might have left
abbrev pub images_since : MemDisk → ℕ → List ℕ → Type 0
images_since disk = IsImageSince disk.first.items disk.changes.items

-- the same calls are to fail, and where there are none, none has failed
abbrev pub Follows : MemDisk → MemDisk → Type 0
Follows before now = KeepsPlan (failing_calls before) (failing_calls now) (counted before) (counted now)

-- there was one call, which settled what was written or left all as it was
pub record Syncs (before now : MemDisk) : Type 0 where
  pub call : calls now ≡ next_call (calls before)
  pub standing : (standing now ≡ fresh (content before)) ⊎ (standing now ≡ standing before)
