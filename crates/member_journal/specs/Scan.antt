-- What the calls of a journal say of its disk.
use Rattle.std.specs.Prelude.{◌≡◌, ◌⊎◌, ℕ, ◌+◌, ◌≤◌, List, drop, slice_index, Result, OnOk, IsErrOf}
use Rattle.group_fields.specs.Counts.{IsRaised}
use Rattle.disk_trait.specs.Moments.{OnlyReads}
use Rattle.disk_trait.specs.declared.disk.Disk.{Ghosts}
use Rattle.member_journal.specs.Format.{HoldsRecord, length_of}
use Rattle.member_journal.specs.declared.fault.JournalFault.{JournalFault}
use Rattle.member_journal.specs.declared.fault.JournalFault.TheVariants.{Disk, NotJournal}

module _ {D : Type 0} (disks : Ghosts D) where
  -- A disk that was read and synced, and not written.
  pub record KeepsDisk (first second : D) : Type 0 where
    pub reads : disks.told → OnlyReads disks first second
    pub comes_of : disks.follows first second

  -- the first call was a sync
  abbrev pub IsSyncedFirst : D → D → Type 0
  IsSyncedFirst first last = (synced : D) × disks.syncs first synced × disks.follows synced last

  -- no call was made, or the first one was a sync
  abbrev pub SyncsFirst : D → D → Type 0
  SyncsFirst first last = (last ≡ first) ⊎ IsSyncedFirst first last

  -- No count falls. A call that succeeds leaves both, and so does one that finds no journal. The fault of the disk comes
  -- only where its count of failures rose.
  pub record FaultHasCause {T : Type 0} (first last : D) (result : Result T JournalFault) : Type 0 where
    pub faults : (disks.counts first).faults ≤ (disks.counts last).faults
    pub wants : (disks.counts first).wants ≤ (disks.counts last).wants
    pub succeeded : OnOk result (disks.counts last ≡ disks.counts first)
    pub judged : (place : ℕ) → IsErrOf result (NotJournal place) → disks.counts last ≡ disks.counts first
    pub fault : IsErrOf result Disk → IsRaised (disks.counts first).faults (disks.counts last).faults

-- what a read of a gate found
pub record ReadsGate (content : List ℕ) (gate n : ℕ) : Type 0 where
  pub is_open : slice_index content gate ≡ 1
  pub holds : HoldsRecord (drop (gate + 1) content)
  pub count : n ≡ length_of (drop (gate + 1) content)
