-- What an open journal says of its disk.
use Rattle.std.proofs.Common.{◌+◌, ap, ℕ}
use Rattle.disk_trait.specs.declared.disk.Disk.{Ghosts}
use Rattle.member_journal.specs.Journal.{HoldsRecords}
use Rattle.member_journal.specs.declared.journal.Journal.{Journal}
use Rattle.member_journal.proofs.Appends.{is_empty}
use Rattle.member_journal.proofs.Stages.{holds_journal}

pub holds_records : {D : Type 0} {disks : Ghosts D} (journal : Journal D disks) → disks.told → HoldsRecords journal
holds_records {D} {disks} journal told =
    let holds = journal.holds told in
    record {
      reads = holds_journal (disks.content journal.disk) (disks.image journal.disk) journal.layout.rooms.items journal.layout.gate journal.layout.is_bare holds;
      settled = holds.settled;
      bare = λ short. ap (λ (gate : ℕ). gate + 1)
          (is_empty (disks.content journal.disk) (disks.image journal.disk) journal.layout.rooms.items journal.layout.gate journal.layout.is_bare holds short).1;
    }
