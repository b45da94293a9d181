use Rattle.std.proofs.Common.{◌≡◌, ◌-◌, ◌<◌, ◌≤◌, false, length, vec_len}
use Rattle.disk_trait.specs.Disk.{LeavesOnly}
use Rattle.member_journal.specs.Format.{most_records}
use Rattle.member_journal.specs.Front.{Front, entries_at}
use Rattle.member_journal.specs.Scan.{KeepsDisk}
use Rattle.member_journal.proofs.scan.find_records.Given as goal

abbrev pub invariant-loop-layout : goal.invariant-loop-layout
invariant-loop-layout g l = record {
  keeps : KeepsDisk g.D.Disk l.initial.disk l.disk;
  counts : g.D.Disk.counts l.disk ≡ g.D.Disk.counts l.initial.disk;
  settled : g.D.Disk.told → LeavesOnly (g.D.Disk.content l.disk) (g.D.Disk.image l.disk);
  front : g.D.Disk.told → Front (entries_at (g.D.Disk.content l.initial.disk) l.layout.rooms.items) (most_records - length l.layout.rooms.items) l.layout.gate (g.D.Disk.content l.initial.disk);
  far : 8 ≤ l.layout.gate;
  within : l.layout.gate < l.len;
  begun : l.layout.is_bare ≡ false;
}

abbrev pub decreases-loop-layout : goal.decreases-loop-layout
decreases-loop-layout g l = most_records - vec_len l.layout.rooms
