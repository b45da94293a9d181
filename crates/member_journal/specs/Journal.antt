-- An open journal: its disk, and the records on it.
use Rattle.std.proofs.Common.{◌≡◌, ℕ, ◌+◌, ◌≤◌, List, [], ◌∷◌, length, map, Result, Ok, Err, refl, ap}
use Rattle.disk_trait.specs.Disk.{LeavesOnly}
use Rattle.disk_trait.specs.declared.disk.Disk.{Ghosts}
use Rattle.member_journal.specs.Format.{Entry, journal_of}
use Rattle.member_journal.specs.Front.{entries_at}
use Rattle.member_journal.specs.declared.room.Room.{Room}
use Rattle.member_journal.specs.declared.journal.Journal.{Journal}
use Rattle.member_journal.specs.declared.fault.JournalFault.{JournalFault}

same_places : (content : List ℕ) (rooms : List Room)
    → map (λ room. room.place) rooms ≡ map (λ entry. entry.place) (entries_at content rooms)
same_places content [] = refl
same_places content (room ∷ rooms) = ap (λ (l : List ℕ). room.place ∷ l) (same_places content rooms)

module _ {D : Type 0} {disks : Ghosts D} where
  abbrev pub disk_of : Journal D disks → D
  disk_of journal = journal.disk

  -- its records with the places of their length fields, in order, as its disk has them
  abbrev pub entries : Journal D disks → List Entry
  entries journal = entries_at (disks.content journal.disk) journal.layout.rooms.items

  -- the places of the length fields, in order
  abbrev pub places : Journal D disks → List ℕ
  places journal = map (λ room. room.place) journal.layout.rooms.items

  -- the records themselves
  abbrev pub records : Journal D disks → List (List ℕ)
  records journal = map (λ entry. entry.bytes) (entries journal)

  -- the places are those of the records
  pub places-entries : (journal : Journal D disks) → places journal ≡ map (λ entry. entry.place) (entries journal)
  places-entries journal = same_places (disks.content journal.disk) journal.layout.rooms.items

  -- the place where the length field of the next record is to stand
  abbrev pub next_place : Journal D disks → ℕ
  next_place journal = journal.layout.gate + 1

  -- Its disk reads as its records, and a crash leaves nothing else. Where no gate stands yet, the next record comes
  -- behind the first one.
  pub record HoldsRecords (journal : Journal D disks) : Type 0 where
    pub reads : journal_of (disks.content (disk_of journal)) ≡ Ok (entries journal)
    pub settled : LeavesOnly (disks.content (disk_of journal)) (disks.image (disk_of journal))
    pub bare : length (disks.content (disk_of journal)) ≤ 9 → next_place journal ≡ 9

  -- the disk in an answer
  abbrev pub disk_after : Result (Journal D disks) (D × JournalFault) → D
  disk_after (Ok journal) = journal.disk
  disk_after (Err refused) = refused.0

  -- the same answer without the disk
  abbrev pub fault_in : Result (Journal D disks) (D × JournalFault) → Result (Journal D disks) JournalFault
  fault_in (Ok journal) = Ok journal
  fault_in (Err refused) = Err refused.1
