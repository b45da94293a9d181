-- What an open journal knows of the bytes before its last gate.
use Rattle.std.specs.Prelude.{◌≡◌, ◌≢◌, ℕ, ◌+◌, ◌-◌, ◌<◌, ◌≤◌, Bool, true, false}
use Rattle.std.specs.Prelude.{List, [], ◌∷◌, length, take, drop, slice_index, map, Result}
use Rattle.disk_trait.specs.Disk.{LeavesOnly}
use Rattle.member_journal.specs.Format.{Entry, entries_from, journal_of, with_entry, most_records}
use Rattle.member_journal.specs.declared.room.Room.{Room}

-- the record in a room
abbrev pub entry_at : List ℕ → Room → Entry
entry_at content room = record { place = room.place; bytes = take room.length (drop (room.place + 4) content) }

abbrev pub entries_at : List ℕ → List Room → List Entry
entries_at content rooms = map (entry_at content) rooms

abbrev pub with_entries : List Entry → Result (List Entry) ℕ → Result (List Entry) ℕ
with_entries [] result = result
with_entries (entry ∷ entries) result = with_entry entry (with_entries entries result)

-- Bytes with the same front before a gate begin with these records, and go on from there, where so many more may
-- follow.
abbrev pub Front : List Entry → ℕ → ℕ → List ℕ → Type 0
Front entries left gate content =
    (c : List ℕ) → gate < length c → 9 < length c → take gate c ≡ take gate content
    → journal_of c ≡ with_entries entries (entries_from left gate (drop gate c))

-- the bytes hold the records of these rooms, and the gate behind them isn't open
pub record Begun (content : List ℕ) (rooms : List Room) (gate : ℕ) : Type 0 where
  pub far : 8 ≤ gate
  pub within : gate < length content
  pub shut : slice_index content gate ≢ 1
  pub front : Front (entries_at content rooms) (most_records - length rooms) gate content
  pub long : 9 ≤ length content
  pub none : length content ≤ 9 → rooms ≡ []

-- the disk has settled and holds these records; where it is bare it has no gate yet
pub record Holds (content : List ℕ) (image : List ℕ → Type 0) (rooms : List Room) (gate : ℕ) (is_bare : Bool)
    : Type 0 where
  pub settled : LeavesOnly content image
  pub bare : is_bare ≡ true → (length content ≤ 9) × (rooms ≡ []) × (gate ≡ 8)
  pub begun : is_bare ≡ false → Begun content rooms gate
  pub long : is_bare ≡ false → 9 < length content
