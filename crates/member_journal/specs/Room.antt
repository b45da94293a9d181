-- Where a record lies.
use Rattle.std.specs.Prelude.{ℕ, ◌+◌, ◌≤◌}
use Rattle.member_journal.specs.Format.{longest_record}
use Rattle.member_journal.specs.declared.room.Room.{Room}

-- a room for a record that ends before a gate
pub record FitsBefore (gate : ℕ) (room : Room) : Type 0 where
  pub not_empty : 1 ≤ room.length
  pub not_long : room.length ≤ longest_record
  pub within : room.place + 4 + room.length ≤ gate

-- the most bytes of a record with its length field and its gate
abbrev pub longest_room : ℕ
longest_room = 8388646
