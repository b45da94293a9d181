-- What the bytes of a journal stand for: the records behind open gates.
use Rattle.std.specs.Prelude.{ℕ, zero, suc, ◌+◌, ◌<◌, ◌≤◌, Bool, ◌&&◌, ◌==◌, nat_eq, nat_lt, nat_le, if◌then◌else◌}
use Rattle.std.specs.Prelude.{List, [], ◌∷◌, length, take, drop, Result, Ok, Err}
use Rattle.std.specs.Int.{from_be_bytes, w32}
use Rattle.std.specs.List.{starts_with}

-- "DCGKAJ1" and a line feed
abbrev pub magic : List ℕ
magic = 0x44 ∷ 0x43 ∷ 0x47 ∷ 0x4b ∷ 0x41 ∷ 0x4a ∷ 0x31 ∷ 0x0a ∷ []

abbrev pub most_records : ℕ
most_records = 16384

abbrev pub longest_record : ℕ
longest_record = 8388641

-- a record, and the place of its length field
pub record Entry : Type 0 where
  pub place : ℕ
  pub bytes : List ℕ

-- the length that stands in front of a record: four bytes, the high one first
abbrev pub length_of : List ℕ → ℕ
length_of bytes = from_be_bytes w32 (take 4 bytes)

-- a length, as many bytes, and the next gate stand here
pub record HoldsRecord (bytes : List ℕ) : Type 0 where
  pub has_length : 4 ≤ length bytes
  pub not_empty : 1 ≤ length_of bytes
  pub not_long : length_of bytes ≤ longest_record
  pub whole : 4 + length_of bytes < length bytes

abbrev pub holds_record : List ℕ → Bool
holds_record bytes =
    nat_le 4 (length bytes) && nat_le 1 (length_of bytes) && nat_le (length_of bytes) longest_record
    && nat_lt (4 + length_of bytes) (length bytes)

-- a record in front of what comes behind it
abbrev pub with_entry : Entry → Result (List Entry) ℕ → Result (List Entry) ℕ
with_entry entry (Ok entries) = Ok (entry ∷ entries)
with_entry entry (Err place) = Err place

-- The records from a gate at a place on, of which there may be so many. A gate is open exactly where it holds 1. Where
-- it is not, whatever stands behind it is not there. Where it is, and no record stands behind it, the bytes are no
-- journal at the place behind the gate.
unfoldable pub entries_from : ℕ → ℕ → List ℕ → Result (List Entry) ℕ
entries_from left place [] = Ok []
entries_from zero place (gate ∷ bytes) = if gate == 1 then Err (place + 1) else Ok []
entries_from (suc left) place (gate ∷ bytes) =
    if gate == 1
    then (if holds_record bytes
    then with_entry (record { place = place + 1; bytes = take (length_of bytes) (drop 4 bytes) })
    (entries_from left (place + 5 + length_of bytes) (drop (4 + length_of bytes) bytes))
    else Err (place + 1))
    else Ok []

-- The records of a journal, or the place where the bytes are none. At most 9 bytes are an empty journal, whatever they
-- are; more of them begin with the magic, and the first gate stands behind it.
unfoldable pub journal_of : List ℕ → Result (List Entry) ℕ
journal_of bytes =
    if nat_le (length bytes) 9
    then Ok []
    else (if starts_with nat_eq bytes magic then entries_from most_records 8 (drop 8 bytes) else Err 0)
