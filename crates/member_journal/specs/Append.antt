-- What an append writes, and what a crash in it may leave.
use Rattle.std.specs.Prelude.{◌≡◌, ℕ, ◌+◌, ◌-◌, ◌≤◌, nat_le, if◌then◌else◌, List, [], ◌∷◌, ◌++◌, length, take, drop}
use Rattle.std.specs.Int.{to_be_bytes, w32}
use Rattle.disk_trait.specs.Disk.{Torn, Wrote}
use Rattle.member_journal.specs.Format.{magic}

-- a length, the record, and a gate that is shut
abbrev pub framed : List ℕ → List ℕ
framed payload = to_be_bytes w32 (length payload) ++ payload ++ 0 ∷ []

-- the magic and a first gate that is shut
abbrev pub header : List ℕ
header = magic ++ 0 ∷ []

-- At most nine bytes give way to the magic and the first gate.
unfoldable pub with_header : List ℕ → List ℕ
with_header old = if nat_le (length old) 9 then header else old

-- The bytes with a record behind their last gate, which is the one before a place. That gate is open, and behind the
-- record stands one that is shut. What the record doesn't cover stays.
unfoldable pub with_record : List ℕ → ℕ → List ℕ → List ℕ
with_record old place payload =
    if nat_le (length old) 9
    then magic ++ 1 ∷ framed payload
    else take (place - 1) old ++ 1 ∷ framed payload ++ drop (place + 5 + length payload) old

-- What a crash in an append may leave of the bytes before it.
pub data IsAppending (old : List ℕ) (place : ℕ) (payload image : List ℕ) : Type 0 where
  -- No journal stood there, and none does: the magic and the first gate are being written.
  begins : length old ≤ 9 → length image ≤ 9 → IsAppending old place payload image
  -- The record is being written behind the last gate, which is shut.
  stores : Torn place (length payload + 5) (with_header old) image → IsAppending old place payload image
  -- The record stands there, and the gate is being opened.
  opens : (stored : List ℕ) → Wrote place (framed payload) (with_header old) stored → Torn (place - 1) 1 stored image
      → IsAppending old place payload image

-- while the first gate is being written, and behind it
pub data IsBeginning (old image : List ℕ) : Type 0 where
  starts : length old ≤ 9 → length image ≤ 9 → IsBeginning old image
  started : image ≡ with_header old → IsBeginning old image
