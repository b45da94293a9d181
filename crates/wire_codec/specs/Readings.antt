-- What readers of lists say of what they pass.
use Rattle.std.specs.Prelude.{ℕ, ◌≤◌, List, length, Result}
use Rattle.std.specs.Borrow.{Bor}
use Rattle.group_fields.specs.LayoutReads.{Takes, left, read}
use Rattle.group_fields.specs.Layouts.{Layout}
use Rattle.group_fields.specs.Reading.{Reading}
use Rattle.group_fields.specs.declared.fault.FieldFault.{FieldFault}
use Rattle.group_fields.specs.Cards.{card_of_sets}
use Rattle.group_fields.specs.declared.ids.Digest.{Digest}
use Rattle.wire_codec.specs.Packets.{AddressedPart, greatest_size, row}
use Rattle.wire_codec.specs.Repeated.{SpellsItems, listed}

-- the list that stands where a reader is
abbrev pub list_at : {A : Type 0} → Layout (List A) → Reading → List A
list_at part reader = listed (read part reader.place (left reader))

-- A reader passes a list and answers nothing more of it than whether it stands there.
abbrev pub Passes : {A : Type 0} → Layout (List A) → (old new : Reading) → Result (Unit {0}) FieldFault → Type 0
Passes part old new result = Takes (λ passed. list_at part old) part old new result

-- A reader is within a byte string of at most so many bytes.
pub record IsIn (greatest : ℕ) (reader : Reading) : Type 0 where
  pub within : reader.place ≤ length reader.whole
  pub short : length reader.whole ≤ greatest

-- A byte string spells so many cards of a set, which is 1 or 2.
pub record AreCards (set count : ℕ) (bytes : List ℕ) : Type 0 where
  pub spelled : SpellsItems (card_of_sets set set) count bytes
  pub least : 1 ≤ set
  pub greatest : set ≤ 2

-- A byte string that isn't longer than a packet spells so many headers, each behind its length.
pub record AreRows (count : ℕ) (bytes : List ℕ) : Type 0 where
  pub spelled : SpellsItems row count bytes
  pub short : length bytes ≤ greatest_size

-- an id and the bytes of a part, as a reader lends them
abbrev pub addressed_of : Digest × Bor (List ℕ) → AddressedPart
addressed_of (id, bytes) = record { to = record { 0 = id }; bytes = bytes.now }
