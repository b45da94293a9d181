-- Whom the parts of a message are for. docs/GROUP.md, "Membership".
use Rattle.std.specs.Prelude.{◌≡◌, ℕ, ◌<◌, ◌≤◌, Bool, true, false, List, length, map}
use Rattle.group_fields.specs.declared.ids.Digest.{Digest}
use Rattle.group_model.specs.Sets.{Id, In, IsAscending}
use Rattle.group_model.specs.Marks.{IsPlace}
use Rattle.body_parts.specs.declared.addressing.Receiver.{Receiver}

abbrev pub id_to : Receiver → Id
id_to r = r.member.0.0

abbrev pub ids_to : List Receiver → List Id
ids_to to = map id_to to

abbrev pub digests_to : List Receiver → List Digest
digests_to to = map (λ (r : Receiver). r.member.0) to

-- each receiver has its place among these ids
abbrev pub ArePlaced : (ids : List Id) → List Receiver → Type 0
ArePlaced ids to = (r : Receiver) → In r to → IsPlace ids r.place (id_to r)

-- The receivers are those of these ids whose places have their bits, ascending by their ids.
pub record AreReceivers (ids : List Id) (bits : ℕ → Bool) (to : List Receiver) : Type 0 where
  pub placed : ArePlaced ids to
  pub all : (p : ℕ) (x : Id) → IsPlace ids p x → bits p ≡ true → In x (ids_to to)
  pub only : (r : Receiver) → In r to → bits r.place ≡ true
  pub ascending : IsAscending (ids_to to)
  pub few : length to ≤ 32
  -- where one of the ids is left out
  pub fewer : (p : ℕ) → p < length ids → bits p ≡ false → length to ≤ 31
