-- Messages of a history by their numbers, and sets of them as marks. docs/GROUP.md, "Forms that code meets".
use Rattle.std.specs.Prelude.{◌≡◌, ℕ, ◌<◌, ◌≤◌, Bool, true, ◌↔◌, ◌⊎◌, List, [], length, slice_index, get_or}
use Rattle.group_model.specs.Sets.{Id, In, IsBelow}
use Rattle.group_model.specs.Messages.{Message, History, Stands, IsHead}
use Rattle.group_model.specs.Marks.{HasNumber, marked}

-- the message with the number has the id
pub record IsNumberOf (h : History) (id : Id) (i : ℕ) : Type 0 where
  pub by : Message
  pub number : HasNumber h i by
  pub has_id : by.id ≡ id

-- the numbers are those of the messages with the ids, in their order
pub record AreNumbersOf (h : History) (ids : List Id) (numbers : List ℕ) : Type 0 where
  pub size : length numbers ≡ length ids
  pub each : (k : ℕ) → k < length ids → IsNumberOf h (get_or ids k []) (slice_index numbers k)

-- the id is the least of the ids that no message of the history has
pub record IsLeastMissing (h : History) (ids : List Id) (id : Id) : Type 0 where
  pub among : In id ids
  pub missing : Stands h id → ⊥
  pub least : (other : Id) → In other ids → (Stands h other → ⊥) → (other ≡ id) ⊎ IsBelow id other

-- the wider marks are the others and, besides, the messages with these ids
pub record MarksMore (h : History) (ids : List Id) (marks wider : ℕ → Bool) : Type 0 where
  pub each : (i : ℕ) (m : Message) → HasNumber h i m → (wider i ≡ true) ↔ ((marks i ≡ true) ⊎ In m.id ids)
  pub others : (i : ℕ) → length h ≤ i → wider i ≡ marks i

-- the marks are the heads of the messages that others mark
pub record MarksHeads (h : History) (marks heads : ℕ → Bool) : Type 0 where
  pub each : (i : ℕ) (m : Message) → HasNumber h i m → (heads i ≡ true) ↔ IsHead (marked marks h) m
  pub within : (i : ℕ) → heads i ≡ true → i < length h
