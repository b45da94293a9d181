-- Messages of a history by their numbers, sets of them as marks, and ids by their places: the forms in which code
-- keeps a history that grows at its end. docs/GROUP.md, "Forms that code meets".
use Rattle.std.specs.Prelude.{◌≡◌, ◌↔◌, ℕ, ◌<◌, Bool, true, cond, ◌⊎◌, List, [], ◌∷◌, length, slice_get, Some}
use Rattle.group_model.specs.Sets.{Id, In}
use Rattle.group_model.specs.Messages.{Message, History, past}

-- the message has the number in the history: how many messages of it are older
abbrev pub HasNumber : History → ℕ → Message → Type 0
HasNumber [] i m = ⊥
HasNumber (n ∷ older) i m = ((i ≡ length older) × (m ≡ n)) ⊎ HasNumber older i m

-- those messages of the history whose numbers are marked
abbrev pub marked : (marks : ℕ → Bool) → History → History
marked marks [] = []
marked marks (m ∷ older) = cond (marks (length older)) (m ∷ marked marks older) (marked marks older)

-- the marks are the numbers of those messages of the history that the ids lead back to
pub record MarksPast (h : History) (ids : List Id) (marks : ℕ → Bool) : Type 0 where
  pub each : (i : ℕ) (m : Message) → HasNumber h i m → (marks i ≡ true) ↔ In m (past h ids)
  pub within : (i : ℕ) → marks i ≡ true → i < length h

-- the id stands at the place in the list
abbrev pub IsPlace : (ids : List Id) → ℕ → Id → Type 0
IsPlace ids p x = slice_get ids p ≡ Some x

-- the bits are the places of those ids of the list that have the property
pub record IsCrowd (ids : List Id) (bits : ℕ → Bool) (P : Id → Type 0) : Type 0 where
  pub each : (p : ℕ) (x : Id) → IsPlace ids p x → (bits p ≡ true) ↔ P x
  pub within : (p : ℕ) → bits p ≡ true → p < length ids
