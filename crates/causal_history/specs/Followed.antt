-- Which messages of a set are followed by another, and the ids of a set: what the sweeps for heads come to.
use Rattle.std.specs.Prelude.{◌≡◌, ℕ, ◌<◌, Bool, true, ◌↔◌, List}
use Rattle.group_model.specs.Sets.{Id, In, IsDistinct}
use Rattle.group_model.specs.Messages.{Message, History}
use Rattle.group_model.specs.Marks.{HasNumber}

-- a marked message with a number below the bound has the message among its predecessors
pub record FollowedBy (h : History) (marks : ℕ → Bool) (bound : ℕ) (m : Message) : Type 0 where
  pub by : Message
  pub at : ℕ
  pub below : at < bound
  pub number : HasNumber h at by
  pub is : marks at ≡ true
  pub follows : In m.id by.predecessors

-- the marks are what is followed by marked messages with numbers below the bound
pub record MarksFollowed (h : History) (marks followed : ℕ → Bool) (bound : ℕ) : Type 0 where
  pub each : (i : ℕ) (m : Message) → HasNumber h i m → (followed i ≡ true) ↔ FollowedBy h marks bound m

-- a marked message with a number below the bound has the id
pub record IsIdBelow (h : History) (marks : ℕ → Bool) (bound : ℕ) (x : Id) : Type 0 where
  pub by : Message
  pub at : ℕ
  pub below : at < bound
  pub number : HasNumber h at by
  pub is : marks at ≡ true
  pub has_id : by.id ≡ x

-- the ids are those of the marked messages with numbers below the bound, each once
pub record AreIdsOf (h : History) (marks : ℕ → Bool) (bound : ℕ) (ids : List Id) : Type 0 where
  pub distinct : IsDistinct ids
  pub each : (x : Id) → In x ids ↔ IsIdBelow h marks bound x
