-- What a member has met of a set of messages: what it answered, and what is older than its membership.
use Rattle.std.specs.Prelude.{◌≡◌, ◌≢◌, ◌↔◌, ◌⊎◌, ℕ, Bool, true, Option, Some}
use Rattle.group_model.specs.Sets.{Id, In}
use Rattle.group_model.specs.Messages.{Message, History, Add, past}
use Rattle.group_model.specs.Marks.{HasNumber}
use Rattle.group_model.specs.Plain.{HasAnswered}
use Rattle.group_model.specs.Validity.{IsUnanswered, IsOperation}

-- an add of the set that brought s in has the message in its past
pub record IsOlder (p : History) (s : Id) (o : Message) : Type 0 where
  pub by : Message
  pub there_is : In by p
  pub adds : by.kind ≡ Add s
  pub older : In o (past p by.predecessors)

-- nothing of the message is left to s: it is older than the membership of s, or s has answered it
abbrev pub IsMet : History → Id → Message → Type 0
IsMet p s o = IsOlder p s o ⊎ HasAnswered p s o.id

-- the marks are those of the one set, and those of the messages with the property
pub record MarksThose (h : History) (marks wider : ℕ → Bool) (P : Message → Type 0) : Type 0 where
  pub each : (i : ℕ) (m : Message) → HasNumber h i m → (wider i ≡ true) ↔ ((marks i ≡ true) ⊎ P m)

-- the marks are those of what is met
abbrev pub MarksMet : (h p : History) → Id → (met : ℕ → Bool) → Type 0
MarksMet h p s met = (i : ℕ) (o : Message) → HasNumber h i o → (met i ≡ true) ↔ IsMet p s o

-- an operation of others
abbrev pub IsOfOthers : Message → Id → Type 0
IsOfOthers o s = IsOperation o.kind × (o.sender ≢ s)

-- nothing of the set waits for s but the message of the history with the number, where one is given
abbrev pub WaitsAlone : (h p : History) → Id → (number : Option ℕ) → Type 0
WaitsAlone h p s number = (i : ℕ) (o : Message) → HasNumber h i o → IsUnanswered p s o → number ≡ Some i
