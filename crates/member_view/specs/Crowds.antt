-- Members of a history by their places, and what is asked of who is a member.
use denote.Ref.{Bor}
use Rattle.std.specs.Prelude.{◌≡◌, ◌↔◌, ◌⊎◌, ℕ, ◌<◌, Bool, true, List, [], ◌∷◌, length, Option, Some, None, option_map}
use Rattle.group_fields.specs.declared.header.Header.{Header}
use Rattle.group_messages.specs.Messages.{message_of}
use Rattle.group_model.specs.Sets.{Id, In, Within}
use Rattle.group_model.specs.Messages.{Kind, Create, Update, Remove, Add, Ack, AddAck, Text, Message, History, past}
use Rattle.group_model.specs.Membership.{Names, Removes, ids_named}
use Rattle.group_model.specs.Marks.{marked, IsPlace}

-- the history, and before it the last message where one is given
abbrev pub with_last : Option Message → History → History
with_last None p = p
with_last (Some m) p = m ∷ p

-- the message of a header that is lent, where one is
abbrev pub last_of : Option (Bor Header) → Option Message
last_of last = option_map (λ header. message_of header.now) last

-- the ids that the history names, in order, and behind them those that the last message names besides: the places
abbrev pub ids_with : Option Message → History → List Id
ids_with last h = ids_named (with_last last h)

-- a create stands over the empty history, or is a message of it
abbrev pub StandsWell : History → Message → Kind → Type 0
StandsWell h m (Create members) = (h ≡ []) ⊎ In m h
StandsWell h m Update = Unit {0}
StandsWell h m (Remove y) = Unit {0}
StandsWell h m (Add y) = Unit {0}
StandsWell h m (Ack o took) = Unit {0}
StandsWell h m (AddAck o) = Unit {0}
StandsWell h m Text = Unit {0}

-- the last message may be asked about: its past is marked, and a create stands well
abbrev pub MayBeLast : History → (marks : ℕ → Bool) → Option Message → Type 0
MayBeLast h marks None = Unit {0}
MayBeLast h marks (Some m) = Within (past h m.predecessors) (marked marks h) × StandsWell h m m.kind

-- numbers of messages of the history alone are marked
abbrev pub AreNumbers : History → (marks : ℕ → Bool) → Type 0
AreNumbers h marks = (i : ℕ) → marks i ≡ true → i < length h

-- the bits are those of the one set, and the places of the ids with the property
pub record MorePlaces (ids : List Id) (bits wider : ℕ → Bool) (P : Id → Type 0) : Type 0 where
  pub each : (p : ℕ) (x : Id) → IsPlace ids p x → (wider p ≡ true) ↔ ((bits p ≡ true) ⊎ P x)
  pub within : (p : ℕ) → wider p ≡ true → (bits p ≡ true) ⊎ (p < length ids)

-- the place of the id is in the crowd
pub record IsAmong (ids : List Id) (bits : ℕ → Bool) (x : Id) : Type 0 where
  pub place : ℕ
  pub is : IsPlace ids place x
  pub among : bits place ≡ true

-- more places of those that the kind names, and of those that it removes
pub record MovesMore (ids : List Id) (in_bits out_bits more_in more_out : ℕ → Bool) (k : Kind) : Type 0 where
  pub named : MorePlaces ids in_bits more_in (λ x. Names k x)
  pub removed : MorePlaces ids out_bits more_out (λ x. Removes k x)
