-- The plain program's values as messages of the model. docs/GROUP.md, "The plain program".
use Rattle.std.specs.Prelude.{◌≡◌, ◌≢◌, ℕ, ◌+◌, Bool, true, cond, ◌⊎◌, List, [], ◌∷◌, map, Option, Some, None, bytes_eq}
use Rattle.std.specs.Ordering.{nat_cmp, is_lt}
use Rattle.std.specs.Cmp.Lexicographic.{slice_cmp}
use Rattle.group_model.specs.Sets.{Id, In}
use Rattle.group_model.specs.Messages.{Kind, Create, Update, Remove, Add, Ack, AddAck, Text, Message, History, Stands}
use Rattle.group_model.specs.Messages.{past}
use Rattle.group_model.specs.Membership.{IsSeeded, InView, IsRecipient, remove_wins}
use Rattle.group_model.specs.Validity.{Answers}
use Rattle.group_model.specs.declared.plain.validity.Invitation.{Invitation}
use Rattle.group_model.specs.declared.plain.messages.PlainMessage.{PlainMessage}
use Rattle.group_model.specs.declared.plain.messages.PlainKind.{PlainKind}
use Rattle.group_model.specs.declared.plain.messages.PlainKind.TheVariants as act

abbrev pub kind_of : PlainKind → Kind
kind_of (act.Create members) = Create members.items
kind_of act.Update = Update
kind_of (act.Remove y) = Remove y
kind_of (act.Add y) = Add y
kind_of (act.Ack o took) = Ack o took
kind_of (act.AddAck o) = AddAck o
kind_of act.Text = Text

abbrev pub message_of : PlainMessage → Message
message_of r = record {
  id = r.id;
  set = r.set;
  group = r.group;
  sender = r.sender;
  seq = r.seq;
  kind = kind_of r.kind;
  predecessors = r.predecessors.items;
  body = r.body;
}

-- the newest message first
abbrev pub history_of : List PlainMessage → History
history_of rows = map message_of rows

-- the answer m of the operation forwards to y
pub record Forwards (h : History) (operation m : Message) (y : Id) : Type 0 where
  pub seeded : IsSeeded operation.kind
  pub in_view : InView remove_wins h m y
  pub no_recipient : IsRecipient remove_wins h operation y → ⊥
  pub not_its_sender : y ≢ operation.sender
  pub other : y ≢ m.sender

-- a message of s in the set answers the operation
pub record HasAnswered (p : History) (s : Id) (i : Id) : Type 0 where
  pub by : Message
  pub there_is : In by p
  pub own : by.sender ≡ s
  pub answers : Answers by.kind i

-- the message adds s, with the operation in its past
pub record BringsInAfter (p : History) (b : Message) (s : Id) (i : Id) : Type 0 where
  pub adds : b.kind ≡ Add s
  pub older : Stands (past p b.predecessors) i

-- an add of the set brought s in after the operation
pub record IsOlderThanMembership (p : History) (s : Id) (i : Id) : Type 0 where
  pub by : Message
  pub there_is : In by p
  pub brings : BringsInAfter p by s i

-- a message of the set has the id and adds y
pub record IsAddedBy (h : History) (i : Id) (y : Id) : Type 0 where
  pub operation : Message
  pub there_is : In operation h
  pub has_id : operation.id ≡ i
  pub adds : operation.kind ≡ Add y

-- the operation suits an ack of s: a seeded one, taken only by its recipient, or the add of s
abbrev pub SuitsAck : History → Id → (took : Bool) → Message → Type 0
SuitsAck p s took o =
    (IsSeeded o.kind × (took ≡ true → InView remove_wins p o s × (s ≢ o.sender))) ⊎ (o.kind ≡ Add s)

-- the inviter that the card names, where its key is a public key
abbrev pub inviter_named : Invitation → Option Id
inviter_named card = cond card.has_key (Some card.inviter) None

-- what the cards say of the inviter of an id: nobody where no card is the id's
abbrev pub inviter_in : List Invitation → Id → Option Id
inviter_in [] y = None
inviter_in (card ∷ cards) y = cond (bytes_eq card.id y) (inviter_named card) (inviter_in cards y)

-- the place of the first id that does not come before i
abbrev pub place : List Id → Id → ℕ
place [] i = 0
place (j ∷ ids) i = cond (is_lt (slice_cmp nat_cmp j i)) (place ids i + 1) 0
