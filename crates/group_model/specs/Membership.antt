-- Who is a member, who sees a message, and where its parts go.
-- The DCGKA paper's decentralised group membership function and its `member_view`; docs/GROUP.md, "Membership".
use Rattle.std.specs.Prelude.{◌≡◌, ◌≢◌, ◌↔◌, true, false, cond, List, [], ◌∷◌, ◌++◌}
use Rattle.group_model.specs.Sets.{Bytes, Id, In, has, Within, IsAscending}
use Rattle.group_model.specs.Messages.{Kind, Create, Update, Remove, Add, Ack, AddAck, Text, Message, History, past}
use Rattle.group_model.specs.Messages.{with_past, IsHistory}

-- the kind names the id as a member
abbrev pub Names : Kind → Id → Type 0
Names (Create members) x = In x members
Names Update x = ⊥
Names (Remove y) x = ⊥
Names (Add y) x = y ≡ x
Names (Ack o took) x = ⊥
Names (AddAck o) x = ⊥
Names Text x = ⊥

-- the kind removes the id
abbrev pub Removes : Kind → Id → Type 0
Removes (Create members) x = ⊥
Removes Update x = ⊥
Removes (Remove y) x = y ≡ x
Removes (Add y) x = ⊥
Removes (Ack o took) x = ⊥
Removes (AddAck o) x = ⊥
Removes Text x = ⊥

-- a create or an add of the set names the id
pub record Named (p : History) (x : Id) : Type 0 where
  pub by : Message
  pub there_is : In by p
  pub names : Names by.kind x

-- a remove of the set has the id as its target
pub record Removed (p : History) (x : Id) : Type 0 where
  pub by : Message
  pub there_is : In by p
  pub removes : Removes by.kind x

-- each id is named by one message
pub record NamedOnce (h : History) : Type 0 where
  pub once : (a b : Message) (x : Id) → In a h → In b h → Names a.kind x → Names b.kind x → a ≡ b

-- the kind names and removes nobody
pub record MovesNobody (k : Kind) : Type 0 where
  pub names_nobody : (y : Id) → Names k y → ⊥
  pub removes_nobody : (y : Id) → Removes k y → ⊥

-- A membership rule computes the members of a set of messages. What agreement asks of it:
-- members are named; who was named in a set and is out of it is out of each larger one; the answer
-- depends on the set alone; and a message that does not remove its sender leaves it a member. What making a message
-- asks of it besides: the answer reads neither the body's digest of the newest message, since the answer goes into that
-- body, nor its id, which hashes both; and a message that names and removes nobody, as an answer to an operation, moves
-- nobody.
pub record IsMembershipRule (rule : History → List Id) : Type 0 where
  pub named : (p : History) (x : Id) → In x (rule p) → Named p x
  pub out_stays_out : (p q : History) (x : Id) → IsHistory p → IsHistory q → NamedOnce q → Within p q
      → Named p x → (In x (rule p) → ⊥) → In x (rule q) → ⊥
  pub set_alone : (p q : History) (x : Id) → IsHistory p → IsHistory q → Within p q → Within q p
      → In x (rule p) → In x (rule q)
  pub opening : (m : Message) (members : List Id) (x : Id) → m.kind ≡ Create members → In x members
      → In x (rule (m ∷ []))
  pub sender_stays : (p : History) (m : Message) → IsHistory (m ∷ p) → Within p (past p m.predecessors)
      → In m.sender (rule p) → (Removes m.kind m.sender → ⊥) → In m.sender (rule (m ∷ p))
  pub newest_digests_unread : (p : History) (m : Message) (i : Id) (b : Bytes) (x : Id) → IsHistory (m ∷ p)
      → IsHistory (record m { id = i; body = b } ∷ p)
      → In x (rule (m ∷ p)) → In x (rule (record m { id = i; body = b } ∷ p))
  pub others_stay : (p : History) (m : Message) (x : Id) → IsHistory (m ∷ p) → Within p (past p m.predecessors)
      → MovesNobody m.kind → In x (rule (m ∷ p)) ↔ In x (rule p)

-- Membership, version 1: removes win
pub record IsMember (p : History) (x : Id) : Type 0 where
  pub named : Named p x
  pub stays : Removed p x → ⊥

-- ids that a message names, and that it removes
abbrev pub named_by : Kind → List Id
named_by (Create members) = members
named_by Update = []
named_by (Remove y) = []
named_by (Add y) = y ∷ []
named_by (Ack o took) = []
named_by (AddAck o) = []
named_by Text = []

abbrev pub removed_by : Kind → List Id
removed_by (Create members) = []
removed_by Update = []
removed_by (Remove y) = y ∷ []
removed_by (Add y) = []
removed_by (Ack o took) = []
removed_by (AddAck o) = []
removed_by Text = []

-- the ids, and behind them one that is new
abbrev pub with_id : List Id → Id → List Id
with_id ids i = cond (has ids i) ids (ids ++ i ∷ [])

-- the ids, and behind them those of the others that are new, each once
abbrev pub joined : List Id → List Id → List Id
joined ids [] = ids
joined ids (i ∷ others) = joined (with_id ids i) others

-- all ids that a create or add names, each once, in the order in which they are named
abbrev pub ids_named : History → List Id
ids_named [] = []
ids_named (m ∷ p) = joined (ids_named p) (named_by m.kind)

-- all ids that a remove names
abbrev pub ids_removed : History → List Id
ids_removed [] = []
ids_removed (m ∷ p) = joined (ids_removed p) (removed_by m.kind)

-- the ids but those of the other list
abbrev pub without : List Id → List Id → List Id
without [] others = []
without (i ∷ ids) others = cond (has others i) (without ids others) (i ∷ without ids others)

-- the rule: all ids that a create or add names, less all that a remove names
unfoldable pub remove_wins : History → List Id
remove_wins p = without (ids_named p) (ids_removed p)

-- x is in the view of the message: a member of the set of it and its past
abbrev pub InView : (rule : History → List Id) → History → Message → Id → Type 0
InView rule h m x = In x (rule (with_past h m))

-- an id that gets a part of the create, update or remove m
pub record IsRecipient (rule : History → List Id) (h : History) (m : Message) (y : Id) : Type 0 where
  pub in_view : InView rule h m y
  pub other : y ≢ m.sender

-- a create, an update or a remove: an operation that sends a seed
abbrev pub IsSeeded : Kind → Type 0
IsSeeded (Create members) = Unit {0}
IsSeeded Update = Unit {0}
IsSeeded (Remove y) = Unit {0}
IsSeeded (Add y) = ⊥
IsSeeded (Ack o took) = ⊥
IsSeeded (AddAck o) = ⊥
IsSeeded Text = ⊥

-- the ack m of a seeded operation i forwards to y: who sees m and was no recipient of i
pub record IsForwardedTo (rule : History → List Id) (h : History) (i : Id) (m : Message) (y : Id) : Type 0 where
  pub operation : Message
  pub there_is : In operation h
  pub has_id : operation.id ≡ i
  pub seeded : IsSeeded operation.kind
  pub in_view : InView rule h m y
  pub no_recipient : IsRecipient rule h operation y → ⊥
  pub not_its_sender : y ≢ operation.sender
  pub other : y ≢ m.sender

-- the add-ack m of the add i hands the ratchet to y, whom that add names
pub record IsHandedTo (rule : History → List Id) (h : History) (i : Id) (m : Message) (y : Id) : Type 0 where
  pub operation : Message
  pub there_is : In operation h
  pub has_id : operation.id ≡ i
  pub adds : operation.kind ≡ Add y
  pub in_view : InView rule h m y

-- the message m of this kind has a part for y
abbrev pub IsAddressee : (rule : History → List Id) → History → Message → Kind → Id → Type 0
IsAddressee rule h m (Create members) y = IsRecipient rule h m y
IsAddressee rule h m Update y = IsRecipient rule h m y
IsAddressee rule h m (Remove z) y = IsRecipient rule h m y
IsAddressee rule h m (Add z) y = z ≡ y
IsAddressee rule h m (Ack i true) y = IsForwardedTo rule h i m y
IsAddressee rule h m (Ack i false) y = ⊥
IsAddressee rule h m (AddAck i) y = IsHandedTo rule h i m y
IsAddressee rule h m Text y = ⊥

-- the ids are exactly those of the message's parts, in ascending order
pub record AreAddressees (rule : History → List Id) (h : History) (m : Message) (ids : List Id) : Type 0 where
  pub ascending : IsAscending ids
  pub all : (y : Id) → IsAddressee rule h m m.kind y → In y ids
  pub only : (y : Id) → In y ids → IsAddressee rule h m m.kind y
