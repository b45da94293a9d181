-- When a message is valid: seven rules over its past, each by its own name.
-- docs/GROUP.md, "Validity". The rules are this project's own.
use Rattle.std.specs.Prelude.{◌≡◌, ◌≢◌, ℕ, ◌+◌, ◌<◌, ◌≤◌, Bool, true, false, cond, ◌⊎◌, List, [], ◌∷◌, length}
use Rattle.std.specs.Prelude.{Option, Some, IsSome, bytes_eq}
use Rattle.group_model.specs.Sets.{Id, In}
use Rattle.group_model.specs.Messages.{Kind, Create, Update, Remove, Add, Ack, AddAck, Text, Message, History, past}
use Rattle.group_model.specs.Messages.{AreHeads}
use Rattle.group_model.specs.Membership.{Named, IsSeeded, InView, ids_named, AreAddressees}

-- an operation: a create, update, remove or add
abbrev pub IsOperation : Kind → Type 0
IsOperation (Create members) = Unit {0}
IsOperation Update = Unit {0}
IsOperation (Remove y) = Unit {0}
IsOperation (Add y) = Unit {0}
IsOperation (Ack o took) = ⊥
IsOperation (AddAck o) = ⊥
IsOperation Text = ⊥

-- the kind answers the operation with this id
abbrev pub Answers : Kind → Id → Type 0
Answers (Create members) i = ⊥
Answers Update i = ⊥
Answers (Remove y) i = ⊥
Answers (Add y) i = ⊥
Answers (Ack o took) i = o ≡ i
Answers (AddAck o) i = o ≡ i
Answers Text i = ⊥

-- the kind steps its sender's ratchet
abbrev pub StepsRatchet : Kind → Type 0
StepsRatchet (Create members) = Unit {0}
StepsRatchet Update = Unit {0}
StepsRatchet (Remove y) = Unit {0}
StepsRatchet (Add y) = Unit {0}
StepsRatchet (Ack o true) = Unit {0}
StepsRatchet (Ack o false) = ⊥
StepsRatchet (AddAck o) = Unit {0}
StepsRatchet Text = ⊥

-- First rule, named sender: a create or add of the past names the sender
abbrev pub IsNamedSender : History → Message → Type 0
IsNamedSender p m = Named p m.sender

-- Second rule, current member: the sender is a member of the past
abbrev pub IsCurrentMember : (rule : History → List Id) → History → Message → Type 0
IsCurrentMember rule p m = In m.sender (rule p)

-- how many messages of the set are the sender's
abbrev pub count_of : Id → History → ℕ
count_of s [] = 0
count_of s (m ∷ p) = cond (bytes_eq m.sender s) (count_of s p + 1) (count_of s p)

-- Third rule, next in sequence
abbrev pub IsNextInSequence : History → Message → Type 0
IsNextInSequence p m = m.seq ≡ count_of m.sender p + 1

-- a message of the sender in the set steps its ratchet
pub record HasStepped (p : History) (s : Id) : Type 0 where
  pub by : Message
  pub there_is : In by p
  pub own : by.sender ≡ s
  pub steps : StepsRatchet by.kind

-- what an ack may answer: a seeded operation, taken only by who is its recipient, or the add of the sender
abbrev pub MayAck : (rule : History → List Id) → History → Id → (i : Id) → (took : Bool) → Type 0
MayAck rule p s i took = (o : Message) → In o p → o.id ≡ i
    → (IsSeeded o.kind × (took ≡ true → InView rule p o s × (s ≢ o.sender))) ⊎ (o.kind ≡ Add s)

-- an add-ack answers the add of another
abbrev pub MayAddAck : History → Id → (i : Id) → Type 0
MayAddAck p s i = (o : Message) → In o p → o.id ≡ i → (y : Id) × (o.kind ≡ Add y) × (y ≢ s)

-- Fourth rule, conditions of the kind, as far as header, cards and past tell. `inviter` is what the card of an id says:
-- the inviter that it names, where its key is a public key. By a card whose key is none nobody may take the id in.
abbrev pub MeetsKind : (rule : History → List Id) → (inviter : Id → Option Id) → History → Id → Kind → Type 0
MeetsKind rule inviter p s (Create members) = ⊥
MeetsKind rule inviter p s Update = Unit {0}
MeetsKind rule inviter p s (Remove y) = In y (rule p) × (y ≢ s)
MeetsKind rule inviter p s (Add y) = (Named p y → ⊥) × (inviter y ≡ Some s) × (length (ids_named p) < 32)
MeetsKind rule inviter p s (Ack i took) = MayAck rule p s i took
MeetsKind rule inviter p s (AddAck i) = MayAddAck p s i
MeetsKind rule inviter p s Text = HasStepped p s

-- an operation of others that s has not answered in p. Where an add brought s in, that add counts,
-- and what is outside its past
pub record IsUnanswered (p : History) (s : Id) (o : Message) : Type 0 where
  pub there_is : In o p
  pub operation : IsOperation o.kind
  pub others : o.sender ≢ s
  pub unmet : (a : Message) → In a p → a.sender ≡ s → Answers a.kind o.id → ⊥
  pub counts : (b : Message) → In b p → b.kind ≡ Add s → (o ≡ b) ⊎ (In o (past p b.predecessors) → ⊥)

-- s answers exactly the operation with this id
pub record AnswersOne (p : History) (s : Id) (i : Id) : Type 0 where
  pub operation : Message
  pub waits : IsUnanswered p s operation
  pub has_id : operation.id ≡ i
  pub only : (o : Message) → IsUnanswered p s o → o.id ≡ i

abbrev pub AnswersNone : History → Id → Type 0
AnswersNone p s = (o : Message) → IsUnanswered p s o → ⊥

-- Fifth rule, nothing unanswered: but what an ack or add-ack answers
abbrev pub IsInTurn : History → Id → Kind → Type 0
IsInTurn p s (Create members) = AnswersNone p s
IsInTurn p s Update = AnswersNone p s
IsInTurn p s (Remove y) = AnswersNone p s
IsInTurn p s (Add y) = AnswersNone p s
IsInTurn p s (Ack o took) = AnswersOne p s o
IsInTurn p s (AddAck o) = AnswersOne p s o
IsInTurn p s Text = AnswersNone p s

-- Sixth rule, predecessors are the heads of the past
abbrev pub FollowsHeads : History → Message → Type 0
FollowsHeads p m = AreHeads p m.predecessors

-- the member x with this history answers the message in the step that takes it: an operation of another, with which x
-- is a member
pub record NeedsAnswer (rule : History → List Id) (x : Id) (h : History) (m : Message) : Type 0 where
  pub operation : IsOperation m.kind
  pub others : m.sender ≢ x
  pub member : In x (rule (m ∷ h))

-- Seventh rule, limits of the history of the member x that takes the message, with the answer that x then makes
pub record IsWithinLimits (rule : History → List Id) (x : Id) (h : History) (m : Message) : Type 0 where
  pub messages : length (m ∷ h) ≤ 4096
  pub answer : NeedsAnswer rule x h m → length (m ∷ h) + 1 ≤ 4096
  pub ids : length (ids_named (m ∷ h)) ≤ 32

-- the card of y lets s create a group with it: its key is a public key, and the inviter of another is s
abbrev pub IsInvited : (inviter : Id → Option Id) → (s y : Id) → Type 0
IsInvited inviter s y = IsSome (inviter y) × (y ≢ s → inviter y ≡ Some s)

-- the message opens a history: the fourth rule for a create, over the empty history
pub record Opens (inviter : Id → Option Id) (m : Message) : Type 0 where
  pub members : List Id
  pub creates : m.kind ≡ Create members
  pub first : m.predecessors ≡ []
  pub number : m.seq ≡ 1
  pub among : In m.sender members
  pub invited : (y : Id) → In y members → IsInvited inviter m.sender y

-- the message goes on from its past, by the first to the sixth rule
pub record GoesOn (rule : History → List Id) (inviter : Id → Option Id) (p : History) (m : Message) : Type 0 where
  pub named : IsNamedSender p m
  pub member : IsCurrentMember rule p m
  pub next : IsNextInSequence p m
  pub suits : MeetsKind rule inviter p m.sender m.kind
  pub in_turn : IsInTurn p m.sender m.kind
  pub heads : FollowsHeads p m

-- no message of the history has the sender and the sequence number of the message
abbrev pub IsUnforked : History → Message → Type 0
IsUnforked h m = (a : Message) → In a h → a.sender ≡ m.sender → a.seq ≢ m.seq

-- no two messages of the history have one sender and one sequence number
abbrev pub AreUnforked : History → Type 0
AreUnforked [] = Unit {0}
AreUnforked (m ∷ older) = IsUnforked older m × AreUnforked older

-- the message may be the next of the history
abbrev pub MayFollow : (rule : History → List Id) → (inviter : Id → Option Id) → History → Message → Type 0
MayFollow rule inviter [] m = Opens inviter m
MayFollow rule inviter (l ∷ older) m = GoesOn rule inviter (past (l ∷ older) m.predecessors) m

-- each message of the history is valid over its past, and the first alone is a create
abbrev pub AllValid : (rule : History → List Id) → (inviter : Id → Option Id) → History → Type 0
AllValid rule inviter [] = Unit {0}
AllValid rule inviter (m ∷ older) = MayFollow rule inviter older m × AllValid rule inviter older

-- Fourth rule, as the body tells: the parts go to exactly the addressees
abbrev pub SendsParts : (rule : History → List Id) → History → Message → List Id → Type 0
SendsParts rule h m ids = AreAddressees rule (m ∷ h) m ids
