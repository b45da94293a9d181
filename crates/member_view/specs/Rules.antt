-- The faults of a message by the rules of validity, in order, as far as its header and the history tell.
-- Of cards nothing is asked: each is taken as one whose inviter is the sender.
use Rattle.std.specs.Prelude.{◌≡◌, ◌≢◌, ◌⊎◌, ℕ, ◌≤◌, Bool, true, List, [], ◌∷◌, Option, Some}
use Rattle.group_model.specs.Sets.{Id, In}
use Rattle.group_model.specs.Messages.{Kind, Create, Update, Remove, Add, Ack, AddAck, Text, Message, History, past}
use Rattle.group_model.specs.Validity.{IsNamedSender, IsCurrentMember, IsNextInSequence, IsInTurn, FollowsHeads}
use Rattle.group_model.specs.Validity.{MeetsKind, Opens}
use Rattle.group_model.specs.Membership.{IsSeeded, InView}
use Rattle.group_model.specs.Marks.{HasNumber}
use Rattle.group_fields.specs.declared.ids.MessageId.{MessageId}
use Rattle.member_view.specs.Causes.{Causes, unless, each}
use Rattle.member_view.specs.declared.faults.RuleFault.{RuleFault}
use Rattle.member_view.specs.declared.faults.RuleFault.TheVariants as faults

-- another message of the same sender with the same sequence number
pub record IsForkOf (m a : Message) : Type 0 where
  pub sender : a.sender ≡ m.sender
  pub seq : a.seq ≡ m.seq
  pub other : a.id ≢ m.id

-- no message of the history forks with m
abbrev pub ForksNone : History → Message → Type 0
ForksNone h m = (a : Message) → In a h → IsForkOf m a → ⊥

-- the id is that of the oldest message that forks with m
pub record IsOldestFork (h : History) (m : Message) (id : MessageId) : Type 0 where
  pub by : Message
  pub number : ℕ
  pub is_row : HasNumber h number by
  pub forks : IsForkOf m by
  pub has_id : by.id ≡ id.0.0
  pub oldest : (i : ℕ) (a : Message) → HasNumber h i a → IsForkOf m a → number ≤ i

-- the message comes in order: its number is the next one of its sender, nothing is unanswered but what it answers, and
-- its predecessors are the heads
pub record IsInOrder (p : History) (m : Message) : Type 0 where
  pub next : IsNextInSequence p m
  pub in_turn : IsInTurn p m.sender m.kind
  pub heads : FollowsHeads p m

-- the messages are what some ids lead back to
pub record IsPast (h p : History) : Type 0 where
  pub ids : List Id
  pub is : p ≡ past h ids

-- the operation o of the past p suits an ack of s: a seeded one, taken only by its recipient, or the add of s
abbrev pub SuitsAck : (rule : History → List Id) → History → Id → (took : Bool) → Message → Type 0
SuitsAck rule p s took o = (IsSeeded o.kind × (took ≡ true → InView rule p o s × (s ≢ o.sender))) ⊎ (o.kind ≡ Add s)

-- the operation o suits an add-ack of s: the add of another
abbrev pub SuitsAddAck : Id → Message → Type 0
SuitsAddAck s o = (y : Id) × (o.kind ≡ Add y) × (y ≢ s)

-- cards are left open
abbrev pub any_inviter : Message → Id → Option Id
any_inviter m y = Some m.sender

-- the causes for a message that goes on from its past p
abbrev pub causes_over : (rule : History → List Id) → (h p : History) → Message → Causes RuleFault
causes_over rule h p m =
    unless (IsNamedSender p m) faults.Stranger
    ∷ unless (IsCurrentMember rule p m) faults.NotMember
    ∷ each (ForksNone h m) faults.Forked (IsOldestFork h m)
    ∷ unless (IsInOrder p m) faults.BadOrder
    ∷ unless (MeetsKind rule (any_inviter m) p m.sender m.kind) faults.BadKind
    ∷ []

-- the causes for a message of this kind over the empty history: of a create the rule on kinds alone is asked
abbrev pub causes_at_first : (rule : History → List Id) → Message → Kind → Causes RuleFault
causes_at_first rule m (Create members) = unless (Opens (any_inviter m) m) faults.BadKind ∷ []
causes_at_first rule m Update = causes_over rule [] [] m
causes_at_first rule m (Remove y) = causes_over rule [] [] m
causes_at_first rule m (Add y) = causes_over rule [] [] m
causes_at_first rule m (Ack o took) = causes_over rule [] [] m
causes_at_first rule m (AddAck o) = causes_over rule [] [] m
causes_at_first rule m Text = causes_over rule [] [] m

-- the causes for a message over a history: a further create is refused by the rule on kinds at the latest
unfoldable pub rule_causes : (rule : History → List Id) → History → Message → Causes RuleFault
rule_causes rule [] m = causes_at_first rule m m.kind
rule_causes rule (l ∷ older) m = causes_over rule (l ∷ older) (past (l ∷ older) m.predecessors) m
