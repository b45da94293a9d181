-- The verdicts on a packet, in order. docs/GROUP.md, "Verdicts".
use Rattle.std.specs.Prelude.{◌≡◌, ◌≢◌, [], ◌∷◌, ◌++◌, length, Some, true}
use Rattle.group_messages.specs.Messages.{message_of}
use Rattle.group_model.specs.Sets.{Id, In}
use Rattle.group_model.specs.Messages.{Message, History, Stands, IsHistory, past}
use Rattle.group_model.specs.Validity.{IsNamedSender, IsCurrentMember, MeetsKind, SendsParts, NeedsAnswer}
use Rattle.group_model.specs.Validity.{IsWithinLimits}
use Rattle.group_model.specs.Validity.{MayFollow, IsUnforked, count_of}
use Rattle.causal_history.specs.Rows.{history_of}
use Rattle.causal_history.specs.Numbered.{IsLeastMissing}
use Rattle.member_view.specs.Causes.{Causes, unless, when, each}
use Rattle.member_view.specs.Rules.{ForksNone, IsOldestFork, IsInOrder}
use Rattle.member_view.specs.declared.faults.RuleFault.{RuleFault}
use Rattle.member_view.specs.declared.faults.RuleFault.TheVariants as faults
use Rattle.wire_codec.specs.Packets.{Packet}
use Rattle.causal_cast.specs.Judging.{Judging, group_of, inviter_by, receivers, IsSigned}
use Rattle.causal_cast.specs.declared.verdict.Verdict.{Verdict}
use Rattle.causal_cast.specs.declared.verdict.Verdict.TheVariants as answers

-- the verdict on a message that breaks a rule of validity
abbrev pub verdict_on : RuleFault → Verdict
verdict_on faults.Stranger = answers.Stranger
verdict_on faults.NotMember = answers.NotMember
verdict_on (faults.Forked id) = answers.Forked id
verdict_on faults.BadOrder = answers.BadOrder
verdict_on faults.BadKind = answers.BadKind

-- what a member finds that was taken into a group: the packet was read, and it needs no invitation
abbrev pub IsOfJudge : Verdict → Type 0
IsOfJudge (answers.Malformed place) = ⊥
IsOfJudge answers.NotInvited = ⊥
IsOfJudge (answers.BadWelcome row) = ⊥
IsOfJudge _ = Unit {0}

module _ (J : Judging) (packet : Packet) where
  -- the history that the member has, the message that it judges, and the past of the message
  abbrev pub known : History
  known = history_of J.rows

  abbrev pub message : Message
  message = message_of packet.header

  abbrev pub before : History
  before = past known message.predecessors

  -- the set and the group are the member's
  abbrev pub IsOfGroup : Type 0
  IsOfGroup = (message.set ≡ J.set) × (Some message.group ≡ group_of J.rows)

  abbrev pub PredecessorsStand : Type 0
  PredecessorsStand = (i : Id) → In i message.predecessors → Stands known i

  -- a create or add of the past names the sender, which is another than the member that judges
  abbrev pub IsKnownSender : Type 0
  IsKnownSender = IsNamedSender before message × (message.sender ≢ J.me)

  -- the conditions of the kind hold by the packet's cards, and its parts are for exactly those that get one
  abbrev pub SuitsKind : Type 0
  SuitsKind =
      MeetsKind J.rule (inviter_by J.is_public packet.cards) before message.sender message.kind
      × SendsParts J.rule known message (receivers packet.parts)

  -- where the member answers the message, a leaf is left to sign the answer with
  abbrev pub HasLeaf : Type 0
  HasLeaf = NeedsAnswer J.rule J.me known message → J.leaf_left ≡ true

  -- the message is new to the member's group, and its predecessors are there
  abbrev pub on_arrival : Causes Verdict
  on_arrival =
      unless (In J.me (J.rule known)) answers.Out
      ∷ unless IsOfGroup answers.OtherGroup
      ∷ when (Stands known message.id) answers.Known
      ∷ each PredecessorsStand answers.Waits (λ id. IsLeastMissing known message.predecessors id.0.0)
      ∷ []

  -- it is valid over its past
  abbrev pub on_rules : Causes Verdict
  on_rules =
      unless IsKnownSender answers.Stranger
      ∷ unless (IsCurrentMember J.rule before message) answers.NotMember
      ∷ each (ForksNone known message) answers.Forked (IsOldestFork known message)
      ∷ unless (IsInOrder before message) answers.BadOrder
      ∷ unless SuitsKind answers.BadKind
      ∷ []

  -- there is room for it and for the answer
  abbrev pub on_limits : Causes Verdict
  on_limits =
      unless (IsWithinLimits J.rule J.me known message) (answers.HistoryFull (length known))
      ∷ unless HasLeaf (answers.KeysSpent (count_of J.me known))
      ∷ []

  -- the sender signed it
  abbrev pub on_signature : Causes Verdict
  on_signature =
      unless (IsSigned J.rows message packet.signature) answers.BadSignature
      ∷ when (Unit {0}) answers.Ready
      ∷ []

  -- the verdicts on a message that is new, and whose predecessors are there
  abbrev pub from_rules : Causes Verdict
  from_rules = on_rules ++ (on_limits ++ on_signature)

  -- all verdicts of a member that was taken into a group, in order
  unfoldable pub verdicts : Causes Verdict
  verdicts = on_arrival ++ from_rules

  -- what holds of a packet that is ready
  pub record MayBeTaken : Type 0 where
    pub member : In J.me (J.rule known)
    pub group : IsOfGroup
    pub other : message.sender ≢ J.me
    pub history : IsHistory (message ∷ known)
    pub valid : MayFollow J.rule (inviter_by J.is_public packet.cards) known message
    pub unforked : IsUnforked known message
    pub parts : SendsParts J.rule known message (receivers packet.parts)
    pub limits : IsWithinLimits J.rule J.me known message
    pub leaf : HasLeaf
    pub signed : IsSigned J.rows message packet.signature
