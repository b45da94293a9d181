-- What a member that is in no group yet judges a packet by, and the verdicts on it, in order. docs/GROUP.md,
-- "Verdicts".
use Rattle.std.specs.Prelude.{◌≡◌, ◌≢◌, ◌↔◌, ℕ, suc, Bool, true, List, [], ◌∷◌, ◌++◌, map, replicate, Option}
use Rattle.std.specs.Prelude.{Some, None}
use Rattle.group_fields.specs.Cards.{card_id}
use Rattle.group_fields.specs.declared.card.Card.{Card}
use Rattle.group_fields.specs.declared.header.Header.{Header}
use Rattle.group_messages.specs.Messages.{message_of}
use Rattle.group_model.specs.Sets.{Id, In}
use Rattle.group_model.specs.Messages.{Kind, Create, Update, Remove, Add, Ack, AddAck, Text, Message, History, Stands}
use Rattle.group_model.specs.Messages.{AreHeads}
use Rattle.group_model.specs.Membership.{Names, ids_named}
use Rattle.group_model.specs.Validity.{MayFollow, IsUnforked, Opens, SendsParts}
use Rattle.causal_history.specs.Rows.{Row, history_of}
use Rattle.member_view.specs.Causes.{Causes, unless, when}
use Rattle.wire_codec.specs.Packets.{Packet, WelcomeRows}
use Rattle.causal_cast.specs.Judging.{Judging, IsSigned, inviter_by, receivers}
use Rattle.causal_cast.specs.Verdicts.{from_rules}
use Rattle.causal_cast.specs.declared.verdict.Verdict.{Verdict}
use Rattle.causal_cast.specs.declared.verdict.Verdict.TheVariants as answers
use Rattle.welcome_history.specs.Welcomes.{row_of, rows_of}

-- The rule of membership; the number of the member's set of keys, and which bytes are public keys there; the member's
-- own id; and the only one that may take it into a group, which 32 zero bytes say is nobody.
pub record Joining : Type 0 where
  pub rule : History → List Id
  pub set : ℕ
  pub is_public : List ℕ → Bool
  pub me : Id
  pub inviter : Id

-- how the member judges over the rows that are handed on to it
abbrev pub judging : Joining → List Row → Judging
judging F rows = record {
  rule = F.rule;
  set = F.set;
  is_public = F.is_public;
  rows = rows;
  me = F.me;
  leaf_left = true;
}

-- The cards are exactly those of the ids that the rows name, and each has a public key.
pub record CardsHold (F : Joining) (welcome : WelcomeRows) : Type 0 where
  pub named : (x : Id) → In x (map card_id welcome.cards) ↔ In x (ids_named (history_of (rows_of welcome)))
  pub public : (card : Card) → In card welcome.cards → F.is_public card.kem_public ≡ true

-- The row may stand behind the older ones in the history of a group: it is new there and forks with none, it is of the
-- member's set and of the group, its predecessors stand, and it is valid over its past, by these cards; of the first
-- row the conditions of a create are asked.
pub record RowHolds (F : Joining) (group : Id) (cards : List Card) (older : List Row) (header : Header) : Type 0 where
  pub fresh : Stands (history_of older) (message_of header).id → ⊥
  pub unforked : IsUnforked (history_of older) (message_of header)
  pub of_set : header.set ≡ F.set
  pub of_group : header.group.0.0 ≡ group
  pub predecessors : (i : Id) → In i (message_of header).predecessors → Stands (history_of older) i
  pub follows : MayFollow F.rule (inviter_by F.is_public cards) (history_of older) (message_of header)

-- The message follows all the rows, of which there are some, and is none of them.
pub record EndHolds (rows : List Row) (m : Message) : Type 0 where
  pub some : rows ≢ []
  pub heads : AreHeads (history_of rows) m.predecessors
  pub fresh : Stands (history_of rows) m.id → ⊥

module _ (F : Joining) (packet : Packet) where
  abbrev pub message : Message
  message = message_of packet.header

  -- The packet takes the member into a group: it is of the member's set, by its inviter, who is somebody else, and
  -- creates a group with it or adds it.
  pub record IsInvitation : Type 0 where
    pub somebody : F.inviter ≢ replicate 32 0
    pub set : message.set ≡ F.set
    pub other : message.sender ≢ F.me
    pub by_inviter : message.sender ≡ F.inviter
    pub names : Names message.kind F.me

  -- the row that a create is, with its cards
  abbrev pub created : List Row
  created = record { header = packet.header; cards = packet.cards } ∷ []

  -- of a create over the empty history the conditions of its kind are asked, and the signature
  abbrev pub SuitsCreate : Type 0
  SuitsCreate =
      Opens (inviter_by F.is_public packet.cards) message × SendsParts F.rule [] message (receivers packet.parts)

  abbrev pub on_create : Causes Verdict
  on_create =
      unless SuitsCreate answers.BadKind
      ∷ unless (IsSigned created message packet.signature) answers.BadSignature
      ∷ when (Unit {0}) answers.Ready
      ∷ []

  -- the rows from a number on, behind older ones; the number behind the last is that of the end
  abbrev pub on_rows : List Card → (number : ℕ) → (older : List Row) → List Header → Causes Verdict
  on_rows cards number older [] = unless (EndHolds older message) (answers.BadWelcome number) ∷ []
  on_rows cards number older (header ∷ headers) =
      unless (RowHolds F message.group cards older header) (answers.BadWelcome number)
      ∷ on_rows cards (suc number) (older ++ row_of cards header ∷ []) headers

  -- the history that is handed on, and the add over it
  abbrev pub on_add : WelcomeRows → Causes Verdict
  on_add welcome =
      unless (CardsHold F welcome) (answers.BadWelcome 0)
      ∷ (on_rows welcome.cards 1 [] welcome.rows ++ from_rules (judging F (rows_of welcome)) packet)

  -- an add hands on a history
  abbrev pub on_history : Option WelcomeRows → Causes Verdict
  on_history None = []
  on_history (Some welcome) = on_add welcome

  abbrev pub on_kind : Kind → Causes Verdict
  on_kind (Create members) = on_create
  on_kind Update = []
  on_kind (Remove y) = []
  on_kind (Add y) = on_history packet.history
  on_kind (Ack o took) = []
  on_kind (AddAck o) = []
  on_kind Text = []

  -- all verdicts of a member that is in no group yet, in order
  unfoldable pub first_verdicts : Causes Verdict
  first_verdicts = unless IsInvitation answers.NotInvited ∷ on_kind message.kind
