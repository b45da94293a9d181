-- What a member judges a packet by, and what it looks at. docs/GROUP.md, "Verdicts".
use Rattle.std.specs.Prelude.{◌≡◌, ℕ, ◌+◌, Bool, cond, List, [], ◌∷◌, Option, Some, None, bytes_eq}
use Rattle.lms_sign.specs.Signatures.{LmsOk, leaf_number}
use Rattle.group_fields.specs.Cards.{card_id}
use Rattle.group_fields.specs.declared.card.Card.{Card}
use Rattle.group_model.specs.Sets.{Id}
use Rattle.group_model.specs.Messages.{Message, History}
use Rattle.causal_history.specs.Rows.{Row, card_in}
use Rattle.group_messages.specs.Messages.{ids_of}
use Rattle.wire_codec.specs.Packets.{AddressedPart}
use Rattle.wire_codec.specs.Order.{recipients}

-- What a member judges by: the rule of membership; the number of its set of keys, and which bytes are public keys
-- there; its history with the cards in it; its own id; and whether a leaf is left to sign one more message with.
pub record Judging : Type 0 where
  pub rule : History → List Id
  pub set : ℕ
  pub is_public : List ℕ → Bool
  pub rows : List Row
  pub me : Id
  pub leaf_left : Bool

-- the group of a history: that of its first message
abbrev pub group_of : List Row → Option Id
group_of [] = None
group_of (row ∷ rows) = Some row.header.group.0.0

-- the set of a history: that of its first message
abbrev pub set_of : List Row → Option ℕ
set_of [] = None
set_of (row ∷ rows) = Some row.header.set

-- the inviter that a card names, where its key is a public key
abbrev pub inviter_in : (is_public : List ℕ → Bool) → Card → Option Id
inviter_in is_public card = cond (is_public card.kem_public) (Some card.inviter.0.0) None

-- what cards say of the inviter of an id: nobody where none of them is the card of the id
abbrev pub inviter_by : (is_public : List ℕ → Bool) → List Card → Id → Option Id
inviter_by is_public [] y = None
inviter_by is_public (card ∷ cards) y =
    cond (bytes_eq (card_id card) y) (inviter_in is_public card) (inviter_by is_public cards y)

-- the ids that parts are for
abbrev pub receivers : List AddressedPart → List Id
receivers parts = ids_of (recipients parts)

-- The member of a card signed the message: with the leaf of the message's number, and as the standard checks it, which
-- asks that the signature's type is that of the card's key (RFC 8554, section 5.4.2).
pub record IsSignedUnder (card : Card) (m : Message) (signature : List ℕ) : Type 0 where
  pub leaf : leaf_number signature + 1 ≡ m.seq
  pub good : LmsOk card.lms_public m.id signature

-- the sender of the message signed it under the key in the card that came with its name
pub record IsSigned (rows : List Row) (m : Message) (signature : List ℕ) : Type 0 where
  pub card : Card
  pub is_known : card_in rows m.sender ≡ Some card
  pub signed : IsSignedUnder card m signature
