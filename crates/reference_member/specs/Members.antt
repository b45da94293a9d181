-- What a member is after its steps. docs/GROUP.md, "The reference member".
use Rattle.std.specs.Prelude.{◌≡◌, ℕ, ◌^◌, Bool, nat_lt, List, []}
use Rattle.std.specs.Option.{option_map_or}
use Rattle.kem_trait.specs.declared.kem.Kem.{Ghosts}
use Rattle.group_fields.specs.Cards.{card_id, spelling}
use Rattle.group_fields.specs.declared.card.Card.{Card}
use Rattle.group_model.specs.Sets.{Bytes, Id, In}
use Rattle.group_model.specs.Messages.{History}
use Rattle.group_model.specs.Primitives.{KeyPair}
use Rattle.group_model.specs.Logs.{Log}
use Rattle.group_model.specs.Settings.{Owner}
use Rattle.group_model.specs.Validity.{count_of}
use Rattle.group_keys.specs.Primitives.{primitives_of}
use Rattle.group_messages.specs.Messages.{IsCollision}
use Rattle.causal_history.specs.Rows.{Row, card_among, cards_of, history_of}
use Rattle.member_identity.specs.Identity.{card_with, signing_tree}
use Rattle.lms_sign.specs.Trees.{LmsTree}
use Rattle.causal_cast.specs.Judging.{Judging, inviter_in}
use Rattle.welcome_history.specs.Joining.{Joining}

-- A member that was made: the inviter, the height and the random bytes of its first step, and the secret key that these
-- bytes give; its history with the cards in it, oldest first; and its log.
pub record Member : Type 0 where
  pub inviter : Id
  pub height : ℕ
  pub random : Bytes
  pub secret : Bytes
  pub rows : List Row
  pub log : Log

-- the messages that the member has
abbrev pub known : Member → History
known M = history_of M.rows

-- the member signs with this tree
abbrev pub tree : Member → LmsTree
tree M = signing_tree M.height M.random

-- of each id there is one card at most
abbrev pub HaveOneEach : List Card → Type 0
HaveOneEach cards = (a b : Card) → In a cards → In b cards → card_id a ≡ card_id b → a ≡ b

-- two of the cards are spelled apart, and have one id
pub record HaveCollision (cards : List Card) : Type 0 where
  pub one : Card
  pub other : Card
  pub has_one : In one cards
  pub has_other : In other cards
  pub collide : IsCollision (spelling one) (spelling other)

-- the public key in the card of an id, where cards have one of it
abbrev pub public_key_by : List Card → Id → Bytes
public_key_by cards y = option_map_or (λ (card : Card). card.kem_public) (card_among cards y) []

module _ {K P : Type 0} (kem : Ghosts K P) (M : Member) where
  abbrev pub own_card : Card
  own_card = card_with kem M.height (record { inviter = M.inviter; random = M.random }) M.secret

  abbrev pub own_id : Id
  own_id = card_id own_card

  -- the key pair of the own card
  abbrev pub own_pair : KeyPair
  own_pair = record { secret = M.secret; public = own_card.kem_public }

  -- how many messages of the history are the member's
  abbrev pub made_count : ℕ
  made_count = count_of own_id (known M)

  -- a leaf is left to sign one more message with
  abbrev pub has_leaf : Bool
  has_leaf = nat_lt made_count (2 ^ M.height)

module _ {K P : Type 0} (kem : Ghosts K P) (rule : History → List Id) (M : Member) where
  -- how the member judges packets once it is in a group
  abbrev pub judging : Judging
  judging = record {
    rule = rule;
    set = kem.SET;
    is_public = kem.is_public;
    rows = M.rows;
    me = own_id kem M;
    leaf_left = has_leaf kem M;
  }

  -- and before
  abbrev pub joining : Joining
  joining = record {
    rule = rule;
    set = kem.SET;
    is_public = kem.is_public;
    me = own_id kem M;
    inviter = M.inviter;
  }

  -- it is a member by all messages that it has
  abbrev pub IsIn : Type 0
  IsIn = In (own_id kem M) (rule (known M))

  -- The owner of the member's log is the member, and says of each card of the history what it says.
  pub record IsOwner (O : Owner) : Type 0 where
    pub primitives : O.primitives ≡ primitives_of kem
    pub rule_is : O.rule ≡ rule
    pub id : O.id ≡ own_id kem M
    pub card : O.card ≡ own_pair kem M
    pub inviters : (card : Card) → In card (cards_of M.rows) → O.inviter (card_id card) ≡ inviter_in kem.is_public card
    pub keys : (card : Card) → In card (cards_of M.rows) → O.public_key (card_id card) ≡ card.kem_public
