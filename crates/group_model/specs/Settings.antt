-- What logs are judged by: a setting of many members, and the owner of one log.
-- docs/GROUP.md, "Logs and their owners".
use Rattle.std.specs.Prelude.{◌≡◌, true, List, Option, IsSome}
use Rattle.group_model.specs.Sets.{Bytes, Id, In}
use Rattle.group_model.specs.Messages.{History}
use Rattle.group_model.specs.Membership.{IsMembershipRule}
use Rattle.group_model.specs.Primitives.{KeyPair, Primitives}

-- The primitives; the membership rule; what each identity's card says, which is the inviter that it names, where its
-- key is a public key, and that key; the members of the world, who are the honest ones, and the secret keys that belong
-- to their cards. To a card's key that is a public key every seed encapsulates.
pub record Setting : Type 0 where
  pub primitives : Primitives
  pub rule : History → List Id
  pub inviter : Id → Option Id
  pub public_key : Id → Bytes
  pub members : List Id
  pub secret_key : Id → Bytes
  pub is_rule : IsMembershipRule rule
  pub tested : (x : Id) → In x members → primitives.is_pair (secret_key x) (public_key x) ≡ true
  pub encapsulates : (y : Id) (seed : Bytes) → IsSome (inviter y) → IsSome (primitives.encapsulate (public_key y) seed)

-- the key pair of a member's card
abbrev pub card_of : Setting → Id → KeyPair
card_of G x = record { secret = G.secret_key x; public = G.public_key x }

-- The owner of a log, and what its entries are judged by: the primitives, the membership rule, what the card of each
-- identity says, as in a setting; the owner's own id, and the key pair of its own card.
pub record Owner : Type 0 where
  pub primitives : Primitives
  pub rule : History → List Id
  pub inviter : Id → Option Id
  pub public_key : Id → Bytes
  pub id : Id
  pub card : KeyPair
  pub is_rule : IsMembershipRule rule
  pub encapsulates : (y : Id) (seed : Bytes) → IsSome (inviter y) → IsSome (primitives.encapsulate (public_key y) seed)

-- a member as the owner of its log
abbrev pub owner_in : Setting → Id → Owner
owner_in G x = record {
  primitives = G.primitives;
  rule = G.rule;
  inviter = G.inviter;
  public_key = G.public_key;
  id = x;
  card = card_of G x;
  is_rule = G.is_rule;
  encapsulates = G.encapsulates;
}
