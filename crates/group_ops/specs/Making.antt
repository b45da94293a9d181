-- What a member makes: the body of a create, an update or a remove. docs/GROUP.md, "Membership" and "Parts".
use Rattle.std.specs.Prelude.{◌≡◌, ℕ, ◌≤◌, Bool, List, [], ◌∷◌, length, map, None}
use Rattle.kem_trait.specs.declared.kem.Kem.{Ghosts}
use Rattle.group_fields.specs.Cards.{HasSpelling, card_id}
use Rattle.group_fields.specs.Layouts.{Layout, Spells}
use Rattle.group_fields.specs.declared.card.Card.{Card}
use Rattle.wire_codec.specs.Packets.{AddressedPart, Body, create_body, id_of, parts_body}
use Rattle.group_model.specs.Sets.{Bytes, Id, In, IsAscending}
use Rattle.two_party.specs.Drawn.{Drawn}
use Rattle.secret_book.specs.HeldBooks.{HeldBook}
use Rattle.body_parts.specs.declared.addressing.Receiver.{Receiver}
use Rattle.body_parts.specs.Receivers.{AreReceivers}
use Rattle.body_parts.specs.Sending.{AreMadeFor}

-- the cards of the members of a new group: each of the set and with a spelling, ascending by their ids
pub record AreFounders (set : ℕ) (cards : List Card) : Type 0 where
  pub of_set : (card : Card) → In card cards → card.set ≡ set
  pub spelled : (card : Card) → In card cards → HasSpelling card
  pub ascending : IsAscending (map card_id cards)
  pub few : length cards ≤ 32

-- who has places: the members of a new group, in the order of their cards, or those that the history names
abbrev pub placed_by : (named : List Id) → List Card → List Id
placed_by named [] = named
placed_by named (card ∷ cards) = map card_id (card ∷ cards)

-- how the body is laid out: with cards that of a create
abbrev pub seeded_layout : (set : ℕ) → List Card → Layout Body
seeded_layout set [] = parts_body set 31
seeded_layout set (card ∷ cards) = create_body set (map id_of (card ∷ cards))

module _ {K P : Type 0} (kem : Ghosts K P) where
  -- Bytes are the body of a create, an update or a remove: the cards of a create, and parts with the seed for those
  -- whose places have their bits, ascending by their ids.
  pub record IsSeededBody (ids : List Id) (cards : List Card) (bits : ℕ → Bool) (seed : Bytes) (drawn : List Drawn)
      (before after : HeldBook) (bytes : Bytes) : Type 0 where
    pub to : List Receiver
    pub receivers : AreReceivers (placed_by ids cards) bits to
    pub parts : List AddressedPart
    pub made : AreMadeFor kem to seed drawn before after parts
    -- whoever makes it has no part, so there are few enough
    pub spelled : length parts ≤ 31 → Spells (seeded_layout kem.SET cards) bytes (record {
      cards = cards;
      parts = parts;
      history = None;
      text = None;
    })
