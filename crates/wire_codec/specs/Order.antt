-- What is true of each packet: how it is joined, in which order its items stand, and what suits its header.
use Rattle.std.specs.Prelude.{◌≡◌, ◌<◌, ◌≤◌, ◌^◌, ℕ, true, List, [], ◌∷◌, length, map, Some, None}
use Rattle.group_fields.specs.Headers as headers
use Rattle.group_fields.specs.LayoutWrites.{ascends}
use Rattle.group_fields.specs.Cards as cards
use Rattle.group_fields.specs.declared.card.Card.{Card}
use Rattle.group_fields.specs.declared.header.Header.{Header}
use Rattle.group_fields.specs.declared.header.Kind.{Kind}
use Rattle.group_fields.specs.declared.header.Kind.TheVariants as kinds
use Rattle.group_fields.specs.declared.header.Target.{Target}
use Rattle.group_fields.specs.declared.ids.Digest.{Digest}
use Rattle.wire_codec.specs.Packets.{AddressedPart, AreOf, Body, Packet, Sealed, WelcomeRows, body_of, id_of, joined}
use Rattle.wire_codec.specs.Packets.{member_named, members_named}

-- The bytes of a packet's header, of its body and of its signature, of which it is joined.
pub record IsJoined (p : Packet) (bytes : List ℕ) : Type 0 where
  pub head : List ℕ
  pub carried : List ℕ
  pub signed : List ℕ
  pub are_of : AreOf p head carried signed
  pub short : length head < 2 ^ 16
  pub is : bytes ≡ joined head carried signed

-- for whom parts are
abbrev pub recipients : List AddressedPart → List Digest
recipients parts = map (λ one. one.to.0) parts

-- the ids of cards
abbrev pub card_ids : List Card → List Digest
card_ids cards = map id_of cards

-- each card is of a set, and has a spelling
abbrev pub AreOfSet : ℕ → List Card → Type 0
AreOfSet set [] = Unit {0}
AreOfSet set (card ∷ others) = (card.set ≡ set) × cards.HasSpelling card × AreOfSet set others

-- each header has a spelling
abbrev pub HaveSpellings : List Header → Type 0
HaveSpellings [] = Unit {0}
HaveSpellings (header ∷ others) = headers.HasSpelling header × HaveSpellings others

-- Cards ascend by their ids, there are at most 32 of them and 4,095 headers, and each has a spelling.
pub record IsWelcome (set : ℕ) (welcome : WelcomeRows) : Type 0 where
  pub ascend : ascends None (card_ids welcome.cards) ≡ true
  pub few_cards : length welcome.cards ≤ 32
  pub of_set : AreOfSet set welcome.cards
  pub few_rows : length welcome.rows ≤ 4095
  pub rows : HaveSpellings welcome.rows

-- Parts ascend by the ids of those for whom they are, and what is handed on is in order too.
pub record IsBodyInOrder (set : ℕ) (b : Body) : Type 0 where
  pub parts : ascends None (recipients b.parts) ≡ true
  pub few_parts : length b.parts ≤ 31
  pub cards : AreOfSet set b.cards
  pub history : (welcome : WelcomeRows) → b.history ≡ Some welcome → IsWelcome set welcome

pub record IsInOrder (p : Packet) : Type 0 where
  pub header : headers.HasSpelling p.header
  pub body : IsBodyInOrder p.header.set (body_of p)

-- A create carries the cards of the members that it names, in the order of their ids; an add the card of the one that
-- it names, one part, which is for it, and a history; a text nothing but its text.
abbrev pub CarriesWhatSuits : Kind → Target → Body → Type 0
CarriesWhatSuits kinds.Create target b =
    (card_ids b.cards ≡ members_named target) × (b.history ≡ None) × (b.text ≡ None)
CarriesWhatSuits kinds.Update target b = (b.cards ≡ []) × (b.history ≡ None) × (b.text ≡ None)
CarriesWhatSuits kinds.Remove target b = (b.cards ≡ []) × (b.history ≡ None) × (b.text ≡ None)
CarriesWhatSuits kinds.Add target b =
    (card_ids b.cards ≡ (member_named target).0 ∷ []) × (recipients b.parts ≡ (member_named target).0 ∷ [])
    × ((welcome : WelcomeRows) × (b.history ≡ Some welcome)) × (b.text ≡ None)
CarriesWhatSuits kinds.Ack target b = (b.cards ≡ []) × (b.history ≡ None) × (b.text ≡ None)
CarriesWhatSuits kinds.AddAck target b =
    (b.cards ≡ []) × (length b.parts ≤ 1) × (b.history ≡ None) × (b.text ≡ None)
CarriesWhatSuits kinds.Text target b =
    (b.cards ≡ []) × (b.parts ≡ []) × (b.history ≡ None) × ((sealed : Sealed) × (b.text ≡ Some sealed))

-- What a packet carries suits the kind and the target of its header.
abbrev pub SuitsHeader : Packet → Type 0
SuitsHeader p = CarriesWhatSuits p.header.kind p.header.target (body_of p)
