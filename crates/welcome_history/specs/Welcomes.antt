-- The history that an add hands on, as the rows of a history. docs/GROUP.md, "Packets and logs".
use Rattle.std.specs.Prelude.{◌≡◌, ◌↔◌, List, [], ◌∷◌, Option, Some, None, length, map}
use Rattle.group_fields.specs.Cards.{card_id}
use Rattle.group_fields.specs.declared.card.Card.{Card}
use Rattle.group_fields.specs.declared.header.Header.{Header}
use Rattle.group_model.specs.Sets.{Id, In, IsAscending}
use Rattle.group_model.specs.Messages.{IsHistory}
use Rattle.group_model.specs.Membership.{ids_named, named_by}
use Rattle.group_messages.specs.Messages.{kind_of}
use Rattle.causal_history.specs.Rows.{Row, card_among, card_in, history_of}
use Rattle.wire_codec.specs.Packets.{WelcomeRows}

-- one card more in front, where there is one
abbrev pub before : Option Card → List Card → List Card
before None cards = cards
before (Some card) cards = card ∷ cards

-- of each of the ids the first of the cards that is its own, where there is one
abbrev pub cards_for : List Card → List Id → List Card
cards_for cards [] = []
cards_for cards (x ∷ ids) = before (card_among cards x) (cards_for cards ids)

-- a header as a row, with the cards of the ids that it names
abbrev pub row_of : List Card → Header → Row
row_of cards header = record { header = header; cards = cards_for cards (named_by (kind_of header)) }

-- the rows of a welcome, oldest first
abbrev pub rows_of : WelcomeRows → List Row
rows_of welcome = map (row_of welcome.cards) welcome.rows

-- The headers are a history, and of each id that they name there is a card.
pub record IsReadable (welcome : WelcomeRows) : Type 0 where
  pub history : IsHistory (history_of (rows_of welcome))
  pub cards : (x : Id) → In x (ids_named (history_of (rows_of welcome))) → In x (map card_id welcome.cards)

-- ---- what is handed on of rows

abbrev pub headers_of : List Row → List Header
headers_of rows = map (λ (row : Row). row.header) rows

-- the ids in ascending order
pub record AreInOrder (named ids : List Id) : Type 0 where
  pub ascending : IsAscending ids
  pub same : (x : Id) → In x ids ↔ In x named
  pub count : length ids ≡ length named

-- the first cards of the ids in the rows
pub record AreFirstCards (rows : List Row) (named : List Id) (cards : List Card) : Type 0 where
  pub ids : map card_id cards ≡ named
  pub first : (card : Card) → In card cards → card_in rows (card_id card) ≡ Some card

-- Of each id that the rows name the first of its cards, ascending by the ids.
pub record AreCardsHandedOn (rows : List Row) (cards : List Card) : Type 0 where
  pub ascending : IsAscending (map card_id cards)
  pub named : (x : Id) → In x (map card_id cards) ↔ In x (ids_named (history_of rows))
  pub first : (x : Id) → In x (ids_named (history_of rows)) → card_among cards x ≡ card_in rows x

-- What is handed on of these rows: their headers, and of each id that they name the first of its cards, ascending by
-- the ids.
pub record IsWelcomeOf (rows : List Row) (welcome : WelcomeRows) : Type 0 where
  pub headers : welcome.rows ≡ map (λ row. row.header) rows
  pub ascending : IsAscending (map card_id welcome.cards)
  pub named : (x : Id) → In x (map card_id welcome.cards) ↔ In x (ids_named (history_of rows))
  pub first : (x : Id) → In x (ids_named (history_of rows)) → card_among welcome.cards x ≡ card_in rows x
