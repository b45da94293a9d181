-- The rows of a history, oldest first, and the history of the model that they are. docs/GROUP.md, "Forms that code
-- meets".
use Rattle.std.specs.Prelude.{◌≡◌, ◌<◌, ◌≤◌, List, [], ◌∷◌, ◌++◌, Option, length, map, reverse, find, bytes_eq}
use Rattle.group_fields.specs.Cards as card_words
use Rattle.group_fields.specs.Cards.{card_id}
use Rattle.group_fields.specs.Headers as header_words
use Rattle.group_fields.specs.declared.card.Card.{Card}
use Rattle.group_fields.specs.declared.header.Header.{Header}
use Rattle.group_model.specs.Sets.{Id, In}
use Rattle.group_model.specs.Messages.{Message, History, Stands, IsHistory}
use Rattle.group_model.specs.Membership.{ids_named, named_by, with_id}
use Rattle.group_messages.specs.Messages.{kind_of, message_of}

-- a header, and the cards of the ids that it names
pub record Row : Type 0 where
  pub header : Header
  pub cards : List Card

abbrev pub row_message : Row → Message
row_message row = message_of row.header

-- the newest message first
unfoldable pub history_of : List Row → History
history_of rows = map row_message (reverse rows)

-- the cards of all rows, oldest first
abbrev pub cards_of : List Row → List Card
cards_of [] = []
cards_of (row ∷ rows) = row.cards ++ cards_of rows

-- the first of the cards that is the id's
abbrev pub card_among : List Card → Id → Option Card
card_among cards x = find (λ (card : Card). bytes_eq (card_id card) x) cards

-- the first card of the id in the rows
unfoldable pub card_in : List Row → Id → Option Card
card_in rows x = card_among (cards_of rows) x

-- the senders of a history, each once, in the order of their first messages
abbrev pub senders_of : History → List Id
senders_of [] = []
senders_of (m ∷ older) = with_id (senders_of older) m.sender

-- the cards have spellings, and are those of the ids, in their order
pub record AreCardsOf (named : List Id) (cards : List Card) : Type 0 where
  pub ids : map card_id cards ≡ named
  pub spelled : (card : Card) → In card cards → card_words.HasSpelling card

-- the row has a spelling, with the cards of the ids that it names, in their order
pub record IsWhole (row : Row) : Type 0 where
  pub header : header_words.HasSpelling row.header
  pub cards : map card_id row.cards ≡ named_by (kind_of row.header)
  pub spelled : (card : Card) → In card row.cards → card_words.HasSpelling card

-- a history of at most 4,096 whole rows that names at most 32 ids
pub record IsKept (rows : List Row) : Type 0 where
  pub history : IsHistory (history_of rows)
  pub few : length rows ≤ 4096
  pub members : length (ids_named (history_of rows)) ≤ 32
  pub whole : (row : Row) → In row rows → IsWhole row

-- the row may be pushed: its predecessors stand, its id doesn't, there is room, at most 32 ids are named then, and the
-- cards are those of the ids that it names, in their order
pub record MayBePushed (rows : List Row) (row : Row) : Type 0 where
  pub predecessors : (i : Id) → In i (row_message row).predecessors → Stands (history_of rows) i
  pub fresh : Stands (history_of rows) (row_message row).id → ⊥
  pub room : length rows < 4096
  pub members : length (ids_named (row_message row ∷ history_of rows)) ≤ 32
  pub cards : map card_id row.cards ≡ named_by (kind_of row.header)
  pub spelled : (card : Card) → In card row.cards → card_words.HasSpelling card
