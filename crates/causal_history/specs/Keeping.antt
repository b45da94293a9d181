-- How a history is kept: links between its rows, and where the card of each place is.
use Rattle.std.specs.Prelude.{◌≡◌, ℕ, ◌+◌, ◌*◌, ◌<◌, ◌≤◌, List, [], ◌∷◌, ◌++◌, cond, map, length, take, drop}
use Rattle.std.specs.Prelude.{slice_get, slice_index, get_or}
use Rattle.std.specs.Prelude.{Some}
use Rattle.group_fields.specs.Headers.{message_id}
use Rattle.group_fields.specs.declared.card.Card.{Card}
use Rattle.group_fields.specs.declared.header.Header.{Header}
use Rattle.group_model.specs.Sets.{Id, has}
use Rattle.group_model.specs.Messages.{Kind}
use Rattle.group_model.specs.Membership.{ids_named}
use Rattle.group_model.specs.Marks.{IsPlace}
use Rattle.group_model.specs.Validity.{Answers}
use Rattle.group_messages.specs.Messages.{ids_of, kind_of}
use Rattle.causal_history.specs.Rows.{Row, history_of, card_in, senders_of, IsKept}
use Rattle.causal_history.specs.declared.table.Link.{Link}
use Rattle.causal_history.specs.declared.table.CardPlace.{CardPlace}

-- the numbers are those of the ids among all
pub record AreNumbers (keys : List Id) (numbers : List ℕ) (ids : List Id) : Type 0 where
  pub size : length numbers ≡ length ids
  pub each : (k : ℕ) → k < length ids → IsPlace keys (slice_index numbers k) (get_or ids k [])

-- the row with the number is the operation that the kind answers
pub record AnswersRow (keys : List Id) (kind : Kind) (at : ℕ) : Type 0 where
  pub operation : Id
  pub answers : Answers kind operation
  pub number : IsPlace keys at operation

-- the link tells of the header
pub record IsLink (keys senders : List Id) (numbers : List ℕ) (link : Link) (header : Header) : Type 0 where
  pub kind : link.kind ≡ header.kind
  pub seq : link.seq ≡ header.seq
  pub sender : IsPlace senders link.sender header.sender.0.0
  pub answered : (at : ℕ) → link.answered ≡ Some at → AnswersRow keys (kind_of header) at
  pub within : link.first + link.count ≤ length numbers
  pub predecessors : AreNumbers keys (take link.count (drop link.first numbers)) (ids_of header.predecessors)

-- the first card of the id is where it is told
pub record IsCardAt (rows : List Row) (x : Id) (place : CardPlace) : Type 0 where
  pub row : Row
  pub card : Card
  pub in_rows : slice_get rows place.row ≡ Some row
  pub in_row : slice_get row.cards place.at ≡ Some card
  pub first : card_in rows x ≡ Some card

-- the first card of each of the ids is where it is told at the id's place
pub record AreCardsAt (rows : List Row) (named : List Id) (places : List CardPlace) : Type 0 where
  pub size : length places ≡ length named
  pub each : (p : ℕ) (x : Id) (place : CardPlace) → IsPlace named p x → slice_get places p ≡ Some place
      → IsCardAt rows x place

-- ids that are named, and where the card of each is
pub record Roster : Type 0 where
  pub named : List Id
  pub places : List CardPlace

abbrev pub roster_of : List Id → List CardPlace → Roster
roster_of named places = record { named = named; places = places }

-- with an id where it is new, whose card is that one of a row
abbrev pub with_card : (row at : ℕ) → Id → Roster → Roster
with_card row at i r = cond (has r.named i) r (record {
  named = r.named ++ i ∷ [];
  places = r.places ++ (record { row = row; at = at }) ∷ [];
})

-- with the ids that a row names, from a number of them on
abbrev pub enrolled : (row : ℕ) → Roster → List Id → (at : ℕ) → Roster
enrolled row r [] at = r
enrolled row r (i ∷ ids) at = enrolled row (with_card row at i r) ids (at + 1)

-- the table of a history
pub record IsTable (rows : List Row) (links : List Link) (numbers : List ℕ) (ids senders named : List Id)
    (places : List CardPlace) : Type 0 where
  pub kept : IsKept rows
  pub ids_are : ids ≡ map (λ (row : Row). message_id row.header) rows
  pub senders_are : senders ≡ senders_of (history_of rows)
  pub named_are : named ≡ ids_named (history_of rows)
  pub linked : length links ≡ length rows
  pub each : (i : ℕ) (link : Link) (row : Row) → slice_get links i ≡ Some link → slice_get rows i ≡ Some row
      → IsLink ids senders numbers link row.header
  pub few : length numbers ≤ 32 * length rows
  pub cards : AreCardsAt rows named places
