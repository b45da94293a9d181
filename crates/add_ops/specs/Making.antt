-- Adds, as a member makes them from its book. docs/GROUP.md, "Parts" and "The book of a member".
use Rattle.std.specs.Prelude.{List, [], ◌∷◌, length, Some, None}
use Rattle.kem_trait.specs.declared.kem.Kem.{Ghosts}
use Rattle.group_fields.specs.Layouts.{Spells}
use Rattle.group_fields.specs.declared.card.Card.{Card}
use Rattle.wire_codec.specs.Packets.{WelcomeRows, add_body, id_of}
use Rattle.group_model.specs.Sets.{Bytes}
use Rattle.group_model.specs.Membership.{ids_named}
use Rattle.causal_history.specs.Rows.{Row, history_of}
use Rattle.two_party.specs.Drawn.{Drawn}
use Rattle.secret_book.specs.HeldBooks.{HeldBook}
use Rattle.body_parts.specs.Sending.{AreMadeFor}
use Rattle.body_parts.specs.declared.addressing.Receiver.{Receiver}
use Rattle.welcome_history.specs.Welcomes.{IsWelcomeOf}

-- whom an add adds, with the place behind those of the history
abbrev pub added_to : List Row → Card → Receiver
added_to rows card = record { place = length (ids_named (history_of rows)); member = record { 0 = id_of card } }

module _ {K P : Type 0} (kem : Ghosts K P) where
  -- Bytes are the body of an add of a member over these rows: its card, a part for it with the payload, and what is
  -- handed on.
  pub record IsAddBody (rows : List Row) (card : Card) (payload : Bytes) (drawn : List Drawn)
      (before after : HeldBook) (bytes : Bytes) : Type 0 where
    pub part : Bytes
    pub made : AreMadeFor kem (added_to rows card ∷ []) payload drawn before after
        (record { to = record { 0 = id_of card }; bytes = part } ∷ [])
    pub welcome : WelcomeRows
    pub handed_on : IsWelcomeOf rows welcome
    pub spelled : Spells (add_body kem.SET (record { 0 = id_of card })) bytes (record {
      cards = card ∷ [];
      parts = record { to = record { 0 = id_of card }; bytes = part } ∷ [];
      history = Some welcome;
      text = None;
    })
