-- Whom a message is due to whose body is still to be made. docs/GROUP.md, "Membership".
use Rattle.std.specs.Prelude.{ℕ, Bool, List, ◌∷◌}
use Rattle.group_fields.specs.declared.header.Header.{Header}
use Rattle.group_fields.specs.declared.ids.Digest.{Digest}
use Rattle.group_model.specs.Sets.{Id}
use Rattle.group_model.specs.Messages.{Message, History, Stands}
use Rattle.group_model.specs.Membership.{IsAddressee, ids_named}
use Rattle.group_model.specs.Marks.{IsCrowd}
use Rattle.group_messages.specs.Messages.{message_of}
use Rattle.causal_history.specs.Rows.{Row, history_of}

-- the message of the header with this digest of its body
abbrev pub message_with : Header → Digest → Message
message_with header digest = message_of (record header { body = digest })

-- no row has the id of the message
abbrev pub IsNew : List Row → Message → Type 0
IsNew rows m = Stands (history_of rows) m.id → ⊥

-- No row has the id of the header as it is, and the bits are the places of those whom its message sends a part to,
-- behind these rows, whatever digest its body gets.
pub record IsDueTo (rule : History → List Id) (rows : List Row) (header : Header) (bits : ℕ → Bool) : Type 0 where
  pub new : IsNew rows (message_of header)
  pub crowd : (digest : Digest) → let m = message_with header digest in IsNew rows m
      → IsCrowd (ids_named (m ∷ history_of rows)) bits (λ y. IsAddressee rule (m ∷ history_of rows) m m.kind y)
