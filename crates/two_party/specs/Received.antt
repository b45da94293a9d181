-- What the bytes of a part bring to one side of a pair.
use Rattle.std.specs.Prelude.{Option, Some, None}
use Rattle.std.specs.Option.{option_and_then}
use Rattle.kem_trait.specs.declared.kem.Kem.{Ghosts}
use Rattle.group_model.specs.Sets.{Bytes}
use Rattle.group_model.specs.Primitives.{Content}
use Rattle.group_model.specs.Pairing.{Part}
use Rattle.group_parts.specs.Parts.{part_read, part_in}
use Rattle.group_keys.specs.Primitives.{primitives_of}
use Rattle.member_book.specs.PairStates.{PairState, opens_to, after_open}

abbrev pub payload_of : Content → Bytes
payload_of content = content.payload

-- the state after a part, by what it opened to: a part that opens to nothing changes nothing
abbrev pub after_opened : PairState → Part → Option Content → PairState
after_opened k part None = k
after_opened k part (Some content) = after_open k part.made_by_sender part.number content

module _ {K P : Type 0} (kem : Ghosts K P) where
  -- the content that the bytes open to, where they spell a part that opens
  abbrev pub received : PairState → Bytes → Option Content
  received k bytes = option_and_then (λ (part : Part). opens_to (primitives_of kem) k part) (part_read kem bytes)

  -- the state after the bytes
  abbrev pub after_part : PairState → Bytes → PairState
  after_part k bytes = after_opened k (part_in kem bytes) (received k bytes)
