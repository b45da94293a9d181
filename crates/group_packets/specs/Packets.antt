-- Packets as packets of the model. docs/GROUP.md, "Packets and logs".
use Rattle.std.specs.Prelude.{◌≡◌, List, [], ◌∷◌, ◌++◌, map, reverse, Option, Some, None}
use Rattle.kem_trait.specs.declared.kem.Kem.{Ghosts}
use Rattle.group_model.specs.Messages.{History}
use Rattle.group_model.specs.Packets.{Addressed, Packet}
use Rattle.group_model.specs.Sets.{Bytes}
use Rattle.group_messages.specs.Messages.{message_of}
use Rattle.group_parts.specs.Parts.{IsSized, part_bytes, part_in}
use Rattle.wire_codec.specs.Packets.{AddressedPart, IsPacket, Packet as WrittenPacket, Sealed, WelcomeRows}

-- the history that an add hands on: its headers stand oldest first, a history of the model has the newest first
abbrev pub rows_of : Option WelcomeRows → History
rows_of None = []
rows_of (Some welcome) = map message_of (reverse welcome.rows)

-- the sealed bytes of a text, with the tag behind them
abbrev pub sealed_of : Option Sealed → Bytes
sealed_of None = []
sealed_of (Some text) = text.body ++ text.tag

module _ {K P : Type 0} (kem : Ghosts K P) where
  -- the part that bytes are, and its addressee
  abbrev pub addressed_of : AddressedPart → Addressed
  addressed_of one = record { to = one.to.0.0; part = part_in kem one.bytes }

  -- the bytes of a part, for its addressee
  abbrev pub part_written : Addressed → AddressedPart
  part_written one = record { to = record { 0 = record { 0 = one.to } }; bytes = part_bytes kem one.part }

  -- the packet of the model that a packet is
  abbrev pub packet_of : WrittenPacket → Packet
  packet_of packet = record {
    header = message_of packet.header;
    parts = map addressed_of packet.parts;
    rows = rows_of packet.history;
    sealed = sealed_of packet.text;
  }

  -- Bytes are those of a packet of the model.
  pub record AreOfPacket (packet : Packet) (bytes : Bytes) : Type 0 where
    pub written : WrittenPacket
    pub spelled : IsPacket written bytes
    pub is : packet_of written ≡ packet

  -- the fields of each part have their sizes
  abbrev pub AreSized : List Addressed → Type 0
  AreSized [] = Unit {0}
  AreSized (one ∷ others) = IsSized kem one.part × AreSized others
