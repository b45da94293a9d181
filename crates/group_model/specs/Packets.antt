-- Packets, as far as the model has them, and what a step is given. docs/GROUP.md, "Packets and
-- logs".
use Rattle.std.specs.Prelude.{cond, List, [], ◌∷◌, Option, Some, None, bytes_eq}
use Rattle.group_model.specs.Sets.{Bytes, Id}
use Rattle.group_model.specs.Messages.{Message, History}
use Rattle.group_model.specs.Pairing.{Part}

-- a part with its addressee
pub record Addressed : Type 0 where
  pub to : Id
  pub part : Part

-- A packet: its header, its parts, the history that an add brings, and a text's sealed bytes. What else
-- is in the bytes of a packet, cards and signature, is no part of this model.
pub record Packet : Type 0 where
  pub header : Message
  pub parts : List Addressed
  pub rows : History
  pub sealed : Bytes

-- what a step is given: 32 random bytes, and the text that is to be sent
pub record Given : Type 0 where
  pub random : Bytes
  pub text : Bytes

-- the part for an id
abbrev pub part_for : List Addressed → Id → Option Part
part_for [] y = None
part_for (a ∷ parts) y = cond (bytes_eq a.to y) (Some a.part) (part_for parts y)
