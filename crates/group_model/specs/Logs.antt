-- Logs: what a member's steps leave, and the history that they make. docs/GROUP.md, "Packets and
-- logs".
use Rattle.std.specs.Prelude.{List, [], ◌∷◌}
use Rattle.group_model.specs.Messages.{Message, History}
use Rattle.group_model.specs.Packets.{Packet, Given}

-- What a step leaves in the log of its member: an add that brought the member in, another packet of
-- somebody else, or a packet of its own. A step that takes an operation and answers it leaves two.
pub data LogEntry : Type 0 where
  Joined : (packet : Packet) → LogEntry
  Took : (packet : Packet) → LogEntry
  Made : (packet : Packet) → (given : Given) → LogEntry

abbrev pub packet_of : LogEntry → Packet
packet_of (Joined p) = p
packet_of (Took p) = p
packet_of (Made p t) = p

abbrev pub header_of : LogEntry → Message
header_of e = (packet_of e).header

-- the newest entry first
abbrev pub Log : Type 0
Log = List LogEntry

-- the history below an entry's message: for a welcome the rows that it brings
abbrev pub rows_of : LogEntry → History → History
rows_of (Joined p) h = p.rows
rows_of (Took p) h = h
rows_of (Made p t) h = h

-- the history of a log
abbrev pub hist : Log → History
hist [] = []
hist (e ∷ l) = header_of e ∷ rows_of e (hist l)
