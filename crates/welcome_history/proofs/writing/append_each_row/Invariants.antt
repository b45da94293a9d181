use Rattle.std.proofs.Common.{take}
use Rattle.group_fields.specs.LayoutWrites.{Appends}
use Rattle.wire_codec.specs.Packets.{row}
use Rattle.wire_codec.specs.Repeated.{repeated}
use Rattle.welcome_history.specs.Welcomes.{headers_of}
use Rattle.welcome_history.proofs.writing.append_each_row.Given as goal

-- the headers of the rows so far
abbrev pub invariant-loop-index : goal.invariant-loop-index
invariant-loop-index l = Appends (repeated l.index row) (headers_of (take l.index l.history)) l.initial.into.items l.into.items
