use Rattle.wire_codec.specs.Packets.{row}
use Rattle.wire_codec.proofs.Walks.{IsPassing}
use Rattle.wire_codec.proofs.rows.pass_rows.Given as goal

abbrev pub invariant-loop : goal.invariant-loop
invariant-loop l = IsPassing row l.fn.count l.counter l.fn.cursor l.cursor
