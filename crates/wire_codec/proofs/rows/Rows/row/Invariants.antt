use Rattle.std.proofs.Common.{◌≡◌, drop}
use Rattle.wire_codec.proofs.rows.Rows.row.Given as goal

abbrev pub invariant-loop : goal.invariant-loop
invariant-loop l = l.rows ≡ drop l.counter l.self
