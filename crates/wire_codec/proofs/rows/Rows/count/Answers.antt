use Rattle.std.proofs.Common.{sym}
use Rattle.wire_codec.proofs.RowBytes.{counted}
use Rattle.wire_codec.proofs.rows.Rows.count.Goals as goal

pub returns : goal.returns
returns c = sym (counted c.self.inside.count c.self.inside.bytes.now c.args.self.now c.self.view_is c.self.invariant)
