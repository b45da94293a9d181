use Rattle.std.proofs.Common.{◌+◌, ap, sym, ℕ}
use Rattle.wire_codec.proofs.RowBytes.{size_is}
use Rattle.wire_codec.proofs.rows.row_size.Goals as goal

pub returns : goal.returns
returns c = ap (λ (n : ℕ). 2 + n) (sym (size_is c.args.bytes.now c.from_be_bytes.result c.requires c.from_be_bytes.ensures))
