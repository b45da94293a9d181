use Rattle.std.proofs.Common.{◌≡◌, ◌*◌, take}
use Rattle.ntru_codec.proofs.Codes.{fields}
use Rattle.ntru_codec.proofs.small.unpack.Given as goal

abbrev pub invariant-loop-i : goal.invariant-loop-i
invariant-loop-i l = take (4 * l.i) l.into ≡ fields (take l.i l.bytes)
