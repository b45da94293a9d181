use Rattle.std.proofs.Common.{◌≡◌, ◌*◌, take}
use Rattle.ntru_codec.specs.Small.{small_encoding}
use Rattle.ntru_codec.proofs.small.encode_small.Given as goal

abbrev pub invariant-loop-i : goal.invariant-loop-i
invariant-loop-i l = take l.i l.into ≡ small_encoding (take (4 * l.i) l.a)
