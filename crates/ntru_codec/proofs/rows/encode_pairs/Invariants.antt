use Rattle.std.proofs.Common.{◌≡◌, ◌*◌, take}
use Rattle.ntru_codec.specs.Rows.{low_parts, high_parts}
use Rattle.ntru_codec.proofs.rows.encode_pairs.Given as goal

abbrev pub invariant-loop-i : goal.invariant-loop-i
invariant-loop-i l =
    (take l.i l.left ≡ high_parts l.modulus l.bytes (take (2 * l.i) l.digits))
    × (take (l.bytes * l.i) l.into ≡ low_parts l.modulus l.bytes (take (2 * l.i) l.digits))
