use Rattle.std.proofs.Common.{◌≡◌, ◌/◌, ◌^◌, take}
use Rattle.ntru_codec.specs.Rows.{low_bytes}
use Rattle.ntru_codec.proofs.digit.give_off.Given as goal

abbrev pub invariant-loop-byte : goal.invariant-loop-byte
invariant-loop-byte l =
    (take l.byte-index l.into ≡ low_bytes l.byte-index l.value) × (l.left ≡ l.value / 256 ^ l.byte-index)
