use Rattle.std.proofs.Common.{◌≡◌, map, take}
use Rattle.ntru_codec.proofs.plain.plain_mixed.Given as goal

abbrev pub invariant-loop-value : goal.invariant-loop-value
invariant-loop-value l = l.row.items ≡ map (λ r. (r, l.modulus)) (take l.value-index l.digits)
