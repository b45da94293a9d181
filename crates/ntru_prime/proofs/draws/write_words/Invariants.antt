use Rattle.std.proofs.Common.{◌≡◌, ◌*◌, take, flat_map}
use Rattle.byteorder.specs.Endian.{little_bytes}
use Rattle.ntru_prime.proofs.draws.write_words.Given as goal

abbrev pub invariant-loop-i : goal.invariant-loop-i
invariant-loop-i l = take (4 * l.i) l.into ≡ flat_map (λ word. little_bytes 4 word) (take l.i l.words)
