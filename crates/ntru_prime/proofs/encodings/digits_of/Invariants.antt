use Rattle.std.proofs.Common.{◌≡◌, ◌<◌, take, map, All}
use Rattle.ntru_model.specs.Encodings.{digit_of}
use Rattle.ntru_prime.proofs.encodings.digits_of.Given as goal

abbrev pub invariant-loop-i : goal.invariant-loop-i
invariant-loop-i l = record {
  digits : take l.i l.into ≡ map (digit_of l.q) (take l.i l.a);
  below : All (λ r. r < l.q) (take l.i l.into);
}
