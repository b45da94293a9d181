use Rattle.std.proofs.Common.{◌≡◌, ◌+◌, ◌/◌, ◌<◌, take, map, All}
use Rattle.ntru_model.specs.Encodings.{digit_of}
use Rattle.ntru_prime.proofs.encodings.thirds_of.Given as goal

abbrev pub invariant-loop-i : goal.invariant-loop-i
invariant-loop-i l = record {
  digits : take l.i l.into ≡ map (λ c. digit_of l.q c / 3) (take l.i l.a);
  below : All (λ r. r < (l.q + 2) / 3) (take l.i l.into);
}
