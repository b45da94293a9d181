use Rattle.std.proofs.Common.{◌≡◌, ◌%◌, take, map}
use Rattle.ntru_codec.specs.Small.{coefficient_of}
use Rattle.ntru_prime.proofs.draws.short_of.Given as goal

abbrev pub invariant-loop-i : goal.invariant-loop-i
invariant-loop-i l = take l.i l.into ≡ map (λ word. coefficient_of (word % 4)) (take l.i l.words)
