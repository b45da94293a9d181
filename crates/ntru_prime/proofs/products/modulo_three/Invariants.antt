use Rattle.std.proofs.Common.{◌≡◌, take, map}
use Rattle.ntru_model.specs.Residues.{centred}
use Rattle.ntru_prime.proofs.products.modulo_three.Given as goal

abbrev pub invariant-loop-i : goal.invariant-loop-i
invariant-loop-i l = take l.i l.into ≡ map (centred 3) (take l.i l.a)
