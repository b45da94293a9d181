use Rattle.std.proofs.Common.{◌≡◌}
use Rattle.hkdf_seal.proofs.Xors.{xored}
use Rattle.hkdf_seal.proofs.sealing.xor_at.Given as goal

abbrev pub invariant-bytes : goal.invariant-bytes
invariant-bytes l = l.text ≡ xored l.initial.text l.key l.at l.i
