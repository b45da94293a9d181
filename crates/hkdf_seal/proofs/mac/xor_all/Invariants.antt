use Rattle.std.proofs.Common.{◌≡◌, ◌++◌, map, take, drop, bit_xor}
use Rattle.hkdf_seal.proofs.mac.xor_all.Given as goal

abbrev pub invariant-bytes : goal.invariant-bytes
invariant-bytes l = l.block ≡ map (λ byte. bit_xor byte l.pad) (take l.i l.initial.block) ++ drop l.i l.initial.block
