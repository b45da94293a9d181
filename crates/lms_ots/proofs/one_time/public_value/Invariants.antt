use Rattle.std.proofs.Common.{◌++◌}
use Rattle.sha2.specs.Hashers.{Holds256}
use Rattle.lms_ots.specs.OneTime.{chain_end, joined, prefix}
use Rattle.lms_ots.proofs.one_time.public_value.Given as goal

abbrev pub invariant-chains : goal.invariant-chains
invariant-chains l = Holds256 l.hasher (prefix l.identifier l.q 0x8080 ++ joined (chain_end l.identifier l.q l.seed) l.i)
