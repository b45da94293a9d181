use Rattle.std.proofs.Common.{◌++◌}
use Rattle.sha2.specs.Hashers.{Holds256}
use Rattle.lms_ots.specs.OneTime.{completed_element, element_at, hashed_message, joined, prefix}
use Rattle.lms_ots.proofs.one_time.candidate_of.Given as goal

abbrev pub invariant-chains : goal.invariant-chains
invariant-chains l =
    Holds256 l.hasher
    (prefix l.identifier l.q 0x8080
    ++ joined (completed_element l.identifier l.q l.signature (hashed_message l.identifier l.q (element_at l.signature 4) l.fn.message)) l.i)
