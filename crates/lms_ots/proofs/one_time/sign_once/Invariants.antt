use Rattle.std.proofs.Common.{◌≡◌, ◌+◌, ◌*◌, ◌++◌, take}
use Rattle.std.specs.Int.{w32, to_be_bytes}
use Rattle.lms_ots.specs.OneTime.{hashed_message, joined, randomizer, signed_element}
use Rattle.lms_ots.proofs.one_time.sign_once.Given as goal

abbrev pub invariant-chains : goal.invariant-chains
invariant-chains l =
    let c = randomizer l.identifier l.q l.seed in
    take (36 + 32 * l.i) l.into
    ≡ to_be_bytes w32 3 ++ c ++ joined (signed_element l.identifier l.q l.seed (hashed_message l.identifier l.q c l.fn.message)) l.i
