use Rattle.std.proofs.Common.{◌≡◌}
use Rattle.lms_sign.specs.Signatures.{climbed}
use Rattle.lms_sign.proofs.nodes.climbed.Given as goal

abbrev pub invariant-levels : goal.invariant-levels
invariant-levels l = l.node ≡ climbed l.identifier l.number l.fn.leaf l.path l.level
