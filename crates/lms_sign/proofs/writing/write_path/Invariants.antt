use Rattle.std.proofs.Common.{◌≡◌, ◌+◌, ◌*◌, ◌++◌, take}
use Rattle.lms_ots.specs.OneTime.{joined}
use Rattle.lms_sign.specs.Nodes.{sibling_at}
use Rattle.lms_sign.proofs.writing.write_path.Given as goal

abbrev pub invariant-path : goal.invariant-path
invariant-path l = take (2188 + 32 * l.level) l.into ≡ take 2188 l.initial.into ++ joined (sibling_at l.nodes l.number) l.level
