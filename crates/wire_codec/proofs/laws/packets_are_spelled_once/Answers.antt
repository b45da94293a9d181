use Rattle.wire_codec.proofs.Joins.{never_both}
use Rattle.wire_codec.proofs.laws.packets_are_spelled_once.Goals as goal

pub returns-clause-never_both : goal.returns-clause-never_both
returns-clause-never_both c = never_both
