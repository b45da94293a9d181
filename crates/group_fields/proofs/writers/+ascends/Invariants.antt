use Rattle.std.proofs.Common.{length}
use Rattle.group_fields.proofs.writers.+ascends.Given as goal

abbrev pub decreases-ascends : goal.decreases-ascends
decreases-ascends l = length l.ids.now
