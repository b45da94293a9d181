use Rattle.std.proofs.Common.{length}
use Rattle.group_fields.proofs.writers.+append_ids_above.Given as goal

abbrev pub decreases-append_ids_above : goal.decreases-append_ids_above
decreases-append_ids_above l = length l.ids.now
