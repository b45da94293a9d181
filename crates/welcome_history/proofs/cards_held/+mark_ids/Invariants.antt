use Rattle.std.proofs.Common.{◌-◌, length}
use Rattle.welcome_history.proofs.cards_held.+mark_ids.Given as goal

abbrev pub decreases-mark_ids : goal.decreases-mark_ids
decreases-mark_ids l = length l.named.now - l.index
