use Rattle.std.proofs.Common.{length}
use Rattle.group_ops.proofs.making.+append_cards.Given as goal

abbrev pub decreases-append_cards : goal.decreases-append_cards
decreases-append_cards l = length l.cards.now
