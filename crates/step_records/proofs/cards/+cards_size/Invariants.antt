use Rattle.std.proofs.Common.{length}
use Rattle.step_records.proofs.cards.+cards_size.Given as goal

abbrev pub decreases-cards_size : goal.decreases-cards_size
decreases-cards_size l = length l.cards.now
