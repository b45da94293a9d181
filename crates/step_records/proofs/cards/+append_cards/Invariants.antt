use Rattle.std.proofs.Common.{length}
use Rattle.step_records.proofs.cards.+append_cards.Given as goal

abbrev pub decreases-append_cards : goal.decreases-append_cards
decreases-append_cards l = length l.cards.now
