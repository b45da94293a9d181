use Rattle.std.proofs.Common.{◌-◌, length}
use Rattle.welcome_history.proofs.cards.+push_cards.Given as goal

abbrev pub decreases-push_cards : goal.decreases-push_cards
decreases-push_cards l = length l.named.now - l.index
