use Rattle.std.proofs.Common.{◌-◌, length}
use Rattle.wire_codec.proofs.cards.+pass_cards_named.Given as goal

abbrev pub decreases-pass_cards_named : goal.decreases-pass_cards_named
decreases-pass_cards_named l = length l.ids.now - l.index
