use Rattle.std.proofs.Common.{length}
use Rattle.ntru_codec.proofs.plain.+plain_round.Given as goal

abbrev pub decreases-plain_round : goal.decreases-plain_round
decreases-plain_round l = length l.row.now
