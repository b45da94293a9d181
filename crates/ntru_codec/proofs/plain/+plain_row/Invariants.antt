use Rattle.std.proofs.Common.{length}
use Rattle.ntru_codec.proofs.plain.+plain_row.Given as goal

abbrev pub decreases-plain_row : goal.decreases-plain_row
decreases-plain_row l = length l.row.now
