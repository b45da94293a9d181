use Rattle.ntru_codec.proofs.Pairs.{Apart}
use Rattle.ntru_codec.proofs.rows.decode_pairs.Given as goal

abbrev pub invariant-loop-i : goal.invariant-loop-i
invariant-loop-i l = Apart l.low l.high l.each l.i l.bytes l.left l.digits l.whole
