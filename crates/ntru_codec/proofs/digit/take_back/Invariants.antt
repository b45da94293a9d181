use Rattle.ntru_codec.proofs.Bytes.{TakesBack}
use Rattle.ntru_codec.proofs.digit.take_back.Given as goal

abbrev pub invariant-loop-i : goal.invariant-loop-i
invariant-loop-i l = TakesBack l.bytes l.left l.i l.value
