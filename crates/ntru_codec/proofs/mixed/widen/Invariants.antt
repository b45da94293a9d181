use Rattle.std.proofs.Common.{◌≡◌, take}
use Rattle.ntru_codec.proofs.mixed.widen.Given as goal

abbrev pub invariant-loop-i : goal.invariant-loop-i
invariant-loop-i l = take l.i l.words ≡ take l.i l.digits
