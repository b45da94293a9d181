use Rattle.std.proofs.Common.{◌≡◌, take}
use Rattle.ntru_codec.proofs.mixed.narrow.Given as goal

abbrev pub invariant-loop-i : goal.invariant-loop-i
invariant-loop-i l = take l.i l.digits ≡ take l.i l.words
