use Rattle.std.proofs.Common.{◌≡◌, ◌+◌, drop}
use Rattle.two_party.specs.Drawn.{place_of}
use Rattle.two_party.proofs.draws.place_of.Given as goal

-- no row before this one is of the member
abbrev pub invariant-loop-i : goal.invariant-loop-i
invariant-loop-i g l = place_of (drop l.i l.rows) l.member.0.0 + l.i ≡ place_of l.rows l.member.0.0
