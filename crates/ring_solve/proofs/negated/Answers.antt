use Rattle.std.proofs.Common.{◌+◌, ◌/◌, arith}
use Rattle.std.proofs.lemmas.Nat.{mod_below}
use Rattle.ring_solve.proofs.Residues.{congruent_by}
use Rattle.ring_solve.proofs.negated.Goals as goal

pub returns-then-rest-eq0-clause-opposite : goal.returns-then-rest-eq0-clause-opposite
returns-then-rest-eq0-clause-opposite c = congruent_by c.args.m _ 0 (c.args.sum / c.args.m) (omega arith)

pub returns-else-rest-eq0-clause-opposite : goal.returns-else-rest-eq0-clause-opposite
returns-else-rest-eq0-clause-opposite c = congruent_by c.args.m _ 0 (c.args.sum / c.args.m + 1) (omega (arith, mod_below c.args.sum c.args.m c.requires))
