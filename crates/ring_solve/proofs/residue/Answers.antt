use Rattle.ring_solve.proofs.Deciding.{residue_congruent}
use Rattle.ring_solve.proofs.residue.Goals as goal

pub returns-clause-congruent : goal.returns-clause-congruent
returns-clause-congruent c = residue_congruent c.args.m c.args.value c.requires.small c.requires.some c.requires.within
