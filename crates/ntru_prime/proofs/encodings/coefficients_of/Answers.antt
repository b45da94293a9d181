use Rattle.std.proofs.Common.{◌/◌, ◌<◌, pos, ◌-ℤ◌, arith, rules, ◌∙◌, SFits, w16}
use Rattle.std.proofs.lemmas.Int.{to_z-of_z}
use Rattle.std.proofs.lemmas.List.Elements.{All-get_or}
use Rattle.ntru_prime.proofs.Loops.{map_step, map_end}
use Rattle.ntru_prime.proofs.encodings.coefficients_of.Goals as goal

pub coefficient-requires-clause-below : goal.coefficient-requires-clause-below
coefficient-requires-clause-below c = All-get_or (λ r. r < c.args.q) c.args.digits.now c.loop-i.i 0 (omega arith) c.requires.below

pub loop-i-preserved : goal.loop-i-preserved
loop-i-preserved c =
    let fits : SFits w16 c.coefficient.result = search rules in
    map_step (λ r. pos r -ℤ pos (c.args.q / 2)) c.args.digits.now c.loop-i.into c.loop-i.i 0 _ (omega arith) (omega arith) c.loop-i.invariant (to_z-of_z w16 c.coefficient.result fits ∙ c.coefficient.ensures)

pub returns : goal.returns
returns c = map_end (λ r. pos r -ℤ pos (c.args.q / 2)) c.args.digits.now c.loop-i.into c.loop-i.i (omega arith) (omega arith) c.loop-i.invariant
