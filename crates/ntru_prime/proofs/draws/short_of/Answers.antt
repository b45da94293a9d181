use Rattle.std.proofs.Common.{◌%◌, arith, rules, ◌∙◌, SFits, w16}
use Rattle.std.proofs.lemmas.Int.{to_z-of_z}
use Rattle.ntru_codec.specs.Small.{coefficient_of}
use Rattle.ntru_prime.proofs.Loops.{map_step, map_end}
use Rattle.ntru_prime.proofs.draws.short_of.Goals as goal

pub loop-i-preserved : goal.loop-i-preserved
loop-i-preserved c =
    let fits : SFits w16 c.coefficient.result = search rules in
    map_step (λ word. coefficient_of (word % 4)) c.args.words.now c.loop-i.into c.loop-i.i 0 _ (omega arith) (omega arith) c.loop-i.invariant (to_z-of_z w16 c.coefficient.result fits ∙ c.coefficient.ensures)

pub returns : goal.returns
returns c = map_end (λ word. coefficient_of (word % 4)) c.args.words.now c.loop-i.into c.loop-i.i (omega arith) (omega arith) c.loop-i.invariant
