use Rattle.std.proofs.Common.{arith, ◌∙◌, append_assoc, [], ◌∷◌}
use Rattle.lms_ots.proofs.Parts.{three_parts}
use Rattle.lms_ots.proofs.input.step_input.Goals as goal

pub returns : goal.returns
returns c =
    three_parts c.args.start.now (c.args.byte ∷ []) c.args.value.now _ c.put.new.into c.put-2.new.into c.put-3.new.into 22 23
    (omega arith) (omega arith) (omega arith) c.put.ensures c.put-2.ensures c.put-3.ensures ∙ append_assoc c.args.start.now (c.args.byte ∷ []) c.args.value.now
