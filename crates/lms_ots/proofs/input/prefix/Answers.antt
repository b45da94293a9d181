use Rattle.std.proofs.Common.{◌≡◌, length, ap, ap₂, ◌∙◌, ◌++◌, arith}
use Rattle.lms_ots.specs.OneTime.{prefix}
use Rattle.lms_ots.proofs.Parts.{three_parts}
use Rattle.lms_ots.proofs.input.prefix.Goals as goal

pub returns : goal.returns
unfolding prefix
returns c =
    let four : length c.to_be_bytes.result ≡ 4 = ap length c.to_be_bytes.ensures in
    let two : length c.to_be_bytes-2.result ≡ 2 = ap length c.to_be_bytes-2.ensures in
    three_parts c.args.identifier.now c.to_be_bytes.result c.to_be_bytes-2.result _ c.put.new.into c.put-2.new.into c.put-3.new.into 16 20
    (omega arith) (omega arith) (omega arith) c.put.ensures c.put-2.ensures c.put-3.ensures
    ∙ ap₂ (λ a b. c.args.identifier.now ++ a ++ b) c.to_be_bytes.ensures c.to_be_bytes-2.ensures
