use Rattle.std.proofs.Common.{◌≡◌, length, ap, ◌∙◌, ◌++◌, arith}
use Rattle.std.specs.Int.{w16, to_be_bytes}
use Rattle.lms_ots.proofs.Parts.{two_parts}
use Rattle.lms_ots.proofs.digits.with_checksum.Goals as goal

pub returns : goal.returns
returns c =
    let two : length c.to_be_bytes.result ≡ 2 = ap length c.to_be_bytes.ensures in
    two_parts c.args.hash.now c.to_be_bytes.result _ c.put.new.into c.put-2.new.into 32
    (omega arith) (omega arith) c.put.ensures c.put-2.ensures
    ∙ ap (λ b. c.args.hash.now ++ b) (c.to_be_bytes.ensures ∙ ap (to_be_bytes w16) c.checksum.ensures)
