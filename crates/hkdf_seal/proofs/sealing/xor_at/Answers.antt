use Rattle.std.proofs.Common.{arith, ◌∙◌}
use Rattle.hkdf_seal.proofs.Xors.{xored_none, xored_more, xored_all}
use Rattle.hkdf_seal.proofs.sealing.xor_at.Goals as goal

pub bytes-init : goal.bytes-init
bytes-init c = xored_none c.args.text.now c.args.key.now c.args.at

pub bytes-preserved : goal.bytes-preserved
bytes-preserved c = xored_more c.args.text.now c.args.key.now c.bytes.text c.args.at c.bytes.i (omega arith) (omega arith) c.bytes.invariant

pub returns : goal.returns
returns c = c.bytes.invariant ∙ xored_all c.args.text.now c.args.key.now c.args.at c.bytes.i c.requires c.told-key (omega arith)
