use Rattle.std.proofs.Common.{◌∙◌, ap, take, ◌+◌, rules}
use Rattle.hkdf_seal.proofs.Blocks.{put_front}
use Rattle.hkdf_seal.proofs.hkdf.put_block.Goals as goal

pub returns : goal.returns
returns c = ap (take (c.args.at + 32)) c.put.ensures ∙ put_front c.args.into.now c.args.block.now _ c.args.at c.requires c.told-block (search rules)
