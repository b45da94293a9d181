use Rattle.std.proofs.Common.{arith, ◌∙◌, ap}
use Rattle.byteorder.specs.Endian.{little_bytes}
use Rattle.hkdf_seal.proofs.Xors.{streamed_none, streamed_more, streamed_all, word_step}
use Rattle.hkdf_seal.proofs.sealing.xor_stream.Goals as goal

pub words-init : goal.words-init
words-init c = (c.from_seed-words.ensures, streamed_none c.args.key c.args.text.now)

pub words-preserved : goal.words-preserved
words-preserved c =
    let step = word_step c.args.key c.words.i c.next_word.result c.words.words c.next_word.new.self (omega arith) c.words.invariant.0 c.next_word.ensures in (
      step.1,
      streamed_more c.args.key c.args.text.now c.words.text c.xor_at.new.text c.write_u32.new.buf c.words.i (omega arith) c.words.invariant.1
          (c.write_u32.ensures ∙ ap (little_bytes 4) step.0) c.xor_at.ensures,
    )

pub returns : goal.returns
returns c = c.words.invariant.1 ∙ streamed_all c.args.key c.args.text.now c.words.i (omega arith)
