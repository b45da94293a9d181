use Rattle.std.proofs.Common.{◌≡◌, ◌*◌, ◌+◌, arith, ap, sym, ◌∙◌, length, drop, flat_map}
use Rattle.std.proofs.lemmas.List.{take_all}
use Rattle.byteorder.specs.Endian.{little_bytes}
use Rattle.ntru_prime.proofs.Loops.{bytes_step}
use Rattle.ntru_prime.proofs.draws.write_words.Goals as goal

pub loop-i-preserved : goal.loop-i-preserved
loop-i-preserved c =
    let len : length c.bytes_of.result ≡ 4 = ap length c.bytes_of.ensures in
    rw c.put.ensures (bytes_step (λ word. little_bytes 4 word) c.args.words.now c.loop-i.into c.bytes_of.result (drop (4 * c.loop-i.i + 4) c.loop-i.into) c.loop-i.i (omega arith) len (omega arith) c.loop-i.invariant c.bytes_of.ensures)

pub returns : goal.returns
returns c =
    sym (take_all (4 * c.loop-i.i) c.loop-i.into (omega arith)) ∙ c.loop-i.invariant
    ∙ ap (flat_map (λ word. little_bytes 4 word)) (take_all c.loop-i.i c.args.words.now (omega arith))
