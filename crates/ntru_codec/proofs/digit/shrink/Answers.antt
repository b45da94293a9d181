use Rattle.std.proofs.Common.{ℕ, ◌+◌, sym, subst, arith}
use Rattle.ntru_codec.proofs.Bytes.{Shrinking, Shrinking-start, Shrinking-step, Shrinking-end}
use Rattle.ntru_codec.proofs.digit.shrink.Goals as goal

pub loop-left-init : goal.loop-left-init
loop-left-init c = Shrinking-start c.args.limit c.args.modulus (omega arith)

pub loop-left-preserved : goal.loop-left-preserved
loop-left-preserved c =
    let next = Shrinking-step c.args.limit c.args.modulus c.loop-left.bytes c.loop-left.left (omega arith) (omega arith) c.loop-left.invariant.0 c.loop-left.invariant.1 in
    subst (λ left. (rest : ℕ) × Shrinking c.args.limit c.args.modulus (c.loop-left.bytes + 1) rest left) (sym c.div_ceil-left.ensures) next

pub returns : goal.returns
returns c = Shrinking-end c.args.limit c.args.modulus c.loop-left.bytes c.loop-left.left (omega arith) c.loop-left.invariant.0 c.loop-left.invariant.1
