use Rattle.std.proofs.Common.{◌≡◌, ℕ, ◌-◌, ◌*◌, ap, ◌∙◌, sym, arith}
use Rattle.lms_ots.specs.OneTime.{checksum, coef, total}
use Rattle.lms_ots.proofs.Steps.{total_next, total_none}
use Rattle.lms_ots.proofs.digits.checksum.Goals as goal

pub digits-init : goal.digits-init
digits-init c = (sym (total_none (λ i. 15 - coef c.args.hash.now i)), omega arith)

pub digits-preserved : goal.digits-preserved
digits-preserved c =
    let f : ℕ → ℕ = λ i. 15 - coef c.args.hash.now i in
    let sum : c.digits.sum ≡ total f c.digits.i = c.digits.invariant.0 in
    let here : c.from-sum.result ≡ f c.digits.i = c.from-sum.ensures ∙ ap (λ d. 15 - d) c.coef.ensures.value in
    (omega (arith, sum, here, total_next f c.digits.i), omega (arith, c.digits.invariant.1, c.coef.ensures.small, c.from-sum.ensures))

pub returns : goal.returns
unfolding checksum
returns c =
    let f : ℕ → ℕ = λ i. 15 - coef c.args.hash.now i in
    let all : c.digits.i ≡ 64 = omega arith in
    ap (λ n. n * 16) (c.digits.invariant.0 ∙ ap (total f) all)
