use Rattle.std.proofs.Common.{◌≡◌, ℕ, List, ◌-◌, length, ap, ◌∙◌, sym, arith}
use Rattle.sha2.specs.Sha256.{sha256}
use Rattle.sha2.proofs.Facts256.{length-sha256}
use Rattle.lms_ots.specs.OneTime.{chain}
use Rattle.lms_ots.proofs.Parts.{hashed_step, input_begun, input_step}
use Rattle.lms_ots.proofs.Steps.{chain_none, chain_step}
use Rattle.lms_ots.proofs.chains.chain.Goals as goal

pub steps-init : goal.steps-init
steps-init c =
    let start : List ℕ = c.args.start.now in
    let value : List ℕ = c.args.value.now in
    let begun = input_begun start value c.step_input-input.result c.args.first c.told-start c.told-value c.step_input-input.ensures in
    let none : c.args.first - c.args.first ≡ 0 = omega arith in
    (begun.0, begun.1, begun.2, sym (ap (λ n. chain start c.args.first n value) none ∙ chain_none start value c.args.first))

pub steps-preserved : goal.steps-preserved
steps-preserved c =
    let start : List ℕ = c.args.start.now in
    let input : List ℕ = c.steps.input in
    let step : ℕ = c.steps.step in
    let invariant = c.steps.invariant in
    let wide : length c.digest-value.result ≡ 32 = ap length c.digest-value.ensures ∙ length-sha256 c.as_slice.result.now in
    let next = input_step start input c.digest-value.result c.put.new.into step invariant.0 wide invariant.1 c.put.ensures in
    let hashed = c.digest-value.ensures
    ∙ (ap sha256 (c.as_slice.ensures ∙ hashed_step start c.steps.value input step invariant.0 invariant.1 invariant.2)
    ∙ chain_step start c.args.value.now c.steps.value c.args.first step c.steps.auto.step invariant.3) in
    (next.0, next.1, next.2, hashed)
