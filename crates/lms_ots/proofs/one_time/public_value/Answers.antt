use Rattle.std.proofs.Common.{◌≡◌, ℕ, List, ◌++◌, ◌∙◌, ap, arith}
use Rattle.sha2.specs.Sha256.{sha256}
use Rattle.lms_ots.specs.OneTime.{chain_end, joined, one_time_public, prefix}
use Rattle.lms_ots.proofs.Steps.{held_begun, held_more}
use Rattle.lms_ots.proofs.one_time.public_value.Goals as goal

pub chains-init : goal.chains-init
chains-init c =
    held_begun c.update.new.self (prefix c.args.identifier.now c.args.q 0x8080) c.prefix.result (chain_end c.args.identifier.now c.args.q c.args.seed.now)
    (c.update.ensures _ c.new-hasher.ensures) c.prefix.ensures

pub chains-preserved : goal.chains-preserved
unfolding chain_end
chains-preserved c =
    let front : List ℕ = prefix c.args.identifier.now c.args.q 0x8080 in
    let ends : ℕ → List ℕ = chain_end c.args.identifier.now c.args.q c.args.seed.now in
    held_more c.update-in-chains.new.self front c.chain_from_secret.result ends c.chains.i
    (c.update-in-chains.ensures (front ++ joined ends c.chains.i) c.chains.invariant) c.chain_from_secret.ensures

pub returns : goal.returns
unfolding one_time_public
returns c =
    let front : List ℕ = prefix c.args.identifier.now c.args.q 0x8080 in
    let ends : ℕ → List ℕ = chain_end c.args.identifier.now c.args.q c.args.seed.now in
    let all : c.chains.i ≡ 67 = omega arith in
    c.finalize.ensures (front ++ joined ends c.chains.i) c.chains.invariant ∙ ap (λ n. sha256 (front ++ joined ends n)) all
