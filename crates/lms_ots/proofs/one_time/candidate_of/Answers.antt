use Rattle.std.proofs.Common.{◌≡◌, ℕ, List, ◌++◌, ◌∙◌, ap, arith}
use Rattle.std.specs.Int.{w16, to_be_bytes}
use Rattle.sha2.specs.Sha256.{sha256}
use Rattle.lms_ots.specs.OneTime.{candidate_key, checksum, completed_element, element_at, hashed_message, joined, prefix}
use Rattle.lms_ots.proofs.Steps.{completed_is, held_begun, held_more}
use Rattle.lms_ots.proofs.one_time.candidate_of.Goals as goal

pub chains-init : goal.chains-init
chains-init c =
    let id : List ℕ = c.args.identifier.now in
    let signature : List ℕ = c.args.signature.now in
    let hash : List ℕ = hashed_message id c.args.q (element_at signature 4) c.args.message.now in
    held_begun c.update.new.self (prefix id c.args.q 0x8080) c.prefix.result (completed_element id c.args.q signature hash)
    (c.update.ensures _ c.new-hasher.ensures) c.prefix.ensures

pub chains-preserved : goal.chains-preserved
chains-preserved c =
    let id : List ℕ = c.args.identifier.now in
    let q : ℕ = c.args.q in
    let signature : List ℕ = c.args.signature.now in
    let hash : List ℕ = hashed_message id q (element_at signature 4) c.args.message.now in
    let front : List ℕ = prefix id q 0x8080 in
    let ends : ℕ → List ℕ = completed_element id q signature hash in
    let is_hash : c.hashed_message.result ≡ hash =
    c.hashed_message.ensures ∙ ap (λ r. hashed_message id q r c.args.message.now) c.element_at-randomizer.ensures in
    let digits : c.with_checksum-digits.result ≡ hash ++ to_be_bytes w16 (checksum hash) =
    c.with_checksum-digits.ensures ∙ ap (λ h. h ++ to_be_bytes w16 (checksum h)) is_hash in
    held_more c.update-in-chains.new.self front c.chain.result ends c.chains.i
    (c.update-in-chains.ensures (front ++ joined ends c.chains.i) c.chains.invariant)
    (c.chain.ensures ∙ completed_is id q signature hash c.with_checksum-digits.result c.prefix-start.result c.element_at-element.result c.chains.i c.coef.result
    c.prefix-start.ensures c.element_at-element.ensures c.coef.ensures.value digits)

pub returns : goal.returns
unfolding candidate_key
returns c =
    let id : List ℕ = c.args.identifier.now in
    let signature : List ℕ = c.args.signature.now in
    let hash : List ℕ = hashed_message id c.args.q (element_at signature 4) c.args.message.now in
    let front : List ℕ = prefix id c.args.q 0x8080 in
    let ends : ℕ → List ℕ = completed_element id c.args.q signature hash in
    let all : c.chains.i ≡ 67 = omega arith in
    c.finalize.ensures (front ++ joined ends c.chains.i) c.chains.invariant ∙ ap (λ n. sha256 (front ++ joined ends n)) all
