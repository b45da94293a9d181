use Rattle.std.proofs.Common.{◌≡◌, ℕ, List, ◌+◌, ◌*◌, ◌++◌, length, take, ◌∙◌, sym, refl, ap, arith}
use Rattle.std.proofs.lemmas.List.{take_all}
use Rattle.std.specs.Int.{w16, w32, to_be_bytes}
use Rattle.lms_ots.specs.OneTime.{candidate_key, checksum, hashed_message, joined, one_time_signature, randomizer, signed_element}
use Rattle.lms_ots.proofs.Parts.{front_more, head_filled}
use Rattle.lms_ots.proofs.Steps.{joined_more, joined_none, signed_is}
use Rattle.lms_ots.proofs.Verifies.{candidate-signed, length-randomizer, length-signed_element}
use Rattle.lms_ots.proofs.one_time.sign_once.Goals as goal

pub chains-init : goal.chains-init
chains-init c =
    let id : List ℕ = c.args.identifier.now in
    let r : List ℕ = randomizer id c.args.q c.args.seed.now in
    let type : List ℕ = to_be_bytes w32 3 in
    let is : c.randomizer-randomizer.result ≡ r = c.randomizer-randomizer.ensures in
    let wide : length c.randomizer-randomizer.result ≡ 32 = ap length is ∙ length-randomizer id c.args.q c.args.seed.now in
    let hash : List ℕ = hashed_message id c.args.q r c.args.message.now in
    head_filled type c.randomizer-randomizer.result c.args.into.now c.put.new.into c.put-2.new.into refl wide c.put.ensures c.put-2.ensures
    ∙ (ap (λ x. type ++ x) is ∙ sym (joined_none (signed_element id c.args.q c.args.seed.now hash) (type ++ r)))

pub chains-preserved : goal.chains-preserved
chains-preserved c =
    let id : List ℕ = c.args.identifier.now in
    let q : ℕ = c.args.q in
    let seed : List ℕ = c.args.seed.now in
    let i : ℕ = c.chains.i in
    let r : List ℕ = randomizer id q seed in
    let hash : List ℕ = hashed_message id q r c.args.message.now in
    let elements : ℕ → List ℕ = signed_element id q seed hash in
    let front : List ℕ = to_be_bytes w32 3 ++ r in
    let is_hash : c.hashed_message.result ≡ hash =
    c.hashed_message.ensures ∙ ap (λ x. hashed_message id q x c.args.message.now) c.randomizer-randomizer.ensures in
    let digits : c.with_checksum-digits.result ≡ hash ++ to_be_bytes w16 (checksum hash) =
    c.with_checksum-digits.ensures ∙ ap (λ h. h ++ to_be_bytes w16 (checksum h)) is_hash in
    let part : c.chain_from_secret-element.result ≡ elements i =
    c.chain_from_secret-element.ensures ∙ signed_is id q seed hash c.with_checksum-digits.result i c.coef-end.result c.coef-end.ensures.value digits in
    let wide : length c.chain_from_secret-element.result ≡ 32 = ap length part ∙ length-signed_element id q seed hash i in
    let place : 36 + 32 * (i + 1) ≡ 36 + 32 * i + 32 = omega arith in
    ap (λ n. take n c.put-in-chains.new.into) place
    ∙ (front_more (front ++ joined elements i) c.chain_from_secret-element.result c.chains.into c.put-in-chains.new.into (36 + 32 * i) wide (omega arith)
    c.chains.invariant c.put-in-chains.ensures
    ∙ joined_more elements front c.chain_from_secret-element.result i part)

-- the whole buffer, after the loop
is_signed : (c : goal.After-chains) → c.chains.into ≡ one_time_signature c.args.identifier.now c.args.q c.args.seed.now c.args.message.now
unfolding one_time_signature
is_signed c =
    let id : List ℕ = c.args.identifier.now in
    let r : List ℕ = randomizer id c.args.q c.args.seed.now in
    let elements : ℕ → List ℕ = signed_element id c.args.q c.args.seed.now (hashed_message id c.args.q r c.args.message.now) in
    let all : c.chains.i ≡ 67 = omega arith in
    let long : length c.chains.into ≡ 2180 = omega arith in
    sym (take_all (36 + 32 * c.chains.i) c.chains.into (omega arith))
    ∙ (c.chains.invariant ∙ ap (λ n. to_be_bytes w32 3 ++ r ++ joined elements n) all)

pub returns-clause-signature : goal.returns-clause-signature
returns-clause-signature c = is_signed c

pub returns-clause-verifies : goal.returns-clause-verifies
returns-clause-verifies c =
    ap (candidate_key c.args.identifier.now c.args.q c.args.message.now) (is_signed c)
    ∙ candidate-signed c.args.identifier.now c.args.q c.args.seed.now c.args.message.now
