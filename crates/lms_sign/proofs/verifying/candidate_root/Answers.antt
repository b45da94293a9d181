use Rattle.std.proofs.Common.{ℕ, List, Some, ◌+◌, ◌-◌, ◌^◌, length, take, drop, ap, ap₂, ◌∙◌}
use Rattle.std.proofs.lemmas.List.{take_rest}
use Rattle.lms_ots.specs.OneTime.{candidate_key}
use Rattle.lms_sign.specs.Signatures.{candidate_root, climbed}
use Rattle.lms_sign.specs.Trees.{leaf_node}
use Rattle.lms_sign.proofs.verifying.candidate_root.Goals as goal

pub returns : goal.returns
unfolding candidate_root
returns c =
    let signature : List ℕ = c.args.signature.now in
    let ots : List ℕ = take 2180 (drop 4 signature) in
    let id : List ℕ = c.identifier_of-identifier.result in
    let q : ℕ = c.leaf_number-q.result in
    let leaves : ℕ = c.leaves_in.result in
    let path : List ℕ = take (length signature - 2188) (drop 2188 signature) in
    let way : List ℕ → ℕ → ℕ → List ℕ → List ℕ =
    λ i l n p. climbed i (l + n) (leaf_node i (l + n) (candidate_key i n c.args.message.now ots)) p c.args.height in
    ap Some
    (c.climbed.ensures
    ∙ (ap (λ l. climbed id (leaves + q) l path c.args.height) (c.leaf_node-leaf.ensures ∙ ap (leaf_node id (leaves + q)) c.in_ok-key.ensures.key)
    ∙ (ap₂ (λ i l. way i l q path) c.identifier_of-identifier.ensures c.leaves_in.ensures.value
    ∙ ap₂ (way (take 16 (drop 8 c.args.public.now)) (2 ^ c.args.height)) c.leaf_number-q.ensures (take_rest signature 2188))))
