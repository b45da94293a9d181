use Rattle.std.proofs.Common.{◌≡◌, List, ℕ, [], ◌∷◌, ◌++◌, ◌∙◌, ap, sym, codes}
use Rattle.hkdf_seal.specs.Keys.{extract, hmac}
use Rattle.hkdf_seal.proofs.Blocks.{kdf_is}
use Rattle.hkdf_seal.proofs.hkdf.kdf.Goals as goal

pub returns : goal.returns
returns c =
    let prk : List ℕ = c.extract-prk.result in
    let label : List ℕ = c.args.label.now in
    let id : List ℕ = c.args.id.now in
    let is_prk : prk ≡ extract (codes "dcgka v1") c.args.key.now = c.extract-prk.ensures in
    let after_label = c.update.ensures prk [] c.new-mac.ensures in
    let after_id = c.update-2.ensures prk label after_label in
    let after_one = c.update-3.ensures prk (label ++ id) after_id in
    c.finalize.ensures prk (label ++ id ++ 1 ∷ []) after_one
    ∙ (ap (λ k. hmac k (label ++ id ++ 1 ∷ [])) is_prk ∙ sym (kdf_is c.args.key.now label id))
