use Rattle.std.proofs.Common.{◌≡◌, List, ℕ, Option, sym, ◌∙◌, ap, subst}
use Rattle.group_fields.specs.Cards.{Spells, card_id}
use Rattle.group_fields.proofs.CardBytes.{id_is}
use Rattle.member_checks.specs.declared.facts.CardFacts.{CardFacts}
use Rattle.member_checks.specs.Facts.{fault_of}
use Rattle.member_checks.proofs.facts.facts_of_card.Goals as goal

-- the id is the digest of the spelling
pub returns : goal.returns
returns g c =
    let card = c.args.card.now in
    let id : c.digest.result ≡ card_id card = c.digest.ensures
    ∙ id_is card c.as_slice.result.now (subst (Spells card) (sym c.as_slice.ensures) c.in_ok-bytes.ensures.spells) in
    let fault = c.fault.ensures ∙ ap (λ z. fault_of g.K.Kem card.set z) c.as_slice-2.ensures in
    let facts : Option ℕ → List ℕ → CardFacts = λ f i.
    record { fault = f; id = record { 0 = record { 0 = i } }; inviter = card.inviter } in
    ap (λ f. facts f c.digest.result) fault ∙ ap (facts (fault_of g.K.Kem card.set card.kem_public)) id
