use Rattle.std.proofs.Common.{◌≡◌, List, ℕ, IsTrue, ◌==◌, ◌&&◌, ◌||◌, Some, sym, ◌∙◌, ap, subst}
use Rattle.std.proofs.lemmas.Result.{IfOk-weaker}
use Rattle.std.specs.Prelude.{IfOk}
use Rattle.group_fields.specs.Cards.{key_size, spelling}
use Rattle.group_fields.specs.declared.card.Card.{Card}
use Rattle.lms_sign.specs.Trees.{lms_public}
use Rattle.member_identity.specs.Identity.{Origin, card_bytes, card_with, signing_tree}
use Rattle.member_identity.proofs.Spelled.{bytes_of_card, has_key_size, has_spelling, is_known_set, secret_is}
use Rattle.member_identity.proofs.identity.Identity.card_with.Goals as goal

pub write_card-requires : goal.write_card-requires
write_card-requires g c =
    let card : Card = record { set = c.SET.result; lms_public = c.public.result; inviter = c.self.inside.inviter; kem_public = c.in_ok-kem_public.field-0 } in
    let set : c.SET.result ≡ g.K.Kem.SET = c.SET.ensures in
    let tree = signing_tree c.args.height c.args.self.now.random in
    has_spelling card c.args.height tree.id tree.seed
    (subst (λ (s : ℕ). IsTrue ((s == 1) || (s == 2))) (sym set) (is_known_set g.K.Kem.SET g.K.Kem.PUBLIC_LEN g.K.Kem.SECRET_LEN g.K.Kem.CIPHER_LEN g.K.Kem.has_set_lengths))
    (subst (λ (s : ℕ). IsTrue ((c.args.height == 10) || ((s == 2) && (c.args.height == 5)))) (sym set) c.requires.height.is_height)
    (c.public.ensures ∙ ap lms_public c.requires.tree) (c.in_ok-kem_public.ensures.size ∙ has_key_size g.K.Kem.SET g.K.Kem.PUBLIC_LEN g.K.Kem.SECRET_LEN g.K.Kem.CIPHER_LEN g.K.Kem.has_set_lengths ∙ ap key_size (sym set))

pub returns-clause-bytes : goal.returns-clause-bytes
returns-clause-bytes g c =
    let card : Card = record { set = c.SET.result; lms_public = c.public.result; inviter = c.self.inside.inviter; kem_public = c.in_ok-kem_public.field-0 } in
    let origin : Origin = record { inviter = c.self.inside.inviter.0.0; random = c.self.inside.random } in
    let secret = g.K.Kem.secret_key c.self.inside.pair in
    let tree : c.public.result ≡ lms_public (signing_tree c.args.height origin.random) =
    c.public.ensures ∙ ap lms_public (c.requires.tree ∙ ap (λ (o : Origin). signing_tree c.args.height o.random) (sym c.self.view_is)) in
    let same : card ≡ card_with g.K.Kem c.args.height origin secret =
    λ i. record { set = c.SET.ensures i; lms_public = tree i; inviter = c.self.inside.inviter; kem_public = c.in_ok-kem_public.ensures.key i } in
    subst (λ (o : Origin). IfOk c.write_card.result (λ bytes. card_bytes g.K.Kem c.args.height o ≡ Some bytes)) c.self.view_is
    (IfOk-weaker c.write_card.result (λ (bytes : List ℕ). bytes ≡ spelling card) (λ (bytes : List ℕ). card_bytes g.K.Kem c.args.height origin ≡ Some bytes)
    (bytes_of_card g.K.Kem c.args.height origin secret card (secret_is g.K.Kem origin.random secret c.self.invariant) same) c.write_card.ensures.whole)
