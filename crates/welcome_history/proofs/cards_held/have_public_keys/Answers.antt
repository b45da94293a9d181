use Rattle.std.proofs.Common.{◌≡◌, true, false, inl, inr, sym, subst}
use Rattle.group_fields.specs.declared.card.Card.{Card}
use Rattle.causal_history.proofs.ListMore.{get-in}
use Rattle.welcome_history.proofs.CardsHeld.{card-of_set, first-cases}
use Rattle.welcome_history.proofs.cards_held.have_public_keys.Goals as goal

pub has_public_key-requires : goal.has_public_key-requires
has_public_key-requires g c =
    let cards = c.args.welcome.now.cards in
    card-of_set g.K.Kem.SET cards c.requires c.card.result
    (get-in cards c.loop-index.index c.card.result c.card.ensures)

pub returns-then-not-has_public_key : goal.returns-then-not-has_public_key
returns-then-not-has_public_key g c =
    let cards = c.args.welcome.now.cards in (
      λ t. absurd (let e : false ≡ true = t in cc),
      λ all. absurd (
          let e = all c.card.result (get-in cards c.loop-index.index c.card.result c.card.ensures) in
          let same = c.has_public_key.ensures in
          let no = c.if-not-has_public_key.true in
          cc),
    )

pub loop-index-preserved : goal.loop-index-preserved
loop-index-preserved g c = λ card i.
    elim (first-cases c.args.welcome.now.cards c.loop-index.index c.card.result card c.card.ensures i) [
      | inl e ↦ subst (λ (z : Card). g.K.Kem.is_public z.kem_public ≡ true) (sym e)
          (let same = c.has_public_key.ensures in let yes = c.if-not-has_public_key.false in cc)
      | inr j ↦ c.loop-index.invariant card j
    ]
