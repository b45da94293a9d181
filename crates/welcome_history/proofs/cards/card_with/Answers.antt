use Rattle.std.proofs.Common.{◌≡◌, ◌<◌, false, true, length, refl, sym, ◌∙◌, arith}
use Rattle.group_fields.specs.Cards.{card_id}
use Rattle.causal_history.proofs.ListMore.{get-there}
use Rattle.welcome_history.proofs.CardsFor.{among-here, among-next, own-id}
use Rattle.welcome_history.proofs.cards.card_with.Goals as goal

pub returns-then-is_same : goal.returns-then-is_same
returns-then-is_same c =
    let cards = c.args.welcome.now.cards in
    let at = c.loop-index.index in
    sym (among-here cards at c.card.result c.args.id.now.0.0 c.card.ensures
    (sym (own-id cards c.args.ids.now at c.card.result _ c.requires c.card.ensures) ∙ c.if-is_same.ensures.0 refl))
    ∙ c.loop-index.invariant

pub loop-index-preserved : goal.loop-index-preserved
loop-index-preserved c =
    let cards = c.args.welcome.now.cards in
    let at = c.loop-index.index in
    let low : at < length cards = omega (arith, c.loop-index-test.true, c.cards-index-end.ensures) in
    let there = get-there cards at low in
    let other : card_id there.0 ≡ c.args.id.now.0.0 → ⊥ = λ e.
    let found : false ≡ true = c.if-is_same.ensures.1 (own-id cards c.args.ids.now at there.0 _ c.requires there.1 ∙ e) in
    absurd cc in
    sym (among-next cards at there.0 c.args.id.now.0.0 there.1 other) ∙ c.loop-index.invariant
