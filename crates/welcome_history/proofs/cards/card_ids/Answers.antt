use Rattle.std.proofs.Common.{◌≡◌, ◌+◌, map, take, sym, subst}
use Rattle.group_fields.specs.Cards.{card_id}
use Rattle.group_fields.specs.declared.ids.MemberId.{MemberId}
use Rattle.welcome_history.proofs.CardsFor.{ids-more}
use Rattle.welcome_history.proofs.cards.card_ids.Goals as goal

pub loop-index-preserved : goal.loop-index-preserved
loop-index-preserved c =
    let cards = c.args.welcome.now.cards in
    let at = c.loop-index.index in
    subst (λ z. map (λ (i : MemberId). i.0.0) z ≡ map card_id (take (at + 1) cards)) (sym c.in_ok-push.ensures.items)
    (ids-more cards at c.card.result c.loop-index.ids.items c.id.result c.card.ensures c.id.ensures
    c.loop-index.invariant)
