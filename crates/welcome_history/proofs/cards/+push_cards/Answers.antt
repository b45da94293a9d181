use Rattle.std.proofs.Common.{◌+◌, ◌++◌, drop, ◌∙◌, ap}
use Rattle.std.proofs.lemmas.Result.{on_ok_weaker}
use Rattle.group_messages.specs.Messages.{ids_of}
use Rattle.welcome_history.specs.Welcomes.{cards_for}
use Rattle.welcome_history.proofs.CardsFor.{for-next}
use Rattle.welcome_history.proofs.cards.+push_cards.Goals as goal

pub returns : goal.returns
returns t c =
    let cards = c.args.welcome.now.cards in
    let named = c.args.named.now in
    on_ok_weaker c.push_cards.result (λ e.
    e
    ∙ ap (λ z. z ++ cards_for cards (ids_of (drop (c.args.index + 1) named))) c.in_ok-push_card.ensures
    ∙ for-next cards c.args.cards.now named c.args.index c.id.result c.id.ensures) c.push_cards.ensures
