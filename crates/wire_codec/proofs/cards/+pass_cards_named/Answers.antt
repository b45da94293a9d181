use Rattle.std.proofs.lemmas.Result.{err_from_is_err_and}
use Rattle.wire_codec.proofs.CardBytes.{named_more, named_none, named_stop}
use Rattle.wire_codec.proofs.cards.+pass_cards_named.Goals as goal

pub returns-then-index-count : goal.returns-then-index-count
returns-then-index-count t c =
    named_none c.args.set c.args.index c.args.ids.now c.args.cursor.now (let a = c.if-index-count.true in let b = c.count.ensures in cc) c.requires.within.within

pub returns-in_err-take_card_named : goal.returns-in_err-take_card_named
returns-in_err-take_card_named t c =
    let p = err_from_is_err_and c.from_residual.result c.from_residual.ensures.1 in
    rw (p.1, p.2) (named_stop (λ card. card) c.args.set c.args.index c.args.ids.now c.id-id.result c.id-id.ensures c.in_err-take_card_named.ensures)

pub returns : goal.returns
returns t c =
    named_more (λ card. card) c.args.set c.args.index c.args.ids.now c.id-id.result c.id-id.ensures c.in_ok-take_card_named.field-0 c.pass_cards_named.result c.in_ok-take_card_named.ensures c.pass_cards_named.ensures
