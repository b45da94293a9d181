use Rattle.std.proofs.lemmas.Result.{err_from_is_err_and}
use Rattle.group_fields.specs.Cards.{card_id, card_of_sets}
use Rattle.group_fields.specs.Fields.{is_above}
use Rattle.wire_codec.specs.Packets.{card_above}
use Rattle.wire_codec.proofs.Checks.{checked_fault, checked_refused, checked_value}
use Rattle.wire_codec.proofs.cards.take_card_above.Goals as goal

pub returns-in_err-card-clause-takes : goal.returns-in_err-card-clause-takes
unfolding card_above
returns-in_err-card-clause-takes c =
    let p = err_from_is_err_and c.from_residual.result c.from_residual.ensures.1 in
    let one = checked_fault (λ card. card) (card_of_sets c.args.set c.args.set) (λ card. is_above c.args.last (card_id card)) c.in_err-card.ensures.takes in
    rw (p.1, p.2) (record { gives = one.gives; same = one.same; within = one.within })

pub returns-then-is_above-clause-takes : goal.returns-then-is_above-clause-takes
unfolding card_above
returns-then-is_above-clause-takes c =
    let one = checked_value (λ card. card) (card_of_sets c.args.set c.args.set) (λ card. is_above c.args.last (card_id card)) c.in_ok-card.card c.in_ok-card.ensures.takes
    (let a = c.id.ensures in let e = c.is_above.ensures in let t = c.if-is_above.true in cc) in
    record { gives = one.gives; same = one.same; within = one.within }

pub returns-else-is_above-clause-takes : goal.returns-else-is_above-clause-takes
unfolding card_above
returns-else-is_above-clause-takes c =
    let one = checked_refused (λ card. card) (card_of_sets c.args.set c.args.set) (λ card. is_above c.args.last (card_id card)) c.in_ok-card.card c.place-place.result
    c.in_ok-card.ensures.takes (let a = c.id.ensures in let e = c.is_above.ensures in let t = c.if-is_above.false in cc) c.place-place.ensures.place in
    record { gives = one.gives; same = one.same; within = one.within }
