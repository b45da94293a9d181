use Rattle.std.proofs.Common.{bytes_eq}
use Rattle.std.proofs.lemmas.Result.{err_from_is_err_and}
use Rattle.group_fields.specs.Cards.{card_id, card_of_sets}
use Rattle.wire_codec.specs.Packets.{card_named}
use Rattle.wire_codec.proofs.Checks.{checked_fault, checked_refused, checked_value}
use Rattle.wire_codec.proofs.cards.take_card_named.Goals as goal

pub returns-in_err-card : goal.returns-in_err-card
unfolding card_named
returns-in_err-card c =
    let p = err_from_is_err_and c.from_residual.result c.from_residual.ensures.1 in
    rw (p.1, p.2) (checked_fault (λ card. card) (card_of_sets c.args.set c.args.set) (λ card. bytes_eq (card_id card) c.args.id.0) c.in_err-card.ensures.takes)

pub returns-then-eq : goal.returns-then-eq
unfolding card_named
returns-then-eq c =
    checked_value (λ card. card) (card_of_sets c.args.set c.args.set) (λ card. bytes_eq (card_id card) c.args.id.0) c.in_ok-card.card c.in_ok-card.ensures.takes
    (let a = c.id.ensures in let e = c.eq.ensures in let t = c.if-eq.true in cc)

pub returns-else-eq : goal.returns-else-eq
unfolding card_named
returns-else-eq c =
    checked_refused (λ card. card) (card_of_sets c.args.set c.args.set) (λ card. bytes_eq (card_id card) c.args.id.0) c.in_ok-card.card c.place-place.result
    c.in_ok-card.ensures.takes (let a = c.id.ensures in let e = c.eq.ensures in let t = c.if-eq.false in cc) c.place-place.ensures.place
