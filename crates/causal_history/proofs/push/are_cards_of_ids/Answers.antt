use Rattle.std.proofs.Common.{◌≡◌, true, false, arith}
use Rattle.group_fields.specs.declared.ids.Digest.{Digest}
use Rattle.group_messages.specs.Messages.{ids_of}
use Rattle.causal_history.proofs.ListMore.{get-item, get-map}
use Rattle.causal_history.proofs.PushTests.{cards-at, cards-next}
use Rattle.causal_history.proofs.push.are_cards_of_ids.Goals as goal

pub returns-then-not-is : goal.returns-then-not-is
returns-then-not-is c = (
  λ t. absurd (let e : false ≡ true = t in cc),
  λ v. absurd (let t : c.in_ok-is.is' ≡ true = c.in_ok-is.ensures.1 (cards-at (ids_of c.args.ids.now) c.args.cards.now c.loop-at.at c.id.result.0
      c.index-cards-at.result (get-map (λ (d : Digest). d.0) c.args.ids.now c.loop-at.at c.id.result c.id.ensures)
      (get-item c.args.cards.now c.loop-at.at c.index-cards-at.result (omega (arith, c.loop-at-test.true, c.if-cards-count.false, c.count-at-end.ensures, c.count.ensures)) c.index-cards-at.is) v) in
      let f = c.if-not-is.true in cc),
)

pub loop-at-preserved : goal.loop-at-preserved
loop-at-preserved c =
    let is = c.in_ok-is.ensures.0 c.if-not-is.false in
    cards-next (ids_of c.args.ids.now) c.args.cards.now c.loop-at.at c.id.result.0 c.index-cards-at.result
    (get-map (λ (d : Digest). d.0) c.args.ids.now c.loop-at.at c.id.result c.id.ensures)
    (get-item c.args.cards.now c.loop-at.at c.index-cards-at.result (omega (arith, c.loop-at-test.true, c.if-cards-count.false, c.count-at-end.ensures, c.count.ensures)) c.index-cards-at.is)
    is.0 is.1 c.loop-at.invariant
