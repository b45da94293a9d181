use Rattle.std.proofs.Common.{inl, inr, sym, ◌∙◌, ap, arith}
use Rattle.member_view.proofs.Oldest.{rows-length}
use Rattle.reference_member.specs.declared.refusal.Refusal.TheVariants as refusals
use Rattle.member_checks.proofs.SeatFacts.{length-is, made-is, leaves-are}
use Rattle.member_checks.proofs.Below.{below-is, below-not}
use Rattle.member_checks.proofs.standing.room_refusal.Goals as goal

pub returns-then-count-ge-MESSAGES : goal.returns-then-count-ge-MESSAGES
returns-then-count-ge-MESSAGES g c = λ M is.
    let full = length-is g.K.Kem M c.args.seat.now is ∙ rows-length c.args.seat.now.history.now ∙ sym c.count-count.ensures.count in
    inl ((λ low. absurd (omega (arith, full))), ap refusals.HistoryFull (sym full))

pub returns-then-has_leaf : goal.returns-then-has_leaf
returns-then-has_leaf g c = λ M is.
    let full = length-is g.K.Kem M c.args.seat.now is ∙ rows-length c.args.seat.now.history.now ∙ sym c.count-count.ensures.count in
    let made = made-is g.K.Kem M c.args.seat.now is in
    let leaves = leaves-are g.K.Kem M c.args.seat.now is in
    (omega (arith, full), (below-is _ _ _ _ made leaves (sym c.has_leaf.ensures ∙ c.if-has_leaf.true), tt))

pub returns-else-has_leaf : goal.returns-else-has_leaf
returns-else-has_leaf g c = λ M is.
    let full = length-is g.K.Kem M c.args.seat.now is ∙ rows-length c.args.seat.now.history.now ∙ sym c.count-count.ensures.count in
    let made = made-is g.K.Kem M c.args.seat.now is in
    let leaves = leaves-are g.K.Kem M c.args.seat.now is in
    inr (
      omega (arith, full),
      inl (
        below-not _ _ _ _ made leaves (sym c.has_leaf.ensures ∙ c.if-has_leaf.false),
        ap refusals.KeysSpent (c.count_of_sender.ensures ∙ sym made),
      ),
    )
