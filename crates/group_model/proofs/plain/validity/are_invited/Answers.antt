use Rattle.std.proofs.Common.{refl}
use Rattle.group_model.specs.Sets.{Id}
use Rattle.group_model.specs.Validity.{IsInvited}
use Rattle.group_model.specs.Plain.{inviter_in}
use Rattle.group_model.proofs.Rows.{all-more_ids, id-in, ids-end}
use Rattle.group_model.proofs.plain.validity.are_invited.Goals as goal

pub returns-then-not-is_invited : goal.returns-then-not-is_invited
returns-then-not-is_invited c = (
  λ h. cc,
  λ f. absurd (let t = c.is_invited.ensures.1 (f _ (id-in c.args.ids.now c.loop-id.id-index _ c.loop-id-test.true)) in
      let g = c.if-not-is_invited.true in cc),
)

pub loop-id-preserved : goal.loop-id-preserved
loop-id-preserved c = all-more_ids (λ (y : Id). IsInvited (inviter_in c.args.cards.now) c.args.sender.now y)
    c.args.ids.now c.loop-id.id-index _ c.loop-id-test.true c.loop-id.invariant
    (c.is_invited.ensures.0 c.if-not-is_invited.false)

pub returns : goal.returns
returns c = (
  λ h y k. c.loop-id.invariant y (ids-end c.args.ids.now c.loop-id.id-index c.loop-id-test.false k),
  λ f. refl,
)
