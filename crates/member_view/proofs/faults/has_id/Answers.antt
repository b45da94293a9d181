use Rattle.std.proofs.Common.{subst, sym, refl, inl, inr}
use Rattle.group_messages.specs.Messages.{ids_of}
use Rattle.group_model.specs.Sets.{In}
use Rattle.group_model.proofs.Places.{place-in}
use Rattle.member_view.proofs.Crowds.{id-at, next-cases}
use Rattle.member_view.proofs.faults.has_id.Goals as goal

pub returns-then-is_same : goal.returns-then-is_same
returns-then-is_same c = (
  λ t. subst (λ z. In z (ids_of c.args.ids.now)) (c.is_same.ensures.0 c.if-is_same.true)
      (place-in (ids_of c.args.ids.now) c.loop-index.index c.id.result.0 (id-at c.args.ids.now c.loop-index.index c.id.result c.id.ensures)),
  λ i. refl,
)

pub loop-index-preserved : goal.loop-index-preserved
loop-index-preserved c = λ i. elim (next-cases (ids_of c.args.ids.now) c.loop-index.index c.id.result.0
    (id-at c.args.ids.now c.loop-index.index c.id.result c.id.ensures) i) [
      | inl e ↦ let y = c.is_same.ensures.1 (sym e) in let n = c.if-is_same.false in cc
      | inr j ↦ c.loop-index.invariant j
    ]
