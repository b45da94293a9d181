use Rattle.std.proofs.Common.{◌≡◌, false, true, inl, inr, refl, sym, ◌∙◌, subst}
use Rattle.group_messages.specs.Messages.{ids_of}
use Rattle.group_model.specs.Sets.{In}
use Rattle.group_model.proofs.Places.{place-in}
use Rattle.member_view.proofs.Crowds.{id-at, next-cases}
use Rattle.welcome_history.proofs.invitation.has.Goals as goal

pub returns-then-is_same : goal.returns-then-is_same
returns-then-is_same c =
    let ids = c.args.ids.now in
    let at = c.loop-index.index in (
      λ t. subst (λ z. In z (ids_of ids)) (c.is_same.ensures.0 c.if-is_same.true)
          (place-in (ids_of ids) at c.id.result.0 (id-at ids at c.id.result c.id.ensures)),
      λ i. refl,
    )

pub loop-index-preserved : goal.loop-index-preserved
loop-index-preserved c = λ i.
    let ids = c.args.ids.now in
    let at = c.loop-index.index in
    elim (next-cases (ids_of ids) at c.id.result.0 (id-at ids at c.id.result c.id.ensures) i) [
      | inl e ↦ (let found : false ≡ true = sym c.if-is_same.false ∙ c.is_same.ensures.1 (sym e) in absurd cc)
      | inr j ↦ c.loop-index.invariant j
    ]
