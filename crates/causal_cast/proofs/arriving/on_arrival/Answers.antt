use Rattle.std.proofs.Common.{◌≡◌, Some, inl, inr, refl, sym, ◌∙◌, ap, subst}
use Rattle.group_fields.specs.Headers.{message_id}
use Rattle.group_fields.specs.declared.header.Header.{Header}
use Rattle.group_model.specs.Messages.{Stands}
use Rattle.causal_history.specs.Rows.{history_of}
use Rattle.causal_cast.specs.Judging.{group_of}
use Rattle.causal_cast.proofs.Found.{found-stands}
use Rattle.causal_cast.proofs.arriving.on_arrival.Goals as goal

-- the row that was found has the id
pub returns-then-is_some : goal.returns-then-is_some
returns-then-is_some g c = λ x leaf_left at.
    let h = history_of c.args.history.now in
    let is = sym c.is_some.ensures ∙ c.if-is_some.true in
    let found = found-stands h c.id.result.0.0 c.find.result c.find.ensures.number is in
    let id = c.id.ensures ∙ ap (λ (header : Header). message_id header) c.header-header.ensures in
    inr (
      (c.if-not-is_member.ensures x at).0 refl,
      inr (
        subst (λ (z : Header). (z.set ≡ g.K.Kem.SET) × (Some z.group.0.0 ≡ group_of c.args.history.now))
            c.header-header.ensures (c.if-not-is_of_group.ensures.0 refl),
        inl (subst (λ z. Stands h z) id found, refl),
      ),
    )
