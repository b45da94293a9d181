use Rattle.std.proofs.Common.{◌≡◌, false, true, inl, inr, sym, ◌∙◌}
use Rattle.group_model.specs.Membership.{ids_named}
use Rattle.causal_history.specs.Rows.{history_of}
use Rattle.member_checks.specs.Facts.{IsKnown}
use Rattle.member_checks.proofs.Finding.{none-all, none-next}
use Rattle.member_checks.proofs.cards.first_known.Goals as goal

pub loop-index-preserved : goal.loop-index-preserved
loop-index-preserved c =
    none-next c.args.cards.now (IsKnown (ids_named (history_of c.args.history.now)) c.args.cards.now) c.loop-index.index
    c.card_at.result c.card_at.ensures
    (λ k. elim k [
      | inl i ↦ (let found : false ≡ true = sym c.if-is_named.false ∙ c.is_named.ensures.1 i in absurd cc)
      | inr t ↦ (let found : false ≡ true = sym c.if-is_twice.false ∙ c.is_twice.ensures.1 t in absurd cc)
    ])
    c.loop-index.invariant

pub returns : goal.returns
returns c = none-all c.args.cards.now (IsKnown (ids_named (history_of c.args.history.now)) c.args.cards.now)
    c.loop-index.index c.loop-index-test.false c.loop-index.invariant
