use Rattle.std.proofs.Common.{◌≡◌, false, true, inl, inr, sym, subst}
use Rattle.group_messages.specs.Messages.{ids_of}
use Rattle.group_model.specs.Validity.{IsInvited}
use Rattle.group_model.proofs.Places.{place-in}
use Rattle.member_view.proofs.Crowds.{id-at, next-cases}
use Rattle.causal_cast.specs.Judging.{inviter_by}
use Rattle.welcome_history.proofs.row_held.all_invited.Goals as goal

pub returns-then-not-is_invited : goal.returns-then-not-is_invited
returns-then-not-is_invited g c =
    let at = c.loop-index.index in
    let named = c.args.members.now in (
      λ (t : false ≡ true). absurd cc,
      λ f. absurd (let yes = c.is_invited.ensures.1 (f c.id.result.0
          (place-in (ids_of named) at c.id.result.0 (id-at named at c.id.result c.id.ensures))) in
          let no = c.if-not-is_invited.true in cc),
    )

pub loop-index-preserved : goal.loop-index-preserved
loop-index-preserved g c = λ y i.
    let at = c.loop-index.index in
    let named = c.args.members.now in
    elim (next-cases (ids_of named) at c.id.result.0 (id-at named at c.id.result c.id.ensures) i) [
      | inl e ↦ subst (IsInvited (inviter_by g.K.Kem.is_public c.args.welcome.now.cards) c.args.sender.now.0.0)
          (sym e) (c.is_invited.ensures.0 c.if-not-is_invited.false)
      | inr j ↦ c.loop-index.invariant y j
    ]
