use Rattle.std.proofs.Common.{◌≡◌, false, true, refl, subst}
use Rattle.group_model.specs.Messages.{Stands}
use Rattle.causal_history.specs.Rows.{history_of}
use Rattle.causal_history.proofs.Numbers.{number-stands}
use Rattle.welcome_history.proofs.row_held.is_new.Goals as goal

pub returns-in-Some : goal.returns-in-Some
returns-in-Some c =
    let h = history_of c.args.history.now in (
      λ (t : false ≡ true). absurd cc,
      λ n. absurd (n (subst (λ z. Stands h z) c.id.ensures
          (number-stands h c.id.result.0.0 c.in-Some.field-0 c.in-Some.ensures.number))),
    )

pub returns-in-None : goal.returns-in-None
returns-in-None c = (
  λ t. subst (λ z. Stands (history_of c.args.history.now) z → ⊥) c.id.ensures c.in-None.ensures.number,
  λ n. refl,
)
