use Rattle.std.proofs.Common.{◌≡◌, ◌∙◌, sym, subst}
use lib.Pointwise.{pointwise_decides}
use Rattle.std.proofs.lemmas.Slice.Eq.{bytes_eq-Decides}
use Rattle.group_model.specs.Messages.{AreHeads}
use Rattle.group_model.specs.Plain.{history_of}
use Rattle.group_model.proofs.Ascending.{heads-same}
use Rattle.group_model.proofs.plain.validity.follows_heads.Goals as goal

pub returns : goal.returns
returns c =
    let test = pointwise_decides bytes_eq-Decides c.as_slice.result.now c.as_slice-2.result.now in (
      λ h. let e : c.in_ok-ids.ids.items ≡ c.args.row.now.predecessors.items =
          sym c.as_slice.ensures.value ∙ test.0 (sym c.eq.ensures ∙ h) ∙ c.as_slice-2.ensures.value in
          subst (λ z. AreHeads (history_of c.args.past.now) z) e c.in_ok-ids.ensures,
      λ k. let e : c.in_ok-ids.ids.items ≡ c.args.row.now.predecessors.items = heads-same (history_of c.args.past.now) _ _ c.in_ok-ids.ensures k in
          c.eq.ensures ∙ test.1 (c.as_slice.ensures.value ∙ e ∙ sym c.as_slice-2.ensures.value),
    )
