use Rattle.std.proofs.Common.{◌≡◌, ◌∷◌, ◌∙◌, ap, sym, subst}
use lib.Pointwise.{pointwise_decides}
use Rattle.std.proofs.lemmas.Slice.Eq.{bytes_eq-Decides}
use Rattle.group_model.specs.Sets.{In, here}
use Rattle.group_model.specs.Membership.{remove_wins, AreAddressees}
use Rattle.group_model.specs.Plain.{message_of, history_of}
use Rattle.group_model.proofs.Ascending.{addressees-same}
use Rattle.group_model.proofs.plain.members.sends_parts.Goals as goal

pub returns : goal.returns
returns c =
    let test = pointwise_decides bytes_eq-Decides c.as_slice-2.result.now c.args.ids.now in
    let whole : history_of c.as_slice.result.now ≡ message_of c.args.row.now ∷ history_of c.args.rows.now =
    ap history_of c.as_slice.ensures.value ∙ c.in_ok-all.ensures in
    let due : AreAddressees remove_wins (message_of c.args.row.now ∷ history_of c.args.rows.now) (message_of c.args.row.now) c.in_ok-due.due.items =
    subst (λ h. AreAddressees remove_wins h (message_of c.args.row.now) c.in_ok-due.due.items) whole
    (c.in_ok-due.ensures (subst (λ h. In (message_of c.args.row.now) h) (sym whole) here)) in (
      λ h. let e : c.in_ok-due.due.items ≡ c.args.ids.now = sym c.as_slice-2.ensures.value ∙ test.0 (sym c.eq.ensures ∙ h) in
          subst (λ z. AreAddressees remove_wins (message_of c.args.row.now ∷ history_of c.args.rows.now) (message_of c.args.row.now) z) e due,
      λ k. let e : c.in_ok-due.due.items ≡ c.args.ids.now = addressees-same remove_wins _ _ _ _ due k in
          c.eq.ensures ∙ test.1 (c.as_slice-2.ensures.value ∙ e),
    )
