use Rattle.std.proofs.Common.{◌≡◌, ◌∷◌, ◌∙◌, ap, sym, subst}
use Rattle.group_model.specs.Sets.{IsDistinct}
use Rattle.group_model.specs.Membership.{ids_named, joined, named_by}
use Rattle.group_messages.specs.Messages.{kind_of, message_of}
use Rattle.causal_history.specs.Rows.{history_of}
use Rattle.body_parts.proofs.Gathered.{ids_in}
use Rattle.next_messages.proofs.addressees.receivers_of.Goals as goal

pub receivers_among-requires-clause-distinct : goal.receivers_among-requires-clause-distinct
receivers_among-requires-clause-distinct c =
    let h = history_of c.args.history.now in
    let m = message_of c.args.header.now in
    let same : ids_in c.as_slice.result.now ≡ ids_named (m ∷ h) =
    ap ids_in c.as_slice.ensures.value ∙ c.in_ok-put_named.ensures
    ∙ ap (λ z. joined z (named_by (kind_of c.args.header.now))) c.in_ok-members.ensures in
    subst IsDistinct (sym same) (c.places_stay.ensures.distinct (m ∷ h))
