use Rattle.std.proofs.Common.{◌≡◌, ◌≤◌, ◌∙◌, ap, length, List, sym, subst}
use Rattle.std.specs.Prelude.{IfOk}
use Rattle.group_fields.specs.declared.ids.MemberId.{MemberId}
use Rattle.group_model.specs.Membership.{ids_named}
use Rattle.group_model.specs.Sets.{Id, IsDistinct}
use Rattle.group_model.proofs.RemoveWins.{ids_named-distinct}
use Rattle.causal_history.specs.Bits.{bit}
use Rattle.causal_history.specs.Rows.{history_of}
use Rattle.body_parts.specs.Receivers.{AreReceivers}
use Rattle.body_parts.proofs.Gathered.{ids_in}
use Rattle.body_parts.proofs.addressing.receivers.Goals as goal

pub receivers_among-requires-clause-distinct : goal.receivers_among-requires-clause-distinct
receivers_among-requires-clause-distinct c =
    let same : ids_in c.as_slice.result.now ≡ ids_named (history_of c.args.history.now) =
    ap ids_in c.as_slice.ensures.value ∙ c.in_ok-members.ensures.ids in
    subst IsDistinct (sym same) (ids_named-distinct (history_of c.args.history.now))

pub receivers_among-requires-clause-few : goal.receivers_among-requires-clause-few
receivers_among-requires-clause-few c =
    subst (λ (l : List MemberId). length l ≤ 32) (sym c.as_slice.ensures.value) c.in_ok-members.ensures.few

pub returns : goal.returns
returns c =
    let same : ids_in c.as_slice.result.now ≡ ids_named (history_of c.args.history.now) =
    ap ids_in c.as_slice.ensures.value ∙ c.in_ok-members.ensures.ids in
    subst (λ (ids : List Id). IfOk c.receivers_among.result (λ receivers. AreReceivers ids (bit c.args.to.0) receivers.items)) same
    c.receivers_among.ensures
