use Rattle.std.proofs.Common.{◌∙◌, ap, arith, length, sym}
use Rattle.std.proofs.lemmas.Bool.{eqb-true}
use Rattle.causal_history.specs.Rows.{history_of}
use Rattle.group_messages.specs.Messages.{ids_of, message_of}
use Rattle.group_model.specs.Membership.{named_by}
use Rattle.member_view.proofs.Crowds.{ids-length}
use Rattle.group_ops.proofs.Crowds.{created-ids}
use Rattle.group_ops.proofs.TestFacts.{no-rows}
use Rattle.group_ops.proofs.tests.all_met.Goals as goal

pub returns-then-count-eq0 : goal.returns-then-count-eq0
returns-then-count-eq0 c = λ t.
    let h = history_of c.args.history.now in let m = message_of c.args.header.now in
    let first = no-rows h (c.rows_are_messages.ensures.size c.args.history.now ∙ sym c.count.ensures.count
    ∙ omega (arith, c.if-count-eq0.true)) in
    let ids = created-ids h m (record { first = first; members = ids_of c.in-Create.ids; creates = sym c.in-Create.ensures })
    (c.named_ids_are_few.ensures.distinct c.args.header.now c.bytes-bytes.ensures.has) ∙ ap named_by (sym c.in-Create.ensures) in
    ap length ids ∙ ids-length c.in-Create.ids ∙ sym c.count-then-count-eq0.ensures
    ∙ eqb-true c.count-then-count-eq0.result c.met.result t ∙ c.met.ensures.count
