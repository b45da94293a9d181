use Rattle.std.proofs.Common.{◌≡◌, ◌∷◌, List, Err, rules, ap, sym, subst}
use Rattle.kem_trait.specs.declared.kem.KemRefusal.TheVariants as refusals
use Rattle.group_model.specs.Membership.{ids_named}
use Rattle.group_keys.specs.Primitives.{primitives_of}
use Rattle.group_messages.specs.Messages.{message_of}
use Rattle.causal_history.specs.Bits.{bit}
use Rattle.causal_history.specs.Rows.{history_of}
use Rattle.body_parts.specs.declared.addressing.Receiver.{Receiver}
use Rattle.body_parts.specs.Receivers.{AreReceivers}
use Rattle.next_messages.proofs.Drawing.{lacks}
use Rattle.member_answers.specs.Plans.{LacksAnswerKey}
use Rattle.member_answers.proofs.PlanDraws.{planned}
use Rattle.member_answers.proofs.planning.plan_answer.Goals as goal

pub returns-in_err-draws-clause-unusable : goal.returns-in_err-draws-clause-unusable
returns-in_err-draws-clause-unusable g c =
    let o = message_of c.args.operation.now in
    let h = o ∷ history_of c.args.history.now in
    let K = primitives_of g.K.Kem in
    let are = subst (λ (l : List Receiver). AreReceivers (ids_named h) (bit c.due_to-to.result.0) l)
    (sym c.as_slice.ensures.value) c.in_ok-receivers.ensures in
    let lacking : (c.in_err-draws.field-0.0 ≡ refusals.NoUsableKey)
    → LacksAnswerKey K g.G.Membership.rule h c.args.place c.args.me.now.0.0 o c.args.took c.args.random.now =
    (λ e. record {
      bits = bit c.due_to-to.result.0;
      crowd = c.due_to-to.ensures;
      lacks = lacks K c.args.random.now (ids_named h) (bit c.due_to-to.result.0) c.as_slice.result.now are
          (c.in_err-draws.ensures.unusable (ap Err e));
    }) in
    search rules

pub returns-clause-planned : goal.returns-clause-planned
returns-clause-planned g c =
    let o = message_of c.args.operation.now in
    let h = o ∷ history_of c.args.history.now in
    let are = subst (λ (l : List Receiver). AreReceivers (ids_named h) (bit c.due_to-to.result.0) l)
    (sym c.as_slice.ensures.value) c.in_ok-receivers.ensures in
    planned (primitives_of g.K.Kem) g.G.Membership.rule h c.args.place c.args.me.now.0.0 o c.args.took
    c.args.random.now (bit c.due_to-to.result.0) c.in_ok-draws.draws c.as_slice.result.now c.due_to-to.ensures are
    c.in_ok-draws.ensures.left c.in_ok-draws.ensures.drawn
