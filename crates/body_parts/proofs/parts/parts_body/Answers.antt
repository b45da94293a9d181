use Rattle.std.proofs.Common.{◌≤◌, sym, subst}
use Rattle.group_model.specs.Sets.{In}
use Rattle.group_model.specs.Membership.{ids_named}
use Rattle.causal_history.specs.Bits.{bit}
use Rattle.causal_history.specs.Rows.{history_of}
use Rattle.body_parts.specs.Receivers.{ArePlaced, AreReceivers, id_to}
use Rattle.body_parts.proofs.Written.{body_spelled}
use Rattle.body_parts.proofs.parts.parts_body.Goals as goal

pub append_parts-requires-clause-placed : goal.append_parts-requires-clause-placed
append_parts-requires-clause-placed g c = (
  ids_named (history_of c.args.history.now),
  subst (ArePlaced (ids_named (history_of c.args.history.now))) (sym c.as_slice.ensures.value) c.in_ok-receivers.ensures.placed,
)

pub append_parts-requires-clause-can : goal.append_parts-requires-clause-can
append_parts-requires-clause-can g c = λ r i.
    let there : In r c.in_ok-receivers.receivers.items = subst (In r) c.as_slice.ensures.value i in
    c.requires r.place (id_to r) (c.in_ok-receivers.ensures.placed r there) (c.in_ok-receivers.ensures.only r there)

pub returns : goal.returns
returns g c =
    let all = c.in_ok-append_parts.ensures in
    record {
      to = c.as_slice.result.now;
      receivers = subst (AreReceivers (ids_named (history_of c.args.history.now)) (bit c.args.to.0)) (sym c.as_slice.ensures.value)
          c.in_ok-receivers.ensures;
      parts = all.0;
      made = all.2;
      spelled = λ greatest few. body_spelled g.K.Kem.SET greatest all.0 c.new-body.result.items c.append_parts.new.into.items c.from.result
          (all.1 greatest (subst (λ n. n ≤ greatest) all.2.count few)) c.new-body.ensures.items c.from.ensures;
    }
