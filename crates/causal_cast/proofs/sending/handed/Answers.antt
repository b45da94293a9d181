use Rattle.std.proofs.Common.{◌∷◌}
use Rattle.group_model.specs.Membership.{IsHandedTo, ids_named}
use Rattle.group_messages.specs.Messages.{message_of}
use Rattle.causal_history.specs.Bits.{bit}
use Rattle.causal_history.specs.Rows.{history_of}
use Rattle.causal_cast.proofs.CrowdSets.{crowd-none}
use Rattle.causal_cast.proofs.Forwards.{hand-none, handed-crowd}
use Rattle.causal_cast.proofs.sending.handed.Goals as goal

-- what adds nobody hands nothing on
pub returns-in-None-added_by : goal.returns-in-None-added_by
returns-in-None-added_by g c =
    let h = history_of c.args.history.now in
    let m = message_of c.args.header.now in
    crowd-none (ids_named (m ∷ h)) (bit c.new-in-None-added_by.result.0)
    (λ y. IsHandedTo g.G.Membership.rule h c.args.operation.now.0.0 m y) c.new-in-None-added_by.ensures
    (λ y i f. hand-none g.G.Membership.rule h m (message_of c.in-Some.row) c.count-kept.ensures.kept.history
    c.args.operation.now.0.0 c.in-Some.ensures.0 c.in-Some.ensures.1 c.in-None-added_by.ensures y f)

pub returns-in-Some-added_by : goal.returns-in-Some-added_by
returns-in-Some-added_by g c =
    let h = history_of c.args.history.now in
    let m = message_of c.args.header.now in
    handed-crowd g.G.Membership.rule h m (message_of c.in-Some.row) c.args.operation.now.0.0
    c.in-Some-added_by.target.0.0 c.count-kept.ensures.kept.history c.in-Some.ensures.0 c.in-Some.ensures.1
    c.in-Some-added_by.ensures (ids_named (m ∷ h)) (bit c.view-seen.result.0) (bit c.only-added.result.0)
    (bit c.both.result.0) c.view-seen.ensures c.only-added.ensures c.both.ensures
