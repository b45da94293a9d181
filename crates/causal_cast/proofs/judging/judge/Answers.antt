use Rattle.std.proofs.Common.{true, subst}
use Rattle.group_model.specs.Sets.{Id}
use Rattle.group_model.specs.Membership.{ids_named}
use Rattle.group_model.proofs.Places.{place-one}
use Rattle.causal_history.proofs.ListMore.{get-there}
use Rattle.causal_history.specs.Rows.{history_of}
use Rattle.member_view.specs.Causes.{IsFirst}
use Rattle.causal_cast.specs.Verdicts.{from_rules}
use Rattle.causal_cast.proofs.Judges.{judge_of}
use Rattle.causal_cast.proofs.Staged.{by_arrival, by_message}
use Rattle.causal_cast.proofs.judging.judge.Goals as goal

pub returns-in-Some : goal.returns-in-Some
returns-in-Some g c = λ x at.
    let J = judge_of g.G.Membership.rule g.K.Kem.SET g.K.Kem.is_public c.args.history.now x c.args.leaf_left in
    by_arrival J c.args.packet.now c.in-Some.verdict (c.in-Some.ensures x c.args.leaf_left at)

-- some member has the place
pub judge_message-requires-clause-set : goal.judge_message-requires-clause-set
judge_message-requires-clause-set g c =
    let some = get-there (ids_named (history_of c.args.history.now)) c.args.me c.requires.place in
    (c.in_default.ensures some.0 true some.1).1.0.0

pub judge_message-requires-clause-stand : goal.judge_message-requires-clause-stand
judge_message-requires-clause-stand g c =
    let some = get-there (ids_named (history_of c.args.history.now)) c.args.me c.requires.place in
    (c.in_default.ensures some.0 true some.1).1.1.1.0

pub judge_message-requires-clause-new : goal.judge_message-requires-clause-new
judge_message-requires-clause-new g c =
    let some = get-there (ids_named (history_of c.args.history.now)) c.args.me c.requires.place in
    (c.in_default.ensures some.0 true some.1).1.1.0

pub returns : goal.returns
returns g c = λ x at.
    let J = λ (i : Id).
    judge_of g.G.Membership.rule g.K.Kem.SET g.K.Kem.is_public c.args.history.now i c.args.leaf_left in
    by_message (J x) c.args.packet.now c.judge_message.result (c.in_default.ensures x c.args.leaf_left at)
    (subst (λ i. IsFirst (from_rules (J i) c.args.packet.now) c.judge_message.result)
    (place-one (ids_named (history_of c.args.history.now)) c.args.me c.member.result.0.0 x c.member.ensures at)
    c.judge_message.ensures)
