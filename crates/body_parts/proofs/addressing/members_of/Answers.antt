use Rattle.std.proofs.Common.{arith}
use Rattle.causal_history.specs.Rows.{history_of}
use Rattle.group_model.specs.Membership.{ids_named}
use Rattle.body_parts.proofs.Gathered.{few_members, placed-more}
use Rattle.body_parts.proofs.addressing.members_of.Goals as goal

pub loop-place-preserved : goal.loop-place-preserved
loop-place-preserved c = placed-more c.loop-place.members.items c.push.new.self.items (ids_named (history_of c.args.history.now)) c.loop-place.place
    c.member.result c.loop-place.invariant c.member.ensures c.in_ok-push.ensures.items

pub returns-clause-few : goal.returns-clause-few
returns-clause-few c = few_members c.loop-place.members.items (ids_named (history_of c.args.history.now)) c.loop-place.place c.loop-place.invariant
    (omega arith)
