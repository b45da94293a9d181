use Rattle.causal_history.specs.Rows.{history_of}
use Rattle.group_model.specs.Membership.{ids_named}
use Rattle.body_parts.proofs.Gathered.{placed-more}
use Rattle.next_messages.proofs.addressees.members_of.Goals as goal

pub loop-place-preserved : goal.loop-place-preserved
loop-place-preserved c = placed-more c.loop-place.members.items c.push.new.self.items (ids_named (history_of c.args.history.now))
    c.loop-place.place c.member.result c.loop-place.invariant c.member.ensures c.in_ok-push.ensures.items
