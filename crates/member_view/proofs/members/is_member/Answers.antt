use Rattle.causal_history.specs.Bits.{bit, mark}
use Rattle.causal_history.specs.Rows.{history_of}
use Rattle.group_model.specs.Marks.{marked}
use Rattle.member_view.proofs.Oldest.{marked-within}
use Rattle.member_view.proofs.KindLaws.{among-member}
use Rattle.member_view.proofs.members.is_member.Goals as goal

pub returns : goal.returns
returns g c = among-member g.G.Membership.rule g.G.Membership.is_rule (history_of c.args.history.now)
    (marked (mark c.args.of.now) (history_of c.args.history.now)) (bit c.members.result.0) c.args.id.now.0.0 c.is_among.result
    (λ m i. marked-within (history_of c.args.history.now) (mark c.args.of.now) i) c.members.ensures c.is_among.ensures
