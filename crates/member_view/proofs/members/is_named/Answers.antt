use Rattle.causal_history.specs.Bits.{bit, mark}
use Rattle.causal_history.specs.Rows.{history_of}
use Rattle.group_model.specs.Marks.{marked}
use Rattle.member_view.proofs.Oldest.{marked-within}
use Rattle.member_view.proofs.KindLaws.{among-named}
use Rattle.member_view.proofs.members.is_named.Goals as goal

pub returns : goal.returns
returns c = among-named (history_of c.args.history.now) (marked (mark c.args.of.now) (history_of c.args.history.now)) (bit c.named.result.0)
    c.args.id.now.0.0 c.is_among.result (λ m i. marked-within (history_of c.args.history.now) (mark c.args.of.now) i) c.named.ensures c.is_among.ensures
