use Rattle.causal_history.specs.Bits.{bit, mark}
use Rattle.causal_history.specs.Rows.{history_of}
use Rattle.group_model.specs.Marks.{marked}
use Rattle.member_view.proofs.Oldest.{marked-within}
use Rattle.member_view.proofs.KindLaws.{free-place}
use Rattle.member_view.proofs.members.has_free_place.Goals as goal

pub returns : goal.returns
returns c = free-place (history_of c.args.history.now) (marked (mark c.args.of.now) (history_of c.args.history.now)) (bit c.named.result.0)
    c.is_full.result (λ m i. marked-within (history_of c.args.history.now) (mark c.args.of.now) i) c.count-count.ensures.kept.members
    c.named.ensures c.is_full.ensures
