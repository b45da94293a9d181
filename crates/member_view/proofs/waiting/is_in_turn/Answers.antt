use Rattle.std.proofs.Common.{IsTrue, ◌↔◌, subst}
use Rattle.causal_history.specs.Bits.{mark}
use Rattle.causal_history.specs.Rows.{history_of}
use Rattle.group_model.specs.Marks.{marked}
use Rattle.group_model.specs.Validity.{IsInTurn}
use Rattle.member_view.proofs.ActFacts.{turn-alone}
use Rattle.member_view.proofs.waiting.is_in_turn.Goals as goal

pub returns-in_default : goal.returns-in_default
returns-in_default c = subst (λ k. IsTrue c.waits_alone.result
    ↔ IsInTurn (marked (mark c.args.of.now) (history_of c.args.history.now)) c.args.author.now.id.0.0 k) c.act_of.ensures
    (turn-alone (history_of c.args.history.now) (mark c.args.of.now) c.args.author.now.id.0.0 c.waits_alone.result c.act_of.result
    c.in_default.not-Ack c.in_default.not-AddAck c.waits_alone.ensures)
