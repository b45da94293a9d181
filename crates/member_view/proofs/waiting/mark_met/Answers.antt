use Rattle.causal_history.specs.Bits.{mark}
use Rattle.causal_history.specs.Rows.{history_of}
use Rattle.group_model.specs.Marks.{marked}
use Rattle.member_view.proofs.Waits.{met-both}
use Rattle.member_view.proofs.waiting.mark_met.Goals as goal

pub returns : goal.returns
returns c = met-both (history_of c.args.history.now) (marked (mark c.args.of.now) (history_of c.args.history.now)) c.args.author.now.id.0.0
    (mark c.mark_older.new.into) (mark c.mark_answered.new.into) c.mark_older.ensures c.mark_answered.ensures
