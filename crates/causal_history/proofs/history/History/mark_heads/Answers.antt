use Rattle.std.proofs.Common.{◌≡◌, sym, subst, arith, length}
use Rattle.causal_history.specs.Bits.{mark}
use Rattle.causal_history.specs.Rows.{history_of}
use Rattle.causal_history.proofs.HeadMarks.{HeadsBelow, heads-end}
use Rattle.causal_history.proofs.RowFacts.{history-length}
use Rattle.causal_history.proofs.history.History.mark_heads.Goals as goal

pub returns : goal.returns
returns c =
    let size : c.loop-at.at ≡ length c.args.self.now = omega (arith, c.loop-at-test.false, c.loop-at.auto.at-end, c.count-at-end.ensures.count) in
    heads-end (history_of c.args.self.now) c.count-at-end.ensures.kept.history (mark c.args.of.now) (mark c.mark_followed.new.into)
    (mark c.loop-at.into) (length c.args.self.now) (sym (history-length c.args.self.now)) c.mark_followed.ensures
    (subst (λ z. HeadsBelow (history_of c.args.self.now) (mark c.args.of.now) (mark c.mark_followed.new.into) (mark c.loop-at.into) z) size
    c.loop-at.invariant)
