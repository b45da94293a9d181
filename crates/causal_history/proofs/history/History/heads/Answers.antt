use Rattle.std.proofs.Common.{◌≡◌, IfOk, List, sym, subst, length}
use Rattle.group_model.specs.Messages.{IsHistory}
use Rattle.group_messages.specs.Messages.{ids_of}
use Rattle.causal_history.specs.Bits.{mark}
use Rattle.causal_history.specs.Rows.{Row, history_of}
use Rattle.causal_history.proofs.HeadMarks.{heads-list, heads-listed}
use Rattle.causal_history.proofs.RowFacts.{history-length}
use Rattle.causal_history.proofs.history.History.heads.Goals as goal

pub returns : goal.returns
returns c =
    let list = heads-list (history_of c.args.self.now)
    (subst (λ (z : List Row). IsHistory (history_of z)) c.self.view_is c.self.invariant.kept.history) (mark c.mark_all.new.into) (mark c.mark_heads.new.into)
    (length c.args.self.now) c.in_ok-ids.ids.items c.sort.new.self.items (sym (history-length c.args.self.now)) c.mark_all.ensures.marked
    c.mark_heads.ensures c.in_ok-ids.ensures c.in_ok-sort.ensures.permutation c.in_ok-sort.ensures.sorted in
    heads-listed (history_of c.args.self.now) c.sort.new.self.items c.digests.result list
    (subst (λ z. IfOk c.digests.result (λ ids. ids_of ids ≡ z)) c.as_slice.ensures.value c.digests.ensures)
