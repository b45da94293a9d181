use Rattle.std.proofs.Common.{sym}
use Rattle.causal_history.specs.Bits.{bit}
use Rattle.causal_history.specs.Rows.{history_of}
use Rattle.group_messages.specs.Messages.{message_of}
use Rattle.group_model.specs.Messages.{Message}
use Rattle.group_model.specs.Membership.{Names, Removes}
use Rattle.member_view.specs.Crowds.{MovesMore, ids_with, last_of}
use Rattle.member_view.proofs.Oldest.{at-number}
use Rattle.member_view.proofs.Crowds.{more-none}
use Rattle.member_view.proofs.members.with_row.Goals as goal

pub returns-then-not-moves_members : goal.returns-then-not-moves_members
returns-then-not-moves_members c = λ m r. record {
  named = more-none (ids_with (last_of c.args.last) (history_of c.args.history.now)) (bit c.args.moves.named.0) (λ x. Names m.kind x)
      (λ x n. (c.moves_members.ensures m.kind x (sym (c.kind.ensures m r)) (let t = c.if-not-moves_members.true in cc)).0 n);
  removed = more-none (ids_with (last_of c.args.last) (history_of c.args.history.now)) (bit c.args.moves.removed.0) (λ x. Removes m.kind x)
      (λ x n. (c.moves_members.ensures m.kind x (sym (c.kind.ensures m r)) (let t = c.if-not-moves_members.true in cc)).1 n);
}

pub returns : goal.returns
returns c = λ m r. at-number (history_of c.args.history.now) c.args.index (message_of c.row.result) m c.row.ensures.message r
    (λ (z : Message). MovesMore (ids_with (last_of c.args.last) (history_of c.args.history.now)) (bit c.args.moves.named.0)
    (bit c.args.moves.removed.0) (bit c.with_act.result.named.0) (bit c.with_act.result.removed.0) z.kind)
    (rw c.act_of.ensures at c.with_act.ensures)
