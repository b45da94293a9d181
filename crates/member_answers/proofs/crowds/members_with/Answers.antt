use Rattle.std.proofs.Common.{◌<◌, sym, subst}
use Rattle.group_model.specs.Sets.{In}
use Rattle.group_model.proofs.Pasts.{past-within}
use Rattle.group_messages.specs.Messages.{message_of}
use Rattle.causal_history.specs.Rows.{history_of}
use Rattle.causal_cast.proofs.Histories.{history-length}
use Rattle.member_answers.proofs.crowds.members_with.Goals as goal

-- the marked numbers are those of rows
pub members-requires-clause-rows : goal.members-requires-clause-rows
members-requires-clause-rows g c = λ i e.
    subst (λ n. i < n) (sym (history-length c.args.history.now)) ((c.mark_all.ensures.each i).0 e)

-- all rows are marked, so the past is
pub members-requires-clause-last : goal.members-requires-clause-last
members-requires-clause-last g c = (
  record {
    each = λ {a} i. subst (λ h. In a h) (sym c.mark_all.ensures.marked)
        (past-within (history_of c.args.history.now) (message_of c.args.operation.now).predecessors i);
  },
  c.requires,
)
