use Rattle.std.proofs.Common.{◌<◌, sym, subst}
use Rattle.group_model.specs.Sets.{In}
use Rattle.group_model.specs.Membership.{ids_named}
use Rattle.group_model.specs.Marks.{IsCrowd}
use Rattle.causal_history.specs.Bits.{bit}
use Rattle.causal_history.specs.Rows.{history_of}
use Rattle.causal_cast.proofs.Histories.{history-length}
use Rattle.forwarding.proofs.forward.members_now.Goals as goal

-- the marked numbers are those of rows
pub members-requires-clause-rows : goal.members-requires-clause-rows
members-requires-clause-rows g c = λ i e.
    subst (λ n. i < n) (sym (history-length c.args.history.now)) ((c.mark_all.ensures.each i).0 e)

-- all rows are marked
pub returns : goal.returns
returns g c =
    subst
    (λ h. IsCrowd (ids_named (history_of c.args.history.now)) (bit c.members.result.0) (λ y. In y (g.G.Membership.rule h)))
    c.mark_all.ensures.marked c.members.ensures
