use Rattle.std.proofs.Common.{◌<◌, sym, subst}
use Rattle.causal_cast.proofs.Histories.{history-length}
use Rattle.causal_cast.proofs.arriving.is_member.Goals as goal

-- the marked numbers are those of rows
pub members-requires-clause-rows : goal.members-requires-clause-rows
members-requires-clause-rows g c = λ i e.
    subst (λ n. i < n) (sym (history-length c.args.history.now)) ((c.mark_all.ensures.each i).0 e)
