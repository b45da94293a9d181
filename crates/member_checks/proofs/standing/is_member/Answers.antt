use Rattle.std.proofs.Common.{◌<◌, sym, subst}
use Rattle.group_model.specs.Sets.{In}
use Rattle.causal_history.specs.Bits.{bit}
use Rattle.causal_history.specs.Rows.{history_of}
use Rattle.group_model.specs.Marks.{IsCrowd}
use Rattle.group_model.specs.Membership.{ids_named}
use Rattle.member_view.proofs.Oldest.{rows-length}
use Rattle.member_view.proofs.KindLaws.{among-member}
use Rattle.member_checks.proofs.standing.is_member.Goals as goal

-- the marked numbers are those of rows
pub members-requires-clause-rows : goal.members-requires-clause-rows
members-requires-clause-rows g c = λ i e.
    subst (λ n. i < n) (sym (rows-length c.args.history.now)) ((c.mark_all.ensures.each i).0 e)

-- the marked rows are the history
pub returns : goal.returns
returns g c =
    let h = history_of c.args.history.now in
    let bits = bit c.members.result.0 in
    let crowd : IsCrowd (ids_named h) bits (λ x. In x (g.G.Membership.rule h)) =
    subst (λ z. IsCrowd (ids_named h) bits (λ x. In x (g.G.Membership.rule z))) c.mark_all.ensures.marked c.members.ensures in
    among-member g.G.Membership.rule g.G.Membership.is_rule h h bits c.args.id.now.0.0 c.is_among.result (λ m i. i) crowd
    c.is_among.ensures
