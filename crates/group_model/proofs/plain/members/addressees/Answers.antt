use Rattle.std.proofs.Common.{refl, sym, ◌∙◌, subst}
use Rattle.group_model.specs.Sets.{Id, In}
use Rattle.group_model.specs.Membership.{remove_wins, IsAddressee}
use Rattle.group_model.specs.Plain.{kind_of, message_of, history_of}
use Rattle.group_model.proofs.RemoveWins.{remove_wins-rule}
use Rattle.group_model.proofs.Judged.{addressee-named}
use Rattle.group_model.proofs.Rows.{kept-more, kept-only, kept-left, ids-end}
use Rattle.group_model.proofs.plain.members.addressees.Goals as goal
use Rattle.group_model.proofs.plain.members.addressees.Goals.{then-due+in_ok-ids, else-due}

pub loop-id-preserved : goal.loop-id-preserved
loop-id-preserved c =
    let P : Id → Type 0 = λ y. IsAddressee remove_wins (history_of c.args.rows.now) (message_of c.args.row.now) (kind_of c.args.row.now.kind) y in
    elim c.if-due.branch [
      | then-due+in_ok-ids w ↦ rw w.ids-is (record {
        ascending = w.in_ok-ids.ensures.ascending c.loop-id.invariant.ascending;
        all = kept-more P c.as_slice-candidates.result.now c.loop-id.id-index _ c.loop-id.ids.items w.in_ok-ids.ids.items c.loop-id-test.true
            c.loop-id.invariant.all w.in_ok-ids.ensures.same;
        only = kept-only P _ c.loop-id.ids.items w.in_ok-ids.ids.items (c.in_ok-due.ensures.0 w.if-due.true) c.loop-id.invariant.only w.in_ok-ids.ensures.same;
      })
      | else-due w ↦ rw w.ids-is (record {
        ascending = c.loop-id.invariant.ascending;
        all = kept-left P c.as_slice-candidates.result.now c.loop-id.id-index _ c.loop-id.ids.items c.loop-id-test.true c.loop-id.invariant.all
            (λ p. let t = c.in_ok-due.ensures.1 p in let f = w.if-due.false in cc);
        only = c.loop-id.invariant.only;
      })
    ]

pub returns : goal.returns
returns c = λ i. record {
  ascending = c.loop-id.invariant.ascending;
  all = λ y a. c.loop-id.invariant.all y (ids-end c.as_slice-candidates.result.now c.loop-id.id-index c.loop-id-test.false
      (subst (λ z. In y z) (sym (c.as_slice-candidates.ensures.value ∙ c.in_ok-named.ensures))
      (addressee-named remove_wins remove_wins-rule (history_of c.args.rows.now) (message_of c.args.row.now) (kind_of c.args.row.now.kind) y i refl a))) a;
  only = c.loop-id.invariant.only;
}
