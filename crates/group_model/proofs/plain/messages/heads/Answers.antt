use Rattle.std.proofs.Common.{◌≡◌, ◌⊎◌, ◌↔◌, inl, inr, sym, subst, ap}
use Rattle.group_model.specs.Sets.{Id, In}
use Rattle.group_model.specs.Messages.{Message, IsHead}
use Rattle.group_model.specs.Plain.{message_of, history_of}
use Rattle.group_model.proofs.Rows.{row-in, row-more}
use Rattle.group_model.proofs.plain.messages.heads.Goals as goal
use Rattle.group_model.proofs.plain.messages.heads.Goals.{then-is_head+in_ok-ids, else-is_head}

pub loop-row-preserved : goal.loop-row-preserved
loop-row-preserved c = elim c.if-is_head.branch [
  | then-is_head+in_ok-ids w ↦
      let j : In (message_of c.row-item.result) (history_of c.args.rows.now) =
      row-in c.args.rows.now c.loop-row.row-index c.row-item.result c.loop-row-test.true c.row-item.is in
      let same : (x : Id) → In x c.if-is_head.ids.items ↔ ((x ≡ c.row-item.result.id) ⊎ In x c.loop-row.ids.items) =
      rw w.ids-is w.in_ok-ids.ensures.same in
      record {
        ascending = rw w.ids-is (w.in_ok-ids.ensures.ascending c.loop-row.invariant.ascending);
        all = λ a i k. elim (row-more c.args.rows.now c.loop-row.row-index c.row-item.result c.loop-row-test.true c.row-item.is a i) [
          | inl e ↦ (same a.id).1 (inl (ap (λ (z : Message). z.id) e))
          | inr b ↦ (same a.id).1 (inr (c.loop-row.invariant.all a b k))
        ];
        only = λ x i. elim ((same x).0 i) [
          | inl e ↦ (message_of c.row-item.result, (c.is_head.ensures j).0 w.if-is_head.true, sym e)
          | inr k ↦ c.loop-row.invariant.only x k
        ];
      }
  | else-is_head w ↦ record {
    ascending = rw w.ids-is c.loop-row.invariant.ascending;
    all = λ a i k. elim (row-more c.args.rows.now c.loop-row.row-index c.row-item.result c.loop-row-test.true c.row-item.is a i) [
      | inl e ↦ absurd (let t = (c.is_head.ensures (row-in c.args.rows.now c.loop-row.row-index c.row-item.result c.loop-row-test.true c.row-item.is)).1
          (subst (λ z. IsHead (history_of c.args.rows.now) z) e k) in let f = w.if-is_head.false in cc)
      | inr b ↦ rw w.ids-is (c.loop-row.invariant.all a b k)
    ];
    only = rw w.ids-is c.loop-row.invariant.only;
  }
]
