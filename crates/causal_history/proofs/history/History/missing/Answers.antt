use Rattle.std.proofs.Common.{◌≡◌, List, [], get_or, sym, subst, arith}
use Rattle.std.proofs.lemmas.List.{take_all}
use Rattle.group_fields.specs.declared.ids.Digest.{Digest}
use Rattle.group_model.specs.Sets.{In}
use Rattle.group_model.specs.Messages.{Stands}
use Rattle.group_model.proofs.Rows.{all-more_ids}
use Rattle.group_messages.specs.Messages.{ids_of}
use Rattle.causal_history.specs.Numbered.{IsLeastMissing}
use Rattle.causal_history.specs.Rows.{history_of}
use Rattle.causal_history.proofs.ListMore.{get-below}
use Rattle.causal_history.proofs.Numbers.{least-first, number-stands}
use Rattle.causal_history.proofs.TableFacts.{id-at, length-ids_of, none-is, some-is}
use Rattle.causal_history.proofs.history.History.missing.Goals as goal

pub returns-then-is_none : goal.returns-then-is_none
returns-then-is_none c =
    let is : get_or (ids_of c.predecessors-ids.result) c.loop-at.at [] ≡ c.id.result.0 =
    id-at c.predecessors-ids.result c.loop-at.at c.id.result c.id.ensures in
    let below = get-below c.predecessors-ids.result c.loop-at.at c.id.result c.id.ensures in
    subst (λ (z : List Digest). IsLeastMissing (history_of c.args.self.now) (ids_of z) c.id.result.0) c.predecessors-ids.ensures
    (subst (λ z. IsLeastMissing (history_of c.args.self.now) (ids_of c.predecessors-ids.result) z) is
    (least-first (history_of c.args.self.now) (ids_of c.predecessors-ids.result) c.loop-at.at []
    (rw c.predecessors-ids.ensures (c.predecessors_ascend.ensures.ascending c.args.header.now c.bytes-spelled.ensures.has))
    (omega (arith, below, length-ids_of c.predecessors-ids.result)) c.loop-at.invariant
    (subst (λ z. Stands (history_of c.args.self.now) z → ⊥) (sym is) (none-is _ _ c.find.result c.if-is_none.ensures c.find.ensures.number))))

pub loop-at-preserved : goal.loop-at-preserved
loop-at-preserved c =
    let is : get_or (ids_of c.predecessors-ids.result) c.loop-at.at [] ≡ c.id.result.0 =
    id-at c.predecessors-ids.result c.loop-at.at c.id.result c.id.ensures in
    let below = get-below c.predecessors-ids.result c.loop-at.at c.id.result c.id.ensures in
    let s = some-is _ _ c.find.result c.if-is_none.ensures c.find.ensures.number in
    all-more_ids (λ z. Stands (history_of c.args.self.now) z) (ids_of c.predecessors-ids.result) c.loop-at.at []
    (omega (arith, below, length-ids_of c.predecessors-ids.result)) c.loop-at.invariant
    (subst (λ z. Stands (history_of c.args.self.now) z) (sym is) (number-stands (history_of c.args.self.now) c.id.result.0 s.0 s.2))

pub returns : goal.returns
returns c = λ i k. c.loop-at.invariant i (subst (λ z. In i z)
    (sym (take_all c.loop-at.at (ids_of c.predecessors-ids.result)
    (omega (arith, length-ids_of c.predecessors-ids.result, c.count-at-end.ensures, c.loop-at-test.false))))
    (subst (λ (z : List Digest). In i (ids_of z)) (sym c.predecessors-ids.ensures) k))
