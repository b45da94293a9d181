use Rattle.std.proofs.Common.{rules, arith, ◌≡◌, ◌∷◌, ◌++◌, ◌∙◌, ◌≤◌, [], List, length, map, ap, sym, subst}
use Rattle.std.specs.Prelude.{All, IsTrue}
use Rattle.std.proofs.lemmas.List.{length-map}
use Rattle.std.proofs.lemmas.List.Elements.{All-contains}
use Rattle.group_fields.specs.Cards.{card_id}
use Rattle.group_fields.specs.declared.card.Card.{Card}
use Rattle.group_messages.specs.Messages.{kind_of}
use Rattle.group_model.specs.Membership.{ids_named, joined, named_by}
use Rattle.group_model.specs.Sets.{IsAscending, IsDistinct}
use Rattle.group_model.proofs.ListFacts.{Contains-from_In}
use Rattle.causal_history.specs.Rows.{Row, MayBePushed, history_of}
use Rattle.causal_history.proofs.RowFacts.{history-push}
use Rattle.group_ops.specs.Making.{AreFounders}
use Rattle.group_ops.proofs.Crowds.{joined-new}
use Rattle.group_ops.proofs.tests.making.opened.Goals as goal

founders : (rows : List Row) (row : Row) → MayBePushed rows row → All (λ (card : Card). card.set ≡ 2) row.cards
    → IsAscending (named_by (kind_of row.header)) → length (named_by (kind_of row.header)) ≤ 32 → AreFounders 2 row.cards
founders rows row may own ascending few = record {
  of_set = λ card i. All-contains (λ (c : Card). c.set ≡ 2) row.cards card own (Contains-from_In i);
  spelled = may.spelled;
  ascending = subst IsAscending (sym may.cards) ascending;
  few = omega (arith, few, ap length may.cards, length-map row.cards card_id);
}

-- the first row names the ids of its cards
first_named : (rows new : List Row) (row : Row) → rows ≡ [] → MayBePushed rows row → new ≡ rows ++ row ∷ [] → IsDistinct (named_by (kind_of row.header))
    → ids_named (history_of new) ≡ map card_id row.cards
unfolding history_of
first_named rows new row none may is distinct =
    ap (λ (l : List Row). ids_named (history_of l)) is
    ∙ ap ids_named (history-push rows row)
    ∙ ap (λ (l : List Row). joined (ids_named (history_of l)) (named_by (kind_of row.header))) none
    ∙ joined-new [] (named_by (kind_of row.header)) distinct (λ x i k. elim k [ ])
    ∙ sym may.cards

pub returns-clause-founders : goal.returns-clause-founders
returns-clause-founders c =
    let yes : IsTrue c.in_ok-may.may = search rules in
    let of_set : IsTrue c.are_of_set-of_set.result = search rules in
    let row : Row = record { header = c.args.create.now; cards = c.args.cards.now } in
    founders c.new-history.result row (c.in_ok-may.ensures.0 yes)
    (subst (All (λ (card : Card). card.set ≡ 2)) c.as_slice.ensures (c.are_of_set-of_set.ensures of_set))
    (c.named_ids_are_few.ensures.ascending c.args.create.now c.bytes-bytes.ensures.has)
    (c.named_ids_are_few.ensures.few c.args.create.now c.bytes-bytes.ensures.has)

pub returns-clause-ids : goal.returns-clause-ids
returns-clause-ids c =
    let yes : IsTrue c.in_ok-may.may = search rules in
    let row : Row = record { header = c.args.create.now; cards = c.args.cards.now } in
    first_named c.new-history.result c.push.new.self row c.new-history.ensures (c.in_ok-may.ensures.0 yes) c.in_ok-push.ensures
    (c.named_ids_are_few.ensures.distinct c.args.create.now c.bytes-bytes.ensures.has)
