use Rattle.std.proofs.Common.{rules, ◌≡◌, ◌∷◌, ◌++◌, ◌∙◌, [], List, All, IsTrue, inl, inr, sym, ap, subst}
use Rattle.std.specs.Prelude.{Result, Ok, Err, MatchResult}
use Rattle.std.proofs.lemmas.List.Elements.{All-contains}
use Rattle.group_fields.specs.declared.card.Card.{Card}
use Rattle.group_model.specs.Membership.{ids_named}
use Rattle.group_model.specs.Messages.{Message, History}
use Rattle.group_model.specs.Sets.{In, here, there}
use Rattle.group_model.proofs.ListFacts.{Contains-from_In, In-either, In-has, has-In}
use Rattle.group_model.proofs.Places.{in-place, place-in, place-stays}
use Rattle.causal_history.specs.Rows.{Row, cards_of, history_of, row_message}
use Rattle.causal_history.proofs.PushFacts.{cards_of-push}
use Rattle.causal_history.proofs.RowFacts.{history-push}
use Rattle.add_ops.proofs.tests.adding.push.Goals as goal

abbrev AreOfSet : List Row → Type 0
AreOfSet rows = (card : Card) → In card (cards_of rows) → card.set ≡ 2

abbrev AreNamed : History → Type 0
AreNamed h = (m : Message) → In m h → In m.sender (ids_named h)

-- one row more, or none
pushed : {E : Type 0} (old new : List Row) (row : Row) (result : Result (Unit {0}) E) → AreOfSet old → All (λ (card : Card). card.set ≡ 2) row.cards
    → MatchResult result (λ _. new ≡ old ++ row ∷ []) (λ _. new ≡ old) → AreOfSet new
pushed old new row (Ok done) own more is = λ card i. elim (In-either (cards_of old) (subst (λ (l : List Card). In card l) (ap cards_of is ∙ cards_of-push old row) i)) [
  | inl k ↦ own card k
  | inr k ↦ All-contains (λ (c : Card). c.set ≡ 2) row.cards card more (Contains-from_In k)
]
pushed old new row (Err e) own more same = subst AreOfSet (sym same) own

one_more : (first : Message) (h : History) (m : Message) → AreNamed h → In first.sender (ids_named (first ∷ h)) → In m (first ∷ h)
    → In m.sender (ids_named (first ∷ h))
one_more first h m own placed here = placed
one_more first h m own placed (there i) =
    let at = in-place (ids_named h) m.sender (own m i) in
    place-in (ids_named (first ∷ h)) at.0 m.sender (place-stays first h at.0 m.sender at.1)

named : {E : Type 0} (old new : List Row) (row : Row) (result : Result (Unit {0}) E) → AreNamed (history_of old)
    → In (row_message row).sender (ids_named (row_message row ∷ history_of old))
    → MatchResult result (λ _. new ≡ old ++ row ∷ []) (λ _. new ≡ old) → AreNamed (history_of new)
named old new row (Ok done) own placed is =
    subst AreNamed (sym (ap history_of is ∙ history-push old row)) (λ m i. one_more (row_message row) (history_of old) m own placed i)
named old new row (Err e) own placed same = subst (λ (l : List Row). AreNamed (history_of l)) (sym same) own

pub invariant_of-told : goal.invariant_of-told
invariant_of-told c =
    let yes : IsTrue c.are_of_set.result = search rules in
    let placed : IsTrue c.is_placed-placed.result = search rules in
    let all : All (λ (card : Card). card.set ≡ 2) c.args.cards.now = subst (All (λ (card : Card). card.set ≡ 2)) c.as_slice.ensures (c.are_of_set.ensures yes) in
    let row : Row = record { header = c.args.header.now; cards = c.args.cards.now } in
    record {
      of_set = pushed c.args.told.now.history c.push.new.self row c.push.result c.args.told.now.of_set all c.push.ensures;
      senders = λ m i. In-has (ids_named (history_of c.push.new.self)) m.sender
          (named c.args.told.now.history c.push.new.self row c.push.result
          (λ k j. has-In (ids_named (history_of c.args.told.now.history)) k.sender (c.args.told.now.senders k j))
          (c.is_placed-placed.ensures placed) c.push.ensures m i);
    }
