-- Whose card is in the rows is named by them.
use Rattle.std.proofs.Common.{◌≡◌, Bool, true, List, [], ◌∷◌, Some, None, map, reverse, inl}
use Rattle.std.proofs.Common.{inr, sym, subst}
use Rattle.std.specs.List.{find}
use Rattle.std.specs.Str.{bytes_eq}
use Rattle.std.proofs.lemmas.List.{reverse-append}
use Rattle.std.proofs.lemmas.Slice.Eq.{bytes_eq-Decides}
use Rattle.group_fields.specs.Cards.{card_id}
use Rattle.group_fields.specs.declared.card.Card.{Card}
use Rattle.group_model.specs.Sets.{Id, In, here, there}
use Rattle.group_model.specs.Membership.{ids_named, named_by}
use Rattle.group_model.proofs.ListFacts.{In-either, In-left, In-right, In-nothing, yes_is, no_is, test}
use Rattle.group_model.proofs.RemoveWins.{In-Names, Named-ids_named}
use Rattle.causal_history.specs.Rows.{IsWhole, Row, card_in, cards_of, history_of, row_message}

in-map : {A B : Type 0} (f : A → B) {x : A} {xs : List A} → In x xs → In (f x) (map f xs)
in-map f here = here
in-map f (there i) = there (in-map f i)

in-reverse : {A : Type 0} {x : A} (xs : List A) → In x xs → In x (reverse xs)
in-reverse {A} {x} (y ∷ xs) here = subst (λ z. In x z) (sym (reverse-append (x ∷ []) xs)) (In-right (reverse xs) here)
in-reverse {A} {x} (y ∷ xs) (there i) =
    subst (λ z. In x z) (sym (reverse-append (y ∷ []) xs)) (In-left (y ∷ []) (in-reverse xs i))
in-reverse [] i = absurd (In-nothing i)

row-in : (rows : List Row) (row : Row) → In row rows → In (row_message row) (history_of rows)
unfolding history_of
row-in rows row i = in-map row_message (in-reverse rows i)

-- a card that is found has the property
record IsFound (p : Card → Bool) (cards : List Card) (card : Card) : Type 0 where
  there_is : In card cards
  has : p card ≡ true

found-card : (p : Card → Bool) (cards : List Card) (card : Card) → find p cards ≡ Some card → IsFound p cards card
found-card p [] card e = absurd (let n : None ≡ Some card = e in cc)
found-card p (first ∷ cards) card e = elim (test (p first)) [
  | yes_is d ↦ let k : Some first ≡ Some card = rw d at e in let same : first ≡ card = cc in
      record {
        there_is = subst (λ z. In z (first ∷ cards)) same here;
        has = subst (λ z. p z ≡ true) same d;
      }
  | no_is d ↦ let rest = found-card p cards card (rw d at e) in
      record { there_is = there rest.there_is; has = rest.has }
]

-- the row that a card came with
record IsOfRow (rows : List Row) (card : Card) : Type 0 where
  row : Row
  there_is : In row rows
  has : In card row.cards

row-of : (rows : List Row) (card : Card) → In card (cards_of rows) → IsOfRow rows card
row-of [] card i = absurd (In-nothing i)
row-of (row ∷ rows) card i = elim (In-either row.cards i) [
  | inl j ↦ record { row = row; there_is = here; has = j }
  | inr j ↦ let rest = row-of rows card j in record { row = rest.row; there_is = there rest.there_is; has = rest.has }
]

pub card-named : (rows : List Row) → ((row : Row) → In row rows → IsWhole row) → (x : Id) (card : Card)
    → card_in rows x ≡ Some card → In x (ids_named (history_of rows))
unfolding card_in
card-named rows whole x card e =
    let found = found-card (λ (z : Card). bytes_eq (card_id z) x) (cards_of rows) card e in
    let of = row-of rows card found.there_is in
    let names : In (card_id card) (map card_id of.row.cards) = in-map card_id of.has in
    let kind = (whole of.row of.there_is).cards in
    let same = (bytes_eq-Decides (card_id card) x).0 found.has in
    let named = named_by (row_message of.row).kind in
    let names_x : In x named = subst (λ z. In z named) same (subst (λ z. In (card_id card) z) kind names) in
    Named-ids_named (history_of rows) x
    (record {
      by = row_message of.row;
      there_is = row-in rows of.row of.there_is;
      names = In-Names (row_message of.row).kind x names_x;
    })
