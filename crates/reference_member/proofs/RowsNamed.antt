-- Rows that have the cards of the ids that they name.
use Rattle.std.proofs.Common.{◌≡◌, List, [], ◌∷◌, ◌++◌, map, reverse, refl, sym, ◌∙◌, ap, subst, inl, inr, true, false}
use Rattle.std.proofs.lemmas.List.{reverse-append}
use Rattle.group_fields.specs.Cards.{card_id}
use Rattle.group_fields.specs.declared.card.Card.{Card}
use Rattle.group_model.specs.Sets.{Id, In, here, there}
use Rattle.group_model.specs.Messages.{Kind, Create, Update, Remove, Add, Ack, AddAck, Text, Message, History, with_past}
use Rattle.group_model.specs.Membership.{InView, IsAddressee, IsMembershipRule, Named, Names, named_by}
use Rattle.group_model.proofs.ListFacts.{In-cases, In-either, In-left, In-nothing, In-right}
use Rattle.group_model.proofs.Pasts.{past-within}
use Rattle.group_model.proofs.RemoveWins.{Names-In}
use Rattle.group_messages.specs.Messages.{kind_of}
use Rattle.causal_history.specs.Rows.{Row, cards_of, history_of, row_message}
use Rattle.reference_member.proofs.OwnerForms.{from-map, in-map}

abbrev pub IsNamed : Row → Type 0
IsNamed row = map card_id row.cards ≡ named_by (kind_of row.header)

abbrev pub AreNamed : List Row → Type 0
AreNamed rows = (row : Row) → In row rows → IsNamed row

pub named-more : (rows : List Row) (row : Row) → AreNamed rows → IsNamed row → AreNamed (rows ++ row ∷ [])
named-more rows row are is one i = elim (In-either rows i) [
  | inl j ↦ are one j
  | inr j ↦ elim (In-cases j) [ inl e ↦ subst IsNamed (sym e) is | inr n ↦ absurd (In-nothing n) ]
]

nothing-behind : {A : Type 0} (xs : List A) → xs ++ [] ≡ xs
nothing-behind [] = refl
nothing-behind (x ∷ xs) = ap (λ z. x ∷ z) (nothing-behind xs)

pub append-more : {A : Type 0} (xs ys zs : List A) → (xs ++ ys) ++ zs ≡ xs ++ (ys ++ zs)
append-more [] ys zs = refl
append-more (x ∷ xs) ys zs = ap (λ z. x ∷ z) (append-more xs ys zs)

pub cards-more : (rows : List Row) (row : Row) → cards_of (rows ++ row ∷ []) ≡ cards_of rows ++ row.cards
cards-more [] row = nothing-behind row.cards
cards-more (r ∷ rows) row =
    ap (λ z. r.cards ++ z) (cards-more rows row) ∙ sym (append-more r.cards (cards_of rows) row.cards)

from-reverse : {A : Type 0} (xs : List A) {x : A} → In x (reverse xs) → In x xs
from-reverse [] i = absurd (In-nothing i)
from-reverse (y ∷ xs) {x} i =
    elim (In-either (reverse xs) (subst (λ z. In x z) (reverse-append (y ∷ []) xs) i)) [
      | inl j ↦ there (from-reverse xs j)
      | inr j ↦ elim (In-cases j) [ inl e ↦ subst (λ z. In z (y ∷ xs)) (sym e) here | inr n ↦ absurd (In-nothing n) ]
    ]

-- a message of the history is that of a row
pub row-of : (rows : List Row) (m : Message) → In m (history_of rows) → (row : Row) × In row rows × (m ≡ row_message row)
unfolding history_of
row-of rows m i = let r = from-map row_message (reverse rows) m i in (r.0, from-reverse rows r.1, r.2)

in-reverse : {A : Type 0} {x : A} (xs : List A) → In x xs → In x (reverse xs)
in-reverse [] i = absurd (In-nothing i)
in-reverse {A} {x} (y ∷ xs) i = subst (λ z. In x z) (sym (reverse-append (y ∷ []) xs)) (elim (In-cases i) [
  | inl e ↦ In-right (reverse xs) (subst (λ z. In z (y ∷ [])) (sym e) here)
  | inr j ↦ In-left (y ∷ []) (in-reverse xs j)
])

-- and a row's message is of the history
pub in-history : (rows : List Row) (row : Row) → In row rows → In (row_message row) (history_of rows)
unfolding history_of
in-history rows row i = in-map row_message (in-reverse rows i)

pub cards-of-row : (rows : List Row) (row : Row) → In row rows → (card : Card) → In card row.cards → In card (cards_of rows)
cards-of-row [] row i card j = absurd (In-nothing i)
cards-of-row (r ∷ rows) row i card j = elim (In-cases i) [
  | inl e ↦ In-left (cards_of rows) (subst (λ (z : Row). In card z.cards) e j)
  | inr k ↦ In-right r.cards (cards-of-row rows row k card j)
]

pub named-card : (rows : List Row) → AreNamed rows → (y : Id) → Named (history_of rows) y → In y (map card_id (cards_of rows))
named-card rows are y n =
    let r = row-of rows n.by n.there_is in
    let names : In y (named_by (kind_of r.0.header)) =
    Names-In (kind_of r.0.header) y (subst (λ (z : Message). Names z.kind y) r.2 n.names) in
    let c = from-map card_id r.0.cards y (subst (λ z. In y z) (sym (are r.0 r.1)) names) in
    subst (λ z. In z (map card_id (cards_of rows))) (sym c.2)
    (in-map card_id (cards-of-row rows r.0 r.1 c.0 c.1))

-- ---- whom a message is for

module _ (rule : History → List Id) (is_rule : IsMembershipRule rule) (m : Message) (h : History) where
  viewed-named : (y : Id) → InView rule (m ∷ h) m y → Named (m ∷ h) y
  viewed-named y v =
      let n = is_rule.named (with_past (m ∷ h) m) y v in
      elim (In-cases n.there_is) [
        | inl e ↦ record { by = m; there_is = here; names = subst (λ (z : Message). Names z.kind y) e n.names }
        | inr i ↦ record { by = n.by; there_is = past-within (m ∷ h) m.predecessors i; names = n.names }
      ]

  -- who is addressed is named
  pub addressee-named : (k : Kind) → m.kind ≡ k → (y : Id) → IsAddressee rule (m ∷ h) m k y → Named (m ∷ h) y
  addressee-named (Create members) e y a = viewed-named y a.in_view
  addressee-named Update e y a = viewed-named y a.in_view
  addressee-named (Remove z) e y a = viewed-named y a.in_view
  addressee-named (Add z) e y a = record { by = m; there_is = here; names = subst (λ k. Names k y) (sym e) a }
  addressee-named (Ack i true) e y a = viewed-named y a.in_view
  addressee-named (Ack i false) e y a = absurd a
  addressee-named (AddAck i) e y a = viewed-named y a.in_view
  addressee-named Text e y a = absurd a
