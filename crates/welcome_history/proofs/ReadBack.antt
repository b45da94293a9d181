-- What is handed on of rows in which each id is named once reads back as these rows.
use Rattle.std.proofs.Common.{◌≡◌, ℕ, zero, suc, false, inl, inr, List, [], ◌∷◌, ◌++◌, Some, bytes_eq, slice_get, map, refl, sym, ◌∙◌, ap, subst}
use Rattle.group_fields.specs.Cards.{card_id}
use Rattle.group_fields.specs.Headers.{HasSpelling}
use Rattle.group_fields.specs.declared.card.Card.{Card}
use Rattle.group_fields.specs.declared.header.Header.{Header}
use Rattle.group_messages.specs.Messages.{kind_of}
use Rattle.group_model.specs.Sets.{Id, In, here, there, Within, IsDistinct, has}
use Rattle.group_model.specs.Messages.{Message}
use Rattle.group_model.specs.Membership.{NamedOnce, ids_named, named_by}
use Rattle.group_model.specs.Marks.{HasNumber}
use Rattle.group_model.proofs.ListFacts.{test, yes_is, no_is, equal_id, other_id, has-In, In-has, In-cases, In-left, In-right}
use Rattle.group_model.proofs.Numbers.{number-in, number-same}
use Rattle.group_model.proofs.RemoveWins.{In-Names}
use Rattle.causal_history.specs.Rows.{Row, IsKept, card_among, card_in, cards_of, history_of, row_message}
use Rattle.causal_history.proofs.ListMore.{get-one}
use Rattle.causal_history.proofs.PushFacts.{card-named, find-left}
use Rattle.causal_history.proofs.RowFacts.{row-number}
use Rattle.wire_codec.specs.Packets.{WelcomeRows}
use Rattle.welcome_history.specs.Welcomes.{IsWelcomeOf, before, cards_for, headers_of, row_of, rows_of}

index : (xs : List Row) → {x : Row} → In x xs → (k : ℕ) × (slice_get xs k ≡ Some x)
index [] i = elim i [ ]
index (y ∷ xs) here = (zero, refl)
index (y ∷ xs) (there i) = let r = index xs i in (suc r.0, r.1)

id-in : (cards : List Card) (c : Card) → In c cards → In (card_id c) (map card_id cards)
id-in [] c i = elim i [ ]
id-in (d ∷ cards) c i = elim (In-cases i) [
  | inl e ↦ subst (λ (z : Card). In (card_id c) (card_id z ∷ map card_id cards)) e here
  | inr k ↦ there (id-in cards c k)
]

-- cards of other ids are passed over
passed : (xs ys : List Card) (x : Id) → ((c : Card) → In c xs → bytes_eq (card_id c) x ≡ false) → card_among (xs ++ ys) x ≡ card_among ys x
passed [] ys x none = refl
passed (c ∷ xs) ys x none = rw (none c here) (passed xs ys x (λ d i. none d (there i)))

-- of cards with different ids each is found by its id
found : (cards : List Card) → IsDistinct (map card_id cards) → (c : Card) → In c cards → card_among cards (card_id c) ≡ Some c
found [] d c i = elim i [ ]
found (first ∷ cards) d c i = elim (In-cases i) [
  | inl e ↦ rw (equal_id (card_id first) (card_id c) (ap card_id (sym e))) (ap (λ (z : Card). Some z) (sym e))
  | inr k ↦ rw (other_id (card_id first) (card_id c) (λ e. d.0 (subst (λ (z : Id). In z (map card_id cards)) (sym e) (id-in cards c k))))
      (found cards d.1 c k)
]

-- where each card is the first of its id, the cards of their ids are these
each_for : (among cards : List Card) → ((c : Card) → In c cards → card_among among (card_id c) ≡ Some c) → cards_for among (map card_id cards) ≡ cards
each_for among [] f = refl
each_for among (c ∷ cards) f =
    ap (λ o. before o (cards_for among (map card_id cards))) (f c here)
    ∙ ap (λ (l : List Card). c ∷ l) (each_for among cards (λ d i. f d (there i)))

all_same : (among : List Card) (rows : List Row) → ((r : Row) → In r rows → row_of among r.header ≡ r) → map (row_of among) (headers_of rows) ≡ rows
all_same among [] f = refl
all_same among (r ∷ rows) f =
    ap (λ (z : Row). z ∷ map (row_of among) (headers_of rows)) (f r here)
    ∙ ap (λ (l : List Row). r ∷ l) (all_same among rows (λ q i. f q (there i)))

card-of_row : (rows : List Row) (r : Row) (c : Card) → In r rows → In c r.cards → In c (cards_of rows)
card-of_row [] r c i j = elim i [ ]
card-of_row (q ∷ rows) r c i j = elim (In-cases i) [
  | inl e ↦ In-left (cards_of rows) (subst (λ (z : Row). In c z.cards) e j)
  | inr k ↦ In-right q.cards (card-of_row rows r c k j)
]

module _ (rows : List Row) (kept : IsKept rows) (once : NamedOnce (history_of rows))
    (distinct : (h : Header) → HasSpelling h → IsDistinct (named_by (kind_of h))) where
  -- two rows that name an id are one
  one_row : (q r : Row) (x : Id) → In q rows → In r rows → In x (named_by (kind_of q.header)) → In x (named_by (kind_of r.header)) → q ≡ r
  one_row q r x i j n m =
      let h = history_of rows in
      let a = index rows i in
      let b = index rows j in
      let at = row-number rows a.0 q a.1 in
      let there_is = row-number rows b.0 r b.1 in
      let same : row_message q ≡ row_message r = once.once (row_message q) (row_message r) x (number-in h a.0 (row_message q) at)
      (number-in h b.0 (row_message r) there_is) (In-Names (kind_of q.header) x n) (In-Names (kind_of r.header) x m) in
      let place : a.0 ≡ b.0 = number-same h kept.history a.0 b.0 (row_message r) (subst (λ (z : Message). HasNumber h a.0 z) same at) there_is in
      get-one rows b.0 q r (subst (λ (k : ℕ). slice_get rows k ≡ Some q) place a.1) b.1

  names : (r : Row) (c : Card) → In r rows → In c r.cards → In (card_id c) (named_by (kind_of r.header))
  names r c i j = subst (λ (l : List Id). In (card_id c) l) (kept.whole r i).cards (id-in r.cards c j)

  in_row : (r : Row) (c : Card) → In r rows → In c r.cards → card_among r.cards (card_id c) ≡ Some c
  in_row r c i j =
      let w = kept.whole r i in
      found r.cards (subst IsDistinct (sym w.cards) (distinct r.header w.header)) c j

  -- the card of an id that a row names is the first of all
  first_of : (rs : List Row) → Within rs rows → (r : Row) (c : Card) → In r rs → In c r.cards → card_among (cards_of rs) (card_id c) ≡ Some c
  first_of [] w r c k j = elim k [ ]
  first_of (q ∷ rs) w r c k j =
      let x = card_id c in
      let own = names r c (w.each k) j in
      elim (test (has (named_by (kind_of q.header)) x)) [
        | yes_is t ↦
            (let same : q ≡ r = one_row q r x (w.each here) (w.each k) (has-In (named_by (kind_of q.header)) x t) own in
            let here_is : card_among q.cards x ≡ Some c = subst (λ (z : Row). card_among z.cards x ≡ Some c) (sym same) (in_row r c (w.each k) j) in
            find-left (λ (d : Card). bytes_eq (card_id d) x) q.cards (cards_of rs) c here_is)
        | no_is f ↦
            (let none : In x (named_by (kind_of q.header)) → ⊥ = λ n. let t = In-has (named_by (kind_of q.header)) x n in absurd cc in
            passed q.cards (cards_of rs) x
            (λ d i. other_id (card_id d) x (λ e. none (subst (λ (z : Id). In z (named_by (kind_of q.header))) e (names q d (w.each here) i))))
            ∙ first_of rs (record { each = λ {a} i. w.each (there i) }) r c (elim (In-cases k) [
              | inl e ↦ absurd (none (subst (λ (z : Row). In x (named_by (kind_of z.header))) e own))
              | inr l ↦ l
            ]) j)
      ]

  module _ (welcome : WelcomeRows) (of : IsWelcomeOf rows welcome) where
    handed : (r : Row) → In r rows → (c : Card) → In c r.cards → card_among welcome.cards (card_id c) ≡ Some c
    unfolding card_in
    handed r i c j =
        of.first (card_id c) (card-named rows kept c (card-of_row rows r c i j))
        ∙ first_of rows (record { each = λ {a} k. k }) r c i j

    same_row : (r : Row) → In r rows → row_of welcome.cards r.header ≡ r
    same_row r i =
        let cards : cards_for welcome.cards (named_by (kind_of r.header)) ≡ r.cards =
        ap (cards_for welcome.cards) (sym (kept.whole r i).cards) ∙ each_for welcome.cards r.cards (handed r i) in
        ap (λ (l : List Card). let q : Row = record { header = r.header; cards = l } in q) cards

    pub read_back : rows_of welcome ≡ rows
    read_back = ap (map (row_of welcome.cards)) of.headers ∙ all_same welcome.cards rows same_row
