-- A history that is readable may be pushed row by row.
use Rattle.std.proofs.Common.{◌≡◌, ℕ, zero, suc, ◌+◌, ◌<◌, ◌≤◌, true, false, List, [], ◌∷◌, ◌++◌, Option, Some, length, map}
use Rattle.std.proofs.Common.{inl, inr, reverse, take, drop, refl, sym, ◌∙◌, ap, subst, slice_get, bytes_eq, arith}
use Rattle.std.proofs.lemmas.List.{length-map, reverse-append}
use Rattle.std.proofs.lemmas.Option.{slice_get_within}
use Rattle.std.proofs.lemmas.Slice.Eq.{bytes_eq-Decides}
use Rattle.group_fields.specs.Cards as card_words
use Rattle.group_fields.specs.Cards.{card_id}
use Rattle.group_fields.specs.declared.card.Card.{Card}
use Rattle.group_fields.specs.declared.header.Header.{Header}
use Rattle.group_model.specs.Sets.{Id, In, here, there}
use Rattle.group_model.specs.Messages.{History, IsHistory, Stands}
use Rattle.group_model.specs.Membership.{ids_named, named_by}
use Rattle.group_model.proofs.ListFacts.{equal_id, test, yes_is, no_is, In-cases, In-right}
use Rattle.group_model.proofs.RemoveWins.{ids_named-distinct, ids_named-Named, Named-ids_named, In-Names}
use Rattle.group_messages.specs.Messages.{kind_of}
use Rattle.causal_history.specs.Rows.{Row, MayBePushed, card_among, history_of, row_message}
use Rattle.causal_history.proofs.RowFacts.{history-push}
use Rattle.member_view.proofs.KindLaws.{distinct-length}
use Rattle.wire_codec.specs.Packets.{WelcomeRows}
use Rattle.wire_codec.specs.Order.{AreOfSet, IsWelcome}
use Rattle.welcome_history.specs.Welcomes.{before, cards_for, row_of, rows_of}
use Rattle.welcome_history.proofs.CardsFor.{taken, dropped, append-more, map-append}

-- ---- cards

-- among cards one of which has the id there is a first
record HasFirst (cards : List Card) (x : Id) : Type 0 where
  card : Card
  first : card_among cards x ≡ Some card
  own : card_id card ≡ x
  there_is : In card cards

first-of : (cards : List Card) (x : Id) → In x (map card_id cards) → HasFirst cards x
first-of [] x i = elim i [ ]
first-of (c ∷ cards) x i = elim (test (bytes_eq (card_id c) x)) [
  | yes_is e ↦ record { card = c; first = rw e refl; own = same e; there_is = here }
  | no_is e ↦ elim (In-cases i) [
    | inl d ↦ absurd (let yes : bytes_eq (card_id c) x ≡ true = equal_id (card_id c) x (sym d) in
        let no : true ≡ false = sym yes ∙ e in cc)
    | inr k ↦ (let f = first-of cards x k in
        record { card = f.card; first = rw e f.first; own = f.own; there_is = there f.there_is })
  ]
]
  where
    same : bytes_eq (card_id c) x ≡ true → card_id c ≡ x
    same e = (bytes_eq-Decides (card_id c) x).0 e

cards-ids : (cards : List Card) (ids : List Id) → ((x : Id) → In x ids → In x (map card_id cards))
    → map card_id (cards_for cards ids) ≡ ids
cards-ids cards [] f = refl
cards-ids cards (x ∷ ids) f =
    let k = first-of cards x (f x here) in
    ap (λ (z : Option Card). map card_id (before z (cards_for cards ids))) k.first
    ∙ ap (λ (z : Id). z ∷ map card_id (cards_for cards ids)) k.own
    ∙ ap (λ (z : List Id). x ∷ z) (cards-ids cards ids (λ y i. f y (there i)))

cards-among : (cards : List Card) (ids : List Id) → ((x : Id) → In x ids → In x (map card_id cards)) → (card : Card)
    → In card (cards_for cards ids) → In card cards
cards-among cards [] f card i = elim i [ ]
cards-among cards (x ∷ ids) f card i =
    let k = first-of cards x (f x here) in
    let j : In card (k.card ∷ cards_for cards ids) =
    subst (λ (z : Option Card). In card (before z (cards_for cards ids))) k.first i in
    elim (In-cases j) [
      | inl e ↦ subst (λ z. In z cards) (sym e) k.there_is
      | inr r ↦ cards-among cards ids (λ y q. f y (there q)) card r
    ]

spelled-of : (set : ℕ) (cards : List Card) → AreOfSet set cards → (card : Card) → In card cards
    → card_words.HasSpelling card
spelled-of set [] s card i = elim i [ ]
spelled-of set (c ∷ cards) s card i = elim (In-cases i) [
  | inl e ↦ subst card_words.HasSpelling (sym e) s.1
  | inr k ↦ spelled-of set cards s.2 card k
]

-- ---- rows

history-append : (xs ys : List Row) → history_of (xs ++ ys) ≡ history_of ys ++ history_of xs
unfolding history_of
history-append xs ys =
    ap (map row_message) (reverse-append xs ys) ∙ map-append row_message (reverse ys) (reverse xs)

older-history : (newer older : History) → IsHistory (newer ++ older) → IsHistory older
older-history [] older g = g
older-history (m ∷ newer) older g = older-history newer older g.2

named-older : (newer older : History) (x : Id) → In x (ids_named older) → In x (ids_named (newer ++ older))
named-older newer older x i =
    let n = ids_named-Named older x i in
    Named-ids_named (newer ++ older) x (record { by = n.by; there_is = In-right newer n.there_is; names = n.names })

length-taken : {A : Type 0} (n : ℕ) (xs : List A) → length (take n xs) ≤ n
length-taken zero xs = omega arith
length-taken (suc n) [] = omega arith
length-taken (suc n) (x ∷ xs) = let k = length-taken n xs in omega (arith, k)

split : {A : Type 0} (xs : List A) (at : ℕ) (x : A) → slice_get xs at ≡ Some x
    → xs ≡ (take at xs ++ x ∷ []) ++ drop (at + 1) xs
split xs at x e = whole xs at ∙ ap (λ z. take at xs ++ z) (dropped xs at x e)
    ∙ sym (append-more (take at xs) (x ∷ []) (drop (at + 1) xs))
  where
    whole : {A : Type 0} (xs : List A) (n : ℕ) → xs ≡ take n xs ++ drop n xs
    whole xs zero = refl
    whole [] (suc n) = refl
    whole (y ∷ xs) (suc n) = ap (λ z. y ∷ z) (whole xs n)

module _ (welcome : WelcomeRows) (set : ℕ) (ordered : IsWelcome set welcome)
    (cards : (x : Id) → In x (ids_named (history_of (rows_of welcome))) → In x (map card_id welcome.cards)) (at : ℕ)
    (header : Header) (stands : slice_get welcome.rows at ≡ Some header) where
  abbrev front : List Row
  front = map (row_of welcome.cards) (take at welcome.rows)

  abbrev row : Row
  row = row_of welcome.cards header

  abbrev rest : List Row
  rest = map (row_of welcome.cards) (drop (at + 1) welcome.rows)

  whole : rows_of welcome ≡ (front ++ row ∷ []) ++ rest
  whole =
      ap (map (row_of welcome.cards)) (split welcome.rows at header stands)
      ∙ map-append (row_of welcome.cards) (take at welcome.rows ++ header ∷ []) (drop (at + 1) welcome.rows)
      ∙ ap (λ (z : List Row). z ++ rest) (map-append (row_of welcome.cards) (take at welcome.rows) (header ∷ []))

  as-history : history_of (rows_of welcome) ≡ history_of rest ++ row_message row ∷ history_of front
  as-history =
      ap history_of whole ∙ history-append (front ++ row ∷ []) rest
      ∙ ap (λ (z : History). history_of rest ++ z) (history-push front row)

  named-there : (x : Id) → In x (ids_named (row_message row ∷ history_of front)) → In x (map card_id welcome.cards)
  named-there x i = cards x (subst (λ z. In x (ids_named z)) (sym as-history)
      (named-older (history_of rest) (row_message row ∷ history_of front) x i))

  own-there : (x : Id) → In x (named_by (kind_of header)) → In x (map card_id welcome.cards)
  own-there x i = named-there x (Named-ids_named (row_message row ∷ history_of front) x
      (record { by = row_message row; there_is = here; names = In-Names (kind_of header) x i }))

  -- it may, where its predecessors stand and it is new
  pub may-push : ((i : Id) → In i (row_message row).predecessors → Stands (history_of front) i)
      → (Stands (history_of front) (row_message row).id → ⊥) → MayBePushed front row
  may-push stand fresh = record {
    predecessors = stand;
    fresh = fresh;
    room =
        let l : at < length welcome.rows = slice_get_within welcome.rows at header stands in
        let few = ordered.few_rows in
        let n : length front ≡ length (take at welcome.rows) = length-map (take at welcome.rows) (row_of welcome.cards) in
        let m = length-taken at welcome.rows in
        omega (arith, l, few, n, m);
    members =
        let d = distinct-length (ids_named (row_message row ∷ history_of front)) (map card_id welcome.cards)
        (ids_named-distinct (row_message row ∷ history_of front)) named-there in
        let n : length (map card_id welcome.cards) ≡ length welcome.cards = length-map welcome.cards card_id in
        omega (arith, d, n, ordered.few_cards);
    cards = cards-ids welcome.cards (named_by (kind_of header)) own-there;
    spelled = λ card i. spelled-of set welcome.cards ordered.of_set card
        (cards-among welcome.cards (named_by (kind_of header)) own-there card i);
  }

  -- one row more
  pub rows-more : map (row_of welcome.cards) (take (at + 1) welcome.rows) ≡ front ++ row ∷ []
  rows-more =
      ap (map (row_of welcome.cards)) (taken welcome.rows at header stands)
      ∙ map-append (row_of welcome.cards) (take at welcome.rows) (header ∷ [])

  -- in a history it has predecessors that stand, and is new
  is-history : IsHistory (history_of (rows_of welcome)) → IsHistory (row_message row ∷ history_of front)
  is-history g = older-history (history_of rest) (row_message row ∷ history_of front) (subst IsHistory as-history g)

  pub may-push-read : IsHistory (history_of (rows_of welcome)) → MayBePushed front row
  may-push-read g = may-push (is-history g).0 (is-history g).1
