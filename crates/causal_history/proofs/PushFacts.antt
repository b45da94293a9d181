-- One row more.
use Rattle.std.proofs.Common.{◌≡◌, ℕ, zero, suc, ◌+◌, ◌<◌, ◌≤◌, inl, inr, Bool, true, false, List, [], ◌∷◌, ◌++◌, length, slice_get, map, drop, Some, refl, sym, ◌∙◌, ap, subst, arith, append_assoc}
use Rattle.std.specs.Prelude.{find}
use Rattle.std.specs.Str.{bytes_eq}
use Rattle.std.proofs.lemmas.List.{length-map, length-append, append-nil}
use Rattle.std.proofs.lemmas.Bool.Decides.{eqb_tells}
use Rattle.std.proofs.lemmas.Slice.Eq.{bytes_eq-Decides}
use Rattle.group_fields.specs.Cards.{card_id}
use Rattle.group_fields.specs.Headers.{HasSpelling, message_id}
use Rattle.group_fields.specs.declared.card.Card.{Card}
use Rattle.group_fields.specs.declared.header.Header.{Header}
use Rattle.group_model.specs.Sets.{Id, In, here, there, has}
use Rattle.group_model.specs.Messages.{Stands}
use Rattle.group_model.specs.Membership.{ids_named, joined, named_by, with_id}
use Rattle.group_model.specs.Marks.{IsPlace}
use Rattle.group_model.proofs.ListFacts.{test, yes_is, no_is, has-In, In-has, In-left, In-right, In-either, In-cases, In-nothing}
use Rattle.group_model.proofs.Places.{in-place, place-joined}
use Rattle.group_model.proofs.RemoveWins.{In-Names, Named-ids_named}
use Rattle.group_model.proofs.Numbers.{number-in}
use Rattle.group_messages.specs.Messages.{ids_of, kind_of}
use Rattle.causal_history.specs.Rows.{Row, row_message, history_of, cards_of, card_among, card_in, senders_of, IsWhole, IsKept, MayBePushed}
use Rattle.causal_history.specs.Keeping.{AreNumbers, IsLink, IsCardAt, AreCardsAt, Roster, roster_of, with_card, enrolled, IsTable}
use Rattle.causal_history.specs.declared.table.Link.{Link}
use Rattle.causal_history.specs.declared.table.CardPlace.{CardPlace}
use Rattle.causal_history.proofs.ListMore.{get-below, get-one, get-there, get-map, get-left, get-last, get-more, map-append, window-left, drop-next}
use Rattle.causal_history.proofs.Numbers.{number-stands}
use Rattle.causal_history.proofs.RowFacts.{history-push, id-number, row-number}
use Rattle.causal_history.proofs.TableFacts.{not_has}

-- ---- links stay

place-more : (keys : List Id) (x : Id) (p : ℕ) (y : Id) → IsPlace keys p y → IsPlace (keys ++ x ∷ []) p y
place-more keys x p y e = get-left keys (x ∷ []) p y e

numbers-wider : (keys : List Id) (x : Id) (ns : List ℕ) (ids : List Id) → AreNumbers keys ns ids → AreNumbers (keys ++ x ∷ []) ns ids
numbers-wider keys x ns ids v = record { size = v.size; each = λ k l. place-more keys x _ _ (v.each k l) }

-- more ids of rows
link-ids : (keys senders : List Id) (x : Id) (numbers : List ℕ) (link : Link) (h : Header) → IsLink keys senders numbers link h
    → IsLink (keys ++ x ∷ []) senders numbers link h
link-ids keys senders x numbers link h v = record {
  kind = v.kind;
  seq = v.seq;
  sender = v.sender;
  answered = λ at e. let a = v.answered at e in record { operation = a.operation; answers = a.answers; number = place-more keys x at a.operation a.number };
  within = v.within;
  predecessors = numbers-wider keys x _ _ v.predecessors;
}

-- more senders and more numbers
link-stays : (keys senders : List Id) (s : Id) (numbers more : List ℕ) (link : Link) (h : Header) → IsLink keys senders numbers link h
    → IsLink keys (with_id senders s) (numbers ++ more) link h
link-stays keys senders s numbers more link h v = record {
  kind = v.kind;
  seq = v.seq;
  sender = place-joined senders (s ∷ []) link.sender h.sender.0.0 v.sender;
  answered = v.answered;
  within = omega (arith, v.within, length-append numbers more);
  predecessors = subst (λ z. AreNumbers keys z (ids_of h.predecessors)) (sym (window-left numbers more link.first link.count v.within)) v.predecessors;
}

-- ---- cards

pub cards_of-push : (rows : List Row) (row : Row) → cards_of (rows ++ row ∷ []) ≡ cards_of rows ++ row.cards
cards_of-push [] row = append-nil row.cards
cards_of-push (r ∷ rows) row = ap (λ z. r.cards ++ z) (cards_of-push rows row) ∙ sym (append_assoc r.cards (cards_of rows) row.cards)

-- a card of the rows is one of a row's
record IsOfRow (rows : List Row) (c : Card) : Type 0 where
  pub row : Row
  pub there_is : In row rows
  pub among : In c row.cards

of_row : (rows : List Row) (c : Card) → In c (cards_of rows) → IsOfRow rows c
of_row [] c i = absurd (In-nothing i)
of_row (r ∷ rows) c i = elim (In-either r.cards i) [
  | inl k ↦ record { row = r; there_is = here; among = k }
  | inr k ↦ let q = of_row rows c k in record { row = q.row; there_is = there q.there_is; among = q.among }
]

in-map : {A B : Type 0} (f : A → B) (xs : List A) {x : A} → In x xs → In (f x) (map f xs)
in-map f [] i = elim i [ ]
in-map f (y ∷ xs) here = here
in-map f (y ∷ xs) (there i) = there (in-map f xs i)

-- a row's message is in the history
row-in : (rows : List Row) (row : Row) → In row rows → In (row_message row) (history_of rows)
row-in rows row i = let k = index rows i in number-in (history_of rows) k.0 (row_message row) (row-number rows k.0 row k.1)
  where
    index : (xs : List Row) → {x : Row} → In x xs → (k : ℕ) × (slice_get xs k ≡ Some x)
    index [] i = elim i [ ]
    index (y ∷ xs) here = (zero, refl)
    index (y ∷ xs) (there i) = let r = index xs i in (suc r.0, r.1)

-- whoever has a card in the rows is named
pub card-named : (rows : List Row) → IsKept rows → (c : Card) → In c (cards_of rows) → In (card_id c) (ids_named (history_of rows))
card-named rows kept c i =
    let q = of_row rows c i in
    let w = kept.whole q.row q.there_is in
    Named-ids_named (history_of rows) (card_id c) (record {
      by = row_message q.row;
      there_is = row-in rows q.row q.there_is;
      names = In-Names (kind_of q.row.header) (card_id c) (subst (λ z. In (card_id c) z) w.cards (in-map card_id q.row.cards q.among));
    })

pub find-left : (p : Card → Bool) (xs ys : List Card) (c : Card) → find p xs ≡ Some c → find p (xs ++ ys) ≡ Some c
find-left p [] ys c e = absurd cc
find-left p (x ∷ xs) ys c e = elim (test (p x)) [
  | yes_is t ↦ rw t (rw t at e)
  | no_is f ↦ rw f (find-left p xs ys c (rw f at e))
]

find-right : (p : Card → Bool) (xs ys : List Card) → ((c : Card) → In c xs → p c ≡ false) → find p (xs ++ ys) ≡ find p ys
find-right p [] ys none = refl
find-right p (x ∷ xs) ys none = rw (none x here) (find-right p xs ys (λ c i. none c (there i)))

find-at : (p : Card → Bool) (xs : List Card) (k : ℕ) (c : Card) → slice_get xs k ≡ Some c → p c ≡ true
    → ((j : ℕ) (d : Card) → j < k → slice_get xs j ≡ Some d → p d ≡ false) → find p xs ≡ Some c
find-at p [] k c e t before = absurd cc
find-at p (x ∷ xs) zero c e t before = let d : x ≡ c = cc in let u : p x ≡ true = ap p d ∙ t in rw u e
find-at p (x ∷ xs) (suc k) c e t before =
    let f : p x ≡ false = before zero x (omega arith) refl in
    rw f (find-at p xs k c e t (λ j d l g. before (suc j) d (omega arith) g))

module _ (rows : List Row) (row : Row) (kept : IsKept rows) (fits : map card_id row.cards ≡ named_by (kind_of row.header)) where
  card_at-stays : (x : Id) (place : CardPlace) → IsCardAt rows x place → IsCardAt (rows ++ row ∷ []) x place
  unfolding card_in
  card_at-stays x place k = record {
    row = k.row;
    card = k.card;
    in_rows = get-left rows (row ∷ []) place.row k.row k.in_rows;
    in_row = k.in_row;
    first = ap (λ z. card_among z x) (cards_of-push rows row)
        ∙ find-left (λ (c : Card). bytes_eq (card_id c) x) (cards_of rows) row.cards k.card k.first;
  }

  -- the ids that are named so far: those of the rows, and the first so many of the row
  record Covers (named : List Id) (at : ℕ) : Type 0 where
    pub old : (x : Id) → In x (ids_named (history_of rows)) → In x named
    pub new : (j : ℕ) (x : Id) → j < at → slice_get (named_by (kind_of row.header)) j ≡ Some x → In x named

  other_id : (x : Id) (c : Card) (named : List Id) → (In x named → ⊥) → In (card_id c) named → bytes_eq (card_id c) x ≡ false
  other_id x c named n i = elim (test (bytes_eq (card_id c) x)) [
    | yes_is t ↦ absurd (n (subst (λ z. In z named) ((bytes_eq-Decides (card_id c) x).0 t) i))
    | no_is f ↦ f
  ]

  -- the card of an id that was not named
  card_at-new : (named : List Id) (at : ℕ) (x : Id) → Covers named at → slice_get (named_by (kind_of row.header)) at ≡ Some x
      → (In x named → ⊥) → IsCardAt (rows ++ row ∷ []) x (record { row = length rows; at = at })
  unfolding card_in
  card_at-new named at x covers e n =
      let names : slice_get (map card_id row.cards) at ≡ Some x = ap (λ z. slice_get z at) fits ∙ e in
      let below = get-below (map card_id row.cards) at x names in
      let c = get-there row.cards at (omega (arith, below, length-map row.cards card_id)) in
      let id : card_id c.0 ≡ x = get-one (map card_id row.cards) at (card_id c.0) x (get-map card_id row.cards at c.0 c.1) names in
      record {
        row = row;
        card = c.0;
        in_rows = get-last rows row;
        in_row = c.1;
        first = ap (λ z. card_among z x) (cards_of-push rows row)
            ∙ find-right (λ (d : Card). bytes_eq (card_id d) x) (cards_of rows) row.cards
            (λ d i. other_id x d named n (covers.old (card_id d) (card-named rows kept d i)))
            ∙ find-at (λ (d : Card). bytes_eq (card_id d) x) row.cards at c.0 c.1 ((bytes_eq-Decides (card_id c.0) x).1 id)
            (λ j d l g. other_id x d named n (covers.new j (card_id d) l
            (ap (λ z. slice_get z j) (sym fits) ∙ get-map card_id row.cards j d g)));
      }

  -- one id more
  cards-known : (r : Roster) (at : ℕ) (x : Id) → has r.named x ≡ true → AreCardsAt (rows ++ row ∷ []) r.named r.places
      → AreCardsAt (rows ++ row ∷ []) (with_card (length rows) at x r).named (with_card (length rows) at x r).places
  cards-known r at x t k = rw t k

  cards-new : (r : Roster) (at : ℕ) (x : Id) → has r.named x ≡ false → Covers r.named at
      → slice_get (named_by (kind_of row.header)) at ≡ Some x → AreCardsAt (rows ++ row ∷ []) r.named r.places
      → AreCardsAt (rows ++ row ∷ []) (with_card (length rows) at x r).named (with_card (length rows) at x r).places
  cards-new r at x f covers e k = rw f (record {
    size = omega (arith, k.size, length-append r.named (x ∷ []), length-append r.places ((record { row = length rows; at = at }) ∷ []));
    each = λ p y place m d. elim (eqb_tells p (length r.named)) [
      | inl q ↦
          let id : x ≡ y = get-one (r.named ++ x ∷ []) (length r.named) x y (get-last r.named x) (ap (λ z. slice_get (r.named ++ x ∷ []) z) (sym q.1) ∙ m) in
          let is : (record { row = length rows; at = at }) ≡ place =
          get-one (r.places ++ (record { row = length rows; at = at }) ∷ []) (length r.places) (record { row = length rows; at = at }) place
          (get-last r.places (record { row = length rows; at = at }))
          (ap (λ z. slice_get (r.places ++ (record { row = length rows; at = at }) ∷ []) z) (k.size ∙ sym q.1) ∙ d) in
          subst (λ z. IsCardAt (rows ++ row ∷ []) z place) id
          (subst (λ z. IsCardAt (rows ++ row ∷ []) x z) is
          (card_at-new r.named at x covers e (λ i. let t = In-has r.named x i in cc)))
      | inr q ↦
          let l = get-below (r.named ++ x ∷ []) p y m in
          let b : p < length r.named = omega (arith, l, length-append r.named (x ∷ []), q.1) in
          k.each p y place (get-more r.named x p y m b)
          (get-more r.places (record { row = length rows; at = at }) p place d (omega (arith, b, k.size)))
    ];
  })

  covers-next : (r : Roster) (at : ℕ) (x : Id) → slice_get (named_by (kind_of row.header)) at ≡ Some x → Covers r.named at
      → Covers (with_card (length rows) at x r).named (at + 1)
  covers-next r at x e covers = elim (test (has r.named x)) [
    | yes_is t ↦ rw t (record {
      old = covers.old;
      new = λ j y l g. elim (eqb_tells j at) [
        | inl q ↦ subst (λ z. In z r.named) (get-one (named_by (kind_of row.header)) at x y e (ap (λ z. slice_get (named_by (kind_of row.header)) z) (sym q.1) ∙ g)) (has-In r.named x t)
        | inr q ↦ covers.new j y (omega (arith, l, q.1)) g
      ];
    })
    | no_is f ↦ rw f (record {
      old = λ y i. In-left (x ∷ []) (covers.old y i);
      new = λ j y l g. elim (eqb_tells j at) [
        | inl q ↦ subst (λ z. In z (r.named ++ x ∷ [])) (get-one (named_by (kind_of row.header)) at x y e (ap (λ z. slice_get (named_by (kind_of row.header)) z) (sym q.1) ∙ g)) (In-right r.named here)
        | inr q ↦ In-left (x ∷ []) (covers.new j y (omega (arith, l, q.1)) g)
      ];
    })
  ]

  cards-next : (r : Roster) (at : ℕ) (x : Id) → slice_get (named_by (kind_of row.header)) at ≡ Some x → Covers r.named at
      → AreCardsAt (rows ++ row ∷ []) r.named r.places
      → AreCardsAt (rows ++ row ∷ []) (with_card (length rows) at x r).named (with_card (length rows) at x r).places
  cards-next r at x e covers k = elim (test (has r.named x)) [
    | yes_is t ↦ cards-known r at x t k
    | no_is f ↦ cards-new r at x f covers e k
  ]

  -- all ids that the row names
  cards-enrolled : (ids : List Id) (at : ℕ) (r : Roster) → drop at (named_by (kind_of row.header)) ≡ ids → Covers r.named at
      → AreCardsAt (rows ++ row ∷ []) r.named r.places
      → AreCardsAt (rows ++ row ∷ []) (enrolled (length rows) r ids at).named (enrolled (length rows) r ids at).places
  cards-enrolled [] at r e covers k = k
  cards-enrolled (i ∷ ids) at r e covers k =
      let g : slice_get (named_by (kind_of row.header)) at ≡ Some i = get-dropped (named_by (kind_of row.header)) at i ids e in
      cards-enrolled ids (at + 1) (with_card (length rows) at i r) (drop-dropped (named_by (kind_of row.header)) at i ids e)
      (covers-next r at i g covers) (cards-next r at i g covers k)
    where
      get-dropped : (xs : List Id) (at : ℕ) (x : Id) (rest : List Id) → drop at xs ≡ x ∷ rest → slice_get xs at ≡ Some x
      get-dropped [] zero x rest e = absurd cc
      get-dropped [] (suc at) x rest e = absurd cc
      get-dropped (y ∷ xs) zero x rest e = cc
      get-dropped (y ∷ xs) (suc at) x rest e = get-dropped xs at x rest e

      drop-dropped : (xs : List Id) (at : ℕ) (x : Id) (rest : List Id) → drop at xs ≡ x ∷ rest → drop (at + 1) xs ≡ rest
      drop-dropped xs at x rest e =
          let d : x ∷ drop (at + 1) xs ≡ x ∷ rest = sym (drop-next xs at x (get-dropped xs at x rest e)) ∙ e in cc

  cards-pushed : (named : List Id) (places : List CardPlace) → named ≡ ids_named (history_of rows) → AreCardsAt rows named places
      → AreCardsAt (rows ++ row ∷ []) (enrolled (length rows) (roster_of named places) (named_by (kind_of row.header)) 0).named
      (enrolled (length rows) (roster_of named places) (named_by (kind_of row.header)) 0).places
  cards-pushed named places are k = cards-enrolled (named_by (kind_of row.header)) 0 (roster_of named places) refl
      (record { old = λ x i. subst (λ z. In x z) (sym are) i; new = λ j x l g. absurd (omega arith) })
      (record { size = k.size; each = λ p x place e d. card_at-stays x place (k.each p x place e d) })

-- the ids of a roster
enrolled-named : (row : ℕ) (r : Roster) (ids : List Id) (at : ℕ) → (enrolled row r ids at).named ≡ joined r.named ids
enrolled-named row r [] at = refl
enrolled-named row r (i ∷ ids) at =
    enrolled-named row (with_card row at i r) ids (at + 1) ∙ ap (λ z. joined z ids) (elim (test (has r.named i)) [
      | yes_is t ↦ rw t refl
      | no_is f ↦ rw f refl
    ])

-- ---- the table with one row more

-- an id of the index stands
pub key-stands : (rows : List Row) (ids : List Id) → ids ≡ map (λ (row : Row). message_id row.header) rows → (id : Id) → In id ids
    → Stands (history_of rows) id
key-stands rows ids are id i = let p = in-place ids id i in number-stands (history_of rows) id p.0 (id-number rows ids are p.0 id p.1)

module _ (rows : List Row) (row : Row) (links : List Link) (link : Link) (numbers more : List ℕ) (ids senders named : List Id) (places : List CardPlace)
    (table : IsTable rows links numbers ids senders named places) (may : MayBePushed rows row) (spelled : HasSpelling row.header)
    (few : length more ≤ 32) (is : IsLink ids (with_id senders row.header.sender.0.0) (numbers ++ more) link row.header) where
  kept-pushed : IsKept (rows ++ row ∷ [])
  kept-pushed = record {
    history = rw (history-push rows row) (may.predecessors, may.fresh, table.kept.history);
    few = omega (arith, may.room, length-append rows (row ∷ []));
    members = rw (history-push rows row) may.members;
    whole = λ r i. elim (In-either rows i) [
      | inl k ↦ table.kept.whole r k
      | inr k ↦ elim (In-cases k) [
        | inl e ↦ subst IsWhole (sym e) (record { header = spelled; cards = may.cards; spelled = may.spelled })
        | inr n ↦ absurd (In-nothing n)
      ]
    ];
  }

  linked-pushed : (i : ℕ) (l : Link) (r : Row) → slice_get (links ++ link ∷ []) i ≡ Some l → slice_get (rows ++ row ∷ []) i ≡ Some r
      → IsLink (ids ++ message_id row.header ∷ []) (with_id senders row.header.sender.0.0) (numbers ++ more) l r.header
  linked-pushed i l r e d = elim (eqb_tells i (length rows)) [
    | inl q ↦
        let a : row ≡ r = get-one (rows ++ row ∷ []) (length rows) row r (get-last rows row) (ap (λ z. slice_get (rows ++ row ∷ []) z) (sym q.1) ∙ d) in
        let b : link ≡ l = get-one (links ++ link ∷ []) (length links) link l (get-last links link)
        (ap (λ z. slice_get (links ++ link ∷ []) z) (table.linked ∙ sym q.1) ∙ e) in
        subst (λ z. IsLink (ids ++ message_id row.header ∷ []) (with_id senders row.header.sender.0.0) (numbers ++ more) z r.header) b
        (subst (λ (z : Row). IsLink (ids ++ message_id row.header ∷ []) (with_id senders row.header.sender.0.0) (numbers ++ more) link z.header) a
        (link-ids ids (with_id senders row.header.sender.0.0) (message_id row.header) (numbers ++ more) link row.header is))
    | inr q ↦
        let below : i < length rows = omega (arith, get-below (rows ++ row ∷ []) i r d, length-append rows (row ∷ []), q.1) in
        link-ids ids (with_id senders row.header.sender.0.0) (message_id row.header) (numbers ++ more) l r.header
        (link-stays ids senders row.header.sender.0.0 numbers more l r.header
        (table.each i l r (get-more links link i l e (omega (arith, below, table.linked))) (get-more rows row i r d below)))
  ]

  table-pushed : IsTable (rows ++ row ∷ []) (links ++ link ∷ []) (numbers ++ more) (ids ++ message_id row.header ∷ [])
      (with_id senders row.header.sender.0.0)
      (enrolled (length rows) (roster_of named places) (named_by (kind_of row.header)) 0).named
      (enrolled (length rows) (roster_of named places) (named_by (kind_of row.header)) 0).places
  table-pushed = record {
    kept = kept-pushed;
    ids_are = ap (λ z. z ++ message_id row.header ∷ []) table.ids_are ∙ sym (map-append (λ (r : Row). message_id r.header) rows (row ∷ []));
    senders_are = ap (λ z. with_id z row.header.sender.0.0) table.senders_are ∙ ap senders_of (sym (history-push rows row));
    named_are = enrolled-named (length rows) (roster_of named places) (named_by (kind_of row.header)) 0
        ∙ ap (λ z. joined z (named_by (kind_of row.header))) table.named_are ∙ ap ids_named (sym (history-push rows row));
    linked = omega (arith, table.linked, length-append rows (row ∷ []), length-append links (link ∷ []));
    each = linked-pushed;
    few = omega (arith, table.few, few, length-append numbers more, length-append rows (row ∷ []));
    cards = cards-pushed rows row table.kept may.cards named places table.named_are table.cards;
  }

  -- the parts of a table that was pushed to
  pub pushed : (rows' : List Row) (links' : List Link) (numbers' : List ℕ) (ids' senders' named' : List Id) (places' : List CardPlace)
      → rows' ≡ rows ++ row ∷ [] → links' ≡ links ++ link ∷ [] → numbers' ≡ numbers ++ more → ids' ≡ with_id ids (message_id row.header)
      → senders' ≡ with_id senders row.header.sender.0.0
      → roster_of named' places' ≡ enrolled (length rows) (roster_of named places) (named_by (kind_of row.header)) 0
      → IsTable rows' links' numbers' ids' senders' named' places'
  pushed rows' links' numbers' ids' senders' named' places' a b c d e f =
      let fresh : has ids (message_id row.header) ≡ false =
      not_has ids (message_id row.header) (λ i. may.fresh (key-stands rows ids table.ids_are (message_id row.header) i)) in
      let ids_are : ids' ≡ ids ++ message_id row.header ∷ [] = rw fresh at d in
      let n : named' ≡ (enrolled (length rows) (roster_of named places) (named_by (kind_of row.header)) 0).named = ap (λ (r : Roster). r.named) f in
      let p : places' ≡ (enrolled (length rows) (roster_of named places) (named_by (kind_of row.header)) 0).places = ap (λ (r : Roster). r.places) f in
      rw (a, b, c, ids_are, e, n, p) table-pushed
