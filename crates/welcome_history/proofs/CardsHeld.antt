-- The ids that rows name, and the cards of them.
use Rattle.std.proofs.Common.{◌≡◌, ℕ, ◌+◌, ◌<◌, Bool, true, false, ◌⊎◌, inl, inr, List, [], ◌∷◌, ◌++◌}
use Rattle.std.proofs.Common.{Option, Some, None, IfNone, length, map, take, drop, refl, sym, ◌∙◌, ap, subst, slice_get}
use Rattle.std.proofs.Common.{get_or, bytes_eq, arith}
use Rattle.std.proofs.lemmas.List.{length-map}
use Rattle.std.proofs.lemmas.Option.{slice_get-get_or}
use Rattle.std.proofs.lemmas.Slice.Eq.{bytes_eq-Decides}
use Rattle.group_fields.specs.Cards.{card_id}
use Rattle.group_fields.specs.declared.card.Card.{Card}
use Rattle.group_fields.specs.declared.header.Header.{Header}
use Rattle.group_fields.specs.declared.ids.Digest.{Digest}
use Rattle.group_fields.specs.declared.ids.MemberId.{MemberId}
use Rattle.group_model.specs.Sets.{Id, In, here, there, Within, IsDistinct}
use Rattle.group_model.specs.Membership.{ids_named, named_by}
use Rattle.group_model.specs.Marks.{IsCrowd, IsPlace}
use Rattle.group_model.proofs.ListFacts.{equal_id, In-cases, In-either, In-nothing}
use Rattle.group_model.proofs.Numbers.{number-in}
use Rattle.group_model.proofs.Places.{place-in, in-place}
use Rattle.group_model.proofs.RemoveWins.{In-Names, Named-ids_named, joined-left, joined-right, joined-either}
use Rattle.group_messages.specs.Messages.{ids_of, kind_of}
use Rattle.group_messages.proofs.HeaderFacts.{ascending-distinct, ascends-ascending}
use Rattle.causal_history.specs.Rows.{history_of, row_message}
use Rattle.causal_history.proofs.ListMore.{get-map, get-below, get-there}
use Rattle.causal_history.proofs.RowFacts.{history-none, history-push, row-number}
use Rattle.member_view.specs.Crowds.{MorePlaces}
use Rattle.member_view.proofs.Crowds.{more-more}
use Rattle.wire_codec.specs.Order.{AreOfSet, IsWelcome, card_ids}
use Rattle.wire_codec.specs.Packets.{WelcomeRows}
use Rattle.welcome_history.specs.Joining.{CardsHold, Joining}
use Rattle.welcome_history.specs.Welcomes.{row_of, rows_of}
use Rattle.welcome_history.proofs.CardsFor.{taken, dropped, map-append}

abbrev pub member_id : MemberId → Id
member_id id = id.0.0

-- what follows from what a clause says of a `None`
pub none-then : {X P Q : Type 0} (r : Option X) → IfNone r P → (P → Q) → IfNone r Q
none-then None p f = f p
none-then (Some x) p f = tt

-- ---- the first items of a list

-- what is among one item more is that item or was among those before
pub first-cases : {A : Type 0} (xs : List A) (at : ℕ) (x y : A) → slice_get xs at ≡ Some x
    → In y (take (at + 1) xs) → (y ≡ x) ⊎ In y (take at xs)
first-cases xs at x y e i = elim (In-either (take at xs) (subst (λ z. In y z) (taken xs at x e) i)) [
  | inl j ↦ inr j
  | inr j ↦ elim (In-cases j) [ inl d ↦ inl d | inr q ↦ absurd (In-nothing q) ]
]

ids-cases : (ids : List MemberId) (at : ℕ) (id : MemberId) (x : Id) → slice_get ids at ≡ Some id
    → In x (map member_id (take (at + 1) ids)) → (x ≡ id.0.0) ⊎ In x (map member_id (take at ids))
ids-cases ids at id x e i =
    let same : map member_id (take (at + 1) ids) ≡ map member_id (take at ids) ++ id.0.0 ∷ [] =
    ap (map member_id) (taken ids at id e) ∙ map-append member_id (take at ids) (id ∷ []) in
    elim (In-either (map member_id (take at ids)) (subst (λ z. In x z) same i)) [
      | inl j ↦ inr j
      | inr j ↦ elim (In-cases j) [ inl d ↦ inl d | inr q ↦ absurd (In-nothing q) ]
    ]

module _ (ids : List MemberId) (at : ℕ) (d : MemberId) (x : Id) (low : at < length ids) where
  stands : slice_get ids at ≡ Some (get_or ids at d)
  stands = slice_get-get_or ids at d low

  -- an id that is tested equal has this place
  pub place-here : bytes_eq (get_or ids at d).0.0 x ≡ true → IsPlace (map member_id ids) at x
  place-here e = get-map member_id ids at (get_or ids at d) stands
      ∙ ap (λ z. Some z) ((bytes_eq-Decides (get_or ids at d).0.0 x).0 e)

  -- one of another id is passed over
  pub none-yet : bytes_eq (get_or ids at d).0.0 x ≡ false → (In x (map member_id (take at ids)) → ⊥)
      → In x (map member_id (take (at + 1) ids)) → ⊥
  none-yet e none i = elim (ids-cases ids at (get_or ids at d) x stands i) [
    | inl f ↦ (let t = equal_id (get_or ids at d).0.0 x (sym f) in let n : true ≡ false = sym t ∙ e in cc)
    | inr j ↦ none j
  ]

-- ---- named ids

module _ (ids : List Id) where
  pub within-one : (x : Id) (named : List Id) → named ≡ x ∷ [] → In x ids → Within named ids
  within-one x named e i = record {
    each = λ {a} k. elim (In-cases (subst (λ z. In a z) e k)) [
      | inl d ↦ subst (λ z. In z ids) (sym d) i
      | inr q ↦ absurd (In-nothing q)
    ];
  }

  module _ (named : List Digest) (at : ℕ) (id : Digest) (stands : slice_get named at ≡ Some id) where
    whole : ids_of (drop at named) ≡ id.0 ∷ ids_of (drop (at + 1) named)
    whole = ap ids_of (dropped named at id stands)

    pub missing-first : (In id.0 ids → ⊥) → Within (ids_of (drop at named)) ids → ⊥
    missing-first n w = n (w.each (subst (λ z. In id.0 z) (sym whole) here))

    pub missing-later : (Within (ids_of (drop (at + 1) named)) ids → ⊥) → Within (ids_of (drop at named)) ids → ⊥
    missing-later n w = n (record { each = λ {a} i. w.each (subst (λ z. In a z) (sym whole) (there i)) })

    pub within-more : In id.0 ids → Within (ids_of (drop (at + 1) named)) ids → Within (ids_of (drop at named)) ids
    within-more i w = record {
      each = λ {a} k. elim (In-cases (subst (λ z. In a z) whole k)) [
        | inl d ↦ subst (λ z. In z ids) (sym d) i
        | inr q ↦ w.each q
      ];
    }

    pub marked-more : (a b c : ℕ → Bool) → MorePlaces ids a b (λ x. id.0 ≡ x)
        → MorePlaces ids b c (λ x. In x (ids_of (drop (at + 1) named)))
        → MorePlaces ids a c (λ x. In x (ids_of (drop at named)))
    marked-more a b c v w =
        more-more ids a b c (λ x. id.0 ≡ x) (λ x. In x (ids_of (drop (at + 1) named)))
        (λ x. In x (ids_of (drop at named)))
        (λ x e. subst (λ z. In x z) (sym whole) (subst (λ z. In z (id.0 ∷ ids_of (drop (at + 1) named))) e here))
        (λ x i. subst (λ z. In x z) (sym whole) (there i))
        (λ x i. elim (In-cases (subst (λ z. In x z) whole i)) [ inl d ↦ inr (sym d) | inr q ↦ inl q ]) v w

  -- the places of one id are those of a list of it alone
  pub marked-one : (a b : ℕ → Bool) (x : Id) (named : List Id) → named ≡ x ∷ [] → MorePlaces ids a b (λ y. x ≡ y)
      → MorePlaces ids a b (λ y. In y named)
  marked-one a b x named e v = record {
    each = λ p y k. (
      λ t. elim ((v.each p y k).0 t) [
        | inl u ↦ inl u
        | inr d ↦ inr (subst (λ z. In y z) (sym e) (subst (λ z. In z (x ∷ [])) d here))
      ],
      λ u. (v.each p y k).1 (elim u [
        | inl t ↦ inl t
        | inr i ↦ elim (In-cases (subst (λ z. In y z) e i)) [
          | inl d ↦ inr (sym d)
          | inr q ↦ absurd (In-nothing q)
        ]
      ]),
    );
    within = v.within;
  }

-- ---- ids that rows name

abbrev pub named_in : List Card → List Header → List Id
named_in cards headers = ids_named (history_of (map (row_of cards) headers))

-- the marks are those of the ids that the headers name, and each of these is among the ids
pub record AreMarked (ids : List Id) (cards : List Card) (headers : List Header) (bits : ℕ → Bool) : Type 0 where
  pub crowd : IsCrowd ids bits (λ x. In x (named_in cards headers))
  pub among : Within (named_in cards headers) ids

pub marked-first : (ids : List Id) (cards : List Card) (bits : ℕ → Bool) → ((p : ℕ) → bits p ≡ false)
    → AreMarked ids cards [] bits
marked-first ids cards bits clear = record {
  crowd = record {
    each = λ p x e. (
      λ t. absurd (let f = clear p in cc),
      λ i. absurd (In-nothing (subst (λ z. In x (ids_named z)) history-none i)),
    );
    within = λ p t. absurd (let f = clear p in cc);
  };
  among = record { each = λ {a} i. absurd (In-nothing (subst (λ z. In a (ids_named z)) history-none i)) };
}

module _ (cards : List Card) (headers : List Header) (at : ℕ) (header : Header)
    (stands : slice_get headers at ≡ Some header) where
  -- one header more names besides what it names itself
  named-next : named_in cards (take (at + 1) headers)
      ≡ ids_named (row_message (row_of cards header) ∷ history_of (map (row_of cards) (take at headers)))
  named-next =
      ap (λ z. named_in cards z) (taken headers at header stands)
      ∙ ap (λ z. ids_named (history_of z)) (map-append (row_of cards) (take at headers) (header ∷ []))
      ∙ ap ids_named (history-push (map (row_of cards) (take at headers)) (row_of cards header))

  before-in : {x : Id} → In x (named_in cards (take at headers)) → In x (named_in cards (take (at + 1) headers))
  before-in {x} i = subst (λ z. In x z) (sym named-next)
      (joined-left (named_in cards (take at headers)) (named_by (kind_of header)) i)

  own-in : {x : Id} → In x (named_by (kind_of header)) → In x (named_in cards (take (at + 1) headers))
  own-in {x} i = subst (λ z. In x z) (sym named-next)
      (joined-right (named_in cards (take at headers)) (named_by (kind_of header)) i)

  either-in : {x : Id} → In x (named_in cards (take (at + 1) headers))
      → In x (named_in cards (take at headers)) ⊎ In x (named_by (kind_of header))
  either-in {x} i = joined-either (named_in cards (take at headers)) (named_by (kind_of header))
      (subst (λ z. In x z) named-next i)

  pub marked-next : (ids : List Id) (bits more : ℕ → Bool) → AreMarked ids cards (take at headers) bits
      → Within (named_by (kind_of header)) ids → MorePlaces ids bits more (λ x. In x (named_by (kind_of header)))
      → AreMarked ids cards (take (at + 1) headers) more
  marked-next ids bits more a w v = record {
    crowd = record {
      each = λ p x e. (
        λ t. elim ((v.each p x e).0 t) [
          | inl u ↦ before-in ((a.crowd.each p x e).0 u)
          | inr i ↦ own-in i
        ],
        λ i. (v.each p x e).1 (elim (either-in i) [
          | inl j ↦ inl ((a.crowd.each p x e).1 j)
          | inr j ↦ inr j
        ]),
      );
      within = λ p t. elim (v.within p t) [ inl u ↦ a.crowd.within p u | inr l ↦ l ];
    };
    among = record { each = λ i. elim (either-in i) [ inl j ↦ a.among.each j | inr j ↦ w.each j ] };
  }

  -- what a header names is named by all of them
  pub own-among : {x : Id} → In x (named_by (kind_of header)) → In x (named_in cards headers)
  own-among {x} i =
      let rows = map (row_of cards) headers in
      let row = row_of cards header in
      Named-ids_named (history_of rows) x (record {
        by = row_message row;
        there_is = number-in (history_of rows) at (row_message row)
            (row-number rows at row (get-map (row_of cards) headers at header stands));
        names = In-Names (kind_of header) x i;
      })

  pub missing-here : (ids : List Id) → (Within (named_by (kind_of header)) ids → ⊥)
      → Within (named_in cards headers) ids → ⊥
  missing-here ids n w = n (record { each = λ i. w.each (own-among i) })

-- ---- cards

-- the cards of a welcome are of different members
pub welcome-distinct : (set : ℕ) (welcome : WelcomeRows) → IsWelcome set welcome
    → IsDistinct (map card_id welcome.cards)
welcome-distinct set welcome w =
    subst IsDistinct (same welcome.cards) (ascending-distinct (ids_of (card_ids welcome.cards))
    (ascends-ascending None (card_ids welcome.cards) w.ascend))
  where
    same : (cards : List Card) → ids_of (card_ids cards) ≡ map card_id cards
    same [] = refl
    same (card ∷ cards) = ap (λ z. card_id card ∷ z) (same cards)

pub card-of_set : (set : ℕ) (cards : List Card) → AreOfSet set cards → (card : Card) → In card cards
    → card.set ≡ set
card-of_set set [] s card i = elim i [ ]
card-of_set set (c ∷ cards) s card i = elim (In-cases i) [
  | inl e ↦ ap (λ (z : Card). z.set) e ∙ s.0
  | inr k ↦ card-of_set set cards s.2 card k
]

module _ (F : Joining) (is_public : List ℕ → Bool) (same : F.is_public ≡ is_public) (welcome : WelcomeRows)
    (bits : ℕ → Bool) where
  abbrev named : List Id
  named = ids_named (history_of (rows_of welcome))

  pub held : Within named (map card_id welcome.cards) → IsCrowd (map card_id welcome.cards) bits (λ x. In x named)
      → ((p : ℕ) → p < length welcome.cards → bits p ≡ true)
      → ((card : Card) → In card welcome.cards → is_public card.kem_public ≡ true) → CardsHold F welcome
  held w crowd all public = record {
    named = λ x. (
      λ i. let p = in-place (map card_id welcome.cards) x i in
          let l = get-below (map card_id welcome.cards) p.0 x p.1 in
          let n = length-map welcome.cards card_id in
          (crowd.each p.0 x p.1).0 (all p.0 (omega (arith, l, n))),
      λ i. w.each i,
    );
    public = λ card i. subst (λ z. z card.kem_public ≡ true) (sym same) (public card i);
  }

  pub held-seen : CardsHold F welcome → IsCrowd (map card_id welcome.cards) bits (λ x. In x named)
      → (p : ℕ) → p < length welcome.cards → bits p ≡ true
  held-seen h crowd p l =
      let n = length-map welcome.cards card_id in
      let t = get-there (map card_id welcome.cards) p (omega (arith, l, n)) in
      (crowd.each p t.0 t.1).1 ((h.named t.0).0 (place-in (map card_id welcome.cards) p t.0 t.1))

  pub held-public : CardsHold F welcome → (card : Card) → In card welcome.cards → is_public card.kem_public ≡ true
  held-public h card i = subst (λ z. z card.kem_public ≡ true) same (h.public card i)
