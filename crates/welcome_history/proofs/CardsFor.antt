-- Cards by their ids.
use Rattle.std.proofs.Common.{◌≡◌, ℕ, zero, suc, ◌+◌, ◌<◌, List, [], ◌∷◌, ◌++◌, Option, Some, None, length, map}
use Rattle.std.proofs.Common.{take, drop, refl, sym, ◌∙◌, ap, slice_get, get_or, arith}
use Rattle.std.proofs.lemmas.List.{take_more, drop_more}
use Rattle.std.proofs.lemmas.Option.{get_or_from_slice_get, slice_get_within}
use Rattle.group_fields.specs.Cards.{card_id}
use Rattle.group_fields.specs.declared.card.Card.{Card}
use Rattle.group_fields.specs.declared.ids.MemberId.{MemberId}
use Rattle.group_fields.specs.declared.ids.Digest.{Digest}
use Rattle.group_model.specs.Sets.{Id}
use Rattle.group_model.proofs.ListFacts.{equal_id, other_id, some_same}
use Rattle.group_messages.specs.Messages.{ids_of}
use Rattle.causal_history.specs.Rows.{card_among}
use Rattle.welcome_history.specs.Welcomes.{before, cards_for}

pub map-append : {A B : Type 0} (f : A → B) (xs ys : List A) → map f (xs ++ ys) ≡ map f xs ++ map f ys
map-append f [] ys = refl
map-append f (x ∷ xs) ys = ap (λ z. f x ∷ z) (map-append f xs ys)

pub append-more : {A : Type 0} (xs ys zs : List A) → (xs ++ ys) ++ zs ≡ xs ++ (ys ++ zs)
append-more [] ys zs = refl
append-more (x ∷ xs) ys zs = ap (λ z. x ∷ z) (append-more xs ys zs)

append-none : {A : Type 0} (xs : List A) → xs ++ [] ≡ xs
append-none [] = refl
append-none (x ∷ xs) = ap (λ z. x ∷ z) (append-none xs)

pub taken : {A : Type 0} (xs : List A) (at : ℕ) (x : A) → slice_get xs at ≡ Some x → take (at + 1) xs ≡ take at xs ++ x ∷ []
taken {A} xs at x e =
    take_more xs at x (slice_get_within xs at x e)
    ∙ ap (λ (y : A). take at xs ++ y ∷ []) (get_or_from_slice_get xs at x x e)

pub dropped : {A : Type 0} (xs : List A) (at : ℕ) (x : A) → slice_get xs at ≡ Some x → drop at xs ≡ x ∷ drop (at + 1) xs
dropped {A} xs at x e =
    drop_more xs at x (slice_get_within xs at x e)
    ∙ ap (λ (y : A). y ∷ drop (at + 1) xs) (get_or_from_slice_get xs at x x e)

-- one id more
pub ids-more : (cards : List Card) (at : ℕ) (card : Card) (ids : List MemberId) (id : MemberId)
    → slice_get cards at ≡ Some card → id.0.0 ≡ card_id card
    → map (λ (i : MemberId). i.0.0) ids ≡ map card_id (take at cards)
    → map (λ (i : MemberId). i.0.0) (ids ++ id ∷ []) ≡ map card_id (take (at + 1) cards)
ids-more cards at card ids id there own so_far =
    map-append (λ (i : MemberId). i.0.0) ids (id ∷ [])
    ∙ ap (λ (z : List Id). z ++ id.0.0 ∷ []) so_far
    ∙ ap (λ (z : Id). map card_id (take at cards) ++ z ∷ []) own
    ∙ sym (map-append card_id (take at cards) (card ∷ []))
    ∙ ap (map card_id) (sym (taken cards at card there))

-- a card of the id is the first from its index on
pub among-here : (cards : List Card) (at : ℕ) (card : Card) (x : Id) → slice_get cards at ≡ Some card
    → card_id card ≡ x → card_among (drop at cards) x ≡ Some card
among-here cards at card x there e =
    ap (λ z. card_among z x) (dropped cards at card there) ∙ rw (equal_id (card_id card) x e) refl

-- one of another id is passed over
pub among-next : (cards : List Card) (at : ℕ) (card : Card) (x : Id) → slice_get cards at ≡ Some card
    → (card_id card ≡ x → ⊥) → card_among (drop at cards) x ≡ card_among (drop (at + 1) cards) x
among-next cards at card x there n =
    ap (λ z. card_among z x) (dropped cards at card there) ∙ rw (other_id (card_id card) x n) refl

-- the cards of the ids from one on
pub for-next : (cards : List Card) (old : List Card) (named : List Digest) (at : ℕ) (id : Digest)
    → slice_get named at ≡ Some id
    → (old ++ before (card_among cards id.0) []) ++ cards_for cards (ids_of (drop (at + 1) named))
    ≡ old ++ cards_for cards (ids_of (drop at named))
for-next cards old named at id there =
    append-more old (before (card_among cards id.0) []) (cards_for cards (ids_of (drop (at + 1) named)))
    ∙ ap (λ z. old ++ z) (front (card_among cards id.0) (cards_for cards (ids_of (drop (at + 1) named))))
    ∙ ap (λ z. old ++ cards_for cards (ids_of z)) (sym (dropped named at id there))
  where
    front : (o : Option Card) (zs : List Card) → before o [] ++ zs ≡ before o zs
    front None zs = refl
    front (Some card) zs = refl

pub for-none : (cards old : List Card) (named : List Digest) (at : ℕ) → drop at named ≡ []
    → old ≡ old ++ cards_for cards (ids_of (drop at named))
for-none cards old named at e =
    sym (append-none old) ∙ ap (λ (z : List Digest). old ++ cards_for cards (ids_of z)) (sym e)

-- an id stands where its card does
pub own-id : (cards : List Card) (ids : List MemberId) (at : ℕ) (card : Card) (d : MemberId)
    → map (λ (i : MemberId). i.0.0) ids ≡ map card_id cards → slice_get cards at ≡ Some card
    → (get_or ids at d).0.0 ≡ card_id card
own-id [] ids at card d same there = absurd (cc)
own-id (c ∷ cards) [] at card d same there = absurd (cc)
own-id (c ∷ cards) (i ∷ ids) zero card d same there =
    let own : c ≡ card = some_same there in
    let first : i.0.0 ≡ card_id c = cc in
    first ∙ ap card_id own
own-id (c ∷ cards) (i ∷ ids) (suc at) card d same there =
    let rest : map (λ (i : MemberId). i.0.0) ids ≡ map card_id cards = cc in
    own-id cards ids at card d rest there

-- what is left begins with the item at the place
pub first-left : {A : Type 0} (xs : List A) (at : ℕ) (x : A) (ys : List A) → drop at xs ≡ x ∷ ys
    → slice_get xs at ≡ Some x
first-left [] zero x ys e = absurd (cc)
first-left [] (suc at) x ys e = absurd (cc)
first-left (y ∷ xs) zero x ys e = let same : y ≡ x = cc in ap (λ z. Some z) same
first-left (y ∷ xs) (suc at) x ys e = first-left xs at x ys e

pub others-left : {A : Type 0} (xs : List A) (at : ℕ) (x : A) (ys : List A) → drop at xs ≡ x ∷ ys
    → ys ≡ drop (at + 1) xs
others-left xs at x ys e =
    let both : x ∷ ys ≡ x ∷ drop (at + 1) xs = sym e ∙ dropped xs at x (first-left xs at x ys e) in
    cc

-- something is left below the end
pub some-left : {A : Type 0} (xs : List A) (at : ℕ) → at < length xs → drop at xs ≡ [] → ⊥
some-left [] at l e = absurd (omega (arith, l))
some-left (y ∷ xs) zero l e = absurd (cc)
some-left (y ∷ xs) (suc at) l e = some-left xs at (omega (arith, l)) e
