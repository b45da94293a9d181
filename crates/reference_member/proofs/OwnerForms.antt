-- Owners of a member's log, and what they say of its cards.
use Rattle.std.proofs.Common.{◌≡◌, ◌∷◌, List, [], Option, Some, IsSome, map, refl, sym, ◌∙◌, ap, subst, inl, inr}
use Rattle.std.specs.Option.{option_map_or}
use Rattle.std.specs.Str.{bytes_eq}
use Rattle.std.proofs.lemmas.Slice.Eq.{bytes_eq-Decides}
use Rattle.kem_trait.specs.declared.kem.Kem.{Ghosts}
use Rattle.group_fields.specs.Cards.{card_id}
use Rattle.group_fields.specs.declared.card.Card.{Card}
use Rattle.group_model.specs.Sets.{Bytes, Id, In, here, there}
use Rattle.group_model.specs.Messages.{History}
use Rattle.group_model.specs.Membership.{IsMembershipRule}
use Rattle.group_model.specs.Primitives.{KeyPair, Primitives}
use Rattle.group_model.specs.Settings.{Owner}
use Rattle.group_model.proofs.ListFacts.{test, yes_is, no_is, In-cases, In-nothing}
use Rattle.causal_history.specs.Rows.{card_among}
use Rattle.causal_cast.specs.Judging.{inviter_by, inviter_in}
use Rattle.reference_member.specs.Members.{public_key_by}

-- ---- owners with given parts

abbrev pub Encapsulates : Primitives → (Id → Option Id) → (Id → Bytes) → Type 0
Encapsulates primitives inviter public_key =
    (y : Id) (seed : Bytes) → IsSome (inviter y) → IsSome (primitives.encapsulate (public_key y) seed)

abbrev pub owner_with : (primitives : Primitives) (rule : History → List Id) → Id → KeyPair → (inviter : Id → Option Id)
    (public_key : Id → Bytes) → IsMembershipRule rule → Encapsulates primitives inviter public_key → Owner
owner_with primitives rule id card inviter public_key is_rule encapsulates = record {
  primitives = primitives;
  rule = rule;
  inviter = inviter;
  public_key = public_key;
  id = id;
  card = card;
  is_rule = is_rule;
  encapsulates = encapsulates;
}

abbrev AtOwners : (Owner → Type 0) → Primitives → (History → List Id) → Id → KeyPair → Type 0
AtOwners Q primitives rule id card =
    (inviter : Id → Option Id) (public_key : Id → Bytes) (is_rule : IsMembershipRule rule)
    (encapsulates : Encapsulates primitives inviter public_key)
    → Q (owner_with primitives rule id card inviter public_key is_rule encapsulates)

-- what holds of the owners with these parts holds of each owner that has them
pub owner-form : (primitives : Primitives) (rule : History → List Id) (id : Id) (card : KeyPair) (Q : Owner → Type 0)
    → ((inviter : Id → Option Id) (public_key : Id → Bytes) (is_rule : IsMembershipRule rule)
    (encapsulates : Encapsulates primitives inviter public_key)
    → Q (owner_with primitives rule id card inviter public_key is_rule encapsulates))
    → (O : Owner) → O.primitives ≡ primitives → O.rule ≡ rule → O.id ≡ id → O.card ≡ card → Q O
owner-form primitives rule id card Q f O p r i c =
    (subst (λ z. AtOwners Q z O.rule O.id O.card) (sym p)
    (subst (λ z. AtOwners Q primitives z O.id O.card) (sym r)
    (subst (λ z. AtOwners Q primitives rule z O.card) (sym i)
    (subst (λ z. AtOwners Q primitives rule id z) (sym c) f)))) O.inviter O.public_key O.is_rule O.encapsulates

-- ---- cards

-- among cards one of which has the id there is a first
pub record HasFirst (cards : List Card) (x : Id) : Type 0 where
  pub card : Card
  pub first : card_among cards x ≡ Some card
  pub own : card_id card ≡ x
  pub there_is : In card cards

pub in-map : {A B : Type 0} (f : A → B) {x : A} {xs : List A} → In x xs → In (f x) (map f xs)
in-map f here = here
in-map f (there i) = there (in-map f i)

pub from-map : {A B : Type 0} (f : A → B) (xs : List A) (y : B) → In y (map f xs) → (x : A) × In x xs × (y ≡ f x)
from-map f [] y i = absurd (In-nothing i)
from-map f (x ∷ xs) y i = elim (In-cases i) [
  | inl e ↦ (x, here, e)
  | inr j ↦ let r = from-map f xs y j in (r.0, there r.1, r.2)
]

pub first-of : (cards : List Card) (x : Id) → In x (map card_id cards) → HasFirst cards x
first-of [] x i = absurd (In-nothing i)
first-of (c ∷ cards) x i = elim (test (bytes_eq (card_id c) x)) [
  | yes_is e ↦ record { card = c; first = rw e refl; own = (bytes_eq-Decides (card_id c) x).0 e; there_is = here }
  | no_is e ↦ elim (In-cases i) [
    | inl d ↦ absurd (let yes = (bytes_eq-Decides (card_id c) x).1 (sym d) in cc)
    | inr k ↦ (let f = first-of cards x k in
        record { card = f.card; first = rw e f.first; own = f.own; there_is = there f.there_is })
  ]
]

module _ {K P : Type 0} (kem : Ghosts K P) (inviter : Id → Option Id) (public_key : Id → Bytes) where
  -- of each of the cards it is said what the card says
  pub record SaysOf (cards : List Card) : Type 0 where
    pub inviters : (card : Card) → In card cards → inviter (card_id card) ≡ inviter_in kem.is_public card
    pub keys : (card : Card) → In card cards → public_key (card_id card) ≡ card.kem_public

  pub fewer-said : (cards others : List Card) → ((card : Card) → In card others → In card cards) → SaysOf cards → SaysOf others
  fewer-said cards others f s =
      record { inviters = λ card i. s.inviters card (f card i); keys = λ card i. s.keys card (f card i) }

  -- the key by the cards
  pub key-said : (cards : List Card) → SaysOf cards → (y : Id) → In y (map card_id cards)
      → public_key_by cards y ≡ public_key y
  key-said cards s y i =
      let f = first-of cards y i in
      ap (λ (o : Option Card). option_map_or (λ (card : Card). card.kem_public) o []) f.first
      ∙ sym (s.keys f.card f.there_is) ∙ ap public_key f.own

  -- the inviter by the cards
  pub inviter-first : (cards : List Card) (y : Id) (card : Card) → card_among cards y ≡ Some card
      → inviter_by kem.is_public cards y ≡ inviter_in kem.is_public card
  inviter-first [] y card e = absurd cc
  inviter-first (c ∷ cards) y card e = elim (test (bytes_eq (card_id c) y)) [
    | yes_is d ↦ let k : Some c ≡ Some card = rw d at e in let same : c ≡ card = cc in
        rw d (ap (inviter_in kem.is_public) same)
    | no_is d ↦ rw d (inviter-first cards y card (rw d at e))
  ]

  pub inviter-said : (cards : List Card) → SaysOf cards → (y : Id) → In y (map card_id cards)
      → inviter_by kem.is_public cards y ≡ inviter y
  inviter-said cards s y i =
      let f = first-of cards y i in
      inviter-first cards y f.card f.first ∙ sym (s.inviters f.card f.there_is) ∙ ap inviter f.own
