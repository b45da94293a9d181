-- Creates by the cards that they carry.
use Rattle.std.proofs.Common.{◌≡◌, ◌≢◌, ℕ, zero, suc, ◌+◌, Bool, inl, inr, ◌⊎◌, List, [], ◌∷◌, ◌++◌, Option}
use Rattle.std.proofs.Common.{Some, None, map, take, refl, sym, ◌∙◌, ap, subst}
use Rattle.std.specs.Option.{IsSome}
use Rattle.std.specs.List.{slice_get}
use Rattle.group_fields.specs.Cards.{card_id}
use Rattle.group_fields.specs.Headers.{HasSpelling}
use Rattle.group_fields.specs.declared.card.Card.{Card}
use Rattle.group_fields.specs.declared.header.Kind.TheVariants as kinds
use Rattle.group_model.specs.Sets.{Id, In, here, there, IsDistinct}
use Rattle.group_model.specs.Messages.{Create, Message, History}
use Rattle.group_model.specs.Membership.{named_by}
use Rattle.group_model.specs.Validity.{IsInvited, Opens, SendsParts}
use Rattle.group_model.proofs.ListFacts.{In-cases, In-either, In-nothing, equal_id, other_id, some_same}
use Rattle.group_messages.specs.Messages.{header_kind, ids_of, kind_of, message_of}
use Rattle.group_messages.proofs.HeaderFacts.{create_says, header_kind-kind_by}
use Rattle.causal_history.specs.Rows.{Row, card_among, card_in, history_of}
use Rattle.causal_history.proofs.ListMore.{take-next}
use Rattle.member_view.specs.Rules.{any_inviter}
use Rattle.wire_codec.specs.Packets.{Packet, body_of, members_named}
use Rattle.wire_codec.specs.Order.{AreOfSet, CarriesWhatSuits, SuitsHeader, card_ids}
use Rattle.causal_cast.specs.Judging.{IsSigned, IsSignedUnder, inviter_by, inviter_in, receivers}
use Rattle.welcome_history.specs.Joining.{Joining, SuitsCreate}

-- ---- cards

-- a card by its index is of the set
pub of_set-at : (set : ℕ) (cards : List Card) (at : ℕ) (card : Card) → AreOfSet set cards
    → slice_get cards at ≡ Some card → card.set ≡ set
of_set-at set [] at card a e = absurd cc
of_set-at set (first ∷ cards) zero card a e = let d : first ≡ card = some_same e in subst (λ c. c.set ≡ set) d a.0
of_set-at set (first ∷ cards) (suc at) card a e = of_set-at set cards at card a.2 e

in-map : {A B : Type 0} (f : A → B) (xs : List A) {x : A} → In x xs → In (f x) (map f xs)
in-map f [] i = elim i [ ]
in-map f (y ∷ xs) here = here
in-map f (y ∷ xs) (there i) = there (in-map f xs i)

-- what a mapped list has is of an item of the list
map-in : {A B : Type 0} (f : A → B) (xs : List A) (y : B) → In y (map f xs) → (x : A) × In x xs × (y ≡ f x)
map-in f [] y i = absurd (In-nothing i)
map-in f (x ∷ xs) y i = elim (In-cases i) [
  | inl e ↦ (x, here, e)
  | inr j ↦ let rest = map-in f xs y j in (rest.0, there rest.1, rest.2)
]

-- an item of the first ones is the last of them or one before it
pub next-cases : {A : Type 0} (xs : List A) (at : ℕ) (x : A) → slice_get xs at ≡ Some x → {y : A}
    → In y (take (at + 1) xs) → (y ≡ x) ⊎ In y (take at xs)
next-cases xs at x e {y} i = elim (In-either (take at xs) (subst (λ z. In y z) (take-next xs at x e) i)) [
  | inl j ↦ inr j
  | inr j ↦ elim (In-cases j) [ inl d ↦ inl d | inr k ↦ absurd (In-nothing k) ]
]

append-none : {A : Type 0} (xs : List A) → xs ++ [] ≡ xs
append-none [] = refl
append-none (x ∷ xs) = ap (λ z. x ∷ z) (append-none xs)

-- the cards of one row are its own
pub in-row : (row : Row) (x : Id) → card_in (row ∷ []) x ≡ card_among row.cards x
unfolding card_in
in-row row x = ap (λ (z : List Card). card_among z x) (append-none row.cards)

-- ---- inviters

module _ (is_public : List ℕ → Bool) where
  -- of distinct cards each says who its own member's inviter is
  pub by-own : (cards : List Card) (card : Card) → IsDistinct (map card_id cards) → In card cards
      → inviter_by is_public cards (card_id card) ≡ inviter_in is_public card
  by-own [] card d i = absurd (In-nothing i)
  by-own (first ∷ cards) card d i = elim (In-cases i) [
    | inl e ↦ rw (equal_id (card_id first) (card_id card) (ap card_id (sym e))) (ap (inviter_in is_public) (sym e))
    | inr j ↦
        let other : card_id first ≢ card_id card = λ e.
        d.0 (subst (λ z. In z (map card_id cards)) (sym e) (in-map card_id cards j)) in
        rw (other_id (card_id first) (card_id card) other) (by-own cards card d.1 j)
  ]

  -- the card lets the sender create a group with its member
  abbrev pub Lets : Id → Card → Type 0
  Lets s card = IsInvited (λ y. inviter_in is_public card) s (card_id card)

  -- by distinct cards each member of them is invited where its own card lets the sender create a group with it
  pub invited-by : (cards : List Card) (s : Id) → IsDistinct (map card_id cards)
      → ((card : Card) → In card cards → Lets s card) → (y : Id) → In y (map card_id cards)
      → IsInvited (inviter_by is_public cards) s y
  invited-by cards s d lets y i =
      let named = map-in card_id cards y i in
      let card = named.0 in
      subst (λ z. IsInvited (inviter_by is_public cards) s z) (sym named.2)
      (subst (λ (z : Option Id). IsSome z × (card_id card ≢ s → z ≡ Some s)) (sym (by-own cards card d named.1))
      (lets card named.1))

  pub lets-by : (cards : List Card) (s : Id) → IsDistinct (map card_id cards)
      → ((y : Id) → In y (map card_id cards) → IsInvited (inviter_by is_public cards) s y)
      → (card : Card) → In card cards → Lets s card
  lets-by cards s d invited card i =
      subst (λ (z : Option Id). IsSome z × (card_id card ≢ s → z ≡ Some s)) (by-own cards card d i)
      (invited (card_id card) (in-map card_id cards i))

-- ---- members

ids-of_cards : (cards : List Card) → ids_of (card_ids cards) ≡ map card_id cards
ids-of_cards [] = refl
ids-of_cards (card ∷ cards) = ap (λ z. card_id card ∷ z) (ids-of_cards cards)

-- the cards of a create are those of its members, in their order
pub create-carries : (packet : Packet) (members : List Id) → HasSpelling packet.header → SuitsHeader packet
    → kind_of packet.header ≡ Create members → map card_id packet.cards ≡ members
create-carries packet members spelled suits e =
    let header = packet.header in
    let kind : header.kind ≡ kinds.Create =
    sym (header_kind-kind_by header.kind header.target) ∙ ap header_kind e in
    let says = create_says header spelled kind in
    let carried = (subst (λ k. CarriesWhatSuits k header.target (body_of packet)) kind suits).0 in
    let named : Create (ids_of says.0) ≡ Create members = sym says.2 ∙ e in
    let same : ids_of says.0 ≡ members = cc in
    sym (ids-of_cards packet.cards) ∙ ap ids_of (carried ∙ ap members_named says.1) ∙ same

module _ (is_public : List ℕ → Bool) (packet : Packet) (spelled : HasSpelling packet.header)
    (suits : SuitsHeader packet) (distinct : IsDistinct (named_by (kind_of packet.header))) where
  abbrev message : Message
  message = message_of packet.header

  distinct-cards : (members : List Id) → kind_of packet.header ≡ Create members
      → IsDistinct (map card_id packet.cards)
  distinct-cards members e =
      subst IsDistinct (sym (create-carries packet members spelled suits e))
      (subst (λ k. IsDistinct (named_by k)) e distinct)

  abbrev pub AllLet : Type 0
  AllLet = (card : Card) → In card packet.cards → Lets is_public message.sender card

  -- what opens a history with the cards left open opens it by cards that let the sender create the group
  pub opens-by : Opens (any_inviter message) message → AllLet → Opens (inviter_by is_public packet.cards) message
  opens-by o lets = record {
    members = o.members;
    creates = o.creates;
    first = o.first;
    number = o.number;
    among = o.among;
    invited = λ y i.
        invited-by is_public packet.cards message.sender (distinct-cards o.members o.creates) lets y
        (subst (λ z. In y z) (sym (create-carries packet o.members spelled suits o.creates)) i);
  }

  pub opens-any : Opens (inviter_by is_public packet.cards) message → Opens (any_inviter message) message
  opens-any o = record {
    members = o.members;
    creates = o.creates;
    first = o.first;
    number = o.number;
    among = o.among;
    invited = λ y i. (refl, λ n. refl);
  }

  pub opens-lets : Opens (inviter_by is_public packet.cards) message → AllLet
  opens-lets o =
      lets-by is_public packet.cards message.sender (distinct-cards o.members o.creates)
      (λ y i. o.invited y (subst (λ z. In y z) (create-carries packet o.members spelled suits o.creates) i))

-- ---- the empty history

pub history-none : (rows : List Row) → rows ≡ [] → history_of rows ≡ []
unfolding history_of
history-none rows e = ap history_of e

-- ---- signatures

module _ (row : Row) (m : Message) (signature : List ℕ) where
  -- a message of one row is signed where it is under the sender's card
  pub signed-by : (card : Card) → card_among row.cards m.sender ≡ Some card → IsSignedUnder card m signature
      → IsSigned (row ∷ []) m signature
  signed-by card e signed = record { card = card; is_known = in-row row m.sender ∙ e; signed = signed }

  pub signed-under : (card : Card) → card_among row.cards m.sender ≡ Some card → IsSigned (row ∷ []) m signature
      → IsSignedUnder card m signature
  signed-under card e s =
      let same : s.card ≡ card = some_same (sym s.is_known ∙ in-row row m.sender ∙ e) in
      subst (λ c. IsSignedUnder c m signature) same s.signed

  pub not-signed : card_among row.cards m.sender ≡ None → IsSigned (row ∷ []) m signature → ⊥
  not-signed e s = let f : Some s.card ≡ None = sym s.is_known ∙ in-row row m.sender ∙ e in absurd cc

-- ---- the conditions of a create

module _ (F : Joining) (rule : History → List Id) (is_public : List ℕ → Bool) (by_rule : F.rule ≡ rule)
    (by_public : F.is_public ≡ is_public) (packet : Packet) where
  abbrev of : Message
  of = message_of packet.header

  abbrev pub Suits : Type 0
  Suits =
      Opens (inviter_by is_public packet.cards) of × SendsParts rule [] of (receivers packet.parts)

  pub suits-create : Suits → SuitsCreate F packet
  suits-create s = (
    subst (λ q. Opens (inviter_by q packet.cards) of) (sym by_public) s.0,
    subst (λ r. SendsParts r [] of (receivers packet.parts)) (sym by_rule) s.1,
  )

  pub create-suits : SuitsCreate F packet → Suits
  create-suits s = (
    subst (λ q. Opens (inviter_by q packet.cards) of) by_public s.0,
    subst (λ r. SendsParts r [] of (receivers packet.parts)) by_rule s.1,
  )
