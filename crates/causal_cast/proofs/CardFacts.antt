-- What the cards of a packet say of whom an add names.
use Rattle.std.proofs.Common.{◌≡◌, ◌↔◌, ℕ, Bool, true, inl, inr, List, [], ◌∷◌}
use Rattle.std.proofs.Common.{Some, refl, sym}
use Rattle.std.proofs.Common.{◌∙◌, ap, subst}
use Rattle.std.specs.List.{slice_get}
use Rattle.std.proofs.lemmas.Slice.Eq.{bytes_eq-Decides}
use Rattle.kem_trait.specs.Lengths.{HasSetLengths}
use Rattle.group_fields.specs.Cards.{card_id, key_size}
use Rattle.group_fields.specs.Headers.{HasSpelling}
use Rattle.group_fields.specs.declared.card.Card.{Card}
use Rattle.group_fields.specs.declared.header.Header.{Header}
use Rattle.group_fields.specs.declared.header.Kind.TheVariants as kinds
use Rattle.group_model.specs.Sets.{Id}
use Rattle.group_model.specs.Messages.{Add}
use Rattle.group_messages.specs.Messages.{kind_of}
use Rattle.group_messages.proofs.HeaderFacts.{add_says}
use Rattle.wire_codec.specs.Packets.{Packet, body_of, member_named}
use Rattle.wire_codec.specs.Order.{AreOfSet, CarriesWhatSuits, SuitsHeader, card_ids}
use Rattle.causal_cast.specs.Judging.{inviter_by, inviter_in}

-- the number of a set fixes how many bytes its public keys have
pub key-room : (set public secret cipher : ℕ) → HasSetLengths set public secret cipher → key_size set ≡ public
key-room set public secret cipher (inl l) = subst (λ n. key_size n ≡ public) (sym l.0) (sym l.1)
key-room set public secret cipher (inr l) = subst (λ n. key_size n ≡ public) (sym l.0) (sym l.1)

-- the first card is of the set
pub first-of_set : (set : ℕ) (cards : List Card) (card : Card) → AreOfSet set cards → slice_get cards 0 ≡ Some card
    → card.set ≡ set
first-of_set set [] card a e = absurd cc
first-of_set set (first ∷ cards) card a e = let d : first ≡ card = cc in subst (λ c. c.set ≡ set) d a.0

-- one card is what is said
one-card : (is_public : List ℕ → Bool) (card : Card) (y : Id) → card_id card ≡ y
    → inviter_by is_public (card ∷ []) y ≡ inviter_in is_public card
one-card is_public card y e = rw ((bytes_eq-Decides (card_id card) y).1 e) refl

-- of an add the one card is that of whom it names
pub says-of_add : (is_public : List ℕ → Bool) (header : Header) (cards : List Card) (card : Card) (y : Id)
    → HasSpelling header → header.kind ≡ kinds.Add → card_ids cards ≡ (member_named header.target).0 ∷ []
    → slice_get cards 0 ≡ Some card → kind_of header ≡ Add y
    → inviter_by is_public cards y ≡ inviter_in is_public card
says-of_add is_public header [] card y spelled add ids first k = absurd cc
says-of_add is_public header (a ∷ (b ∷ cards)) card y spelled add ids first k = absurd cc
says-of_add is_public header (a ∷ []) card y spelled add ids first k =
    let says = add_says header spelled add in
    let same : a ≡ card = cc in
    let named : Add says.0.0.0 ≡ Add y = sym says.2 ∙ k in
    let target : says.0.0.0 ≡ y = cc in
    let of_card : card_id a ≡ (member_named header.target).0.0 = cc in
    let of_target : (member_named header.target).0.0 ≡ says.0.0.0 = ap (λ t. (member_named t).0.0) says.1 in
    one-card is_public a y (of_card ∙ of_target ∙ target) ∙ ap (inviter_in is_public) same

-- some id is named by an add
pub add-names : (header : Header) → HasSpelling header → header.kind ≡ kinds.Add → (y : Id) × (kind_of header ≡ Add y)
add-names header spelled add = let says = add_says header spelled add in (says.0.0.0, says.2)

-- the cards of a packet of an add are one, of whom it names
pub add-carries : (packet : Packet) → SuitsHeader packet → packet.header.kind ≡ kinds.Add
    → card_ids packet.cards ≡ (member_named packet.header.target).0 ∷ []
add-carries packet suits add = (subst (λ k. CarriesWhatSuits k packet.header.target (body_of packet)) add suits).0

-- whom an add names may be added by the sender exactly where the one card says so
pub add-invited : (is_public : List ℕ → Bool) (packet : Packet) (card : Card) (sender : Id) (found : Bool)
    → HasSpelling packet.header → SuitsHeader packet → packet.header.kind ≡ kinds.Add
    → slice_get packet.cards 0 ≡ Some card → (found ≡ true) ↔ (inviter_in is_public card ≡ Some sender)
    → (found ≡ true) ↔ ((y : Id) → kind_of packet.header ≡ Add y → inviter_by is_public packet.cards y ≡ Some sender)
add-invited is_public packet card sender found spelled suits add first says = (
  λ e y k. said y k ∙ says.0 e,
  λ f. let some = add-names packet.header spelled add in says.1 (sym (said some.0 some.1) ∙ f some.0 some.1),
)
  where
    said : (y : Id) → kind_of packet.header ≡ Add y → inviter_by is_public packet.cards y ≡ inviter_in is_public card
    said y k =
        says-of_add is_public packet.header packet.cards card y spelled add (add-carries packet suits add) first k
