-- The spelling of a member's card.
use Rattle.std.proofs.Common.{◌≡◌, ◌⊎◌, ⊎_elim, inl, inr, ℕ, IsTrue, ◌==◌, ◌&&◌, ◌||◌, List, length, take, drop, Option, Some, refl, sym, ◌∙◌, ap, arith}
use Rattle.std.proofs.lemmas.Bool.Decides.{nat_tests}
use Rattle.std.specs.Int.{w32, from_be_bytes}
use Rattle.std.specs.Option.{option_map}
use Rattle.group_fields.specs.Cards.{HasSpelling, key_size, lms_type, spelling}
use Rattle.group_fields.specs.declared.card.Card.{Card}
use Rattle.kem_trait.specs.Lengths.{HasSetLengths}
use Rattle.kem_trait.specs.declared.kem.Kem.{Ghosts}
use Rattle.lms_sign.specs.Trees.{IsHeight, lms_public}
use Rattle.member_identity.specs.Identity.{Origin, card_bytes, card_of, card_with, pair_words, secret_from}

-- the types in an LMS public key of height 10, and of height 5
type_at_ten : (id seed : List ℕ) → from_be_bytes w32 (take 4 (lms_public (record { height = 10; id = id; seed = seed }))) ≡ 6
unfolding lms_public
type_at_ten id seed = refl

type_at_five : (id seed : List ℕ) → from_be_bytes w32 (take 4 (lms_public (record { height = 5; id = id; seed = seed }))) ≡ 5
unfolding lms_public
type_at_five id seed = refl

one_time_at_ten : (id seed : List ℕ) → from_be_bytes w32 (take 4 (drop 4 (lms_public (record { height = 10; id = id; seed = seed })))) ≡ 3
unfolding lms_public
one_time_at_ten id seed = refl

one_time_at_five : (id seed : List ℕ) → from_be_bytes w32 (take 4 (drop 4 (lms_public (record { height = 5; id = id; seed = seed })))) ≡ 3
unfolding lms_public
one_time_at_five id seed = refl

-- the two heights
heights : (set height : ℕ) → IsTrue ((height == 10) || ((set == 2) && (height == 5))) → (height ≡ 10) ⊎ ((set ≡ 2) × (height ≡ 5))
heights set height is = grind (arith, nat_tests)

pub is_height : (set height : ℕ) → IsTrue ((height == 10) || ((set == 2) && (height == 5))) → IsHeight height
is_height set height is = grind (arith, nat_tests)

-- the set of a key encapsulation is one that cards know, which have room for its public keys
pub is_known_set : (set public secret cipher : ℕ) → HasSetLengths set public secret cipher → IsTrue ((set == 1) || (set == 2))
is_known_set set public secret cipher has = elim has [
  | inl first ↦ let is : set ≡ 1 = first.0 in grind (arith, nat_tests)
  | inr second ↦ let is : set ≡ 2 = second.0 in grind (arith, nat_tests)
]

pub has_key_size : (set public secret cipher : ℕ) → HasSetLengths set public secret cipher → public ≡ key_size set
has_key_size set public secret cipher has = elim has [
  | inl first ↦ first.1 ∙ ap key_size (sym first.0)
  | inr second ↦ second.1 ∙ ap key_size (sym second.0)
]

-- a card with the keys of a member has a spelling
pub has_spelling : (card : Card) (height : ℕ) (id seed : List ℕ) → IsTrue ((card.set == 1) || (card.set == 2)) → IsTrue ((height == 10) || ((card.set == 2) && (height == 5)))
    → card.lms_public ≡ lms_public (record { height = height; id = id; seed = seed }) → length card.kem_public ≡ key_size card.set → HasSpelling card
has_spelling card height id seed set is public size = ⊎_elim ten five (heights card.set height is)
  where
    ten : height ≡ 10 → HasSpelling card
    ten at =
        let key : card.lms_public ≡ lms_public (record { height = 10; id = id; seed = seed }) =
        public ∙ ap (λ (h : ℕ). lms_public (record { height = h; id = id; seed = seed })) at in
        let type : lms_type card ≡ 6 = ap (λ (l : List ℕ). from_be_bytes w32 (take 4 l)) key ∙ type_at_ten id seed in
        record {
          set = set;
          lms_type = grind (arith, nat_tests);
          one_time_type = ap (λ (l : List ℕ). from_be_bytes w32 (take 4 (drop 4 l))) key ∙ one_time_at_ten id seed;
          kem_public = size;
        }

    five : (card.set ≡ 2) × (height ≡ 5) → HasSpelling card
    five at =
        let two : card.set ≡ 2 = at.0 in
        let key : card.lms_public ≡ lms_public (record { height = 5; id = id; seed = seed }) =
        public ∙ ap (λ (h : ℕ). lms_public (record { height = h; id = id; seed = seed })) at.1 in
        let type : lms_type card ≡ 5 = ap (λ (l : List ℕ). from_be_bytes w32 (take 4 l)) key ∙ type_at_five id seed in
        record {
          set = set;
          lms_type = grind (arith, nat_tests);
          one_time_type = ap (λ (l : List ℕ). from_be_bytes w32 (take 4 (drop 4 l))) key ∙ one_time_at_five id seed;
          kem_public = size;
        }

module _ {K P : Type 0} (kem : Ghosts K P) where
  -- the spelling of the card with a member's secret key is its card
  pub bytes_of_card : (height : ℕ) (origin : Origin) (secret : List ℕ) (card : Card) → secret_from kem origin.random ≡ Some secret → card ≡ card_with kem height origin secret
      → (bytes : List ℕ) → bytes ≡ spelling card → card_bytes kem height origin ≡ Some bytes
  unfolding card_bytes card_of
  bytes_of_card height origin secret card found is bytes whole =
      ap (λ (s : Option (List ℕ)). option_map spelling (option_map (card_with kem height origin) s)) found
      ∙ ap (λ (c : Card). Some (spelling c)) (sym is) ∙ ap Some (sym whole)

  pub secret_is : (random secret : List ℕ) → kem.made (pair_words random) ≡ Some secret → secret_from kem random ≡ Some secret
  unfolding secret_from
  secret_is random secret made = made
