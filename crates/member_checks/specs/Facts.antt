-- What is asked of cards, and of a history about them.
use Rattle.std.specs.Prelude.{◌≡◌, ◌≢◌, ◌⊎◌, ℕ, cond, nat_eq, List, Option, Some, None, slice_get}
use Rattle.kem_trait.specs.declared.kem.Kem.{Ghosts}
use Rattle.group_fields.specs.Cards.{card_id}
use Rattle.group_fields.specs.declared.card.Card.{Card}
use Rattle.group_model.specs.Sets.{Id, In}
use Rattle.member_checks.specs.declared.facts.CardFacts.{CardFacts}
use Rattle.reference_member.specs.Refusals.{member_id}

module _ {K P : Type 0} (kem : Ghosts K P) where
  -- the place at which a card is refused: its set is another, or its key is none
  abbrev pub fault_of : (set : ℕ) → (kem_public : List ℕ) → Option ℕ
  fault_of set kem_public = cond (nat_eq set kem.SET) (cond (kem.is_public kem_public) None (Some 91)) (Some 2)

  -- what is asked of a card
  abbrev pub facts_of : Card → CardFacts
  facts_of card = record {
    fault = fault_of card.set card.kem_public;
    id = member_id (card_id card);
    inviter = card.inviter;
  }

-- the card is refused at a place
abbrev pub HasFaultAt : (place : ℕ) → CardFacts → Type 0
HasFaultAt place card = card.fault ≡ Some place

abbrev pub IsFaulty : ℕ → CardFacts → Type 0
IsFaulty index card = (place : ℕ) × HasFaultAt place card

-- the card is the member's own
abbrev pub IsOf : Id → ℕ → CardFacts → Type 0
IsOf me index card = card.id.0.0 ≡ me

-- the card is given twice, or its member is one of the named
abbrev pub IsKnown : (named : List Id) → List CardFacts → ℕ → CardFacts → Type 0
IsKnown named cards index card =
    In card.id.0.0 named
    ⊎ ((i : ℕ) × (other : CardFacts) × (i ≢ index) × (slice_get cards i ≡ Some other) × (other.id.0.0 ≡ card.id.0.0))

-- the card names another inviter
abbrev pub IsOfOther : Id → ℕ → CardFacts → Type 0
IsOfOther me index card = card.inviter.0.0 ≢ me
