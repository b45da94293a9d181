-- Cards that stand in bytes, one behind the other.
use Rattle.std.specs.Prelude.{◌≡◌, ℕ, List, ◌++◌, length}
use Rattle.group_fields.specs.Cards.{spelling}
use Rattle.group_fields.specs.declared.card.Card.{Card}
use Rattle.group_model.specs.Sets.{In}
use Rattle.reference_member.specs.Steps.{HasBytes, spellings}

-- The bytes begin with a card, and go on with the rest.
pub record IsFront (bytes : List ℕ) (card : Card) (rest : List ℕ) : Type 0 where
  pub spelled : HasBytes card
  pub is : spelling card ++ rest ≡ bytes

-- The bytes begin with no card.
abbrev pub HasNoFront : List ℕ → Type 0
HasNoFront bytes = (card : Card) (rest : List ℕ) → IsFront bytes card rest → ⊥

-- The bytes are so many cards.
pub record AreCards (count : ℕ) (bytes : List ℕ) (cards : List Card) : Type 0 where
  pub number : length cards ≡ count
  pub spelled : (card : Card) → In card cards → HasBytes card
  pub are : spellings cards ≡ bytes

-- The bytes are not so many cards.
abbrev pub AreNoCards : ℕ → List ℕ → Type 0
AreNoCards count bytes = (cards : List Card) → AreCards count bytes cards → ⊥

-- The cards of the bytes were put behind the old ones.
pub record PutsCards (count : ℕ) (bytes : List ℕ) (old new : List Card) : Type 0 where
  pub cards : List Card
  pub whole : new ≡ old ++ cards
  pub are : AreCards count bytes cards
