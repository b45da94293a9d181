-- The steps of a member: what each is given, and the record that a journal keeps of it. docs/SPECIFICATION.md, "Journal
-- records".
use Rattle.std.specs.Prelude.{◌≡◌, ℕ, ◌≤◌, List, [], ◌∷◌, ◌++◌, length}
use Rattle.kem_trait.specs.declared.kem.Kem.{Ghosts}
use Rattle.group_fields.specs.Cards.{Spells, spelling}
use Rattle.group_fields.specs.declared.card.Card.{Card}
use Rattle.group_model.specs.Sets.{Bytes, Id, In}
use Rattle.member_identity.specs.Identity.{HasCards}

-- what a step is given beside its random bytes
pub data Input : Type 0 where
  -- makes the member: with the only one that may take it into a group, which 32 zero bytes say is nobody, and the
  -- height of its signing tree
  Init : (inviter : Id) → (height : ℕ) → Input
  -- opens a group with the members of these cards
  Create : (cards : List Card) → Input
  Add : (card : Card) → Input
  Remove : (target : Id) → Input
  Update : Input
  Send : (text : Bytes) → Input
  -- takes a packet, and answers it where it asks for that
  Take : (packet : Bytes) → Input

-- with its 32 random bytes
pub record Step : Type 0 where
  pub input : Input
  pub random : Bytes

-- the spellings of cards, one behind the other
abbrev pub spellings : List Card → Bytes
spellings [] = []
spellings (card ∷ cards) = spelling card ++ spellings cards

abbrev pub record_with : (set : ℕ) → (random : Bytes) → Input → Bytes
record_with set random (Init inviter height) = 1 ∷ set ∷ height ∷ (inviter ++ random)
record_with set random (Create cards) = 2 ∷ (random ++ length cards ∷ spellings cards)
record_with set random (Add card) = 3 ∷ (random ++ spelling card)
record_with set random (Remove target) = 4 ∷ (random ++ target)
record_with set random Update = 5 ∷ random
record_with set random (Send text) = 6 ∷ (random ++ text)
record_with set random (Take packet) = 7 ∷ (random ++ packet)

-- the bytes of the record of a step, for a member of a set
abbrev pub record_of : (set : ℕ) → Step → Bytes
record_of set step = record_with set step.random step.input

-- the card is one that bytes spell
abbrev pub HasBytes : Card → Type 0
HasBytes card = Spells card (spelling card)

module _ {K P : Type 0} (kem : Ghosts K P) where
  -- the input fits into a record
  abbrev pub FitsRecord : Input → Type 0
  FitsRecord (Init inviter height) = (length inviter ≡ 32) × HasCards kem height
  FitsRecord (Create cards) = ((card : Card) → In card cards → HasBytes card) × (length cards ≤ 31)
  FitsRecord (Add card) = HasBytes card
  FitsRecord (Remove target) = length target ≡ 32
  FitsRecord Update = Unit {0}
  FitsRecord (Send text) = Unit {0}
  FitsRecord (Take packet) = Unit {0}

  -- the step has a record
  pub record HasRecord (step : Step) : Type 0 where
    pub random : length step.random ≡ 32
    pub input : FitsRecord step.input
