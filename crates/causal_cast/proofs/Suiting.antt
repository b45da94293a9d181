-- The parts suit exactly where the places of those that they are for are the addressees.
use Rattle.std.proofs.Common.{◌≡◌, ◌↔◌, ℕ, Bool, true, List, ◌∷◌, refl}
use Rattle.group_model.specs.Sets.{Id, In, IsAscending}
use Rattle.group_model.specs.Messages.{Kind, Create, Update, Remove, Add, Ack, AddAck, Text, Message, History, Stands}
use Rattle.group_model.specs.Messages.{IsHistory}
use Rattle.group_model.specs.Membership.{IsMembershipRule, IsAddressee, ids_named}
use Rattle.group_model.specs.Validity.{SendsParts}
use Rattle.group_model.specs.Marks.{IsCrowd}
use Rattle.member_view.specs.Crowds.{StandsWell}
use Rattle.causal_cast.proofs.CrowdSets.{crowd-by}
use Rattle.causal_cast.proofs.OverItself.{addressee-in, addressee-out}
use Rattle.causal_cast.proofs.Receivers.{parts-suit, parts-same, parts-placed}

-- a message that is no create may be asked about
pub no_create-well : (h : History) (m : Message) (k : Kind) → ((members : List Id) → k ≡ Create members → ⊥)
    → StandsWell h m k
no_create-well h m (Create members) n = absurd (n members refl)
no_create-well h m Update n = tt
no_create-well h m (Remove y) n = tt
no_create-well h m (Add y) n = tt
no_create-well h m (Ack o took) n = tt
no_create-well h m (AddAck o) n = tt
no_create-well h m Text n = tt

-- what is new over a history makes one more
pub new-history : (h : History) (m : Message) → IsHistory h → ((i : Id) → In i m.predecessors → Stands h i)
    → (Stands h m.id → ⊥) → IsHistory (m ∷ h)
new-history h m g stand new = (stand, new, g)

module _ (rule : History → List Id) (is_rule : IsMembershipRule rule) (h : History) (m : Message)
    (g : IsHistory (m ∷ h)) (ids : List Id) (up : IsAscending ids) where
  addressees-over : (bits : ℕ → Bool) → IsCrowd (ids_named (m ∷ h)) bits (λ y. IsAddressee rule h m m.kind y)
      → IsCrowd (ids_named (m ∷ h)) bits (λ y. IsAddressee rule (m ∷ h) m m.kind y)
  addressees-over bits c =
      crowd-by (ids_named (m ∷ h)) bits (λ y. IsAddressee rule h m m.kind y)
      (λ y. IsAddressee rule (m ∷ h) m m.kind y) c (addressee-in rule h m g m.kind)
      (addressee-out rule h m g m.kind refl)

  -- one crowd of both
  pub suits-by_crowds : (of_parts of_addressees : ℕ → Bool) (same : Bool)
      → IsCrowd (ids_named (m ∷ h)) of_parts (λ y. In y ids) → ((y : Id) → In y ids → In y (ids_named (m ∷ h)))
      → IsCrowd (ids_named (m ∷ h)) of_addressees (λ y. IsAddressee rule h m m.kind y)
      → (same ≡ true) ↔ ((p : ℕ) → of_parts p ≡ of_addressees p) → (same ≡ true) ↔ SendsParts rule h m ids
  suits-by_crowds of_parts of_addressees same parts placed addressees says = (
    λ e. parts-suit rule is_rule h m ids of_parts of_addressees up placed parts
        (addressees-over of_addressees addressees) (says.0 e),
    λ s. says.1 (parts-same rule is_rule h m ids of_parts of_addressees s parts
        (addressees-over of_addressees addressees)),
  )

  -- a part for somebody without a place
  pub suits-not : (y : Id) → In y ids → (In y (ids_named (m ∷ h)) → ⊥) → SendsParts rule h m ids → ⊥
  suits-not y i n s = n (parts-placed rule is_rule h m ids s y i)
