-- Draws for the receivers of a crowd.
use Rattle.std.proofs.Common.{◌≡◌, ℕ, zero, suc, ◌<◌, Bool, true, List, [], ◌∷◌, length, get_or, None, refl, sym, ◌∙◌, ap, subst, arith}
use Rattle.std.specs.Prelude.{Any}
use Rattle.kem_trait.specs.declared.kem.Kem.{Ghosts}
use Rattle.group_fields.specs.declared.card.Card.{Card}
use Rattle.group_model.specs.Sets.{Bytes, Id, In, there}
use Rattle.group_model.specs.KeyTerms.{seed_of}
use Rattle.group_model.specs.Marks.{IsPlace}
use Rattle.group_model.specs.Pairing.{draws}
use Rattle.group_model.specs.Primitives.{Primitives}
use Rattle.group_model.proofs.ListFacts.{In-head}
use Rattle.group_keys.specs.Primitives.{primitives_of}
use Rattle.hkdf_seal.specs.Keys.{kdf}
use Rattle.std.specs.Prelude.{codes}
use Rattle.two_party.specs.Drawn.{Drawn, drawn_for}
use Rattle.secret_book.specs.HeldBooks.{HeldBook}
use Rattle.body_parts.specs.declared.addressing.Receiver.{Receiver}
use Rattle.body_parts.specs.Receivers.{AreReceivers, id_to, ids_to}
use Rattle.body_parts.specs.Sending.{AreDrawnFrom}
use Rattle.group_ops.specs.Making.{IsSeededBody}
use Rattle.reference_member.proofs.OwnerForms.{from-map}
use Rattle.next_messages.specs.Bodies.{IsSeededNext, LacksDraws}

-- a receiver has its place, whose bit is set
pub receiver-at : (ids : List Id) (bits : ℕ → Bool) (to : List Receiver) → AreReceivers ids bits to → (y : Id) → In y (ids_to to)
    → (p : ℕ) × IsPlace ids p y × (bits p ≡ true)
receiver-at ids bits to are y i =
    let r = from-map id_to to y i in
    (r.0.place, subst (λ z. IsPlace ids r.0.place z) (sym r.2) (are.placed r.0 r.1), are.only r.0 r.1)

pub receivers-within : (ids : List Id) (bits : ℕ → Bool) (to others : List Receiver) → AreReceivers ids bits to → AreReceivers ids bits others
    → (y : Id) → In y (ids_to to) → In y (ids_to others)
receivers-within ids bits to others are also y i = let p = receiver-at ids bits to are y i in also.all p.0 y p.1 p.2

in-at : {A : Type 0} (xs : List A) (k : ℕ) (x : A) → k < length xs → get_or xs k x ≡ x → In x xs
in-at [] k x l e = absurd (omega (arith, l))
in-at (y ∷ xs) zero x l e = In-head xs (sym e)
in-at (y ∷ xs) (suc k) x l e = there (in-at xs k x (omega (arith, l)) e)

-- what isn't drawn for one of the receivers
pub lacks : (K : Primitives) (random : Bytes) (ids : List Id) (bits : ℕ → Bool) (to : List Receiver) → AreReceivers ids bits to
    → Any (λ (row : Drawn). row.left ≡ None) (drawn_for K random (ids_to to)) → LacksDraws K ids bits random
lacks K random ids bits to are none =
    let row = from-map (λ (id : Id). record { id = id; left = draws K random id }) (ids_to to) none.1
    (in-at (drawn_for K random (ids_to to)) none.0 none.1 none.2 none.3) in
    let at = receiver-at ids bits to are row.0 row.1 in
    record {
      place = at.0;
      id = row.0;
      is = at.1;
      among = at.2;
      none = sym (ap (λ (d : Drawn). d.left) row.2) ∙ none.4;
    }

module _ {K P : Type 0} (kem : Ghosts K P) where
  seed-is : (random : Bytes) → kdf random (codes "seed") [] ≡ seed_of (primitives_of kem) random
  unfolding seed_of primitives_of
  seed-is random = refl

  pub seeded-next : (ids : List Id) (cards : List Card) (bits : ℕ → Bool) (random seed : Bytes) (drawn : List Drawn)
      (before after : HeldBook) (bytes : Bytes) → seed ≡ kdf random (codes "seed") []
      → (made : IsSeededBody kem ids cards bits seed drawn before after bytes)
      → AreDrawnFrom (primitives_of kem) random drawn (ids_to made.to)
      → IsSeededNext kem ids cards bits random before after bytes
  seeded-next ids cards bits random seed drawn before after bytes is made drawn_from =
      let both = subst
      (λ (z : Bytes). (m : IsSeededBody kem ids cards bits z drawn before after bytes) × AreDrawnFrom (primitives_of kem) random drawn (ids_to m.to))
      (is ∙ seed-is random) (made, drawn_from) in
      record { drawn = drawn; made = both.0; drawn_from = both.1 }
