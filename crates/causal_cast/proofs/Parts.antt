-- The places of those that parts are for, part by part.
use Rattle.std.proofs.Common.{◌≡◌, ◌≢◌, ℕ, ◌+◌, Bool, true, false, inl, inr, ◌⊎◌, List, [], ◌∷◌, ◌++◌, Some}
use Rattle.std.proofs.Common.{length, take}
use Rattle.std.proofs.Common.{sym, ◌∙◌, subst}
use Rattle.std.specs.List.{slice_get}
use Rattle.std.proofs.lemmas.List.{length-map}
use Rattle.std.proofs.Math.Seq.{take-length}
use Rattle.group_model.specs.Sets.{Id, In, IsDistinct}
use Rattle.group_model.specs.Marks.{IsPlace, IsCrowd}
use Rattle.group_model.proofs.ListFacts.{In-either, In-left, In-right, In-cases, In-nothing, In-head}
use Rattle.group_model.proofs.Places.{place-in}
use Rattle.causal_history.proofs.ListMore.{get-map, get-in, take-next}
use Rattle.wire_codec.specs.Packets.{AddressedPart}
use Rattle.wire_codec.specs.Order.{recipients}
use Rattle.causal_cast.specs.Judging.{receivers}
use Rattle.causal_cast.proofs.CrowdSets.{crowd-by, crowd-more, crowd-none}

-- the bits are the places of those that were taken, who all have one
pub record ArePlaced (ids : List Id) (bits : ℕ → Bool) (taken : List Id) : Type 0 where
  pub crowd : IsCrowd ids bits (λ y. In y taken)
  pub placed : (y : Id) → In y taken → In y ids

pub placed-none : (ids : List Id) (bits : ℕ → Bool) → ((p : ℕ) → bits p ≡ false) → ArePlaced ids bits []
placed-none ids bits none = record {
  crowd = crowd-none ids bits (λ y. In y []) none (λ y i k. In-nothing k);
  placed = λ y k. absurd (In-nothing k);
}

last-one : {A : Type 0} {x y : A} → In x (y ∷ []) → x ≡ y
last-one i = elim (In-cases i) [ inl e ↦ e | inr k ↦ absurd (In-nothing k) ]

pub placed-more : (ids : List Id) (bits more : ℕ → Bool) (taken : List Id) (at : ℕ) (x : Id) → IsDistinct ids
    → IsPlace ids at x → ArePlaced ids bits taken → more at ≡ true → ((p : ℕ) → p ≢ at → more p ≡ bits p)
    → ArePlaced ids more (taken ++ x ∷ [])
placed-more ids bits more taken at x g here so_far set others = record {
  crowd = crowd-by ids more (λ y. In y taken ⊎ (y ≡ x)) (λ y. In y (taken ++ x ∷ []))
      (crowd-more ids bits more (λ y. In y taken) at x g here so_far.crowd set others)
      (λ y k. elim k [ inl i ↦ In-left (x ∷ []) i | inr e ↦ In-right taken (In-head [] e) ])
      (λ y k. elim (In-either taken k) [ inl i ↦ inl i | inr i ↦ inr (last-one i) ]);
  placed = λ y k. elim (In-either taken k) [
    | inl i ↦ so_far.placed y i
    | inr i ↦ subst (λ z. In z ids) (sym (last-one i)) (place-in ids at x here)
  ];
}

-- the receiver of a part by its index
pub receiver-at : (parts : List AddressedPart) (i : ℕ) (part : AddressedPart) → slice_get parts i ≡ Some part
    → slice_get (receivers parts) i ≡ Some part.to.0.0
receiver-at parts i part e =
    get-map (λ id. id.0) (recipients parts) i part.to.0 (get-map (λ one. one.to.0) parts i part e)

pub receivers-next : (parts : List AddressedPart) (i : ℕ) (part : AddressedPart) → slice_get parts i ≡ Some part
    → take (i + 1) (receivers parts) ≡ take i (receivers parts) ++ part.to.0.0 ∷ []
receivers-next parts i part e = take-next (receivers parts) i part.to.0.0 (receiver-at parts i part e)

pub receiver-in : (parts : List AddressedPart) (i : ℕ) (part : AddressedPart) → slice_get parts i ≡ Some part
    → In part.to.0.0 (receivers parts)
receiver-in parts i part e = get-in (receivers parts) i part.to.0.0 (receiver-at parts i part e)

-- all receivers
pub receivers-all : (parts : List AddressedPart) (i : ℕ) → i ≡ length parts → take i (receivers parts) ≡ receivers parts
receivers-all parts i e =
    let count : length (receivers parts) ≡ length parts =
    length-map (recipients parts) (λ id. id.0) ∙ length-map parts (λ one. one.to.0) in
    subst (λ n. take n (receivers parts) ≡ receivers parts) (count ∙ sym e) (take-length (receivers parts))
