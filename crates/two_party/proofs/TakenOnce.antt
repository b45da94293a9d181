-- Draws that are left, and draws that were taken.
use Rattle.std.proofs.Common.{◌≡◌, true, cond, List, [], ◌∷◌, None, refl, sym, ◌∙◌, ap}
use Rattle.std.specs.Prelude.{bytes_eq}
use Rattle.std.proofs.lemmas.Slice.Eq.{bytes_eq-Decides}
use Rattle.group_model.specs.Sets.{Bytes, Id, In, here, there}
use Rattle.group_model.specs.Primitives.{Primitives}
use Rattle.group_model.specs.Pairing.{draws}
use Rattle.group_model.proofs.ListFacts.{yes_is, no_is, test}
use Rattle.two_party.specs.Drawn.{Drawn, drawn_for, left_for, after_take}

same-id : (i j : Id) → bytes_eq i j ≡ true → i ≡ j
same-id i j h = (bytes_eq-Decides i j).0 h

equal : (i : Id) → bytes_eq i i ≡ true
equal i = (bytes_eq-Decides i i).1 refl

pub listed : (K : Primitives) (random : Bytes) (ids : List Id) (id : Id) → In id ids → left_for (drawn_for K random ids) id ≡ draws K random id
listed K random [] id h = elim h [ ]
listed K random (i ∷ ids) id here = rw (equal id) refl
listed K random (i ∷ ids) id (there h) = elim (test (bytes_eq i id)) [
  | yes_is e ↦ rw e (ap (draws K random) (same-id i id e))
  | no_is e ↦ rw e (listed K random ids id h)
]

pub unlisted : (K : Primitives) (random : Bytes) (ids : List Id) (id : Id) → (In id ids → ⊥) → left_for (drawn_for K random ids) id ≡ None
unlisted K random [] id h = refl
unlisted K random (i ∷ ids) id h = elim (test (bytes_eq i id)) [
  | yes_is e ↦ absurd (h (rw (same-id i id e) here))
  | no_is e ↦ rw e (unlisted K random ids id (λ k. h (there k)))
]

pub none-left : (rows : List Drawn) (id : Id) → left_for (after_take rows id) id ≡ None
none-left [] id = refl
none-left (row ∷ rows) id = elim (test (bytes_eq row.id id)) [
  | yes_is e ↦ rw e (rw e refl)
  | no_is e ↦ rw e (rw e (none-left rows id))
]

pub others-kept : (rows : List Drawn) (id other : Id) → (id ≡ other → ⊥) → left_for (after_take rows id) other ≡ left_for rows other
others-kept [] id other h = refl
others-kept (row ∷ rows) id other h = elim (test (bytes_eq row.id id)) [
  | yes_is e ↦ elim (test (bytes_eq row.id other)) [
    | yes_is f ↦ absurd (h (sym (same-id row.id id e) ∙ same-id row.id other f))
    | no_is f ↦ rw (e, f) refl
  ]
  | no_is e ↦ rw e (ap (cond (bytes_eq row.id other) row.left) (others-kept rows id other h))
]
