-- The place of the first row with an id.
use Rattle.std.proofs.Common.{◌≡◌, ℕ, zero, suc, ◌<◌, List, [], ◌∷◌, length, get_or, set, Option, None, refl, sym, ◌∙◌, ap, ap₂, arith}
use Rattle.std.specs.Prelude.{bytes_eq}
use Rattle.group_model.specs.Sets.{Id}
use Rattle.group_model.specs.Pairing.{Draws}
use Rattle.group_model.proofs.ListFacts.{yes_is, no_is, test}
use Rattle.two_party.specs.Drawn.{Drawn, left_for, after_take, place_of}

abbrev taken : Drawn → Drawn
taken row = record { id = row.id; left = None }

-- what is left for an id stands at its place, and taking it changes the row there
at-place : (rows : List Drawn) (id : Id) (d : Drawn) → place_of rows id < length rows
    → ((get_or rows (place_of rows id) d).left ≡ left_for rows id)
    × (set rows (place_of rows id) (taken (get_or rows (place_of rows id) d)) ≡ after_take rows id)
at-place [] id d h = absurd (omega arith)
at-place (row ∷ rows) id d h = elim (test (bytes_eq row.id id)) [
  | yes_is e ↦ rw e (refl, refl)
  | no_is e ↦
      let low : suc (place_of rows id) < suc (length rows) = rw e at h in
      let later = at-place rows id d (omega arith) in
      rw e (later.0, ap (λ (z : List Drawn). row ∷ z) later.1)
]

-- no row with the id
no-place : (rows : List Drawn) (id : Id) → place_of rows id ≡ length rows → (None ≡ left_for rows id) × (rows ≡ after_take rows id)
no-place [] id h = (refl, refl)
no-place (row ∷ rows) id h = elim (test (bytes_eq row.id id)) [
  | yes_is e ↦ let none : zero ≡ suc (length rows) = rw e at h in absurd (omega arith)
  | no_is e ↦
      let same : suc (place_of rows id) ≡ suc (length rows) = rw e at h in
      let later = no-place rows id (omega arith) in
      rw e (later.0, ap (λ (z : List Drawn). row ∷ z) later.1)
]

-- both from what the code has
pub none-left : (rows items slice : List Drawn) (id : Id) (n : ℕ) → items ≡ rows → slice ≡ items → n ≡ place_of slice id → n ≡ length items
    → (None ≡ left_for rows id) × (rows ≡ after_take rows id)
none-left rows items slice id n ie se pe ne =
    no-place rows id (ap (λ (z : List Drawn). place_of z id) (sym (se ∙ ie)) ∙ sym pe ∙ ne ∙ ap length ie)

pub one-left : (rows items slice : List Drawn) (id : Id) (n : ℕ) (old new : Drawn) (answer : Option Draws)
    → items ≡ rows → slice ≡ items → n ≡ place_of slice id → n < length items → old ≡ get_or items n old
    → answer ≡ old.left → new ≡ taken old → (answer ≡ left_for rows id) × (set items n new ≡ after_take rows id)
one-left rows items slice id n old new answer ie se pe low oe ae ne =
    let place : n ≡ place_of rows id = pe ∙ ap (λ (z : List Drawn). place_of z id) (se ∙ ie) in
    let inside : place_of rows id < length rows = (let same : length items ≡ length rows = ap length ie in omega arith) in
    let found : old ≡ get_or rows (place_of rows id) old = oe ∙ ap₂ (λ (z : List Drawn) (i : ℕ). get_or z i old) ie place in
    let both = at-place rows id old inside in (
      ae ∙ ap (λ (z : Drawn). z.left) found ∙ both.0,
      ap₂ (λ (z : List Drawn) (i : ℕ). set z i new) ie place
          ∙ ap (set rows (place_of rows id)) (ne ∙ ap taken found) ∙ both.1,
    )
