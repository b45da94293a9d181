-- What is drawn for receivers is left for each.
use Rattle.std.proofs.Common.{◌≡◌, inl, inr, zero, suc, List, [], ◌∷◌, map, sym, ◌∙◌, ap, subst, arith, bytes_eq}
use Rattle.std.specs.Prelude.{All, IsSome, Result, Ok, Err, IfOk}
use Rattle.group_fields.specs.declared.ids.MemberId.{MemberId}
use Rattle.group_model.specs.Sets.{Bytes, Id, In}
use Rattle.group_model.specs.Primitives.{Primitives}
use Rattle.group_model.proofs.ListFacts.{test, yes_is, no_is, In-cases, equal_id}
use Rattle.two_party.specs.Drawn.{Drawn, drawn_for, ids_of, left_for}
use Rattle.two_party.proofs.TakenOnce.{listed}
use Rattle.body_parts.specs.declared.addressing.Receiver.{Receiver}
use Rattle.body_parts.specs.Receivers.{id_to, ids_to}
use Rattle.body_parts.specs.Sending.{AreDrawnFrom}

left_each : (rows : List Drawn) (id : Id) → All (λ (row : Drawn). IsSome row.left) rows → In id (map (λ (row : Drawn). row.id) rows)
    → IsSome (left_for rows id)
left_each [] id some i = elim i [ ]
left_each (row ∷ rows) id some i = elim (test (bytes_eq row.id id)) [
  | yes_is e ↦ rw e (some zero row (omega arith))
  | no_is e ↦ rw e (left_each rows id (λ k d l. some (suc k) d (omega (arith, l))) (elim (In-cases i) [
    | inl same ↦ absurd (let t = equal_id row.id id (sym same) in cc)
    | inr l ↦ l
  ]))
]

ids-drawn : (K : Primitives) (random : Bytes) (ids : List Id) → map (λ (row : Drawn). row.id) (drawn_for K random ids) ≡ ids
ids-drawn K random [] = λ i. []
ids-drawn K random (id ∷ ids) = ap (λ (l : List Id). id ∷ l) (ids-drawn K random ids)

pub all_left : {E : Type 0} (K : Primitives) (random : Bytes) (ids others : List Id) (result : Result (List Drawn) E) → others ≡ ids
    → IfOk result (λ drawn. drawn ≡ drawn_for K random others) → IfOk result (λ drawn. All (λ (row : Drawn). IsSome row.left) drawn)
    → IfOk result (λ drawn. (id : Id) → In id ids → IsSome (left_for drawn id))
all_left K random ids others (Err e) same is some = tt
all_left K random ids others (Ok drawn) same is some = λ id i. left_each drawn id some
    (subst (In id) (sym (ap (map (λ (row : Drawn). row.id)) is ∙ ids-drawn K random others ∙ same)) i)

pub all_drawn : {E : Type 0} (K : Primitives) (random : Bytes) (ids others : List Id) (result : Result (List Drawn) E) → others ≡ ids
    → IfOk result (λ drawn. drawn ≡ drawn_for K random others) → IfOk result (λ drawn. AreDrawnFrom K random drawn ids)
all_drawn K random ids others (Err e) same is = tt
all_drawn K random ids others (Ok drawn) same is = λ id i.
    ap (λ (rows : List Drawn). left_for rows id) is ∙ listed K random others id (subst (In id) (sym same) i)

pub members-are : (to : List Receiver) (members slice : List MemberId) → members ≡ map (λ (r : Receiver). r.member) to → slice ≡ members
    → ids_of slice ≡ ids_to to
members-are to members slice is same = ap ids_of (same ∙ is) ∙ each to
  where
    each : (to : List Receiver) → ids_of (map (λ (r : Receiver). r.member) to) ≡ ids_to to
    each [] = λ i. []
    each (r ∷ to) = ap (λ (l : List Id). id_to r ∷ l) (each to)
