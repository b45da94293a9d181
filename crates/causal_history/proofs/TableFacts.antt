-- What is put into a table.
use Rattle.std.proofs.Common.{◌≡◌, ℕ, ◌+◌, ◌<◌, ◌≤◌, inl, inr, true, false, List, [], ◌∷◌, ◌++◌, length, get_or, slice_get, take, drop, Option, None, Some, MatchOption, IsSome, is_some, refl, sym, ◌∙◌, ap, subst, arith, append_assoc}
use Rattle.std.proofs.lemmas.List.{length-map, length-append}
use Rattle.std.proofs.lemmas.Bool.Decides.{eqb_tells}
use Rattle.group_fields.specs.declared.ids.Digest.{Digest}
use Rattle.group_model.specs.Sets.{Id, In, has}
use Rattle.group_model.specs.Marks.{IsPlace}
use Rattle.group_model.specs.Membership.{with_id}
use Rattle.group_model.proofs.ListFacts.{test, yes_is, no_is, has-In, In-has}
use Rattle.group_messages.specs.Messages.{ids_of}
use Rattle.causal_history.specs.Keeping.{AreNumbers, Roster, roster_of, with_card, enrolled}
use Rattle.causal_history.specs.declared.table.CardPlace.{CardPlace}
use Rattle.causal_history.proofs.ListMore.{get-in, get-map, get-or, drop-next, take-next, or-left, or-last}

-- ---- answers of a look-up

pub none-is : (P : Type 0) (Q : ℕ → Type 0) (r : Option ℕ) → is_some r ≡ false → MatchOption r P Q → P
none-is P Q None e m = m
none-is P Q (Some x) e m = absurd cc

pub some-is : (P : Type 0) (Q : ℕ → Type 0) (r : Option ℕ) → is_some r ≡ true → MatchOption r P Q → (x : ℕ) × (r ≡ Some x) × Q x
some-is P Q None e m = absurd cc
some-is P Q (Some x) e m = (x, refl, m)

pub some-there : (P : Type 0) (Q : ℕ → Type 0) (r : Option ℕ) → (P → ⊥) → MatchOption r P Q → IsSome r
some-there P Q None n m = absurd (n m)
some-there P Q (Some x) n m = refl

pub some-at : (P : Type 0) (Q : ℕ → Type 0) (r : Option ℕ) (x : ℕ) → r ≡ Some x → MatchOption r P Q → Q x
some-at P Q r x e m = subst (λ z. MatchOption z P Q) e m

pub not_has : (ids : List Id) (x : Id) → (In x ids → ⊥) → has ids x ≡ false
not_has ids x n = elim (test (has ids x)) [ yes_is t ↦ absurd (n (has-In ids x t)) | no_is f ↦ f ]

-- ---- names

pub with_card-new : (row at : ℕ) (i : Id) (named wide : List Id) (places more : List CardPlace) → (In i named → ⊥) → wide ≡ with_id named i
    → more ≡ places ++ (record { row = row; at = at }) ∷ [] → roster_of wide more ≡ with_card row at i (roster_of named places)
with_card-new row at i named wide places more n e d =
    let f : has named i ≡ false = not_has named i n in
    let w : wide ≡ named ++ i ∷ [] = rw f at e in
    rw f (ap (λ z. roster_of z more) w ∙ ap (λ z. roster_of (named ++ i ∷ []) z) d)

pub with_card-known : (row at : ℕ) (i : Id) (named : List Id) (places : List CardPlace) → In i named
    → roster_of named places ≡ with_card row at i (roster_of named places)
with_card-known row at i named places k = let t : has named i ≡ true = In-has named i k in rw t refl

-- one id more of those that a row names
pub enrolled-step : (row at : ℕ) (ids : List Digest) (id : Digest) (old new goal : Roster) → slice_get ids at ≡ Some id
    → new ≡ with_card row at id.0 old → enrolled row old (drop at (ids_of ids)) at ≡ goal
    → enrolled row new (drop (at + 1) (ids_of ids)) (at + 1) ≡ goal
enrolled-step row at ids id old new goal e is before =
    let k : slice_get (ids_of ids) at ≡ Some id.0 = get-map (λ (d : Digest). d.0) ids at id e in
    ap (λ z. enrolled row z (drop (at + 1) (ids_of ids)) (at + 1)) is
    ∙ ap (λ z. enrolled row old z at) (sym (drop-next (ids_of ids) at id.0 k)) ∙ before

-- ---- numbers

pub id-among : (ids : List Digest) (at : ℕ) (id : Digest) → slice_get ids at ≡ Some id → In id.0 (ids_of ids)
id-among ids at id e = get-in (ids_of ids) at id.0 (get-map (λ (d : Digest). d.0) ids at id e)

numbers-push : (keys : List Id) (ns : List ℕ) (ids : List Id) (n : ℕ) (x : Id) → AreNumbers keys ns ids → IsPlace keys n x
    → AreNumbers keys (ns ++ n ∷ []) (ids ++ x ∷ [])
numbers-push keys ns ids n x v p = record {
  size = omega (arith, length-append ns (n ∷ []), length-append ids (x ∷ []), v.size);
  each = λ k l. elim (eqb_tells k (length ids)) [
    | inl e ↦
        let a : get_or (ns ++ n ∷ []) k 0 ≡ n = ap (λ z. get_or (ns ++ n ∷ []) z 0) (e.1 ∙ sym v.size) ∙ or-last ns n 0 in
        let b : get_or (ids ++ x ∷ []) k [] ≡ x = ap (λ z. get_or (ids ++ x ∷ []) z []) e.1 ∙ or-last ids x [] in
        subst (λ z. IsPlace keys z (get_or (ids ++ x ∷ []) k [])) (sym a) (subst (λ z. IsPlace keys n z) (sym b) p)
    | inr e ↦
        let m : k < length ids = omega (arith, length-append ids (x ∷ []), l, e.1) in
        let a : get_or (ns ++ n ∷ []) k 0 ≡ get_or ns k 0 = or-left ns (n ∷ []) k 0 (omega (arith, m, v.size)) in
        let b : get_or (ids ++ x ∷ []) k [] ≡ get_or ids k [] = or-left ids (x ∷ []) k [] m in
        subst (λ z. IsPlace keys z (get_or (ids ++ x ∷ []) k [])) (sym a)
        (subst (λ z. IsPlace keys (get_or ns k 0) z) (sym b) (v.each k m))
  ];
}

pub numbers-more : (keys : List Id) (start now grown : List ℕ) (ids : List Digest) (at n : ℕ) (id : Digest) → slice_get ids at ≡ Some id
    → IsPlace keys n id.0 → grown ≡ now ++ n ∷ []
    → ((more : List ℕ) × (now ≡ start ++ more) × AreNumbers keys more (take at (ids_of ids)))
    → (more : List ℕ) × (grown ≡ start ++ more) × AreNumbers keys more (take (at + 1) (ids_of ids))
numbers-more keys start now grown ids at n id e p g v = (
  v.0 ++ n ∷ [],
  g ∙ (ap (λ z. z ++ n ∷ []) v.1 ∙ append_assoc start v.0 (n ∷ [])),
  subst (λ z. AreNumbers keys (v.0 ++ n ∷ []) z)
      (sym (take-next (ids_of ids) at id.0 (get-map (λ (d : Digest). d.0) ids at id e)))
      (numbers-push keys v.0 (take at (ids_of ids)) n id.0 v.2 p),
)

pub length-with_id : (ids : List Id) (x : Id) → length (with_id ids x) ≤ length ids + 1
length-with_id ids x = elim (test (has ids x)) [
  | yes_is t ↦ rw t (omega arith)
  | no_is f ↦ rw f (omega (arith, length-append ids (x ∷ [])))
]

pub length-ids_of : (ids : List Digest) → length (ids_of ids) ≡ length ids
length-ids_of ids = length-map ids (λ (id : Digest). id.0)

pub id-at : (ids : List Digest) (at : ℕ) (id : Digest) → slice_get ids at ≡ Some id → get_or (ids_of ids) at [] ≡ id.0
id-at ids at id e = get-or (ids_of ids) at id.0 [] (get-map (λ (d : Digest). d.0) ids at id e)
