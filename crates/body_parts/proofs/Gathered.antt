-- Receivers that are put one after the other at their places in the order of ids.
use Rattle.std.proofs.Common.{◌≡◌, ℕ, zero, suc, get_or, ◌<◌, ◌≤◌, ◌+◌, ◌⊎◌, inl, inr, Bool, true, false, List, [], ◌∷◌, ◌++◌, length, map, take, drop, refl, sym, ◌∙◌, ap, subst, arith}
use Rattle.std.specs.List.{insert}
use Rattle.std.specs.Ordering.{nat_cmp, is_lt}
use Rattle.std.specs.Cmp.Lexicographic.{slice_cmp}
use Rattle.std.proofs.lemmas.Bool.{cases_lt}
use Rattle.std.proofs.lemmas.List.{take-append-drop, take-map, drop-map, length-map, length-take}
use Rattle.std.proofs.lemmas.List.Edits.{length-insert}
use Rattle.std.proofs.lemmas.Option.{slice_get_within}
use Rattle.group_fields.specs.declared.ids.MemberId.{MemberId}
use Rattle.group_model.specs.Sets.{Id, In, here, there, IsAscending, IsDistinct}
use Rattle.group_model.specs.Marks.{IsPlace, IsCrowd}
use Rattle.group_model.specs.Membership.{AreAddressees, IsAddressee}
use Rattle.group_model.specs.Messages.{History, Message}
use Rattle.group_model.specs.Plain.{place}
use Rattle.group_model.proofs.Ascending.{In-placed, into-ascending, into-placed}
use Rattle.group_model.proofs.ListFacts.{test, yes_is, no_is, In-cases, In-either, In-head, In-left, In-right}
use Rattle.group_model.proofs.Places.{in-place, place-distinct, place-one}
use Rattle.causal_history.proofs.ListMore.{map-append, take-next}
use Rattle.body_parts.specs.declared.addressing.Receiver.{Receiver}
use Rattle.body_parts.specs.Receivers.{ArePlaced, AreReceivers, id_to, ids_to}

-- the receivers at the places below this one
pub record AreGathered (ids : List Id) (bits : ℕ → Bool) (bound : ℕ) (to : List Receiver) : Type 0 where
  pub placed : ArePlaced ids to
  pub below : (r : Receiver) → In r to → r.place < bound
  pub all : (p : ℕ) (x : Id) → p < bound → IsPlace ids p x → bits p ≡ true → In x (ids_to to)
  pub only : (r : Receiver) → In r to → bits r.place ≡ true
  pub ascending : IsAscending (ids_to to)
  pub few : length to ≤ bound
  pub fewer : (p : ℕ) → p < bound → bits p ≡ false → length to + 1 ≤ bound

pub none : (ids : List Id) (bits : ℕ → Bool) → AreGathered ids bits 0 []
none ids bits = record {
  placed = λ r i. elim i [ ];
  below = λ r i. elim i [ ];
  all = λ p x l. absurd (omega (arith, l));
  only = λ r i. elim i [ ];
  ascending = tt;
  few = omega arith;
  fewer = λ p l. absurd (omega (arith, l));
}

-- the elements of a list with one more
inserted-in : {A : Type 0} (xs : List A) (n : ℕ) (y x : A) → In x (insert xs n y) → (x ≡ y) ⊎ In x xs
inserted-in xs n y x k = elim (In-either (take n xs) k) [
  | inl l ↦ inr (subst (λ z. In x z) (take-append-drop n xs) (In-left (drop n xs) l))
  | inr l ↦ elim (In-cases l) [
    | inl e ↦ inl e
    | inr r ↦ inr (subst (λ z. In x z) (take-append-drop n xs) (In-right (take n xs) r))
  ]
]

-- the ids with one more
ids-inserted : (to : List Receiver) (n : ℕ) (r : Receiver) → ids_to (insert to n r) ≡ take n (ids_to to) ++ id_to r ∷ drop n (ids_to to)
ids-inserted to n r =
    let first : map id_to (take n to) ≡ take n (map id_to to) = sym (take-map id_to n to) in
    let second : map id_to (drop n to) ≡ drop n (map id_to to) = sym (drop-map id_to n to) in
    map-append id_to (take n to) (r ∷ drop n to)
    ∙ ap (λ (z : List Id). z ++ id_to r ∷ map id_to (drop n to)) first
    ∙ ap (λ (z : List Id). take n (map id_to to) ++ id_to r ∷ z) second

place-most : (ids : List Id) (x : Id) → place ids x ≤ length ids
place-most [] x = omega arith
place-most (i ∷ ids) x = elim (test (is_lt (slice_cmp nat_cmp i x))) [
  | yes_is e ↦ rw e (let m = place-most ids x in omega (arith, m))
  | no_is e ↦ rw e (omega arith)
]

-- an id of the receivers is one of theirs
pub whose : (to : List Receiver) (x : Id) → In x (ids_to to) → (r : Receiver) × In r to × (id_to r ≡ x)
whose [] x i = elim i [ ]
whose (r ∷ to) x i = elim (In-cases i) [
  | inl e ↦ (r, here, sym e)
  | inr l ↦ (let w = whose to x l in (w.0, there w.1, w.2))
]

pub In-ids : (to : List Receiver) (r : Receiver) → In r to → In (id_to r) (ids_to to)
In-ids [] r i = elim i [ ]
In-ids (s ∷ to) r i = elim (In-cases i) [
  | inl e ↦ In-head (ids_to to) (ap id_to e)
  | inr l ↦ there (In-ids to r l)
]

module _ (ids : List Id) (bits : ℕ → Bool) (bound : ℕ) (to : List Receiver) (g : AreGathered ids bits bound to) where
  -- a receiver among those has another id than the one at the bound
  fresh : IsDistinct ids → (x : Id) → IsPlace ids bound x → In x (ids_to to) → ⊥
  fresh distinct x at i =
      let w = whose to x i in
      let p : IsPlace ids w.0.place x = subst (λ (z : Id). IsPlace ids w.0.place z) w.2 (g.placed w.0 w.1) in
      let same : w.0.place ≡ bound = place-distinct ids distinct w.0.place bound x p at in
      let low : w.0.place < bound = g.below w.0 w.1 in
      absurd (omega (arith, same, low))

  cases : (p : ℕ) → p < bound + 1 → (p < bound) ⊎ (p ≡ bound)
  cases p l = elim (cases_lt p bound) [ inl low ↦ inl low | inr high ↦ inr (omega (arith, l, high)) ]

  pub one_more : IsDistinct ids → (r : Receiver) → r.place ≡ bound → IsPlace ids bound (id_to r) → bits bound ≡ true
      → AreGathered ids bits (bound + 1) (insert to (place (ids_to to) (id_to r)) r)
  one_more distinct r own at bit =
      let x = id_to r in
      let n = place (ids_to to) x in
      let news : ids_to (insert to n r) ≡ take n (ids_to to) ++ x ∷ drop n (ids_to to) = ids-inserted to n r in
      let long : length (insert to n r) ≡ length to + 1 = length-insert to n r
      (let m = place-most (ids_to to) x in omega (arith, m, length-map to id_to)) in
      record {
        placed = λ s i. elim (inserted-in to n r s i) [
          | inl e ↦ subst (λ (z : Receiver). IsPlace ids z.place (id_to z)) (sym e) (subst (λ (q : ℕ). IsPlace ids q x) (sym own) at)
          | inr l ↦ g.placed s l
        ];
        below = λ s i. elim (inserted-in to n r s i) [
          | inl e ↦ (let same : s.place ≡ r.place = ap (λ (z : Receiver). z.place) e in omega (arith, same, own))
          | inr l ↦ (let low : s.place < bound = g.below s l in omega (arith, low))
        ];
        all = λ p y l there_is is. subst (λ (z : List Id). In y z) (sym news) (In-placed (ids_to to) n x y
            (elim (cases p l) [
              | inl low ↦ inr (g.all p y low there_is is)
              | inr e ↦ inl (place-one ids bound y x (subst (λ (q : ℕ). IsPlace ids q y) e there_is) at)
            ]));
        only = λ s i. elim (inserted-in to n r s i) [
          | inl e ↦ ap (λ (z : Receiver). bits z.place) e ∙ ap bits own ∙ bit
          | inr l ↦ g.only s l
        ];
        ascending = subst IsAscending (sym (news ∙ into-placed (ids_to to) x)) (into-ascending (ids_to to) x g.ascending (fresh distinct x at));
        few = omega (arith, long, g.few);
        fewer = λ p l none. elim (cases p l) [
          | inl low ↦ (let m : length to + 1 ≤ bound = g.fewer p low none in omega (arith, long, m))
          | inr e ↦ absurd (let b : bits p ≡ true = ap bits e ∙ bit in cc)
        ];
      }

  pub passed : bits bound ≡ false → AreGathered ids bits (bound + 1) to
  passed bit = record {
    placed = g.placed;
    below = λ s i. let low : s.place < bound = g.below s i in omega (arith, low);
    all = λ p y l there_is is. elim (cases p l) [
      | inl low ↦ g.all p y low there_is is
      | inr e ↦ absurd (let b : bits p ≡ false = ap bits e ∙ bit in cc)
    ];
    only = g.only;
    ascending = g.ascending;
    few = omega (arith, g.few);
    fewer = λ p l none. omega (arith, g.few);
  }

  pub gathered : bound ≡ length ids → bound ≤ 32 → AreReceivers ids bits to
  gathered whole few = record {
    placed = g.placed;
    all = λ p x at. g.all p x (let l : p < length ids = slice_get_within ids p x at in omega (arith, l, whole)) at;
    only = g.only;
    ascending = g.ascending;
    few = omega (arith, g.few, few);
    fewer = λ p l bit. let m : length to + 1 ≤ bound = g.fewer p (omega (arith, l, whole)) bit in omega (arith, m, few);
  }

-- ---- members in the order of their places

abbrev pub ids_in : List MemberId → List Id
ids_in members = map (λ (id : MemberId). id.0.0) members

pub placed-at : (members : List MemberId) (p : ℕ) (none : MemberId) → p < length members → IsPlace (ids_in members) p (get_or members p none).0.0
placed-at [] p none l = absurd (omega (arith, l))
placed-at (member ∷ members) zero none l = refl
placed-at (member ∷ members) (suc p) none l = placed-at members p none (omega (arith, l))

pub placed-more : (members more : List MemberId) (ids : List Id) (p : ℕ) (member : MemberId) → ids_in members ≡ take p ids
    → IsPlace ids p member.0.0 → more ≡ members ++ member ∷ [] → ids_in more ≡ take (p + 1) ids
placed-more members more ids p member so_far at pushed =
    ap ids_in pushed ∙ map-append (λ (id : MemberId). id.0.0) members (member ∷ []) ∙ ap (λ (l : List Id). l ++ member.0.0 ∷ []) so_far
    ∙ sym (take-next ids p member.0.0 at)

pub few_members : (members : List MemberId) (ids : List Id) (p : ℕ) → ids_in members ≡ take p ids → p ≤ 32 → length members ≤ 32
few_members members ids p e few =
    let long : length (ids_in members) ≡ length members = length-map members (λ (id : MemberId). id.0.0) in
    omega (arith, long, ap length e, length-take p ids, few)

-- the receivers of a crowd are who has its property
pub addressed : (rule : History → List Id) (h : History) (m : Message) (ids : List Id) (bits : ℕ → Bool) (to : List Receiver)
    → AreReceivers ids bits to → IsCrowd ids bits (λ y. IsAddressee rule h m m.kind y)
    → ((y : Id) → IsAddressee rule h m m.kind y → In y ids) → AreAddressees rule h m (ids_to to)
addressed rule h m ids bits to r crowd named = record {
  ascending = r.ascending;
  all = λ y a. let p = in-place ids y (named y a) in r.all p.0 y p.1 ((crowd.each p.0 y p.1).1 a);
  only = λ y i.
      let w = whose to y i in
      subst (λ (z : Id). IsAddressee rule h m m.kind z) w.2 ((crowd.each w.0.place (id_to w.0) (r.placed w.0 w.1)).0 (r.only w.0 w.1));
}
