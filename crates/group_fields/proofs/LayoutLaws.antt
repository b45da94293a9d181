-- Reading from left to right finds the value that bytes spell, or the fault with the least place.
use Rattle.std.proofs.Common.{◌≡◌, ◌⊎◌, ℕ, ◌+◌, ◌-◌, ◌<◌, ◌≤◌, Bool, true, false, List, [], ◌∷◌, ◌++◌, length, take, drop, refl, ap, sym, subst, ◌∙◌, arith, inl, inr, append_assoc}
use Rattle.std.specs.Prelude.{Result, Ok, Err, Option, Some}
use Rattle.std.specs.Option.{option_map_or}
use Rattle.std.proofs.lemmas.Bool.{cases_lt, cases_Bool, lt-ltb, le-ltb}
use Rattle.std.proofs.lemmas.List.{length-append, length-take, take-append-drop, take_at, drop_at}
use Rattle.group_fields.specs.Fields.{Field, Fills, place_of}
use Rattle.group_fields.specs.declared.fault.FieldFault.{FieldFault}
use Rattle.group_fields.specs.declared.fault.FieldFault.TheVariants.{Short, Excess, Range}
use Rattle.group_fields.specs.Layouts.{Layout, value, field, behind, enclosed, shaped, verbatim, Spells, written, IsFieldRefused, IsRefused, IsWholeRefused, IsLeastFault, LeavesOver}
use Rattle.group_fields.specs.LayoutReads.{Found, found, on_ok, read_field, before, ended, asked, read, read_whole}

-- ---- steps

on_ok_ok : {A B : Type 0} (r : Result A FieldFault) (next : A → Result B FieldFault) (y : B) → on_ok r next ≡ Ok y → (x : A) × (r ≡ Ok x) × (next x ≡ Ok y)
on_ok_ok (Ok x) next y e = (x, refl, e)
on_ok_ok (Err fault) next y e = absurd cc

on_ok_err : {A B : Type 0} (r : Result A FieldFault) (next : A → Result B FieldFault) (fault : FieldFault) → on_ok r next ≡ Err fault
    → (r ≡ Err fault) ⊎ ((x : A) × (r ≡ Ok x) × (next x ≡ Err fault))
on_ok_err (Ok x) next fault e = inr (x, refl, e)
on_ok_err (Err other) next fault e = inl cc

-- ---- one field

pub short : {F : Type 0} (f : Field F) (place : ℕ) (bytes : List ℕ) → length bytes < f.size → read_field f place bytes ≡ Err (Short place)
unfolding read_field
short f place bytes lt = rw (lt-ltb (length bytes) f.size lt) refl

pub not_allowed : {F : Type 0} (f : Field F) (place : ℕ) (bytes : List ℕ) → f.size ≤ length bytes → f.allows (take f.size bytes) ≡ false → read_field f place bytes ≡ Err (Range place)
unfolding read_field
not_allowed f place bytes le refused = rw (le-ltb (length bytes) f.size le, refused) refl

pub taken : {F : Type 0} (f : Field F) (place : ℕ) (bytes : List ℕ) → f.size ≤ length bytes → f.allows (take f.size bytes) ≡ true
    → read_field f place bytes ≡ Ok (found (take f.size bytes) (place + f.size) (drop f.size bytes))
unfolding read_field
taken f place bytes le allowed = rw (le-ltb (length bytes) f.size le, allowed) refl

-- what comes of a field
pub data FieldOutcome {F : Type 0} (f : Field F) (place : ℕ) (bytes : List ℕ) : Type 0 where
  is_short : length bytes < f.size → read_field f place bytes ≡ Err (Short place) → FieldOutcome f place bytes
  is_refused : f.size ≤ length bytes → f.allows (take f.size bytes) ≡ false → read_field f place bytes ≡ Err (Range place) → FieldOutcome f place bytes
  is_taken : f.size ≤ length bytes → f.allows (take f.size bytes) ≡ true
      → read_field f place bytes ≡ Ok (found (take f.size bytes) (place + f.size) (drop f.size bytes)) → FieldOutcome f place bytes

pub field_outcome : {F : Type 0} (f : Field F) (place : ℕ) (bytes : List ℕ) → FieldOutcome f place bytes
field_outcome f place bytes =
    elim (cases_lt (length bytes) f.size) [
      | inl lt ↦ is_short lt (short f place bytes lt)
      | inr le ↦ elim (cases_Bool (f.allows (take f.size bytes))) [
        | inl allowed ↦ is_taken le allowed (taken f place bytes le allowed)
        | inr refused ↦ is_refused le refused (not_allowed f place bytes le refused)
      ]
    ]

field_found : {F : Type 0} (f : Field F) (place : ℕ) (bytes : List ℕ) (x : Found (List ℕ)) → read_field f place bytes ≡ Ok x
    → Fills f x.value × (bytes ≡ x.value ++ x.rest) × (x.place ≡ place + length x.value)
field_found f place bytes x e = by_outcome (field_outcome f place bytes)
  where
    by_outcome : FieldOutcome f place bytes → Fills f x.value × (bytes ≡ x.value ++ x.rest) × (x.place ≡ place + length x.value)
    by_outcome (is_short lt err) = absurd cc
    by_outcome (is_refused le no_value err) = absurd cc
    by_outcome (is_taken le allowed ok) =
        let same : found (take f.size bytes) (place + f.size) (drop f.size bytes) ≡ x = cc in
        let size : length (take f.size bytes) ≡ f.size = omega (arith, length-take f.size bytes, le) in
        let P : Found (List ℕ) → Type 0 = λ y. Fills f y.value × (bytes ≡ y.value ++ y.rest) × (y.place ≡ place + length y.value) in
        subst P same (record { size = size; allowed = allowed }, sym (take-append-drop f.size bytes), omega (arith, size))

same_found : {A : Type 0} (p q : ℕ) (r s : List ℕ) (a b : A) → p ≡ q → r ≡ s → a ≡ b → ◌≡◌ {A = Result (Found A) FieldFault} (Ok (found a p r)) (Ok (found b q s))
same_found p q r s a b ep er ea = rw (ep, er, ea) refl

fills_read : {F : Type 0} (f : Field F) (place : ℕ) (front back : List ℕ) → Fills f front → read_field f place (front ++ back) ≡ Ok (found front (place + length front) back)
fills_read f place front back fills =
    let le : f.size ≤ length (front ++ back) = omega (arith, length-append front back, fills.size) in
    let first : take f.size (front ++ back) ≡ front = take_at front back f.size fills.size in
    let allowed : f.allows (take f.size (front ++ back)) ≡ true = ap f.allows first ∙ fills.allowed in
    taken f place (front ++ back) le allowed
    ∙ same_found (place + f.size) (place + length front) (drop f.size (front ++ back)) back (take f.size (front ++ back)) front (omega (arith, fills.size)) (drop_at front back f.size fills.size) first

ended_ok : {A : Type 0} (a b : A) (place : ℕ) (rest : List ℕ) → ended a place rest ≡ Ok b → (rest ≡ []) × (a ≡ b)
ended_ok a b place [] e = (refl, cc)
ended_ok a b place (c ∷ rest) e = absurd cc

ended_err : {A : Type 0} (a : A) (place : ℕ) (rest : List ℕ) (fault : FieldFault) → ended a place rest ≡ Err fault → (0 < length rest) × (fault ≡ Excess place)
ended_err a place [] fault e = absurd cc
ended_err a place (c ∷ rest) fault e = (omega arith, cc)

ended_over : {A : Type 0} (a : A) (place : ℕ) (rest : List ℕ) → 0 < length rest → ended a place rest ≡ Err (Excess place)
ended_over a place [] over = absurd (omega arith)
ended_over a place (c ∷ rest) over = refl

-- ---- what is spelled is read, whatever follows

nothing_behind : (xs : List ℕ) → xs ++ [] ≡ xs
nothing_behind [] = refl
nothing_behind (x ∷ xs) = ap (λ (r : List ℕ). x ∷ r) (nothing_behind xs)

pub before_is : (front back : List ℕ) → before back (front ++ back) ≡ front
before_is front back = take_at front back (length (front ++ back) - length back) (omega (arith, length-append front back))

pub complete : {A : Type 0} (l : Layout A) (place : ℕ) (front back : List ℕ) (a : A) → Spells l front a
    → read l place (front ++ back) ≡ Ok (found a (place + length front) back)
unfolding read
complete (value b) place front back a (none, is) =
    let e : length front ≡ 0 = ap length none in
    let same : front ++ back ≡ back = ap (λ (x : List ℕ). x ++ back) none in
    same_found place (place + length front) (front ++ back) back b a (omega (arith, e)) same (sym is)
complete (field f) place front back a (fills, is) =
    rw (fills_read f place front back fills) (same_found (place + length front) (place + length front) back back (f.value front) a refl refl (sym is))
complete (behind part next) place front back pair (f1, b1, e, s1, s2) =
    let regrouped : front ++ back ≡ f1 ++ (b1 ++ back) = ap (λ (r : List ℕ). r ++ back) e ∙ append_assoc f1 b1 back in
    let one = ap (λ (r : List ℕ). read part place r) regrouped ∙ complete part place f1 (b1 ++ back) pair.0 s1 in
    let two = complete (next pair.0) (place + length f1) b1 back pair.1 s2 in
    let len : length front ≡ length f1 + length b1 = ap length e ∙ length-append f1 b1 in
    rw (one, two) (same_found (place + length f1 + length b1) (place + length front) back back pair pair (omega (arith, len)) refl refl)
complete (enclosed f inside) place front back a (fills, s) =
    let one = ap (λ (r : List ℕ). read inside place r) (sym (nothing_behind front)) ∙ complete inside place front [] a s in
    rw (fills_read f place front back fills, one) refl
complete (shaped part shape) place front back b (a, s, fits, is) =
    rw (complete part place front back a s, fits) (same_found (place + length front) (place + length front) back back (shape.to a) b refl refl (sym is))
complete (verbatim part) place front back b (a, s, is) =
    rw (complete part place front back a s)
    (same_found (place + length front) (place + length front) back back (before back (front ++ back)) b refl refl (before_is front back ∙ sym is))

-- ---- what is read is spelled

pub record IsFound {A : Type 0} (l : Layout A) (place : ℕ) (bytes : List ℕ) (x : Found A) : Type 0 where
  pub front : List ℕ
  pub whole : bytes ≡ front ++ x.rest
  pub spelled : Spells l front x.value
  pub place_is : x.place ≡ place + length front

pub found_is : {A : Type 0} (l : Layout A) (place : ℕ) (bytes : List ℕ) (x : Found A) → read l place bytes ≡ Ok x → IsFound l place bytes x
unfolding read
found_is (value a) place bytes x e =
    let same : found a place bytes ≡ x = cc in
    subst (λ z. IsFound (value a) place bytes z) same (record { front = []; whole = refl; spelled = (refl, refl); place_is = omega arith })
found_is (field f) place bytes x e =
    let (y, e1, e2) = on_ok_ok (read_field f place bytes) (λ y. Ok (found (f.value y.value) y.place y.rest)) x e in
    let same : found (f.value y.value) y.place y.rest ≡ x = cc in
    let is = field_found f place bytes y e1 in
    subst (λ z. IsFound (field f) place bytes z) same (record { front = y.value; whole = is.1; spelled = (is.0, refl); place_is = is.2 })
found_is (behind part next) place bytes x e =
    let (y, e1, e2) = on_ok_ok (read part place bytes) (λ y. on_ok (read (next y.value) y.place y.rest) (λ z. Ok (found (y.value, z.value) z.place z.rest))) x e in
    let (z, e3, e4) = on_ok_ok (read (next y.value) y.place y.rest) (λ z. Ok (found (y.value, z.value) z.place z.rest)) x e2 in
    let one = found_is part place bytes y e1 in
    let two = found_is (next y.value) y.place y.rest z e3 in
    let same : found (y.value, z.value) z.place z.rest ≡ x = cc in
    subst (λ w. IsFound (behind part next) place bytes w) same (record {
      front = one.front ++ two.front;
      whole = one.whole ∙ ap (λ (r : List ℕ). one.front ++ r) two.whole ∙ sym (append_assoc one.front two.front z.rest);
      spelled = (one.front, two.front, refl, one.spelled, two.spelled);
      place_is = omega (arith, one.place_is, two.place_is, length-append one.front two.front);
    })
found_is (enclosed f inside) place bytes x e =
    let (y, e1, e2) = on_ok_ok (read_field f place bytes) (λ y. on_ok (on_ok (read inside place y.value) (λ z. ended z.value z.place z.rest)) (λ a. Ok (found a y.place y.rest))) x e in
    let (a, e3, e4) = on_ok_ok (on_ok (read inside place y.value) (λ z. ended z.value z.place z.rest)) (λ a. Ok (found a y.place y.rest)) x e2 in
    let (z, e5, e6) = on_ok_ok (read inside place y.value) (λ z. ended z.value z.place z.rest) a e3 in
    let is = field_found f place bytes y e1 in
    let one = found_is inside place y.value z e5 in
    let (none, same_value) = ended_ok z.value a z.place z.rest e6 in
    let same : found a y.place y.rest ≡ x = cc in
    let front_is : one.front ≡ y.value = sym (one.whole ∙ ap (λ (r : List ℕ). one.front ++ r) none ∙ nothing_behind one.front) in
    let at_front = subst (λ v. Spells inside one.front v) same_value one.spelled in
    let inner = subst (λ (r : List ℕ). Spells inside r a) front_is at_front in
    subst (λ z. IsFound (enclosed f inside) place bytes z) same (record { front = y.value; whole = is.1; spelled = (is.0, inner); place_is = is.2 })
found_is (shaped part shape) place bytes x e =
    let (y, e1, e2) = on_ok_ok (read part place bytes) (λ y. asked (shape.fits y.value) place (found (shape.to y.value) y.place y.rest)) x e in
    let one = found_is part place bytes y e1 in
    let (fits, same) = asked_ok (shape.fits y.value) place (found (shape.to y.value) y.place y.rest) x e2 in
    subst (λ z. IsFound (shaped part shape) place bytes z) same
    (record { front = one.front; whole = one.whole; spelled = (y.value, one.spelled, fits, refl); place_is = one.place_is })
  where
    asked_ok : {B : Type 0} (fits : Bool) (place : ℕ) (y x : Found B) → asked fits place y ≡ Ok x → (fits ≡ true) × (y ≡ x)
    asked_ok true place y x e = (refl, cc)
    asked_ok false place y x e = absurd cc
found_is (verbatim part) place bytes x e =
    let (y, e1, e2) = on_ok_ok (read part place bytes) (λ y. Ok (found (before y.rest bytes) y.place y.rest)) x e in
    let one = found_is part place bytes y e1 in
    let same : found (before y.rest bytes) y.place y.rest ≡ x = cc in
    let front_is : before y.rest bytes ≡ one.front = ap (before y.rest) one.whole ∙ before_is one.front y.rest in
    subst (λ z. IsFound (verbatim part) place bytes z) same
    (record { front = one.front; whole = one.whole; spelled = (y.value, one.spelled, front_is); place_is = one.place_is })

-- ---- a refused place is never before the first

field_place : {F : Type 0} (f : Field F) (place : ℕ) (bytes : List ℕ) (fault : FieldFault) → IsFieldRefused f place bytes fault → place_of fault ≡ place
field_place f place bytes fault (inl (lt, e)) = ap place_of e
field_place f place bytes fault (inr (le, no_value, e)) = ap place_of e

over_place : {A : Type 0} (S : List ℕ → A → Type 0) (place : ℕ) (bytes : List ℕ) (fault : FieldFault) → LeavesOver S place bytes fault → place ≤ place_of fault
over_place S place bytes fault (a, front, over, e, s, long, is) = let at = ap place_of is in omega (arith, at)

pub from_start : {A : Type 0} (l : Layout A) (place : ℕ) (bytes : List ℕ) (fault : FieldFault) → IsRefused l place bytes fault → place ≤ place_of fault
from_start (value a) place bytes fault r = absurd r
from_start (field f) place bytes fault r = let e = field_place f place bytes fault r in omega (arith, e)
from_start (behind part next) place bytes fault (inl r) = from_start part place bytes fault r
from_start (behind part next) place bytes fault (inr (a, front, back, e, s, r)) = let le = from_start (next a) (place + length front) back fault r in omega (arith, le)
from_start (enclosed f inside) place bytes fault (inl r) = let e = field_place f place bytes fault r in omega (arith, e)
from_start (enclosed f inside) place bytes fault (inr (le, inl r)) = from_start inside place (take f.size bytes) fault r
from_start (enclosed f inside) place bytes fault (inr (le, inr r)) = over_place (Spells inside) place (take f.size bytes) fault r
from_start (shaped part shape) place bytes fault (inl r) = from_start part place bytes fault r
from_start (shaped part shape) place bytes fault (inr (a, front, back, e, s, misfit, is)) = let at = ap place_of is in omega (arith, at)
from_start (verbatim part) place bytes fault r = from_start part place bytes fault r

-- ---- where bytes are refused, reading stops, at that place or before it

pub record Stops {X : Type 0} (r : Result X FieldFault) (other : FieldFault) : Type 0 where
  pub fault : FieldFault
  pub is : r ≡ Err fault
  pub before : place_of fault ≤ place_of other

spelled_read : {A : Type 0} (l : Layout A) (place : ℕ) (bytes front back : List ℕ) (a : A) → bytes ≡ front ++ back → Spells l front a
    → read l place bytes ≡ Ok (found a (place + length front) back)
spelled_read l place bytes front back a e s = ap (λ (r : List ℕ). read l place r) e ∙ complete l place front back a s

field_stops : {F : Type 0} (f : Field F) (place : ℕ) (bytes : List ℕ) (fault : FieldFault) → IsFieldRefused f place bytes fault → read_field f place bytes ≡ Err fault
field_stops f place bytes fault (inl (lt, e)) = short f place bytes lt ∙ ap Err (sym e)
field_stops f place bytes fault (inr (le, refused, e)) = not_allowed f place bytes le refused ∙ ap Err (sym e)

over_stops : {A : Type 0} (l : Layout A) (place : ℕ) (bytes : List ℕ) (other : FieldFault) → LeavesOver (Spells l) place bytes other
    → Stops (on_ok (read l place bytes) (λ z. ended z.value z.place z.rest)) other
over_stops l place bytes other (a, front, over, e, s, long, is) =
    let at : place_of other ≡ place + length front = ap place_of is in
    record { fault = Excess (place + length front); is = rw (spelled_read l place bytes front over a e s) (ended_over a (place + length front) over long); before = omega (arith, at) }

whole_stops : {A : Type 0} (l : Layout A) (place : ℕ) (bytes : List ℕ) (other : FieldFault) → Stops (read l place bytes) other
    → Stops (on_ok (read l place bytes) (λ z. ended z.value z.place z.rest)) other
whole_stops l place bytes other stops = record { fault = stops.fault; is = rw stops.is refl; before = stops.before }

inside_stops : {A : Type 0} (f : Field (List ℕ)) (inside : Layout A) (place : ℕ) (bytes : List ℕ) (other : FieldFault) → f.size ≤ length bytes → place ≤ place_of other
    → Stops (on_ok (read inside place (take f.size bytes)) (λ z. ended z.value z.place z.rest)) other → Stops (read (enclosed f inside) place bytes) other
unfolding read
inside_stops f inside place bytes other le low stops =
    elim (field_outcome f place bytes) [
      | is_short lt err ↦ absurd (omega arith)
      | is_refused le_too refused err ↦ record { fault = Range place; is = rw err refl; before = low }
      | is_taken le_too allowed ok ↦ record { fault = stops.fault; is = rw (ok, stops.is) refl; before = stops.before }
    ]

pub fails : {A : Type 0} (l : Layout A) (place : ℕ) (bytes : List ℕ) (other : FieldFault) → IsRefused l place bytes other → Stops (read l place bytes) other
unfolding read
fails (value a) place bytes other r = absurd r
fails (field f) place bytes other r =
    record { fault = other; is = ap (λ q. on_ok q (λ y. Ok (found (f.value y.value) y.place y.rest))) (field_stops f place bytes other r); before = omega arith }
fails (behind part next) place bytes other (inl r) =
    let one = fails part place bytes other r in
    record { fault = one.fault; is = rw one.is refl; before = one.before }
fails (behind part next) place bytes other (inr (a, front, back, e, s, r)) =
    let two = fails (next a) (place + length front) back other r in
    record { fault = two.fault; is = rw (spelled_read part place bytes front back a e s, two.is) refl; before = two.before }
fails (enclosed f inside) place bytes other (inl r) =
    record { fault = other; is = rw (field_stops f place bytes other r) refl; before = omega arith }
fails (enclosed f inside) place bytes other (inr (le, inl r)) =
    inside_stops f inside place bytes other le (from_start inside place (take f.size bytes) other r) (whole_stops inside place (take f.size bytes) other (fails inside place (take f.size bytes) other r))
fails (enclosed f inside) place bytes other (inr (le, inr r)) =
    inside_stops f inside place bytes other le (over_place (Spells inside) place (take f.size bytes) other r) (over_stops inside place (take f.size bytes) other r)
fails (shaped part shape) place bytes other (inl r) =
    let one = fails part place bytes other r in
    record { fault = one.fault; is = rw one.is refl; before = one.before }
fails (shaped part shape) place bytes other (inr (a, front, back, e, s, refused, is)) =
    let at : place_of other ≡ place = ap place_of is in
    record { fault = Range place; is = rw (spelled_read part place bytes front back a e s, refused) refl; before = omega (arith, at) }
fails (verbatim part) place bytes other r =
    let one = fails part place bytes other r in
    record { fault = one.fault; is = rw one.is refl; before = one.before }

pub whole_fails : {A : Type 0} (l : Layout A) (place : ℕ) (bytes : List ℕ) (other : FieldFault) → IsWholeRefused l place bytes other → Stops (read_whole l place bytes) other
unfolding read_whole
whole_fails l place bytes other (inl r) = whole_stops l place bytes other (fails l place bytes other r)
whole_fails l place bytes other (inr r) = over_stops l place bytes other r

-- ---- where reading stops, bytes are refused

field_refused : {F : Type 0} (f : Field F) (place : ℕ) (bytes : List ℕ) (fault : FieldFault) → read_field f place bytes ≡ Err fault → IsFieldRefused f place bytes fault
field_refused f place bytes fault e =
    elim (field_outcome f place bytes) [
      | is_short lt err ↦ inl (lt, cc)
      | is_refused le refused err ↦ inr (le, refused, cc)
      | is_taken le allowed ok ↦ absurd cc
    ]

over_is : {A : Type 0} (l : Layout A) (place : ℕ) (bytes : List ℕ) (x : Found A) (fault : FieldFault) → IsFound l place bytes x → ended x.value x.place x.rest ≡ Err fault
    → LeavesOver (Spells l) place bytes fault
over_is l place bytes x fault is e =
    let over = ended_err x.value x.place x.rest fault e in
    (x.value, is.front, x.rest, is.whole, is.spelled, over.0, over.1 ∙ ap Excess is.place_is)

pub refused_is : {A : Type 0} (l : Layout A) (place : ℕ) (bytes : List ℕ) (fault : FieldFault) → read l place bytes ≡ Err fault → IsRefused l place bytes fault
unfolding read
refused_is (value a) place bytes fault e = absurd cc
refused_is (field f) place bytes fault e =
    elim (on_ok_err (read_field f place bytes) (λ y. Ok (found (f.value y.value) y.place y.rest)) fault e) [
      | inl err ↦ field_refused f place bytes fault err
      | inr (x, ok, e2) ↦ absurd cc
    ]
refused_is (behind part next) place bytes fault e =
    elim (on_ok_err (read part place bytes) (λ y. on_ok (read (next y.value) y.place y.rest) (λ z. Ok (found (y.value, z.value) z.place z.rest))) fault e) [
      | inl err ↦ inl (refused_is part place bytes fault err)
      | inr (x, ok, e2) ↦ elim (on_ok_err (read (next x.value) x.place x.rest) (λ z. Ok (found (x.value, z.value) z.place z.rest)) fault e2) [
        | inr (z, ok_too, e3) ↦ absurd cc
        | inl err ↦
            let is = found_is part place bytes x ok in
            let two = refused_is (next x.value) x.place x.rest fault err in
            inr (x.value, is.front, x.rest, is.whole, is.spelled, subst (λ (p : ℕ). IsRefused (next x.value) p x.rest fault) is.place_is two)
      ]
    ]
refused_is (enclosed f inside) place bytes fault e =
    elim (on_ok_err (read_field f place bytes) (λ y. on_ok (on_ok (read inside place y.value) (λ z. ended z.value z.place z.rest)) (λ a. Ok (found a y.place y.rest))) fault e) [
      | inl err ↦ inl (field_refused f place bytes fault err)
      | inr (y, ok, e2) ↦
          let fits = field_fits f place bytes y ok in
          elim (on_ok_err (on_ok (read inside place y.value) (λ z. ended z.value z.place z.rest)) (λ a. Ok (found a y.place y.rest)) fault e2) [
            | inr (a, ok_too, e3) ↦ absurd cc
            | inl err ↦ elim (on_ok_err (read inside place y.value) (λ z. ended z.value z.place z.rest) fault err) [
              | inl inner ↦ inr (fits.0, inl (subst (λ (r : List ℕ). IsRefused inside place r fault) fits.1 (refused_is inside place y.value fault inner)))
              | inr (z, found, over) ↦
                  inr (fits.0, inr (subst (λ (r : List ℕ). LeavesOver (Spells inside) place r fault) fits.1 (over_is inside place y.value z fault (found_is inside place y.value z found) over)))
            ]
          ]
    ]
  where
    field_fits : {F : Type 0} (f : Field F) (place : ℕ) (bytes : List ℕ) (y : Found (List ℕ)) → read_field f place bytes ≡ Ok y → (f.size ≤ length bytes) × (y.value ≡ take f.size bytes)
    field_fits f place bytes y e =
        elim (field_outcome f place bytes) [
          | is_short lt err ↦ absurd cc
          | is_refused le refused err ↦ absurd cc
          | is_taken le allowed ok ↦ let same : found (take f.size bytes) (place + f.size) (drop f.size bytes) ≡ y = cc in (le, sym (ap (λ z. z.value) same))
        ]
refused_is (shaped part shape) place bytes fault e =
    elim (on_ok_err (read part place bytes) (λ y. asked (shape.fits y.value) place (found (shape.to y.value) y.place y.rest)) fault e) [
      | inl err ↦ inl (refused_is part place bytes fault err)
      | inr (x, ok, e2) ↦
          let is = found_is part place bytes x ok in
          let bad = asked_err (shape.fits x.value) place (found (shape.to x.value) x.place x.rest) fault e2 in
          inr (x.value, is.front, x.rest, is.whole, is.spelled, bad.0, bad.1)
    ]
  where
    asked_err : {B : Type 0} (fits : Bool) (place : ℕ) (y : Found B) (fault : FieldFault) → asked fits place y ≡ Err fault → (fits ≡ false) × (fault ≡ Range place)
    asked_err true place y fault e = absurd cc
    asked_err false place y fault e = (refl, cc)
refused_is (verbatim part) place bytes fault e =
    elim (on_ok_err (read part place bytes) (λ y. Ok (found (before y.rest bytes) y.place y.rest)) fault e) [
      | inl err ↦ refused_is part place bytes fault err
      | inr (x, ok, e2) ↦ absurd cc
    ]

-- ---- a value has one spelling

pub written_is : {A : Type 0} (l : Layout A) (bytes : List ℕ) (a : A) → Spells l bytes a → bytes ≡ written l a
written_is (value b) bytes a (none, is) = none
written_is (field f) bytes a (fills, is) = sym (ap f.spelling is ∙ f.once bytes fills.allowed)
written_is (behind part next) bytes pair (front, back, e, s1, s2) =
    let one = written_is part front pair.0 s1 in
    let two = written_is (next pair.0) back pair.1 s2 in
    e ∙ ap (λ (f : List ℕ). f ++ back) one ∙ ap (λ (b : List ℕ). written part pair.0 ++ b) two
written_is (enclosed f inside) bytes a (fills, s) = written_is inside bytes a s
written_is (shaped {A} part shape) bytes b (a, s, fits, is) =
    let from : shape.from b ≡ Some a = ap shape.from is ∙ shape.back a fits in
    written_is part bytes a s ∙ ap (λ (o : Option A). option_map_or (λ x. written part x) o []) (sym from)
written_is (verbatim part) bytes b (a, s, is) = sym is

-- a value has one spelling at most
pub one_spelling : {A : Type 0} (l : Layout A) (a : A) (x y : List ℕ) → Spells l x a → Spells l y a → x ≡ y
one_spelling l a x y sx sy = written_is l x a sx ∙ sym (written_is l y a sy)

-- ---- whole byte strings

pub whole_found : {A : Type 0} (l : Layout A) (bytes : List ℕ) (a : A) → read_whole l 0 bytes ≡ Ok a → Spells l bytes a
unfolding read_whole
whole_found l bytes a e =
    let (x, e1, e2) = on_ok_ok (read l 0 bytes) (λ z. ended z.value z.place z.rest) a e in
    let is = found_is l 0 bytes x e1 in
    let (none, same_value) = ended_ok x.value a x.place x.rest e2 in
    let front_is : is.front ≡ bytes = sym (is.whole ∙ ap (λ (r : List ℕ). is.front ++ r) none ∙ nothing_behind is.front) in
    let at_front = subst (λ v. Spells l is.front v) same_value is.spelled in
    subst (λ (r : List ℕ). Spells l r a) front_is at_front

pub whole_read : {A : Type 0} (l : Layout A) (bytes : List ℕ) (a : A) → Spells l bytes a → read_whole l 0 bytes ≡ Ok a
unfolding read_whole
whole_read l bytes a s = rw (spelled_read l 0 bytes bytes [] a (sym (nothing_behind bytes)) s) refl

pub whole_refused : {A : Type 0} (l : Layout A) (bytes : List ℕ) (fault : FieldFault) → read_whole l 0 bytes ≡ Err fault → IsWholeRefused l 0 bytes fault
unfolding read_whole
whole_refused l bytes fault e =
    elim (on_ok_err (read l 0 bytes) (λ z. ended z.value z.place z.rest) fault e) [
      | inl err ↦ inl (refused_is l 0 bytes fault err)
      | inr (x, found, over) ↦ inr (over_is l 0 bytes x fault (found_is l 0 bytes x found) over)
    ]

-- the first fault is the least
pub least : {A : Type 0} (l : Layout A) (bytes : List ℕ) (fault : FieldFault) → read_whole l 0 bytes ≡ Err fault → IsLeastFault l bytes fault
least l bytes fault e =
    record {
      refused = whole_refused l bytes fault e;
      least = λ other r. let stops = whole_fails l 0 bytes other r in let same : stops.fault ≡ fault = let is = stops.is in cc in omega (arith, stops.before, ap place_of same);
    }

-- bytes spell one value at most
pub one_value : {A : Type 0} (l : Layout A) (bytes : List ℕ) (a b : A) → Spells l bytes a → Spells l bytes b → a ≡ b
one_value l bytes a b sa sb = let ea = whole_read l bytes a sa in let eb = whole_read l bytes b sb in cc

-- bytes that spell a value are nowhere refused
pub never_both : {A : Type 0} (l : Layout A) (bytes : List ℕ) (a : A) (fault : FieldFault) → Spells l bytes a → IsWholeRefused l 0 bytes fault → ⊥
never_both l bytes a fault s r = let e = whole_read l bytes a s in let stops = whole_fails l 0 bytes fault r in let is = stops.is in cc

-- the place that is refused first is the least
pub place_is : {A : Type 0} (l : Layout A) (bytes : List ℕ) (fault other : FieldFault) → read_whole l 0 bytes ≡ Err fault → IsLeastFault l bytes other → place_of fault ≡ place_of other
place_is l bytes fault other e is =
    let mine = least l bytes fault e in
    let up = mine.least other is.refused in
    let down = is.least fault mine.refused in
    omega arith

-- ---- where a fault stands in one place only

-- No part encloses another, so at each place there is one fault at most.
abbrev pub IsPlain : {A : Type 0} → Layout A → Type 0
IsPlain (value a) = Unit {0}
IsPlain (field f) = Unit {0}
IsPlain (behind {A} part next) = IsPlain part × ((a : A) → IsPlain (next a))
IsPlain (enclosed f inside) = ⊥
IsPlain (shaped part shape) = IsPlain part
IsPlain (verbatim part) = IsPlain part

pub exact : {A : Type 0} (l : Layout A) (place : ℕ) (bytes : List ℕ) (fault : FieldFault) → IsPlain l → IsRefused l place bytes fault → read l place bytes ≡ Err fault
unfolding read
exact (value a) place bytes fault plain r = absurd r
exact (field f) place bytes fault plain r = rw (field_stops f place bytes fault r) refl
exact (behind part next) place bytes fault plain (inl r) = rw (exact part place bytes fault plain.0 r) refl
exact (behind part next) place bytes fault plain (inr (a, front, back, e, s, r)) =
    rw (spelled_read part place bytes front back a e s, exact (next a) (place + length front) back fault (plain.1 a) r) refl
exact (enclosed f inside) place bytes fault plain r = absurd plain
exact (shaped part shape) place bytes fault plain (inl r) = rw (exact part place bytes fault plain r) refl
exact (shaped part shape) place bytes fault plain (inr (a, front, back, e, s, refused, is)) =
    rw (spelled_read part place bytes front back a e s, refused) (ap Err (sym is))
exact (verbatim part) place bytes fault plain r = rw (exact part place bytes fault plain r) refl

pub exact_whole : {A : Type 0} (l : Layout A) (bytes : List ℕ) (fault : FieldFault) → IsPlain l → IsWholeRefused l 0 bytes fault → read_whole l 0 bytes ≡ Err fault
unfolding read_whole
exact_whole l bytes fault plain (inl r) = rw (exact l 0 bytes fault plain r) refl
exact_whole l bytes fault plain (inr (a, front, over, e, s, long, is)) = rw (spelled_read l 0 bytes front over a e s) (ended_over a (0 + length front) over long ∙ ap Err (sym is))

-- ---- no place is behind the bytes

over_within : {A : Type 0} (S : List ℕ → A → Type 0) (place : ℕ) (bytes : List ℕ) (fault : FieldFault) → LeavesOver S place bytes fault → place_of fault ≤ place + length bytes
over_within S place bytes fault (a, front, over, e, s, long, is) = let at = ap place_of is in omega (arith, at, ap length e, length-append front over)

pub within : {A : Type 0} (l : Layout A) (place : ℕ) (bytes : List ℕ) (fault : FieldFault) → IsRefused l place bytes fault → place_of fault ≤ place + length bytes
within (value a) place bytes fault r = absurd r
within (field f) place bytes fault r = let e = field_place f place bytes fault r in omega (arith, e)
within (behind part next) place bytes fault (inl r) = within part place bytes fault r
within (behind part next) place bytes fault (inr (a, front, back, e, s, r)) =
    let le = within (next a) (place + length front) back fault r in
    omega (arith, le, ap length e, length-append front back)
within (enclosed f inside) place bytes fault (inl r) = let e = field_place f place bytes fault r in omega (arith, e)
within (enclosed f inside) place bytes fault (inr (le, inl r)) =
    let low = within inside place (take f.size bytes) fault r in
    omega (arith, low, length-take f.size bytes)
within (enclosed f inside) place bytes fault (inr (le, inr r)) =
    let low = over_within (Spells inside) place (take f.size bytes) fault r in
    omega (arith, low, length-take f.size bytes)
within (shaped part shape) place bytes fault (inl r) = within part place bytes fault r
within (shaped part shape) place bytes fault (inr (a, front, back, e, s, misfit, is)) = let at = ap place_of is in omega (arith, at)
within (verbatim part) place bytes fault r = within part place bytes fault r

pub whole_within : {A : Type 0} (l : Layout A) (bytes : List ℕ) (fault : FieldFault) → read_whole l 0 bytes ≡ Err fault → place_of fault ≤ length bytes
whole_within l bytes fault e = by_kind (whole_refused l bytes fault e)
  where
    by_kind : IsWholeRefused l 0 bytes fault → place_of fault ≤ length bytes
    by_kind (inl r) = let le = within l 0 bytes fault r in omega (arith, le)
    by_kind (inr r) = let le = over_within (Spells l) 0 bytes fault r in omega (arith, le)
