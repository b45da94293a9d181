use Rattle.std.proofs.Common.{◌≡◌, ◌≢◌, ℕ, zero, suc, ◌<◌, Bool, true, false, ◌⊎◌, inl, inr, List, [], ◌∷◌, ◌++◌, Some, refl, sym, subst, length, get_or, arith, Contains}
use Rattle.std.specs.Str.{bytes_eq}
use Rattle.std.proofs.lemmas.Slice.Eq.{bytes_eq-Decides}
use Rattle.group_model.specs.Sets.{Id, In, here, there, has}

-- every Bool is one of two, with the equation
pub data Test (b : Bool) : Type 0 where
  yes_is : b ≡ true → Test b
  no_is : b ≡ false → Test b

pub test : (b : Bool) → Test b
test true = yes_is refl
test false = no_is refl

pub some_same : {A : Type 0} {a b : A} → Some a ≡ Some b → a ≡ b
some_same e = cc

pub has-In : (w : List Id) (i : Id) → has w i ≡ true → In i w
has-In [] i h = cc
has-In (j ∷ js) i h = elim (test (bytes_eq j i)) [
  | yes_is e ↦ subst (λ k. In k (j ∷ js)) ((bytes_eq-Decides j i).0 e) here
  | no_is e ↦ there (has-In js i (rw e at h))
]

pub In-has : (w : List Id) (i : Id) → In i w → has w i ≡ true
In-has [] i h = elim h [ ]
In-has (j ∷ js) i here = rw ((bytes_eq-Decides i i).1 refl) refl
In-has (j ∷ js) i (there h) = elim (test (bytes_eq j i)) [
  | yes_is e ↦ rw e refl
  | no_is e ↦ rw e (In-has js i h)
]

pub In-left : {A : Type 0} {x : A} {xs : List A} (ys : List A) → In x xs → In x (xs ++ ys)
In-left ys here = here
In-left ys (there h) = there (In-left ys h)

pub In-right : {A : Type 0} {x : A} {ys : List A} (xs : List A) → In x ys → In x (xs ++ ys)
In-right [] h = h
In-right (z ∷ xs) h = there (In-right xs h)

pub In-either : {A : Type 0} {x : A} {ys : List A} (xs : List A) → In x (xs ++ ys) → In x xs ⊎ In x ys
In-either [] h = inr h
In-either (z ∷ xs) here = inl here
In-either (z ∷ xs) (there h) = elim (In-either xs h) [ inl p ↦ inl (there p) | inr q ↦ inr q ]

pub In-nothing : {A : Type 0} {x : A} → In x [] → ⊥
In-nothing h = elim h [ ]

pub In-cases : {A : Type 0} {x y : A} {xs : List A} → In x (y ∷ xs) → (x ≡ y) ⊎ In x xs
In-cases here = inl refl
In-cases (there h) = inr h

pub In-head : {A : Type 0} {x y : A} (xs : List A) → x ≡ y → In x (y ∷ xs)
In-head {A} {x} {y} xs e = subst (λ z. In z (y ∷ xs)) (sym e) here

-- the library's membership by index is that by cases
pub In-from_Contains : {A : Type 0} (xs : List A) (x : A) → Contains xs x → In x xs
In-from_Contains {A} xs x h = at xs h.0 h.1 h.2
  where
    at : (ys : List A) (k : ℕ) → k < length ys → get_or ys k x ≡ x → In x ys
    at [] k l e = absurd (omega arith)
    at (y ∷ ys) zero l e = In-head ys (sym e)
    at (y ∷ ys) (suc k) l e = there (at ys k (omega arith) e)

pub Contains-from_In : {A : Type 0} {x : A} {xs : List A} → In x xs → Contains xs x
Contains-from_In here = (0, omega arith, refl)
Contains-from_In {x = x} (there {y = y} {xs = xs} h) = let r = Contains-from_In h in (suc r.0, omega (arith, r.1), r.2)

pub same_id-true : (a : Id) → bytes_eq a a ≡ true
same_id-true a = (bytes_eq-Decides a a).1 refl

pub other_id : (a b : Id) → a ≢ b → bytes_eq a b ≡ false
other_id a b n = elim (test (bytes_eq a b)) [ yes_is e ↦ absurd (n ((bytes_eq-Decides a b).0 e)) | no_is e ↦ e ]

pub equal_id : (a b : Id) → a ≡ b → bytes_eq a b ≡ true
equal_id a b e = (bytes_eq-Decides a b).1 e
