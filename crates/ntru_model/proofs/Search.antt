-- What `find` finds, and which lists `lists_of` lists.
use Rattle.std.proofs.Common.{◌≡◌, ◌⊎◌, inl, inr, ℕ, zero, suc, ◌+◌, ◌<◌, Bool, true, false, cond, Option, Some, None, List, [], ◌∷◌, ◌++◌, map, length, All, find, flat_map, refl, sym, ap, subst, ◌∙◌, true≢false, arith}
use Rattle.std.specs.List.{range_with_len}
use Rattle.std.proofs.lemmas.Option.{same_Some}
use Rattle.std.proofs.lemmas.List.Elements.{All-nil, All-cons, All-head, All-tail}
use Rattle.ntru_model.specs.Search.{lists_of}

-- x is one of the elements
abbrev pub Occurs : {X : Type 0} → X → List X → Type 0
Occurs x [] = ⊥
Occurs x (y ∷ ys) = (y ≡ x) ⊎ Occurs x ys

occurs_left : {X : Type 0} (x : X) (xs ys : List X) → Occurs x xs → Occurs x (xs ++ ys)
occurs_left x [] ys h = absurd h
occurs_left x (y ∷ xs) ys h = elim h [ inl e ↦ inl e | inr r ↦ inr (occurs_left x xs ys r) ]

occurs_right : {X : Type 0} (x : X) (xs ys : List X) → Occurs x ys → Occurs x (xs ++ ys)
occurs_right x [] ys h = h
occurs_right x (y ∷ xs) ys h = inr (occurs_right x xs ys h)

occurs_either : {X : Type 0} (x : X) (xs ys : List X) → Occurs x (xs ++ ys) → Occurs x xs ⊎ Occurs x ys
occurs_either x [] ys h = inr h
occurs_either x (y ∷ xs) ys h =
    elim h [ inl e ↦ inl (inl e) | inr r ↦ elim (occurs_either x xs ys r) [ inl a ↦ inl (inr a) | inr b ↦ inr b ] ]

pub occurs_map : {X Y : Type 0} (f : X → Y) (x : X) (xs : List X) → Occurs x xs → Occurs (f x) (map f xs)
occurs_map f x [] h = absurd h
occurs_map f x (y ∷ xs) h = elim h [ inl e ↦ inl (ap f e) | inr r ↦ inr (occurs_map f x xs r) ]

pub from_map : {X Y : Type 0} (f : X → Y) (y : Y) (xs : List X) → Occurs y (map f xs) → (x : X) × Occurs x xs × (f x ≡ y)
from_map f y [] h = absurd h
from_map f y (x ∷ xs) h =
    elim h [ inl e ↦ (x, inl refl, e) | inr r ↦ (let s = from_map f y xs r in (s.0, inr s.1, s.2)) ]

occurs_flat_map : {X Y : Type 0} (f : X → List Y) (x : X) (y : Y) (xs : List X) → Occurs x xs → Occurs y (f x) → Occurs y (flat_map f xs)
occurs_flat_map f x y [] h g = absurd h
occurs_flat_map f x y (z ∷ xs) h g =
    elim h [
      | inl e ↦ occurs_left y (f z) (flat_map f xs) (subst (λ w. Occurs y (f w)) (sym e) g)
      | inr r ↦ occurs_right y (f z) (flat_map f xs) (occurs_flat_map f x y xs r g)
    ]

from_flat_map : {X Y : Type 0} (f : X → List Y) (y : Y) (xs : List X) → Occurs y (flat_map f xs) → (x : X) × Occurs x xs × Occurs y (f x)
from_flat_map f y [] h = absurd h
from_flat_map f y (x ∷ xs) h =
    elim (occurs_either y (f x) (flat_map f xs) h) [ inl a ↦ (x, inl refl, a) | inr r ↦ (let s = from_flat_map f y xs r in (s.0, inr s.1, s.2)) ]

-- the lists of n elements that occur in xs
pub listed : {X : Type 0} (n : ℕ) (xs l : List X) → length l ≡ n → All (λ x. Occurs x xs) l → Occurs l (lists_of n xs)
listed zero xs [] e h = inl refl
listed zero xs (x ∷ l) e h = absurd (omega arith)
listed (suc n) xs [] e h = absurd (omega arith)
listed (suc n) xs (x ∷ l) e h =
    occurs_flat_map (λ y. map (λ r. y ∷ r) (lists_of n xs)) x (x ∷ l) xs (All-head (λ y. Occurs y xs) x l h)
    (occurs_map (λ r. x ∷ r) l (lists_of n xs) (listed n xs l (omega arith) (All-tail (λ y. Occurs y xs) x l h)))

pub from_listed : {X : Type 0} (n : ℕ) (xs l : List X) → Occurs l (lists_of n xs) → (length l ≡ n) × All (λ x. Occurs x xs) l
from_listed zero xs l h = elim h [ inl e ↦ (ap length (sym e), subst (All (λ x. Occurs x xs)) e (All-nil (λ x. Occurs x xs))) | inr r ↦ absurd r ]
from_listed (suc n) xs l h =
    let one = from_flat_map (λ y. map (λ r. y ∷ r) (lists_of n xs)) l xs h in
    let two = from_map (λ r. one.0 ∷ r) l (lists_of n xs) one.2 in
    let rest = from_listed n xs two.0 two.1 in
    (ap length (sym two.2) ∙ ap suc rest.0, subst (All (λ x. Occurs x xs)) two.2 (All-cons (λ x. Occurs x xs) one.0 two.0 one.1 rest.1))

-- the numbers of a range
pub occurs_range : (a n i : ℕ) → i < n → Occurs (a + i) (range_with_len a n)
occurs_range a zero i h = absurd (omega arith)
occurs_range a (suc n) zero h = inl (omega arith)
occurs_range a (suc n) (suc i) h = inr (subst (λ k. Occurs k (range_with_len (a + 1) n)) (let e : a + 1 + i ≡ a + suc i = omega arith in e) (occurs_range (a + 1) n i (omega arith)))

pub from_range : (a n k : ℕ) → Occurs k (range_with_len a n) → k < a + n
from_range a zero k h = absurd h
from_range a (suc n) k h = elim h [ inl e ↦ omega arith | inr r ↦ (let l = from_range (a + 1) n k r in omega arith) ]

-- find
first_step : {X : Type 0} (t : X → Bool) (x b : X) (r : Option X) (v : Bool) → t x ≡ v → t b ≡ true → (t x ≡ true → x ≡ b) → (x ≡ b) ⊎ (r ≡ Some b) → cond v (Some x) r ≡ Some b
first_step t x b r true e passes only h = ap Some (only e)
first_step t x b r false e passes only h = elim h [ inl same ↦ absurd (true≢false (sym passes ∙ ap t (sym same) ∙ e)) | inr rest ↦ rest ]

-- the only element that passes
pub found : {X : Type 0} (t : X → Bool) (xs : List X) (b : X) → Occurs b xs → t b ≡ true → ((x : X) → Occurs x xs → t x ≡ true → x ≡ b) → find t xs ≡ Some b
found t [] b h passes only = absurd h
found t (x ∷ xs) b h passes only =
    first_step t x b (find t xs) (t x) refl passes (only x (inl refl))
    (elim h [ inl e ↦ inl e | inr r ↦ inr (found t xs b r passes (λ y o. only y (inr o))) ])

none_step : {X : Type 0} (t : X → Bool) (x : X) (r : Option X) (v : Bool) → t x ≡ v → (t x ≡ true → ⊥) → r ≡ None → cond v (Some x) r ≡ None
none_step t x r true e fails rest = absurd (fails e)
none_step t x r false e fails rest = rest

pub not_found : {X : Type 0} (t : X → Bool) (xs : List X) → ((x : X) → Occurs x xs → t x ≡ true → ⊥) → find t xs ≡ None
not_found t [] fails = refl
not_found t (x ∷ xs) fails = none_step t x (find t xs) (t x) refl (fails x (inl refl)) (not_found t xs (λ y o. fails y (inr o)))

from_step : {X : Type 0} (t : X → Bool) (x b : X) (r : Option X) (v : Bool) → t x ≡ v → cond v (Some x) r ≡ Some b → ((x ≡ b) × (t b ≡ true)) ⊎ (r ≡ Some b)
from_step t x b r true e h = let same = same_Some x b h in inl (same, ap t (sym same) ∙ e)
from_step t x b r false e h = inr h

-- what is found is there, and passes
pub from_found : {X : Type 0} (t : X → Bool) (xs : List X) (b : X) → find t xs ≡ Some b → Occurs b xs × (t b ≡ true)
from_found t [] b h = cc
from_found t (x ∷ xs) b h =
    elim (from_step t x b (find t xs) (t x) refl h) [ inl s ↦ (inl s.0, s.1) | inr r ↦ (let s = from_found t xs b r in (inr s.0, s.1)) ]

pub occurs_below : (n i : ℕ) → i < n → Occurs i (range_with_len 0 n)
occurs_below n i h = subst (λ k. Occurs k (range_with_len 0 n)) (let e : 0 + i ≡ i = omega arith in e) (occurs_range 0 n i h)

pub from_below : (n k : ℕ) → Occurs k (range_with_len 0 n) → k < n
from_below n k h = let l = from_range 0 n k h in omega arith
