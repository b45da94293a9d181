-- Lists by index.
use Rattle.std.proofs.Common.{◌≡◌, ℕ, zero, suc, ◌+◌, ◌<◌, ◌≤◌, List, [], ◌∷◌, ◌++◌, length, get_or, slice_get, map, take, drop, Some, refl, sym, ◌∙◌, ap, subst, arith, add-one, drop-cons}
use Rattle.std.proofs.lemmas.List.{take_more, take_all, take-append-le}
use Rattle.group_model.specs.Sets.{In, here, there}

pub item-in : {A : Type 0} (xs : List A) (i : ℕ) (x : A) → i < length xs → x ≡ get_or xs i x → In x xs
item-in [] i x l e = absurd (omega arith)
item-in (y ∷ xs) zero x l e = subst (λ z. In z (y ∷ xs)) (sym e) here
item-in (y ∷ xs) (suc i) x l e = there (item-in xs i x (omega arith) e)

-- the item that is read at an index
pub get-item : {A : Type 0} (xs : List A) (i : ℕ) (x : A) → i < length xs → x ≡ get_or xs i x → slice_get xs i ≡ Some x
get-item [] i x l e = absurd (omega arith)
get-item (y ∷ xs) zero x l e = ap Some (sym e)
get-item (y ∷ xs) (suc i) x l e = get-item xs i x (omega arith) e

pub get-below : {A : Type 0} (xs : List A) (i : ℕ) (x : A) → slice_get xs i ≡ Some x → i < length xs
get-below [] i x e = absurd cc
get-below (y ∷ xs) zero x e = omega arith
get-below (y ∷ xs) (suc i) x e = let l = get-below xs i x e in omega arith

pub get-in : {A : Type 0} (xs : List A) (i : ℕ) (x : A) → slice_get xs i ≡ Some x → In x xs
get-in [] i x e = absurd cc
get-in (y ∷ xs) zero x e = let d : y ≡ x = cc in subst (λ z. In z (y ∷ xs)) d here
get-in (y ∷ xs) (suc i) x e = there (get-in xs i x e)

pub get-one : {A : Type 0} (xs : List A) (i : ℕ) (x y : A) → slice_get xs i ≡ Some x → slice_get xs i ≡ Some y → x ≡ y
get-one xs i x y e f = cc

pub get-or : {A : Type 0} (xs : List A) (i : ℕ) (x d : A) → slice_get xs i ≡ Some x → get_or xs i d ≡ x
get-or [] i x d e = absurd cc
get-or (y ∷ xs) zero x d e = cc
get-or (y ∷ xs) (suc i) x d e = get-or xs i x d e

-- there is an item below the length
pub get-there : {A : Type 0} (xs : List A) (i : ℕ) → i < length xs → (x : A) × (slice_get xs i ≡ Some x)
get-there [] i l = absurd (omega arith)
get-there (y ∷ xs) zero l = (y, refl)
get-there (y ∷ xs) (suc i) l = get-there xs i (omega arith)

pub get-left : {A : Type 0} (xs ys : List A) (i : ℕ) (x : A) → slice_get xs i ≡ Some x → slice_get (xs ++ ys) i ≡ Some x
get-left [] ys i x e = absurd cc
get-left (y ∷ xs) ys zero x e = e
get-left (y ∷ xs) ys (suc i) x e = get-left xs ys i x e

pub get-last : {A : Type 0} (xs : List A) (x : A) → slice_get (xs ++ x ∷ []) (length xs) ≡ Some x
get-last [] x = refl
get-last (y ∷ xs) x = get-last xs x

-- an item of a list with one more is the last one, or was there
pub get-more : {A : Type 0} (xs : List A) (x : A) (i : ℕ) (y : A) → slice_get (xs ++ x ∷ []) i ≡ Some y → (i < length xs → slice_get xs i ≡ Some y)
get-more [] x i y e = λ l. absurd (omega arith)
get-more (z ∷ xs) x zero y e = λ l. e
get-more (z ∷ xs) x (suc i) y e = λ l. get-more xs x i y e (omega arith)

pub get-map : {A B : Type 0} (f : A → B) (xs : List A) (i : ℕ) (x : A) → slice_get xs i ≡ Some x → slice_get (map f xs) i ≡ Some (f x)
get-map f [] i x e = absurd cc
get-map f (y ∷ xs) zero x e = cc
get-map f (y ∷ xs) (suc i) x e = get-map f xs i x e

pub map-append : {A B : Type 0} (f : A → B) (xs ys : List A) → map f (xs ++ ys) ≡ map f xs ++ map f ys
map-append f [] ys = refl
map-append f (x ∷ xs) ys = ap (λ z. f x ∷ z) (map-append f xs ys)

pub take-next : {A : Type 0} (xs : List A) (i : ℕ) (x : A) → slice_get xs i ≡ Some x → take (i + 1) xs ≡ take i xs ++ x ∷ []
take-next xs i x e = take_more xs i x (get-below xs i x e) ∙ ap (λ z. take i xs ++ z ∷ []) (get-or xs i x x e)

pub drop-next : {A : Type 0} (xs : List A) (i : ℕ) (x : A) → slice_get xs i ≡ Some x → drop i xs ≡ x ∷ drop (i + 1) xs
drop-next xs i x e =
    let l : i < length xs = get-below xs i x e in
    rw (add-one, drop-cons xs i x) (ap (λ z. z ∷ drop (suc i) xs) (get-or xs i x x e))

pub or-left : {A : Type 0} (xs ys : List A) (i : ℕ) (d : A) → i < length xs → get_or (xs ++ ys) i d ≡ get_or xs i d
or-left [] ys i d l = absurd (omega arith)
or-left (x ∷ xs) ys zero d l = refl
or-left (x ∷ xs) ys (suc i) d l = or-left xs ys i d (omega arith)

pub or-last : {A : Type 0} (xs : List A) (x d : A) → get_or (xs ++ x ∷ []) (length xs) d ≡ x
or-last [] x d = refl
or-last (y ∷ xs) x d = or-last xs x d

drop-left : {A : Type 0} (xs ys : List A) → drop (length xs) (xs ++ ys) ≡ ys
drop-left [] ys = refl
drop-left (x ∷ xs) ys = drop-left xs ys

-- what was appended, as a part of the whole
pub window : {A : Type 0} (xs ys : List A) (i n : ℕ) → i ≡ length xs → n ≡ length ys → take n (drop i (xs ++ ys)) ≡ ys
window xs ys i n e d =
    ap (λ z. take n (drop z (xs ++ ys))) e ∙ ap (λ z. take n z) (drop-left xs ys) ∙ take_all n ys (omega (arith, d))

-- a part stays where more is appended
pub window-left : {A : Type 0} (xs ys : List A) (i n : ℕ) → i + n ≤ length xs → take n (drop i (xs ++ ys)) ≡ take n (drop i xs)
window-left [] ys i n l = let a : i ≡ 0 = omega arith in let b : n ≡ 0 = omega arith in rw (a, b) refl
window-left (x ∷ xs) ys zero n l = take-append-le n (x ∷ xs) ys (omega arith)
window-left (x ∷ xs) ys (suc i) n l = window-left xs ys i n (omega arith)
