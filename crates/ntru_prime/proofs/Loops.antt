-- Loops that write an element at each step.
use Rattle.std.proofs.Common.{◌≡◌, Bool, true, false, not, Option, Some, None, is_some, OnSome, All, ap, ap₂, sym, ◌∙◌, ℕ, ◌+◌, ◌*◌, ◌<◌, ◌≤◌, List, [], ◌∷◌, ◌++◌, map, take, set, length, get_or, flat_map, arith, append_assoc}
use Rattle.std.proofs.lemmas.List.{take_more, take_more_set, map-append, take_all, length-append, length-take, append-nil}
use Rattle.std.proofs.lemmas.List.Concat.{flat_map-cons}
use Rattle.std.proofs.lemmas.List.Elements.{All-same, All-push, All-nil}
use Rattle.std.proofs.lemmas.Grind.{flat_map-append}
use Rattle.std.proofs.Math.Seq.{take-append_seam}

-- one more element, a function of that of another list
pub map_step : {A B : Type 0} (f : A → B) (xs : List A) (ys : List B) (i : ℕ) (d : A) (y : B) → i < length xs → i < length ys
    → take i ys ≡ map f (take i xs) → y ≡ f (get_or xs i d) → take (i + 1) (set ys i y) ≡ map f (take (i + 1) xs)
map_step f xs ys i d y lx ly h e =
    take_more_set ys i y ly ∙ ap₂ (λ l x. l ++ x ∷ []) h e
    ∙ sym (ap (map f) (take_more xs i d lx) ∙ map-append f (take i xs) (get_or xs i d ∷ []))

pub map_end : {A B : Type 0} (f : A → B) (xs : List A) (ys : List B) (n : ℕ) → length xs ≤ n → length ys ≤ n → take n ys ≡ map f (take n xs) → ys ≡ map f xs
map_end f xs ys n lx ly h = sym (take_all n ys ly) ∙ h ∙ ap (map f) (take_all n xs lx)

one_of : (f : ℕ → List ℕ) (x : ℕ) → flat_map f (x ∷ []) ≡ f x
one_of f x = flat_map-cons f x [] ∙ append-nil (f x)

-- one more element of which P holds
pub all_step : {A : Type 0} (P : A → Type 0) (ys : List A) (i : ℕ) (y : A) → i < length ys → All P (take i ys) → P y → All P (take (i + 1) (set ys i y))
all_step P ys i y lt h here = All-same P (take (i + 1) (set ys i y)) (take i ys ++ y ∷ []) (take_more_set ys i y lt) (All-push P (take i ys) y h here)

pub all_end : {A : Type 0} (P : A → Type 0) (ys : List A) (n : ℕ) → length ys ≤ n → All P (take n ys) → All P ys
all_end P ys n le h = All-same P ys (take n ys) (sym (take_all n ys le)) h

pub all_none : {A : Type 0} (P : A → Type 0) (ys : List A) → All P (take 0 ys)
all_none P ys = All-nil P

-- what holds where there is a value
pub on_some : {P : Type 0} (o : Option (Unit {0})) → is_some o ≡ true → OnSome o P → P
on_some (Some u) e h = h
on_some None e h = cc

-- what a test for none says
pub is_there : (o : Option (Unit {0})) (b : Bool) → is_some o ≡ not b → b ≡ false → is_some o ≡ true
is_there o b e h = e ∙ ap not h

pub is_absent : (o : Option (Unit {0})) (b : Bool) → is_some o ≡ not b → b ≡ true → is_some o ≡ true → ⊥
is_absent o b e h there =
    let no : is_some o ≡ false = e ∙ ap not h in
    let clash : false ≡ true = sym no ∙ there in
    cc

-- four more bytes
pub bytes_step : (f : ℕ → List ℕ) (xs into part rest : List ℕ) (i : ℕ) → i < length xs → length part ≡ 4 → 4 * i + 4 ≤ length into
    → take (4 * i) into ≡ flat_map f (take i xs) → part ≡ f (get_or xs i 0)
    → take (4 * (i + 1)) (take (4 * i) into ++ (part ++ rest)) ≡ flat_map f (take (i + 1) xs)
bytes_step f xs into part rest i lx lp room h e =
    let front = take (4 * i) into ++ part in
    let len : length (take (4 * i) into ++ part) ≡ 4 * (i + 1) = omega (arith, length-append (take (4 * i) into) part, length-take (4 * i) into) in
    ap (take (4 * (i + 1))) (sym (append_assoc (take (4 * i) into) part rest))
    ∙ ap (λ n. take n ((take (4 * i) into ++ part) ++ rest)) (sym len)
    ∙ take-append_seam (take (4 * i) into ++ part) rest
    ∙ ap₂ (λ a b. a ++ b) h e
    ∙ sym (ap (flat_map f) (take_more xs i 0 lx) ∙ flat_map-append f (take i xs) (get_or xs i 0 ∷ []) ∙ ap (λ l. flat_map f (take i xs) ++ l) (one_of f (get_or xs i 0)))
