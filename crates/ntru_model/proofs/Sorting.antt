-- Numbers in ascending order are the only ones with the same counts.
use Rattle.std.proofs.Common.{◌≡◌, inl, inr, ℕ, suc, ◌+◌, ◌<◌, ◌≤◌, Bool, true, false, cond, List, [], ◌∷◌, length, get_or, nat_eq, count_by, IsPermutation, refl, sym, ap, ◌∙◌, arith}
use Rattle.std.specs.Bool.{nat_le}
use Rattle.std.specs.List.Sorted.{IsNonDecreasing}
use Rattle.std.proofs.lemmas.Bool.{cases_lt}
use Rattle.std.proofs.lemmas.Bool.Decides.{nat_tests}
use Rattle.std.proofs.lemmas.List.Sums.{sum_by-cons}
use Rattle.std.proofs.lemmas.List.Sorted.{sum_by-IsPermutation}
use Rattle.ntru_model.specs.Draws.{inserted, ascending}

-- no element is below x
abbrev AtLeast : ℕ → List ℕ → Type 0
AtLeast x [] = Unit {0}
AtLeast x (y ∷ ys) = (x ≤ y) × AtLeast x ys

abbrev Rises : List ℕ → Type 0
Rises [] = Unit {0}
Rises (x ∷ xs) = AtLeast x xs × Rises xs

at_least_less : (x y : ℕ) (xs : List ℕ) → x ≤ y → AtLeast y xs → AtLeast x xs
at_least_less x y [] le h = tt
at_least_less x y (z ∷ xs) le h = (let a = h.0 in omega arith, at_least_less x y xs le h.1)

at_least_inserted : (z x : ℕ) (xs : List ℕ) → z ≤ x → AtLeast z xs → AtLeast z (inserted x xs)
at_least_inserted z x [] le h = (le, tt)
at_least_inserted z x (y ∷ xs) le h =
    elim (nat_le x y) as (λ t. AtLeast z (cond t (x ∷ y ∷ xs) (y ∷ inserted x xs))) [
      | true ↦ (le, h)
      | false ↦ (h.0, at_least_inserted z x xs le h.1)
    ]

rises_step : (x y : ℕ) (xs : List ℕ) (t : Bool) → nat_le x y ≡ t → Rises (y ∷ xs) → Rises (inserted x xs) → Rises (cond t (x ∷ y ∷ xs) (y ∷ inserted x xs))
rises_step x y xs true e h rest = let le : x ≤ y = grind (arith, nat_tests) in ((le, at_least_less x y xs le h.0), h)
rises_step x y xs false e h rest = let le : y ≤ x = grind (arith, nat_tests) in (at_least_inserted y x xs le h.0, rest)

rises_inserted : (x : ℕ) (xs : List ℕ) → Rises xs → Rises (inserted x xs)
rises_inserted x [] h = (tt, tt)
rises_inserted x (y ∷ xs) h = rises_step x y xs (nat_le x y) refl h (rises_inserted x xs h.1)

rises_ascending : (xs : List ℕ) → Rises (ascending xs)
rises_ascending [] = tt
rises_ascending (x ∷ xs) = rises_inserted x (ascending xs) (rises_ascending xs)

abbrev one_if : Bool → ℕ
one_if b = cond b 1 0

length-inserted : (x : ℕ) (xs : List ℕ) → length (inserted x xs) ≡ suc (length xs)
length-inserted x [] = refl
length-inserted x (y ∷ xs) =
    elim (nat_le x y) as (λ t. length (cond t (x ∷ y ∷ xs) (y ∷ inserted x xs)) ≡ suc (suc (length xs))) [
      | true ↦ refl
      | false ↦ ap suc (length-inserted x xs)
    ]

pub length-ascending : (xs : List ℕ) → length (ascending xs) ≡ length xs
length-ascending [] = refl
length-ascending (x ∷ xs) = length-inserted x (ascending xs) ∙ ap suc (length-ascending xs)

-- how often v occurs
times : ℕ → List ℕ → ℕ
times v xs = count_by (nat_eq v) xs

times_nil : (v : ℕ) → times v [] ≡ 0
unfolding times
times_nil v = refl

times-cons : (v x : ℕ) (xs : List ℕ) → times v (x ∷ xs) ≡ one_if (nat_eq v x) + times v xs
unfolding times
times-cons v x xs = sum_by-cons (λ y. cond (nat_eq v y) 1 0) x xs

times-inserted : (v x : ℕ) (xs : List ℕ) → times v (inserted x xs) ≡ times v (x ∷ xs)
times-inserted v x [] = refl
times-inserted v x (y ∷ xs) =
    elim (nat_le x y) as (λ t. times v (cond t (x ∷ y ∷ xs) (y ∷ inserted x xs)) ≡ times v (x ∷ y ∷ xs)) [
      | true ↦ refl
      | false ↦ omega (arith, times-cons v y (inserted x xs), times-cons v x (y ∷ xs), times-cons v y xs, times-cons v x xs, times-inserted v x xs)
    ]

times-ascending : (v : ℕ) (xs : List ℕ) → times v (ascending xs) ≡ times v xs
times-ascending v [] = refl
times-ascending v (x ∷ xs) = times-inserted v x (ascending xs) ∙ omega (arith, times-cons v x (ascending xs), times-cons v x xs, times-ascending v xs)

times_none : (v : ℕ) (xs : List ℕ) (x : ℕ) → v < x → AtLeast x xs → times v xs ≡ 0
times_none v [] x lt h = times_nil v
times_none v (y ∷ xs) x lt h =
    let a = h.0 in
    let n : one_if (nat_eq v y) ≡ 0 = grind (arith, nat_tests) in
    omega (arith, times-cons v y xs, times_none v xs x lt h.1)

times_self : (v : ℕ) (xs : List ℕ) → 0 < times v (v ∷ xs)
times_self v xs =
    let n : one_if (nat_eq v v) ≡ 1 = grind (arith, nat_tests) in
    omega (arith, times-cons v v xs)

same_rising : (xs ys : List ℕ) → Rises xs → Rises ys → ((v : ℕ) → times v xs ≡ times v ys) → xs ≡ ys
same_rising [] [] h g e = refl
same_rising [] (y ∷ ys) h g e = absurd (omega (arith, e y, times_nil y, times_self y ys))
same_rising (x ∷ xs) [] h g e = absurd (omega (arith, e x, times_nil x, times_self x xs))
same_rising (x ∷ xs) (y ∷ ys) h g e =
    let same : x ≡ y = elim (cases_lt x y) [
      | inl lt ↦ absurd (omega (arith, e x, times_self x xs, times_none x (y ∷ ys) y lt (le_self y, g.0)))
      | inr le ↦ elim (cases_lt y x) [
        | inl lt ↦ absurd (omega (arith, e y, times_self y ys, times_none y (x ∷ xs) x lt (le_self x, h.0)))
        | inr ge ↦ omega arith
      ]
    ] in
    let rest : (v : ℕ) → times v xs ≡ times v ys = λ v.
    (let c : one_if (nat_eq v x) ≡ one_if (nat_eq v y) = ap (λ w. one_if (nat_eq v w)) same in
    omega (arith, e v, times-cons v x xs, times-cons v y ys)) in
    cons_same x y xs ys same (same_rising xs ys h.1 g.1 rest)
  where
    le_self : (n : ℕ) → n ≤ n
    le_self n = omega arith

    cons_same : (a b : ℕ) (us vs : List ℕ) → a ≡ b → us ≡ vs → a ∷ us ≡ b ∷ vs
    cons_same a b us vs p q = cc

at_least_from : (x : ℕ) (xs : List ℕ) → ((k : ℕ) → k < length xs → x ≤ get_or xs k 0) → AtLeast x xs
at_least_from x [] h = tt
at_least_from x (y ∷ ys) h = (h 0 (omega arith), at_least_from x ys (λ k lt. h (suc k) (omega arith)))

pub rises_from : (xs : List ℕ) → IsNonDecreasing xs → Rises xs
rises_from [] h = tt
rises_from (x ∷ xs) h = (
  at_least_from x xs (λ k lt. h 0 (suc k) 0 (omega arith) (omega arith)),
  rises_from xs (λ i j d le lt. h (suc i) (suc j) d (omega arith) (omega arith)),
)

-- what a sort gives
pub ascending_is : (xs ys : List ℕ) → IsPermutation xs ys → IsNonDecreasing ys → ascending xs ≡ ys
unfolding times
ascending_is xs ys moved up =
    same_rising (ascending xs) ys (rises_ascending xs) (rises_from ys up)
    (λ v. times-ascending v xs ∙ sym (sum_by-IsPermutation (λ x. cond (nat_eq v x) 1 0) xs ys moved))
