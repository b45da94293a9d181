-- Lists, two elements at a time.
use Rattle.std.proofs.Common.{◌≡◌, ℕ, ◌+◌, ◌-◌, ◌*◌, ◌<◌, ◌≤◌, List, [], ◌∷◌, ◌++◌, length, take, drop, get_or, set, refl, sym, ap, ◌∙◌, arith, append_assoc}
use Rattle.std.proofs.Common.{take-add}
use Rattle.std.proofs.Math.Nat.{mul-le-mul_left}
use Rattle.std.proofs.lemmas.List.{take_more, take_more_set, take_at, drop_at, length-set, length-take-le, length-drop, length-append, take-set, get_or-set_same}

-- two joined lists with fronts of one length are equal part by part
pub same_parts : {A : Type 0} (xs ys us vs : List A) → length xs ≡ length us → xs ++ ys ≡ us ++ vs → (xs ≡ us) × (ys ≡ vs)
same_parts xs ys us vs n e = (
  sym (take_at xs ys (length us) n) ∙ ap (take (length us)) e ∙ take_at us vs (length us) refl,
  sym (drop_at xs ys (length us) n) ∙ ap (drop (length us)) e ∙ drop_at us vs (length us) refl,
)

pub take_two : (xs : List ℕ) (n : ℕ) → n + 1 < length xs → take (n + 2) xs ≡ take n xs ++ get_or xs n 0 ∷ get_or xs (n + 1) 0 ∷ []
take_two xs n h =
    let up : n + 2 ≡ n + 1 + 1 = omega arith in
    ap (λ k. take k xs) up ∙ take_more xs (n + 1) 0 h
    ∙ ap (λ front. front ++ get_or xs (n + 1) 0 ∷ []) (take_more xs n 0 (omega arith))
    ∙ append_assoc (take n xs) (get_or xs n 0 ∷ []) (get_or xs (n + 1) 0 ∷ [])

pub take_two_set : (xs : List ℕ) (n a b : ℕ) → n + 1 < length xs → take (n + 2) (set (set xs n a) (n + 1) b) ≡ take n xs ++ a ∷ b ∷ []
take_two_set xs n a b h =
    let up : n + 2 ≡ n + 1 + 1 = omega arith in
    let there : n + 1 < length (set xs n a) = omega (arith, length-set xs n a) in
    ap (λ k. take k (set (set xs n a) (n + 1) b)) up ∙ take_more_set (set xs n a) (n + 1) b there
    ∙ ap (λ front. front ++ b ∷ []) (take_more_set xs n a (omega arith))
    ∙ append_assoc (take n xs) (a ∷ []) (b ∷ [])

-- a list cut in parts of k elements: the part at i
pub part_end : (k i n len : ℕ) → i < n → len ≡ k * n → (k * (i + 1) ≤ len) × (k * (i + 1) ≡ k * i + k)
part_end k i n len h e =
    let more : k * (i + 1) ≤ k * n = mul-le-mul_left k (omega arith) in
    (omega (arith, more, e), omega arith)

pub length_part : (k i n : ℕ) (xs : List ℕ) → i < n → length xs ≡ k * n → length (take (k * (i + 1) - k * i) (drop (k * i) xs)) ≡ k
length_part k i n xs h e =
    let ends = part_end k i n (length xs) h e in
    let size : k * (i + 1) - k * i ≡ k = omega (arith, ends.1) in
    ap (λ m. length (take m (drop (k * i) xs))) size ∙ length-take-le k (drop (k * i) xs) (omega (arith, length-drop (k * i) xs, ends.0, ends.1))

pub take_part : (k i : ℕ) (xs : List ℕ) → take (k * (i + 1)) xs ≡ take (k * i) xs ++ take (k * (i + 1) - k * i) (drop (k * i) xs)
take_part k i xs =
    let up : k * (i + 1) ≡ k * i + k = omega arith in
    let size : k ≡ k * (i + 1) - k * i = omega arith in
    ap (λ n. take n xs) up ∙ take-add (k * i) k xs ∙ ap (λ n. take (k * i) xs ++ take n (drop (k * i) xs)) size

-- a front that was written, and one element behind it
pub take_written : (front xs : List ℕ) (n x : ℕ) → length front ≡ n → take n (set (front ++ drop n xs) n x) ≡ front
take_written front xs n x len = take-set (front ++ drop n xs) n x ∙ take_at front (drop n xs) n len

pub get_or_written : (front xs : List ℕ) (n x : ℕ) → length front ≡ n → n < length xs → get_or (set (front ++ drop n xs) n x) n 0 ≡ x
get_or_written front xs n x len h =
    get_or-set_same (front ++ drop n xs) n x 0 (omega (arith, length-append front (drop n xs), length-drop n xs))

-- the front of a list that was written, and its rest
pub take_front_written : (front xs : List ℕ) (n : ℕ) → length front ≡ n → take n (front ++ drop n xs) ≡ front
take_front_written front xs n len = take_at front (drop n xs) n len
