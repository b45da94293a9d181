-- What is drawn from a stream of words.
use Rattle.std.proofs.Common.{◌≡◌, inl, inr, ℕ, zero, suc, ◌+◌, ◌*◌, ◌/◌, ◌%◌, ◌^◌, ◌<◌, ◌≤◌, min, Bool, true, false, cond, Option, Some, None, List, [], ◌∷◌, length, map, get_or, nat_lt, All, sum_by, count_by, flat_map, ℤ, refl, sym, ap, subst, ◌∙◌, arith}
use Rattle.std.specs.Bool.{nat_le}
use Rattle.std.specs.List.{range_with_len}
use Rattle.byteorder.specs.Endian.{little_bytes}
use Rattle.std.proofs.lemmas.Option.{same_Some}
use Rattle.std.proofs.lemmas.Bool.{cases_lt}
use Rattle.std.proofs.lemmas.Bool.Decides.{nat_tests}
use Rattle.std.proofs.lemmas.List.{length-map, length-append, length-take-le}
use Rattle.std.proofs.lemmas.List.FromFn.{length-range_with_len, length-map-range_with_len}
use Rattle.std.proofs.lemmas.List.Sums.{sum_by-cons}
use Rattle.std.proofs.lemmas.List.Elements.{All-cons, All-head, All-tail, All-map, All-weaker}
use Rattle.ring_laws.specs.Laws.{IsShort, is_nonzero}
use Rattle.ntru_codec.specs.Small.{IsSmall, coefficient_of}
use Rattle.kem_trait.specs.Streams.{Stream, behind}
use Rattle.ntru_model.specs.Draws.{small_coefficient, small_draw, marked, inserted, ascending, short_draw, bytes_draw, Invertible, first_invertible}
use Rattle.ntru_codec.proofs.Codes.{small_coefficient as coefficient_small}
use Rattle.ntru_model.proofs.Small.{all_small_within}
use Rattle.ntru_model.proofs.Sorting.{length-ascending}

-- small polynomials
small_code : (word : ℕ) → word % 2 ^ 30 * 3 / 2 ^ 30 < 3
small_code word = omega arith

pub small_draw_small : (p : ℕ) (words : Stream) → All IsSmall (small_draw p words)
unfolding small_draw
small_draw_small p words =
    All-map IsSmall (λ n. small_coefficient (words n)) (range_with_len 0 p)
    (λ k d lt. coefficient_small (words (get_or (range_with_len 0 p) k d) % 2 ^ 30 * 3 / 2 ^ 30) (small_code (words (get_or (range_with_len 0 p) k d))))

pub length-small_draw : (p : ℕ) (words : Stream) → length (small_draw p words) ≡ p
unfolding small_draw
length-small_draw p words = length-map-range_with_len (λ n. small_coefficient (words n)) 0 p

-- sorted words
All-inserted : (P : ℕ → Type 0) (x : ℕ) (xs : List ℕ) → P x → All P xs → All P (inserted x xs)
All-inserted P x [] px h = All-cons P x [] px h
All-inserted P x (y ∷ xs) px h =
    elim (nat_le x y) as (λ t. All P (cond t (x ∷ y ∷ xs) (y ∷ inserted x xs))) [
      | true ↦ All-cons P x (y ∷ xs) px h
      | false ↦ All-cons P y (inserted x xs) (All-head P y xs h) (All-inserted P x xs px (All-tail P y xs h))
    ]

All-ascending : (P : ℕ → Type 0) (xs : List ℕ) → All P xs → All P (ascending xs)
All-ascending P [] h = h
All-ascending P (x ∷ xs) h = All-inserted P x (ascending xs) (All-head P x xs h) (All-ascending P xs (All-tail P x xs h))

sum_by-inserted : (g : ℕ → ℕ) (x : ℕ) (xs : List ℕ) → sum_by g (inserted x xs) ≡ g x + sum_by g xs
sum_by-inserted g x [] = sum_by-cons g x []
sum_by-inserted g x (y ∷ xs) =
    elim (nat_le x y) as (λ t. sum_by g (cond t (x ∷ y ∷ xs) (y ∷ inserted x xs)) ≡ g x + sum_by g (y ∷ xs)) [
      | true ↦ sum_by-cons g x (y ∷ xs)
      | false ↦ omega (arith, sum_by-cons g y (inserted x xs), sum_by-cons g y xs, sum_by-inserted g x xs)
    ]

sum_by-ascending : (g : ℕ → ℕ) (xs : List ℕ) → sum_by g (ascending xs) ≡ sum_by g xs
sum_by-ascending g [] = refl
sum_by-ascending g (x ∷ xs) = omega (arith, sum_by-inserted g x (ascending xs), sum_by-cons g x xs, sum_by-ascending g xs)

sum_by-map : {X Y : Type 0} (g : Y → ℕ) (f : X → Y) (xs : List X) → sum_by g (map f xs) ≡ sum_by (λ x. g (f x)) xs
sum_by-map g f [] = refl
sum_by-map g f (x ∷ xs) = sum_by-cons g (f x) (map f xs) ∙ ap (λ n. g (f x) + n) (sum_by-map g f xs) ∙ sym (sum_by-cons (λ y. g (f y)) x xs)

sum_by-same : (f g : ℕ → ℕ) (xs : List ℕ) → ((x : ℕ) → f x ≡ g x) → sum_by f xs ≡ sum_by g xs
sum_by-same f g xs h = λ i. sum_by (λ x. h x i) xs

-- short polynomials
marked_low : (w n word : ℕ) → marked w n word % 4 < 3
marked_low w n word =
    elim (nat_lt n w) as (λ t. (cond t (word / 2 * 2) (word / 4 * 4 + 1)) % 4 < 3) [ true ↦ omega arith | false ↦ omega arith ]

one_if : Bool → ℕ
one_if b = cond b 1 0

weight_of : ℕ → ℕ
weight_of code = cond (is_nonzero (coefficient_of code)) 1 0

even_weight : (v : ℕ) → weight_of (v / 2 * 2 % 4) ≡ 1
unfolding weight_of
even_weight v =
    elim (cases_lt (v / 2 * 2 % 4) 1) [
      | inl none ↦ ap weight_of (let e : v / 2 * 2 % 4 ≡ 0 = omega arith in e)
      | inr some ↦ ap weight_of (let e : v / 2 * 2 % 4 ≡ 2 = omega arith in e)
    ]

odd_weight : (v : ℕ) → weight_of ((v / 4 * 4 + 1) % 4) ≡ 0
unfolding weight_of
odd_weight v = ap weight_of (let e : (v / 4 * 4 + 1) % 4 ≡ 1 = omega arith in e)

marked_weight : (w n word : ℕ) → weight_of (marked w n word % 4) ≡ one_if (nat_lt n w)
unfolding one_if
marked_weight w n word =
    elim (nat_lt n w) as (λ t. weight_of ((cond t (word / 2 * 2) (word / 4 * 4 + 1)) % 4) ≡ one_if t) [ true ↦ even_weight word | false ↦ odd_weight word ]

mark_step : (a w : ℕ) (t : Bool) → nat_lt a w ≡ t → one_if t + min a w ≡ min (a + 1) w
unfolding one_if
mark_step a w true e = let lt : a < w = grind (arith, nat_tests) in omega arith
mark_step a w false e = let le : w ≤ a = grind (arith, nat_tests) in omega arith

sum_of_marks : (w a k : ℕ) → sum_by (λ n. one_if (nat_lt n w)) (range_with_len a k) + min a w ≡ min (a + k) w
sum_of_marks w a zero = omega arith
sum_of_marks w a (suc k) =
    let f : ℕ → ℕ = λ n. one_if (nat_lt n w) in
    let here = sum_by-cons (λ n. one_if (nat_lt n w)) a (range_with_len (a + 1) k) in
    let step = mark_step a w (nat_lt a w) refl in
    let rest = sum_of_marks w (a + 1) k in
    let e : min (a + 1 + k) w ≡ min (a + suc k) w = omega arith in
    omega arith

abbrev words_marked : ℕ → ℕ → Stream → List ℕ
words_marked p w words = map (λ n. marked w n (words n)) (range_with_len 0 p)

short_draw_weight : (p w : ℕ) (words : Stream) → w ≤ p → count_by is_nonzero (short_draw p w words) ≡ w
unfolding short_draw weight_of one_if
short_draw_weight p w words le =
    sum_by-map (λ c. cond (is_nonzero c) 1 0) (λ word. coefficient_of (word % 4)) (ascending (words_marked p w words))
    ∙ sum_by-ascending (λ word. weight_of (word % 4)) (words_marked p w words)
    ∙ sum_by-map (λ word. weight_of (word % 4)) (λ n. marked w n (words n)) (range_with_len 0 p)
    ∙ sum_by-same (λ n. weight_of (marked w n (words n) % 4)) (λ n. one_if (nat_lt n w)) (range_with_len 0 p) (λ n. marked_weight w n (words n))
    ∙ (let s = sum_of_marks w 0 p in omega arith)

short_draw_small : (p w : ℕ) (words : Stream) → All IsSmall (short_draw p w words)
unfolding short_draw
short_draw_small p w words =
    All-map IsSmall (λ word. coefficient_of (word % 4)) (ascending (words_marked p w words))
    (All-weaker (λ word. word % 4 < 3) (λ word. IsSmall (coefficient_of (word % 4))) (λ word lt. coefficient_small (word % 4) lt) (ascending (words_marked p w words))
    (All-ascending (λ word. word % 4 < 3) (words_marked p w words)
    (All-map (λ word. word % 4 < 3) (λ n. marked w n (words n)) (range_with_len 0 p)
    (λ k d lt. marked_low w (get_or (range_with_len 0 p) k d) (words (get_or (range_with_len 0 p) k d))))))

pub short_draw_short : (p w : ℕ) (words : Stream) → w ≤ p → IsShort w (short_draw p w words)
short_draw_short p w words le = record { small = all_small_within (short_draw p w words) (short_draw_small p w words); weight = short_draw_weight p w words le }

pub length-short_draw : (p w : ℕ) (words : Stream) → length (short_draw p w words) ≡ p
unfolding short_draw
length-short_draw p w words =
    length-map (ascending (words_marked p w words)) (λ word. coefficient_of (word % 4))
    ∙ length-ascending (words_marked p w words) ∙ length-map-range_with_len (λ n. marked w n (words n)) 0 p

-- bytes
length-word_bytes : (words : Stream) (xs : List ℕ) → length (flat_map (λ k. little_bytes 4 (words k)) xs) ≡ 4 * length xs
length-word_bytes words [] = refl
length-word_bytes words (x ∷ xs) =
    omega (arith, length-append (little_bytes 4 (words x)) (flat_map (λ k. little_bytes 4 (words k)) xs), length-word_bytes words xs)

pub length-bytes_draw : (n : ℕ) (words : Stream) → length (bytes_draw n words) ≡ n
unfolding bytes_draw
length-bytes_draw n words =
    length-take-le n (flat_map (λ k. little_bytes 4 (words k)) (range_with_len 0 ((n + 3) / 4)))
    (omega (arith, length-word_bytes words (range_with_len 0 ((n + 3) / 4)), length-range_with_len 0 ((n + 3) / 4)))

-- the first draw that has an inverse
first_step : (P : List ℤ → Type 0) (p : ℕ) (a : List ℤ) (invert : List ℤ → Option (List ℤ)) (after : Stream) (others : Option Invertible) (r : Invertible) (o : Option (List ℤ))
    → P a → invert a ≡ o → (others ≡ Some r → P r.drawn × (invert r.drawn ≡ Some r.inverse))
    → elim o as (λ _. Option Invertible) [ Some inverse ↦ Some (record { drawn = a; inverse = inverse; left = after }) | None ↦ others ] ≡ Some r
    → P r.drawn × (invert r.drawn ≡ Some r.inverse)
first_step P p a invert after others r None pa e rest h = rest h
first_step P p a invert after others r (Some inverse) pa e rest h =
    let R : Invertible → Type 0 = λ x. P x.drawn × (invert x.drawn ≡ Some x.inverse) in
    subst R (same_Some (record { drawn = a; inverse = inverse; left = after }) r h) (pa, e)

pub first_gives : (P : List ℤ → Type 0) (p tries : ℕ) (draw : Stream → List ℤ) (invert : List ℤ → Option (List ℤ)) (words : Stream) (r : Invertible)
    → ((u : Stream) → P (draw u)) → first_invertible p tries draw invert words ≡ Some r → P r.drawn × (invert r.drawn ≡ Some r.inverse)
unfolding first_invertible
first_gives P p zero draw invert words r all h = absurd (cc)
first_gives P p (suc tries) draw invert words r all h =
    first_step P p (draw words) invert (behind p words) (first_invertible p tries draw invert (behind p words)) r (invert (draw words)) (all words) refl
    (first_gives P p tries draw invert (behind p words) r all) h
