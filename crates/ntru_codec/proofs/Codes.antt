-- Small coefficients, four in a byte.
use Rattle.std.proofs.Common.{◌≡◌, inl, inr, ℕ, zero, suc, ◌+◌, ◌*◌, ◌/◌, ◌%◌, ◌<◌, List, [], ◌∷◌, ◌++◌, length, take, get_or, set, ℤ, pos, refl, sym, ap, ap₂, ◌∙◌, arith, append_assoc, add-one}
use Rattle.std.specs.List.{All}
use Rattle.std.proofs.lemmas.List.{take_more, take_more_set, take_all, length-set, length-take-le}
use Rattle.std.proofs.lemmas.List.Elements.{All-tail, All-cons, All-nil}
use Rattle.ntru_codec.specs.Small.{IsSmall, code_of, packed, small_encoding, IsPacked, ArePacked, coefficient_of, coefficients}

-- a byte by its four codes
pub packed_at : (bs : List ℕ) → ArePacked bs → (j : ℕ) → j + 1 < length bs → IsPacked (get_or bs j 0)
unfolding ArePacked
packed_at [] h j less = absurd (omega arith)
packed_at (b ∷ []) h j less = absurd (omega arith)
packed_at (b ∷ c ∷ bs) h zero less = h.0
packed_at (b ∷ c ∷ bs) h (suc j) less = packed_at (c ∷ bs) h.1 j (omega arith)

pub last_below : (bs : List ℕ) (n : ℕ) → n + 1 ≡ length bs → ArePacked bs → get_or bs n 0 < 3
unfolding ArePacked
last_below [] n e h = absurd (omega arith)
last_below (b ∷ []) zero e h = h
last_below (b ∷ []) (suc n) e h = absurd (omega arith)
last_below (b ∷ c ∷ bs) zero e h = absurd (omega arith)
last_below (b ∷ c ∷ bs) (suc n) e h = last_below (c ∷ bs) n (omega arith) h.1

pub packed_from : (bs : List ℕ) (n : ℕ) → n + 1 ≡ length bs → ((j : ℕ) → j < n → IsPacked (get_or bs j 0)) → get_or bs n 0 < 3 → ArePacked bs
unfolding ArePacked
packed_from [] n e h last = absurd (omega arith)
packed_from (b ∷ []) zero e h last = last
packed_from (b ∷ []) (suc n) e h last = absurd (omega arith)
packed_from (b ∷ c ∷ bs) zero e h last = absurd (omega arith)
packed_from (b ∷ c ∷ bs) (suc n) e h last = (h 0 (omega arith), packed_from (c ∷ bs) n (omega arith) (λ j less. h (suc j) (omega arith)) last)

-- four elements of a list at a time
pub take_four : {A : Type 0} (xs : List A) (n : ℕ) (d : A) → n + 3 < length xs → take (n + 4) xs ≡ take n xs ++ get_or xs n d ∷ get_or xs (n + 1) d ∷ get_or xs (n + 2) d ∷ get_or xs (n + 3) d ∷ []
take_four xs n d h =
    let e1 : n + 2 ≡ n + 1 + 1 = omega arith in
    let e2 : n + 3 ≡ n + 2 + 1 = omega arith in
    let e3 : n + 4 ≡ n + 3 + 1 = omega arith in
    let one = take_more xs n d (omega arith) in
    let two = ap (λ k. take k xs) e1 ∙ take_more xs (n + 1) d (omega arith) ∙ ap (λ f. f ++ get_or xs (n + 1) d ∷ []) one ∙ append_assoc (take n xs) (get_or xs n d ∷ []) (get_or xs (n + 1) d ∷ []) in
    let three = ap (λ k. take k xs) e2 ∙ take_more xs (n + 2) d (omega arith) ∙ ap (λ f. f ++ get_or xs (n + 2) d ∷ []) two ∙ append_assoc (take n xs) (get_or xs n d ∷ get_or xs (n + 1) d ∷ []) (get_or xs (n + 2) d ∷ []) in
    ap (λ k. take k xs) e3 ∙ take_more xs (n + 3) d h ∙ ap (λ f. f ++ get_or xs (n + 3) d ∷ []) three ∙ append_assoc (take n xs) (get_or xs n d ∷ get_or xs (n + 1) d ∷ get_or xs (n + 2) d ∷ []) (get_or xs (n + 3) d ∷ [])

pub take_four_set : {A : Type 0} (xs : List A) (n : ℕ) (a b c d : A) → n + 3 < length xs → take (n + 4) (set (set (set (set xs n a) (n + 1) b) (n + 2) c) (n + 3) d) ≡ take n xs ++ a ∷ b ∷ c ∷ d ∷ []
take_four_set xs n a b c d h =
    let e1 : n + 2 ≡ n + 1 + 1 = omega arith in
    let e2 : n + 3 ≡ n + 2 + 1 = omega arith in
    let e3 : n + 4 ≡ n + 3 + 1 = omega arith in
    let s1 = set xs n a in
    let s2 = set s1 (n + 1) b in
    let s3 = set s2 (n + 2) c in
    let l1 : length s1 ≡ length xs = length-set xs n a in
    let l2 : length s2 ≡ length xs = length-set s1 (n + 1) b ∙ l1 in
    let l3 : length s3 ≡ length xs = length-set s2 (n + 2) c ∙ l2 in
    let one = take_more_set xs n a (omega arith) in
    let two = ap (λ k. take k s2) e1 ∙ take_more_set s1 (n + 1) b (omega (arith, l1)) ∙ ap (λ f. f ++ b ∷ []) one ∙ append_assoc (take n xs) (a ∷ []) (b ∷ []) in
    let three = ap (λ k. take k s3) e2 ∙ take_more_set s2 (n + 2) c (omega (arith, l2)) ∙ ap (λ f. f ++ c ∷ []) two ∙ append_assoc (take n xs) (a ∷ b ∷ []) (c ∷ []) in
    ap (λ k. take k (set s3 (n + 3) d)) e3 ∙ take_more_set s3 (n + 3) d (omega (arith, l3)) ∙ ap (λ f. f ++ d ∷ []) three ∙ append_assoc (take n xs) (a ∷ b ∷ c ∷ []) (d ∷ [])

pub small_encoding-append : (xs ys : List ℤ) → length xs % 4 ≡ 0 → small_encoding (xs ++ ys) ≡ small_encoding xs ++ small_encoding ys
unfolding small_encoding
small_encoding-append [] ys e = refl
small_encoding-append (a ∷ []) ys e = absurd (omega arith)
small_encoding-append (a ∷ b ∷ []) ys e = absurd (omega arith)
small_encoding-append (a ∷ b ∷ c ∷ []) ys e = absurd (omega arith)
small_encoding-append (a ∷ b ∷ c ∷ d ∷ xs) ys e = ap (λ zs. packed a b c d ∷ zs) (small_encoding-append xs ys (omega arith))

pub small_none : small_encoding [] ≡ []
unfolding small_encoding
small_none = refl

pub small_encoding_more : (i : ℕ) (xs : List ℤ) → 4 * i + 3 < length xs → small_encoding (take (4 * (i + 1)) xs) ≡ small_encoding (take (4 * i) xs) ++ packed (get_or xs (4 * i) (pos 0)) (get_or xs (4 * i + 1) (pos 0)) (get_or xs (4 * i + 2) (pos 0)) (get_or xs (4 * i + 3) (pos 0)) ∷ []
unfolding small_encoding
small_encoding_more i xs h =
    let up : 4 * (i + 1) ≡ 4 * i + 4 = omega arith in
    let four : length (take (4 * i) xs) % 4 ≡ 0 = omega (arith, length-take-le (4 * i) xs (omega arith)) in
    ap (λ n. small_encoding (take n xs)) up ∙ ap small_encoding (take_four xs (4 * i) (pos 0) h)
    ∙ small_encoding-append (take (4 * i) xs) (get_or xs (4 * i) (pos 0) ∷ get_or xs (4 * i + 1) (pos 0) ∷ get_or xs (4 * i + 2) (pos 0) ∷ get_or xs (4 * i + 3) (pos 0) ∷ []) four

-- the last coefficient stands alone
pub small_encoding_end : (i : ℕ) (xs : List ℤ) → length xs ≡ 4 * i + 1 → small_encoding xs ≡ small_encoding (take (4 * i) xs) ++ code_of (get_or xs (4 * i) (pos 0)) ∷ []
unfolding small_encoding
small_encoding_end i xs len =
    let four : length (take (4 * i) xs) % 4 ≡ 0 = omega (arith, length-take-le (4 * i) xs (omega arith)) in
    ap small_encoding (sym (take_all (4 * i + 1) xs (omega arith)) ∙ take_more xs (4 * i) (pos 0) (omega arith))
    ∙ small_encoding-append (take (4 * i) xs) (get_or xs (4 * i) (pos 0) ∷ []) four

-- the coefficients of bytes of four
pub fields : List ℕ → List ℤ
fields [] = []
fields (b ∷ bs) = coefficient_of (b % 4) ∷ coefficient_of (b / 4 % 4) ∷ coefficient_of (b / 16 % 4) ∷ coefficient_of (b / 64) ∷ fields bs

pub fields_none : fields [] ≡ []
unfolding fields
fields_none = refl

pub fields_push : (bs : List ℕ) (b : ℕ) → fields (bs ++ b ∷ []) ≡ fields bs ++ coefficient_of (b % 4) ∷ coefficient_of (b / 4 % 4) ∷ coefficient_of (b / 16 % 4) ∷ coefficient_of (b / 64) ∷ []
unfolding fields
fields_push [] b = refl
fields_push (x ∷ bs) b = ap (λ zs. coefficient_of (x % 4) ∷ coefficient_of (x / 4 % 4) ∷ coefficient_of (x / 16 % 4) ∷ coefficient_of (x / 64) ∷ zs) (fields_push bs b)

pub coefficients_split : (bs : List ℕ) (n : ℕ) → n + 1 ≡ length bs → coefficients bs ≡ fields (take n bs) ++ coefficient_of (get_or bs n 0) ∷ []
unfolding coefficients fields
coefficients_split [] n e = absurd (omega arith)
coefficients_split (b ∷ []) zero e = refl
coefficients_split (b ∷ []) (suc n) e = absurd (omega arith)
coefficients_split (b ∷ c ∷ bs) zero e = absurd (omega arith)
coefficients_split (b ∷ c ∷ bs) (suc n) e = ap (λ zs. coefficient_of (b % 4) ∷ coefficient_of (b / 4 % 4) ∷ coefficient_of (b / 16 % 4) ∷ coefficient_of (b / 64) ∷ zs) (coefficients_split (c ∷ bs) n (omega arith))

-- codes and coefficients
code-coefficient : (c : ℕ) → code_of (coefficient_of c) ≡ c
code-coefficient zero = refl
code-coefficient (suc n) = add-one n

pub small_coefficient : (c : ℕ) → c < 3 → IsSmall (coefficient_of c)
small_coefficient zero h = inl refl
small_coefficient (suc zero) h = inr (inl refl)
small_coefficient (suc (suc zero)) h = inr (inr refl)
small_coefficient (suc (suc (suc n))) h = absurd (omega arith)

pub small_code : (a : ℤ) → IsSmall a → code_of a < 3
small_code a s = elim s [ inl e ↦ omega (arith, ap code_of e) | inr t ↦ elim t [ inl e ↦ omega (arith, ap code_of e) | inr e ↦ omega (arith, ap code_of e) ] ]

coefficient-code : (a : ℤ) → IsSmall a → coefficient_of (code_of a) ≡ a
coefficient-code a s =
    elim s [
      | inl e ↦ ap (λ z. coefficient_of (code_of z)) e ∙ sym e
      | inr t ↦ elim t [ inl e ↦ ap (λ z. coefficient_of (code_of z)) e ∙ sym e | inr e ↦ ap (λ z. coefficient_of (code_of z)) e ∙ sym e ]
    ]

-- what packed bytes hold is small, and its encoding are the bytes
pub encoding-coefficients : (bs : List ℕ) → small_encoding (coefficients bs) ≡ bs
unfolding small_encoding coefficients
encoding-coefficients [] = refl
encoding-coefficients (b ∷ []) = ap (λ c. c ∷ []) (code-coefficient b)
encoding-coefficients (b ∷ c ∷ bs) =
    let byte : packed (coefficient_of (b % 4)) (coefficient_of (b / 4 % 4)) (coefficient_of (b / 16 % 4)) (coefficient_of (b / 64)) ≡ b =
    omega (arith, code-coefficient (b % 4), code-coefficient (b / 4 % 4), code-coefficient (b / 16 % 4), code-coefficient (b / 64)) in
    ap₂ (λ x xs. x ∷ xs) byte (encoding-coefficients (c ∷ bs))

pub small-coefficients : (bs : List ℕ) → ArePacked bs → All IsSmall (coefficients bs)
unfolding ArePacked coefficients
small-coefficients [] h = All-nil IsSmall
small-coefficients (b ∷ []) h = All-cons IsSmall (coefficient_of b) [] (small_coefficient b h) (All-nil IsSmall)
small-coefficients (b ∷ c ∷ bs) h =
    All-cons IsSmall (coefficient_of (b % 4)) (coefficient_of (b / 4 % 4) ∷ coefficient_of (b / 16 % 4) ∷ coefficient_of (b / 64) ∷ coefficients (c ∷ bs)) (small_coefficient (b % 4) h.0.first)
    (All-cons IsSmall (coefficient_of (b / 4 % 4)) (coefficient_of (b / 16 % 4) ∷ coefficient_of (b / 64) ∷ coefficients (c ∷ bs)) (small_coefficient (b / 4 % 4) h.0.second)
    (All-cons IsSmall (coefficient_of (b / 16 % 4)) (coefficient_of (b / 64) ∷ coefficients (c ∷ bs)) (small_coefficient (b / 16 % 4) h.0.third)
    (All-cons IsSmall (coefficient_of (b / 64)) (coefficients (c ∷ bs)) (small_coefficient (b / 64) h.0.fourth)
    (small-coefficients (c ∷ bs) h.1))))

-- the encoding of small coefficients is packed, and holds them
pub length-small_encoding : (a : List ℤ) → length a % 4 ≡ 1 → length (small_encoding a) ≡ length a / 4 + 1
unfolding small_encoding
length-small_encoding [] e = absurd (omega arith)
length-small_encoding (a ∷ []) e = refl
length-small_encoding (a ∷ b ∷ []) e = absurd (omega arith)
length-small_encoding (a ∷ b ∷ c ∷ []) e = absurd (omega arith)
length-small_encoding (a ∷ b ∷ c ∷ d ∷ rest) e = omega (arith, length-small_encoding rest (omega arith))

ArePacked-cons : (b : ℕ) (bs : List ℕ) → 0 < length bs → IsPacked b → ArePacked bs → ArePacked (b ∷ bs)
unfolding ArePacked
ArePacked-cons b [] some h g = absurd (omega arith)
ArePacked-cons b (c ∷ bs) some h g = (h, g)

coefficients-cons : (b : ℕ) (bs : List ℕ) → 0 < length bs → coefficients (b ∷ bs) ≡ coefficient_of (b % 4) ∷ coefficient_of (b / 4 % 4) ∷ coefficient_of (b / 16 % 4) ∷ coefficient_of (b / 64) ∷ coefficients bs
unfolding coefficients
coefficients-cons b [] some = absurd (omega arith)
coefficients-cons b (c ∷ bs) some = refl

-- the four codes of a byte
record FourCodes (v x y z w : ℕ) : Type 0 where
  first : v % 4 ≡ x
  second : v / 4 % 4 ≡ y
  third : v / 16 % 4 ≡ z
  fourth : v / 64 ≡ w

four_codes : (x y z w : ℕ) → x < 3 → y < 3 → z < 3 → FourCodes (x + 4 * y + 16 * z + 64 * w) x y z w
four_codes x y z w hx hy hz = record { first = omega arith; second = omega arith; third = omega arith; fourth = omega arith }

pub packed_encoding : (a : List ℤ) → length a % 4 ≡ 1 → All IsSmall a → ArePacked (small_encoding a)
unfolding small_encoding ArePacked
packed_encoding [] e s = absurd (omega arith)
packed_encoding (a ∷ []) e s = small_code a (s 0 a (omega arith))
packed_encoding (a ∷ b ∷ []) e s = absurd (omega arith)
packed_encoding (a ∷ b ∷ c ∷ []) e s = absurd (omega arith)
packed_encoding (a ∷ b ∷ c ∷ d ∷ rest) e s =
    let ha = small_code a (s 0 a (omega arith)) in
    let hb = small_code b (s 1 a (omega arith)) in
    let hc = small_code c (s 2 a (omega arith)) in
    let hd = small_code d (s 3 a (omega arith)) in
    let four = four_codes (code_of a) (code_of b) (code_of c) (code_of d) ha hb hc in
    let after = All-tail IsSmall d rest (All-tail IsSmall c (d ∷ rest) (All-tail IsSmall b (c ∷ d ∷ rest) (All-tail IsSmall a (b ∷ c ∷ d ∷ rest) s))) in
    let more : length rest % 4 ≡ 1 = omega arith in
    ArePacked-cons (packed a b c d) (small_encoding rest) (omega (arith, length-small_encoding rest more))
    (record { first = omega (arith, four.first, ha); second = omega (arith, four.second, hb); third = omega (arith, four.third, hc); fourth = omega (arith, four.fourth, hd) })
    (packed_encoding rest more after)

pub coefficients-encoding : (a : List ℤ) → length a % 4 ≡ 1 → All IsSmall a → coefficients (small_encoding a) ≡ a
unfolding small_encoding coefficients
coefficients-encoding [] e s = absurd (omega arith)
coefficients-encoding (a ∷ []) e s = ap (λ z. z ∷ []) (coefficient-code a (s 0 a (omega arith)))
coefficients-encoding (a ∷ b ∷ []) e s = absurd (omega arith)
coefficients-encoding (a ∷ b ∷ c ∷ []) e s = absurd (omega arith)
coefficients-encoding (a ∷ b ∷ c ∷ d ∷ rest) e s =
    let sa = s 0 a (omega arith) in
    let sb = s 1 a (omega arith) in
    let sc = s 2 a (omega arith) in
    let sd = s 3 a (omega arith) in
    let four = four_codes (code_of a) (code_of b) (code_of c) (code_of d) (small_code a sa) (small_code b sb) (small_code c sc) in
    let after = All-tail IsSmall d rest (All-tail IsSmall c (d ∷ rest) (All-tail IsSmall b (c ∷ d ∷ rest) (All-tail IsSmall a (b ∷ c ∷ d ∷ rest) s))) in
    let more : length rest % 4 ≡ 1 = omega arith in
    let first : coefficient_of (packed a b c d % 4) ≡ a = ap coefficient_of four.first ∙ coefficient-code a sa in
    let second : coefficient_of (packed a b c d / 4 % 4) ≡ b = ap coefficient_of four.second ∙ coefficient-code b sb in
    let third : coefficient_of (packed a b c d / 16 % 4) ≡ c = ap coefficient_of four.third ∙ coefficient-code c sc in
    let fourth : coefficient_of (packed a b c d / 64) ≡ d = ap coefficient_of four.fourth ∙ coefficient-code d sd in
    coefficients-cons (packed a b c d) (small_encoding rest) (omega (arith, length-small_encoding rest more))
    ∙ ap₂ (λ x zs. x ∷ zs) first (ap₂ (λ x zs. x ∷ zs) second (ap₂ (λ x zs. x ∷ zs) third (ap₂ (λ x zs. x ∷ zs) fourth (coefficients-encoding rest more after))))
