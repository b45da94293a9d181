-- How long an encoding is depends on the moduli alone.
use Rattle.std.proofs.Common.{◌≡◌, ℕ, zero, suc, ◌+◌, ◌*◌, ◌/◌, ◌%◌, true, false, cond, List, [], ◌∷◌, length, map, replicate, refl, sym, ap, ap₂, ◌∙◌}
use Rattle.std.specs.Bool.{nat_le}
use Rattle.std.proofs.lemmas.List.{length-append, length-map, length-replicate}
use Rattle.ntru_codec.specs.Mixed.{Digit, digit, digits, joined, without_byte, given_off, left_over, round_bytes, next_round, encoding_in, mixed_encoding, mixed_len}

abbrev moduli : List Digit → List ℕ
moduli ds = map (λ d. d.modulus) ds

pub length-given_off : (n limit a b m : ℕ) → length (given_off n limit (digit a m)) ≡ length (given_off n limit (digit b m))
unfolding given_off
length-given_off zero limit a b m = refl
length-given_off (suc n) limit a b m =
    elim (nat_le limit m) as (λ t. length (cond t (a % 256 ∷ given_off n limit (without_byte (digit a m))) []) ≡ length (cond t (b % 256 ∷ given_off n limit (without_byte (digit b m))) [])) [
      | true ↦ ap suc (length-given_off n limit (a / 256) (b / 256) ((m + 255) / 256))
      | false ↦ refl
    ]

pub modulus-left_over : (n limit a b m : ℕ) → (left_over n limit (digit a m)).modulus ≡ (left_over n limit (digit b m)).modulus
unfolding left_over
modulus-left_over zero limit a b m = refl
modulus-left_over (suc n) limit a b m =
    elim (nat_le limit m) as (λ t. (cond t (left_over n limit (without_byte (digit a m))) (digit a m)).modulus ≡ (cond t (left_over n limit (without_byte (digit b m))) (digit b m)).modulus) [
      | true ↦ modulus-left_over n limit (a / 256) (b / 256) ((m + 255) / 256)
      | false ↦ refl
    ]

length-round_bytes : (ds es : List Digit) → moduli ds ≡ moduli es → length (round_bytes ds) ≡ length (round_bytes es)
unfolding round_bytes
length-round_bytes [] [] e = refl
length-round_bytes [] (x ∷ es) e = cc
length-round_bytes (d ∷ []) [] e = cc
length-round_bytes (d ∷ []) (x ∷ []) e = refl
length-round_bytes (d ∷ []) (x ∷ y ∷ es) e = cc
length-round_bytes (d ∷ d' ∷ ds) [] e = cc
length-round_bytes (d ∷ d' ∷ ds) (x ∷ []) e = cc
length-round_bytes (d ∷ d' ∷ ds) (x ∷ y ∷ es) e =
    let first : d.modulus ≡ x.modulus = cc in
    let second : d'.modulus ≡ y.modulus = cc in
    let others : moduli ds ≡ moduli es = cc in
    let same : d.modulus * d'.modulus ≡ x.modulus * y.modulus = ap₂ (λ m n. m * n) first second in
    length-append (given_off 4 16384 (joined d d')) (round_bytes ds)
    ∙ ap₂ (λ m n. m + n)
    (length-given_off 4 16384 (d.value + d.modulus * d'.value) (x.value + x.modulus * y.value) (d.modulus * d'.modulus)
    ∙ ap (λ m. length (given_off 4 16384 (digit (x.value + x.modulus * y.value) m))) same)
    (length-round_bytes ds es others)
    ∙ sym (length-append (given_off 4 16384 (joined x y)) (round_bytes es))

moduli-next_round : (ds es : List Digit) → moduli ds ≡ moduli es → moduli (next_round ds) ≡ moduli (next_round es)
unfolding next_round
moduli-next_round [] [] e = refl
moduli-next_round [] (x ∷ es) e = cc
moduli-next_round (d ∷ []) [] e = cc
moduli-next_round (d ∷ []) (x ∷ []) e = e
moduli-next_round (d ∷ []) (x ∷ y ∷ es) e = cc
moduli-next_round (d ∷ d' ∷ ds) [] e = cc
moduli-next_round (d ∷ d' ∷ ds) (x ∷ []) e = cc
moduli-next_round (d ∷ d' ∷ ds) (x ∷ y ∷ es) e =
    let first : d.modulus ≡ x.modulus = cc in
    let second : d'.modulus ≡ y.modulus = cc in
    let others : moduli ds ≡ moduli es = cc in
    let same : d.modulus * d'.modulus ≡ x.modulus * y.modulus = ap₂ (λ m n. m * n) first second in
    ap₂ (λ m ms. m ∷ ms)
    (modulus-left_over 4 16384 (d.value + d.modulus * d'.value) (x.value + x.modulus * y.value) (d.modulus * d'.modulus)
    ∙ ap (λ m. (left_over 4 16384 (digit (x.value + x.modulus * y.value) m)).modulus) same)
    (moduli-next_round ds es others)

length-encoding_in : (n : ℕ) (ds es : List Digit) → moduli ds ≡ moduli es → length (encoding_in n ds) ≡ length (encoding_in n es)
unfolding encoding_in
length-encoding_in zero ds es e = refl
length-encoding_in (suc n) [] [] e = refl
length-encoding_in (suc n) [] (x ∷ es) e = cc
length-encoding_in (suc n) (d ∷ []) [] e = cc
length-encoding_in (suc n) (d ∷ []) (x ∷ []) e =
    let first : d.modulus ≡ x.modulus = cc in
    length-given_off 4 2 d.value x.value d.modulus ∙ ap (λ m. length (given_off 4 2 (digit x.value m))) first
length-encoding_in (suc n) (d ∷ []) (x ∷ y ∷ es) e = cc
length-encoding_in (suc n) (d ∷ d' ∷ ds) [] e = cc
length-encoding_in (suc n) (d ∷ d' ∷ ds) (x ∷ []) e = cc
length-encoding_in (suc n) (d ∷ d' ∷ ds) (x ∷ y ∷ es) e =
    length-append (round_bytes (d ∷ d' ∷ ds)) (encoding_in n (next_round (d ∷ d' ∷ ds)))
    ∙ ap₂ (λ m k. m + k) (length-round_bytes (d ∷ d' ∷ ds) (x ∷ y ∷ es) e) (length-encoding_in n (next_round (d ∷ d' ∷ ds)) (next_round (x ∷ y ∷ es)) (moduli-next_round (d ∷ d' ∷ ds) (x ∷ y ∷ es) e))
    ∙ sym (length-append (round_bytes (x ∷ y ∷ es)) (encoding_in n (next_round (x ∷ y ∷ es))))

moduli-digits : (m : ℕ) (rs : List ℕ) → moduli (digits m rs) ≡ replicate (length rs) m
moduli-digits m [] = refl
moduli-digits m (r ∷ rs) = ap (λ ms. m ∷ ms) (moduli-digits m rs)

-- all lists of as many digits have encodings of one length
pub length-mixed_encoding : (m : ℕ) (rs : List ℕ) → length (mixed_encoding m rs) ≡ mixed_len (length rs) m
length-mixed_encoding m rs =
    let zeros = replicate (length rs) 0 in
    let len : length zeros ≡ length rs = length-replicate (length rs) 0 in
    let same : moduli (digits m rs) ≡ moduli (digits m zeros) = moduli-digits m rs ∙ ap (λ n. replicate n m) (sym len) ∙ sym (moduli-digits m zeros) in
    let lens : length (digits m rs) ≡ length (digits m zeros) = length-map rs (λ r. digit r m) ∙ sym len ∙ sym (length-map zeros (λ r. digit r m)) in
    length-encoding_in (length (digits m rs)) (digits m rs) (digits m zeros) same ∙ ap (λ n. length (encoding_in n (digits m zeros))) lens
