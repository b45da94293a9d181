-- Different digits have different encodings.
use Rattle.std.proofs.Common.{◌≡◌, ℕ, zero, suc, ◌+◌, ◌*◌, ◌/◌, ◌%◌, ◌<◌, ◌≤◌, Bool, true, false, cond, List, [], ◌∷◌, length, map, All, ℤ, refl, sym, ap, ap₂, subst, ◌∙◌, arith}
use Rattle.std.specs.Bool.{nat_le}
use Rattle.std.proofs.lemmas.Bool.Decides.{nat_tests}
use Rattle.std.proofs.lemmas.List.{length-map, length-append}
use Rattle.std.proofs.lemmas.List.Elements.{All-head, All-tail}
use Rattle.std.proofs.lemmas.Nat.{same_from_place, mul-le}
use Rattle.ntru_codec.specs.Mixed.{Digit, digit, digits, without_byte, given_off, left_over, round_bytes, next_round, encoding_in, mixed_encoding}
use Rattle.ntru_codec.specs.Small.{IsSmall, small_encoding, coefficients}
use Rattle.ntru_codec.proofs.Lists.{same_parts}
use Rattle.ntru_codec.proofs.Rounds.{pair_below}
use Rattle.ntru_codec.proofs.Sizes.{length-given_off, modulus-left_over}
use Rattle.ntru_codec.proofs.Codes.{coefficients-encoding}

-- the digits that two lists of the same moduli have at one place
record Twin : Type 0 where
  modulus : ℕ
  first : ℕ
  second : ℕ

record IsFine (t : Twin) : Type 0 where
  first_below : t.first < t.modulus
  second_below : t.second < t.modulus
  few : t.modulus < 65536

abbrev Fine : List Twin → Type 0
Fine [] = Unit {0}
Fine (t ∷ ts) = IsFine t × Fine ts

abbrev Agree : List Twin → Type 0
Agree [] = Unit {0}
Agree (t ∷ ts) = (t.first ≡ t.second) × Agree ts

abbrev firsts : List Twin → List Digit
firsts ts = map (λ t. digit t.first t.modulus) ts

abbrev seconds : List Twin → List Digit
seconds ts = map (λ t. digit t.second t.modulus) ts

-- what is given off and what is left tell the value
value_step : (a b m : ℕ) (given others : List ℕ) (l k : Digit) (t : Bool) → (given ≡ others → l.value ≡ k.value → a / 256 ≡ b / 256)
    → cond t (a % 256 ∷ given) [] ≡ cond t (b % 256 ∷ others) [] → (cond t l (digit a m)).value ≡ (cond t k (digit b m)).value → a ≡ b
value_step a b m given others l k true rest low high =
    let byte : a % 256 ≡ b % 256 = cc in
    let bytes : given ≡ others = cc in
    let more : a / 256 ≡ b / 256 = rest bytes high in
    omega arith
value_step a b m given others l k false rest low high = high

value_from_parts : (n limit a b m : ℕ) → given_off n limit (digit a m) ≡ given_off n limit (digit b m) → (left_over n limit (digit a m)).value ≡ (left_over n limit (digit b m)).value → a ≡ b
unfolding given_off left_over
value_from_parts zero limit a b m low high = high
value_from_parts (suc n) limit a b m low high =
    value_step a b m (given_off n limit (without_byte (digit a m))) (given_off n limit (without_byte (digit b m)))
    (left_over n limit (without_byte (digit a m))) (left_over n limit (without_byte (digit b m))) (nat_le limit m)
    (value_from_parts n limit (a / 256) (b / 256) ((m + 255) / 256)) low high

-- what is left is below what is left of the modulus
left_below : (n limit v m : ℕ) → v < m → (left_over n limit (digit v m)).value < (left_over n limit (digit v m)).modulus
unfolding left_over
left_below zero limit v m h = h
left_below (suc n) limit v m h =
    elim (nat_le limit m) as (λ t. (cond t (left_over n limit (without_byte (digit v m))) (digit v m)).value < (cond t (left_over n limit (without_byte (digit v m))) (digit v m)).modulus) [
      | true ↦ left_below n limit (v / 256) ((m + 255) / 256) (omega arith)
      | false ↦ h
    ]

abbrev room : ℕ → ℕ → ℕ
room c zero = c
room c (suc n) = room c n * 256

few_step : (c m k r : ℕ) (t : Bool) → nat_le (suc c) m ≡ t → r ≤ c → cond t r m ≤ c
few_step c m k r true e h = h
few_step c m k r false e h = grind (arith, nat_tests)

modulus-cond : (t : Bool) (l k : Digit) → (cond t l k).modulus ≡ cond t l.modulus k.modulus
modulus-cond true l k = refl
modulus-cond false l k = refl

left_few : (n c v m : ℕ) → m ≤ room c n → (left_over n (suc c) (digit v m)).modulus ≤ c
unfolding left_over
left_few zero c v m h = h
left_few (suc n) c v m h =
    let P : ℕ → Type 0 = λ k. k ≤ c in
    subst P (sym (modulus-cond (nat_le (suc c) m) (left_over n (suc c) (without_byte (digit v m))) (digit v m)))
    (few_step c m 0 (left_over n (suc c) (without_byte (digit v m))).modulus (nat_le (suc c) m) refl
    (left_few n c (v / 256) ((m + 255) / 256) (omega arith)))

-- the next round
next : List Twin → List Twin
next (t ∷ u ∷ ts) =
    record {
      modulus = (left_over 4 16384 (digit (t.first + t.modulus * u.first) (t.modulus * u.modulus))).modulus;
      first = (left_over 4 16384 (digit (t.first + t.modulus * u.first) (t.modulus * u.modulus))).value;
      second = (left_over 4 16384 (digit (t.second + t.modulus * u.second) (t.modulus * u.modulus))).value;
    } ∷ next ts
next (t ∷ []) = t ∷ []
next [] = []

length-next : (ts : List Twin) → length (next ts) ≡ (length ts + 1) / 2
unfolding next
length-next [] = refl
length-next (t ∷ []) = refl
length-next (t ∷ u ∷ ts) = omega (arith, length-next ts)

firsts-next : (ts : List Twin) → next_round (firsts ts) ≡ firsts (next ts)
unfolding next next_round
firsts-next [] = refl
firsts-next (t ∷ []) = refl
firsts-next (t ∷ u ∷ ts) = ap (λ ds. left_over 4 16384 (digit (t.first + t.modulus * u.first) (t.modulus * u.modulus)) ∷ ds) (firsts-next ts)

seconds-next : (ts : List Twin) → next_round (seconds ts) ≡ seconds (next ts)
unfolding next next_round
seconds-next [] = refl
seconds-next (t ∷ []) = refl
seconds-next (t ∷ u ∷ ts) =
    let m = t.modulus * u.modulus in
    ap₂ (λ k ds. digit (left_over 4 16384 (digit (t.second + t.modulus * u.second) (t.modulus * u.modulus))).value k ∷ ds)
    (modulus-left_over 4 16384 (t.second + t.modulus * u.second) (t.first + t.modulus * u.first) (t.modulus * u.modulus))
    (seconds-next ts)

fine-next : (ts : List Twin) → Fine ts → Fine (next ts)
unfolding next
fine-next [] h = tt
fine-next (t ∷ []) h = h
fine-next (t ∷ u ∷ ts) h =
    let f = h.0 in
    let g = h.1.0 in
    let fl = f.few in
    let gl = g.few in
    let m = t.modulus * u.modulus in
    let small : t.modulus * u.modulus ≤ 65535 * 65535 = mul-le t.modulus u.modulus 65535 65535 (omega arith) (omega arith) in
    let first = left_below 4 16384 (t.first + t.modulus * u.first) (t.modulus * u.modulus) (pair_below t.modulus u.modulus t.first u.first f.first_below g.first_below) in
    let second = left_below 4 16384 (t.second + t.modulus * u.second) (t.modulus * u.modulus) (pair_below t.modulus u.modulus t.second u.second f.second_below g.second_below) in
    let same = modulus-left_over 4 16384 (t.second + t.modulus * u.second) (t.first + t.modulus * u.first) (t.modulus * u.modulus) in
    let few = left_few 4 16383 (t.first + t.modulus * u.first) (t.modulus * u.modulus) (omega arith) in
    (record { first_below = first; second_below = omega arith; few = omega arith }, fine-next ts h.1.1)

length-rounds : (ts : List Twin) → length (round_bytes (firsts ts)) ≡ length (round_bytes (seconds ts))
unfolding round_bytes
length-rounds [] = refl
length-rounds (t ∷ []) = refl
length-rounds (t ∷ u ∷ ts) =
    let a = given_off 4 16384 (digit (t.first + t.modulus * u.first) (t.modulus * u.modulus)) in
    let b = given_off 4 16384 (digit (t.second + t.modulus * u.second) (t.modulus * u.modulus)) in
    omega (
      arith,
      length-append a (round_bytes (firsts ts)),
      length-append b (round_bytes (seconds ts)),
      length-rounds ts,
      length-given_off 4 16384 (t.first + t.modulus * u.first) (t.second + t.modulus * u.second) (t.modulus * u.modulus),
    )

-- two neighbours, joined
pair_values : (m a b c d : ℕ) → a < m → c < m → a + m * b ≡ c + m * d → (a ≡ c) × (b ≡ d)
pair_values m a b c d h g e = let s = same_from_place b a d c m h g (omega arith) in (s.1, s.0)

before_round : (ts : List Twin) → Fine ts → round_bytes (firsts ts) ≡ round_bytes (seconds ts) → Agree (next ts) → Agree ts
unfolding next round_bytes
before_round [] h e g = tt
before_round (t ∷ []) h e g = g
before_round (t ∷ u ∷ ts) h e g =
    let a = t.first + t.modulus * u.first in
    let b = t.second + t.modulus * u.second in
    let m = t.modulus * u.modulus in
    let parts = same_parts (given_off 4 16384 (digit (t.first + t.modulus * u.first) (t.modulus * u.modulus))) (round_bytes (firsts ts))
    (given_off 4 16384 (digit (t.second + t.modulus * u.second) (t.modulus * u.modulus))) (round_bytes (seconds ts))
    (length-given_off 4 16384 (t.first + t.modulus * u.first) (t.second + t.modulus * u.second) (t.modulus * u.modulus)) e in
    let whole = value_from_parts 4 16384 (t.first + t.modulus * u.first) (t.second + t.modulus * u.second) (t.modulus * u.modulus) parts.0 g.0 in
    let both = pair_values t.modulus t.first u.first t.second u.second h.0.first_below h.0.second_below whole in
    (both.0, (both.1, before_round ts h.1.1 parts.1 g.1))

last_value : (a b m : ℕ) → a < m → b < m → m < 65536 → given_off 4 2 (digit a m) ≡ given_off 4 2 (digit b m) → a ≡ b
last_value a b m h g few e =
    let first = left_below 4 2 a m h in
    let second = left_below 4 2 b m g in
    let one = left_few 4 1 a m (omega arith) in
    let two = left_few 4 1 b m (omega arith) in
    value_from_parts 4 2 a b m e (omega arith)

agree : (n : ℕ) (ts : List Twin) → length ts ≤ n → Fine ts → encoding_in n (firsts ts) ≡ encoding_in n (seconds ts) → Agree ts
unfolding encoding_in
agree zero [] le h e = tt
agree zero (t ∷ ts) le h e = absurd (omega arith)
agree (suc n) [] le h e = tt
agree (suc n) (t ∷ []) le h e = let f = h.0 in (last_value t.first t.second t.modulus f.first_below f.second_below f.few e, tt)
agree (suc n) (t ∷ u ∷ ts) le h e =
    let all = t ∷ u ∷ ts in
    let parts = same_parts (round_bytes (firsts (t ∷ u ∷ ts))) (encoding_in n (next_round (firsts (t ∷ u ∷ ts)))) (round_bytes (seconds (t ∷ u ∷ ts))) (encoding_in n (next_round (seconds (t ∷ u ∷ ts))))
    (length-rounds (t ∷ u ∷ ts)) e in
    let shorter = length-next (t ∷ u ∷ ts) in
    let rest : encoding_in n (firsts (next (t ∷ u ∷ ts))) ≡ encoding_in n (seconds (next (t ∷ u ∷ ts))) =
    ap (encoding_in n) (sym (firsts-next (t ∷ u ∷ ts))) ∙ parts.1 ∙ ap (encoding_in n) (seconds-next (t ∷ u ∷ ts)) in
    before_round (t ∷ u ∷ ts) h parts.0 (agree n (next (t ∷ u ∷ ts)) (omega arith) (fine-next (t ∷ u ∷ ts) h) rest)

-- digits of one modulus
twins : ℕ → List ℕ → List ℕ → List Twin
twins m [] ds = []
twins m (r ∷ rs) [] = []
twins m (r ∷ rs) (d ∷ ds) = record { modulus = m; first = r; second = d } ∷ twins m rs ds

firsts-twins : (m : ℕ) (rs ds : List ℕ) → length rs ≡ length ds → firsts (twins m rs ds) ≡ digits m rs
unfolding twins
firsts-twins m [] ds e = refl
firsts-twins m (r ∷ rs) [] e = absurd (omega arith)
firsts-twins m (r ∷ rs) (d ∷ ds) e = ap (λ xs. digit r m ∷ xs) (firsts-twins m rs ds (omega arith))

seconds-twins : (m : ℕ) (rs ds : List ℕ) → length rs ≡ length ds → seconds (twins m rs ds) ≡ digits m ds
unfolding twins
seconds-twins m [] [] e = refl
seconds-twins m [] (d ∷ ds) e = absurd (omega arith)
seconds-twins m (r ∷ rs) [] e = absurd (omega arith)
seconds-twins m (r ∷ rs) (d ∷ ds) e = ap (λ xs. digit d m ∷ xs) (seconds-twins m rs ds (omega arith))

fine-twins : (m : ℕ) (rs ds : List ℕ) → m < 65536 → All (λ r. r < m) rs → All (λ r. r < m) ds → Fine (twins m rs ds)
unfolding twins
fine-twins m [] ds few h g = tt
fine-twins m (r ∷ rs) [] few h g = tt
fine-twins m (r ∷ rs) (d ∷ ds) few h g = (
  record { first_below = All-head (λ x. x < m) r rs h; second_below = All-head (λ x. x < m) d ds g; few = few },
  fine-twins m rs ds few (All-tail (λ x. x < m) r rs h) (All-tail (λ x. x < m) d ds g),
)

agree-twins : (m : ℕ) (rs ds : List ℕ) → length rs ≡ length ds → Agree (twins m rs ds) → rs ≡ ds
unfolding twins
agree-twins m [] [] e h = refl
agree-twins m [] (d ∷ ds) e h = absurd (omega arith)
agree-twins m (r ∷ rs) [] e h = absurd (omega arith)
agree-twins m (r ∷ rs) (d ∷ ds) e h = ap₂ (λ x xs. x ∷ xs) h.0 (agree-twins m rs ds (omega arith) h.1)

length-twins : (m : ℕ) (rs ds : List ℕ) → length rs ≡ length ds → length (twins m rs ds) ≡ length rs
unfolding twins
length-twins m [] ds e = refl
length-twins m (r ∷ rs) [] e = absurd (omega arith)
length-twins m (r ∷ rs) (d ∷ ds) e = ap suc (length-twins m rs ds (omega arith))

pub mixed_injective : (m : ℕ) (rs ds : List ℕ) → m < 65536 → length rs ≡ length ds → All (λ r. r < m) rs → All (λ r. r < m) ds → mixed_encoding m rs ≡ mixed_encoding m ds → rs ≡ ds
mixed_injective m rs ds few len h g e =
    let n = length rs in
    let lr = length-map rs (λ r. digit r m) in
    let ld = length-map ds (λ r. digit r m) in
    let same : encoding_in (length rs) (digits m rs) ≡ encoding_in (length rs) (digits m ds) =
    ap (λ k. encoding_in k (digits m rs)) (sym lr) ∙ e ∙ ap (λ k. encoding_in k (digits m ds)) (ld ∙ sym len) in
    agree-twins m rs ds len
    (agree (length rs) (twins m rs ds) (omega (arith, length-twins m rs ds len)) (fine-twins m rs ds few h g)
    (ap (encoding_in (length rs)) (firsts-twins m rs ds len) ∙ same ∙ ap (encoding_in (length rs)) (sym (seconds-twins m rs ds len))))

pub small_injective : (a b : List ℤ) → length a % 4 ≡ 1 → length a ≡ length b → All IsSmall a → All IsSmall b → small_encoding a ≡ small_encoding b → a ≡ b
small_injective a b one len h g e = sym (coefficients-encoding a one h) ∙ ap coefficients e ∙ coefficients-encoding b (omega arith) g
