-- Polynomials that are read from their bytes.
use Rattle.std.proofs.Common.{◌≡◌, ℕ, ◌+◌, ◌*◌, ◌/◌, ◌%◌, ◌<◌, Some, List, [], ◌∷◌, length, map, All, option_map, ℤ, pos, ◌+ℤ◌, ◌-ℤ◌, ◌*ℤ◌, refl, sym, ap, ap₂, subst, ◌∙◌, arith}
use borrow.Author.Differences.{abs_is}
use Rattle.std.proofs.lemmas.Int.{ints}
use Rattle.std.proofs.lemmas.List.{length-map}
use Rattle.std.proofs.lemmas.List.Elements.{All-map, All-weaker, All-head, All-tail, All-from_get_or}
use Rattle.ring_poly.specs.Ring.{IsCentred, AreRounded}
use Rattle.ntru_codec.specs.Mixed.{mixed_encoding, mixed_len}
use Rattle.ntru_codec.specs.Small.{small_encoding}
use Rattle.ntru_codec.proofs.Sizes.{length-mixed_encoding}
use Rattle.ntru_codec.proofs.Codes.{length-small_encoding}
use Rattle.ntru_model.specs.Parameters.{Parameters, small_len, public_len, core_len}
use Rattle.ntru_model.specs.Encodings.{digit_of, mixed_read, public_encoding, public_read, rounded_encoding, rounded_read}
use Rattle.ntru_model.proofs.Options.{map_parts}
use Rattle.ntru_model.proofs.Readers.{mixed_read-encoding, from_mixed_read}
use Rattle.ntru_model.proofs.Sets.{IsSet}

abbrev centre_back : ℕ → ℕ → ℤ
centre_back q r = pos r -ℤ pos (q / 2)

abbrev triple_back : ℕ → ℕ → ℤ
triple_back q r = pos (3 * r) -ℤ pos (q / 2)

-- a multiple of 3
pub record IsTriple (c : ℤ) : Type 0 where
  pub third : ℤ
  pub is : c ≡ pos 3 *ℤ third

digit_below : (q : ℕ) (c : ℤ) → q % 2 ≡ 1 → IsCentred (pos q) c → digit_of q c < q
digit_below q c odd v = let lo = v.0 in let hi = v.1 in omega (arith, ints, abs_is (c +ℤ pos (q / 2)))

digit_back : (q : ℕ) (c : ℤ) → q % 2 ≡ 1 → IsCentred (pos q) c → centre_back q (digit_of q c) ≡ c
digit_back q c odd v = let lo = v.0 in let hi = v.1 in omega (arith, ints, abs_is (c +ℤ pos (q / 2)))

centre_back_centred : (q r : ℕ) → q % 2 ≡ 1 → r < q → IsCentred (pos q) (centre_back q r)
centre_back_centred q r odd lt = (omega (arith, ints), omega (arith, ints))

third_below : (q : ℕ) (c : ℤ) → q % 6 ≡ 1 → IsCentred (pos q) c → digit_of q c / 3 < (q + 2) / 3
third_below q c form v = let b = digit_below q c (omega arith) v in omega arith

third_back : (q : ℕ) (c : ℤ) → q % 6 ≡ 1 → IsCentred (pos q) c → IsTriple c → triple_back q (digit_of q c / 3) ≡ c
third_back q c form v t =
    let lo = v.0 in
    let hi = v.1 in
    let e = t.is in
    let back = digit_back q c (omega arith) v in
    omega (arith, ints)

all_back : (q : ℕ) (h : List ℤ) → q % 2 ≡ 1 → All (IsCentred (pos q)) h → map (centre_back q) (map (digit_of q) h) ≡ h
all_back q [] odd v = refl
all_back q (c ∷ h) odd v = ap₂ (λ x xs. x ∷ xs) (digit_back q c odd (All-head (IsCentred (pos q)) c h v)) (all_back q h odd (All-tail (IsCentred (pos q)) c h v))

all_thirds_back : (q : ℕ) (h : List ℤ) → q % 6 ≡ 1 → All (IsCentred (pos q)) h → All IsTriple h → map (triple_back q) (map (λ d. digit_of q d / 3) h) ≡ h
all_thirds_back q [] form v t = refl
all_thirds_back q (c ∷ h) form v t =
    ap₂ (λ x xs. x ∷ xs) (third_back q c form (All-head (IsCentred (pos q)) c h v) (All-head IsTriple c h t))
    (all_thirds_back q h form (All-tail (IsCentred (pos q)) c h v) (All-tail IsTriple c h t))

-- the polynomial of a public key
pub public_back : (s : Parameters) (h : List ℤ) → IsSet s → length h ≡ s.p → All (IsCentred (pos s.q)) h → public_read s (public_encoding s h) ≡ Some h
public_back s h set len v =
    let form = set.q_form in
    let odd : s.q % 2 ≡ 1 = omega arith in
    ap (option_map (map (centre_back s.q)))
    (mixed_read-encoding s.p s.q (map (digit_of s.q) h) set.q_few (length-map h (digit_of s.q) ∙ len)
    (All-map (λ r. r < s.q) (digit_of s.q) h (All-weaker (IsCentred (pos s.q)) (λ c. digit_of s.q c < s.q) (λ c w. digit_below s.q c odd w) h v)))
    ∙ ap Some (all_back s.q h odd v)

pub from_public_read : (s : Parameters) (bytes : List ℕ) (h : List ℤ) → IsSet s → public_read s bytes ≡ Some h → (length h ≡ s.p) × All (IsCentred (pos s.q)) h
from_public_read s bytes h set e =
    let form = set.q_form in
    let odd : s.q % 2 ≡ 1 = omega arith in
    let parts = map_parts (map (centre_back s.q)) (mixed_read s.p s.q bytes) h e in
    let digits = from_mixed_read s.p s.q bytes parts.0 parts.1 in
    let all = All-map (IsCentred (pos s.q)) (centre_back s.q) parts.0 (All-weaker (λ r. r < s.q) (λ r. IsCentred (pos s.q) (centre_back s.q r)) (λ r lt. centre_back_centred s.q r odd lt) parts.0 digits.1.below) in
    (ap length (sym parts.2) ∙ length-map parts.0 (centre_back s.q) ∙ digits.0, subst (λ xs. All (IsCentred (pos s.q)) xs) parts.2 all)

digit_again : (q r : ℕ) → digit_of q (centre_back q r) ≡ r
digit_again q r = omega (arith, ints, abs_is (centre_back q r +ℤ pos (q / 2)))

digits_again : (q : ℕ) (rs : List ℕ) → map (digit_of q) (map (centre_back q) rs) ≡ rs
digits_again q [] = refl
digits_again q (r ∷ rs) = ap₂ (λ x xs. x ∷ xs) (digit_again q r) (digits_again q rs)

-- the bytes that were read
pub public_bytes : (s : Parameters) (bytes : List ℕ) (h : List ℤ) → public_read s bytes ≡ Some h → public_encoding s h ≡ bytes
public_bytes s bytes h e =
    let parts = map_parts (map (centre_back s.q)) (mixed_read s.p s.q bytes) h e in
    let digits = from_mixed_read s.p s.q bytes parts.0 parts.1 in
    ap (λ x. mixed_encoding s.q (map (digit_of s.q) x)) (sym parts.2) ∙ ap (mixed_encoding s.q) (digits_again s.q parts.0) ∙ digits.1.encoded

-- that of a ciphertext
pub rounded_back : (s : Parameters) (c : List ℤ) → IsSet s → length c ≡ s.p → All (IsCentred (pos s.q)) c → All IsTriple c → rounded_read s (rounded_encoding s c) ≡ Some c
rounded_back s c set len v t =
    let few = set.q_few in
    ap (option_map (map (triple_back s.q)))
    (mixed_read-encoding s.p ((s.q + 2) / 3) (map (λ d. digit_of s.q d / 3) c) (omega arith) (length-map c (λ d. digit_of s.q d / 3) ∙ len)
    (All-map (λ r. r < (s.q + 2) / 3) (λ d. digit_of s.q d / 3) c
    (All-weaker (IsCentred (pos s.q)) (λ d. digit_of s.q d / 3 < (s.q + 2) / 3) (λ d w. third_below s.q d set.q_form w) c v)))
    ∙ ap Some (all_thirds_back s.q c set.q_form v t)

triple_centred : (q r : ℕ) → q % 6 ≡ 1 → r < (q + 2) / 3 → IsCentred (pos q) (triple_back q r)
triple_centred q r form lt = (omega (arith, ints), omega (arith, ints))

third_again : (q r : ℕ) → q % 6 ≡ 1 → digit_of q (triple_back q r) / 3 ≡ r
third_again q r form = let e = abs_is (triple_back q r +ℤ pos (q / 2)) in let n : digit_of q (triple_back q r) ≡ 3 * r = omega (arith, ints) in omega arith

thirds_again : (q : ℕ) (rs : List ℕ) → q % 6 ≡ 1 → map (λ d. digit_of q d / 3) (map (triple_back q) rs) ≡ rs
thirds_again q [] form = refl
thirds_again q (r ∷ rs) form = ap₂ (λ x xs. x ∷ xs) (third_again q r form) (thirds_again q rs form)

pub from_rounded_read : (s : Parameters) (bytes : List ℕ) (c : List ℤ) → IsSet s → rounded_read s bytes ≡ Some c → (length c ≡ s.p) × All (IsCentred (pos s.q)) c × (rounded_encoding s c ≡ bytes)
from_rounded_read s bytes c set e =
    let form = set.q_form in
    let parts = map_parts (map (triple_back s.q)) (mixed_read s.p ((s.q + 2) / 3) bytes) c e in
    let digits = from_mixed_read s.p ((s.q + 2) / 3) bytes parts.0 parts.1 in
    let all = All-map (IsCentred (pos s.q)) (triple_back s.q) parts.0
    (All-weaker (λ r. r < (s.q + 2) / 3) (λ r. IsCentred (pos s.q) (triple_back s.q r)) (λ r lt. triple_centred s.q r form lt) parts.0 digits.1.below) in (
      ap length (sym parts.2) ∙ length-map parts.0 (triple_back s.q) ∙ digits.0,
      subst (λ xs. All (IsCentred (pos s.q)) xs) parts.2 all,
      ap (λ x. mixed_encoding ((s.q + 2) / 3) (map (λ d. digit_of s.q d / 3) x)) (sym parts.2)
          ∙ ap (mixed_encoding ((s.q + 2) / 3)) (thirds_again s.q parts.0 form) ∙ digits.1.encoded,
    )

pub triples_from_rounded : (a r : List ℤ) → AreRounded a r → All IsTriple r
triples_from_rounded a r h =
    let l = h.len in
    All-from_get_or IsTriple r (pos 0) (λ k below. let e = h.each k (omega arith) in record { third = e.third; is = e.multiple })

-- lengths
pub length-small : (s : Parameters) (a : List ℤ) → IsSet s → length a ≡ s.p → length (small_encoding a) ≡ small_len s
length-small s a set len =
    let form = set.p_form in
    length-small_encoding a (omega arith) ∙ ap (λ n. n / 4 + 1) len

pub length-public : (s : Parameters) (h : List ℤ) → length h ≡ s.p → length (public_encoding s h) ≡ public_len s
length-public s h len = length-mixed_encoding s.q (map (digit_of s.q) h) ∙ ap (λ n. mixed_len n s.q) (length-map h (digit_of s.q) ∙ len)

pub length-core : (s : Parameters) (c : List ℤ) → length c ≡ s.p → length (rounded_encoding s c) ≡ core_len s
length-core s c len = length-mixed_encoding ((s.q + 2) / 3) (map (λ d. digit_of s.q d / 3) c) ∙ ap (λ n. mixed_len n ((s.q + 2) / 3)) (length-map c (λ d. digit_of s.q d / 3) ∙ len)
