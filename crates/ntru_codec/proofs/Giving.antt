-- What the plain program gives off, step by step, and its rows.
use Rattle.std.proofs.Common.{◌≡◌, ℕ, zero, suc, ◌+◌, ◌*◌, ◌/◌, ◌%◌, ◌^◌, ◌<◌, ◌≤◌, List, [], ◌∷◌, ◌++◌, length, map, drop, get_or, refl, sym, ap, ◌∙◌, arith, append_assoc, append-nil, subst, All}
use Rattle.std.specs.Int.{div_ceil}
use Rattle.std.specs.Prelude.{Result}
use Rattle.std.specs.Result.{OnOk}
use Rattle.std.proofs.lemmas.Result.{on_ok_weaker}
use Rattle.std.proofs.Math.Nat.{pow-suc}
use Rattle.std.proofs.lemmas.List.{length-map, get_or-map}
use Rattle.ntru_codec.specs.Mixed.{digit, digits, joined, given_off, left_over, round_bytes, next_round, encoding}
use Rattle.ntru_codec.specs.Digits.{digits_at, IsDigit, AreDigits}
use Rattle.ntru_codec.proofs.Bytes.{given_off-more, given_off-none, left_over-more, left_over-none}
use Rattle.ntru_codec.proofs.Coding.{length-next_round, encoding-one}

-- what has been given off behind `old`, and what is still to come in n steps at most
pub record Giving (limit v m : ℕ) (old bytes : List ℕ) (n rest left : ℕ) : Type 0 where
  pub gives : bytes ++ given_off n limit (digit rest left) ≡ old ++ given_off 4 limit (digit v m)
  pub leaves : left_over n limit (digit rest left) ≡ left_over 4 limit (digit v m)
  pub fits : left ≤ 256 ^ n
  pub below : rest < left

pub Giving-start : (limit v m : ℕ) (old : List ℕ) → v < m → m < 2 ^ 32 → (n : ℕ) × Giving limit v m old old n v m
Giving-start limit v m old below fit = (4, record { gives = refl; leaves = refl; fits = omega arith; below = below })

pub Giving-step : (limit v m : ℕ) (old bytes : List ℕ) (rest left : ℕ) → 2 ≤ limit → limit ≤ left → (n : ℕ) → Giving limit v m old bytes n rest left
    → (r : ℕ) × Giving limit v m old (bytes ++ rest % 256 ∷ []) r (rest / 256) (div_ceil left 256)
Giving-step limit v m old bytes rest left two more zero g = let h : left ≤ 1 = g.fits in absurd (omega arith)
Giving-step limit v m old bytes rest left two more (suc r) g =
    let up : (left + 255) / 256 ≡ div_ceil left 256 = omega arith in
    let fit : left ≤ 256 ^ r * 256 = subst (λ n. left ≤ n) (pow-suc 256 r) g.fits in
    let low = g.below in (
      r,
      record {
        gives =
            append_assoc bytes (rest % 256 ∷ []) (given_off r limit (digit (rest / 256) (div_ceil left 256)))
            ∙ ap (λ x. bytes ++ rest % 256 ∷ given_off r limit (digit (rest / 256) x)) (sym up)
            ∙ ap (λ xs. bytes ++ xs) (sym (given_off-more r limit rest left more))
            ∙ g.gives;
        leaves =
            ap (λ x. left_over r limit (digit (rest / 256) x)) (sym up)
            ∙ sym (left_over-more r limit rest left more)
            ∙ g.leaves;
        fits = omega arith;
        below = omega arith;
      },
    )

pub Giving-bytes : (limit v m : ℕ) (old bytes : List ℕ) (n rest left : ℕ) → left < limit → Giving limit v m old bytes n rest left → bytes ≡ old ++ given_off 4 limit (digit v m)
Giving-bytes limit v m old bytes n rest left low g = sym (append-nil bytes) ∙ ap (λ xs. bytes ++ xs) (sym (given_off-none n limit rest left low)) ∙ g.gives

pub Giving-left : (limit v m : ℕ) (old bytes : List ℕ) (n rest left : ℕ) → left < limit → Giving limit v m old bytes n rest left → digit rest left ≡ left_over 4 limit (digit v m)
Giving-left limit v m old bytes n rest left low g = sym (left_over-none n limit rest left low) ∙ g.leaves

-- a round of no digit, of one and of more
pub round_of_none : (ds : List (ℕ × ℕ)) → length ds ≡ 0 → (round_bytes (digits_at ds) ≡ []) × (next_round (digits_at ds) ≡ [])
unfolding round_bytes next_round
round_of_none [] h = (refl, refl)
round_of_none (x ∷ ds) h = absurd (omega arith)

pub round_of_one : (ds : List (ℕ × ℕ)) (d : ℕ × ℕ) → length ds ≡ 1 → (round_bytes (digits_at ds) ≡ []) × (next_round (digits_at ds) ≡ digits_at (get_or ds 0 d ∷ []))
unfolding round_bytes next_round
round_of_one [] d h = absurd (omega arith)
round_of_one (x ∷ []) d h = (refl, refl)
round_of_one (x ∷ y ∷ ds) d h = absurd (omega arith)

pub round_of_more : (ds : List (ℕ × ℕ)) (d b : ℕ × ℕ) → 2 ≤ length ds → digit b.0 b.1 ≡ joined (digit (get_or ds 0 d).0 (get_or ds 0 d).1) (digit (get_or ds 1 d).0 (get_or ds 1 d).1)
    → (round_bytes (digits_at ds) ≡ given_off 4 16384 (digit b.0 b.1) ++ round_bytes (digits_at (drop 2 ds)))
    × (next_round (digits_at ds) ≡ left_over 4 16384 (digit b.0 b.1) ∷ next_round (digits_at (drop 2 ds)))
unfolding round_bytes next_round
round_of_more [] d b h e = absurd (omega arith)
round_of_more (x ∷ []) d b h e = absurd (omega arith)
round_of_more (x ∷ y ∷ ds) d b h e = (
  ap (λ j. given_off 4 16384 j ++ round_bytes (digits_at ds)) (sym e),
  ap (λ j. left_over 4 16384 j ∷ next_round (digits_at ds)) (sym e),
)

-- digits of one modulus
pub digits_at-equal : (m : ℕ) (rs : List ℕ) → digits_at (map (λ r. (r, m)) rs) ≡ digits m rs
digits_at-equal m [] = refl
digits_at-equal m (r ∷ rs) = ap (λ ds. digit r m ∷ ds) (digits_at-equal m rs)

pub AreDigits-equal : (m : ℕ) (rs : List ℕ) → m < 2 ^ 16 → All (λ r. r < m) rs → AreDigits (map (λ r. (r, m)) rs)
AreDigits-equal m rs fit h = λ k d lt.
    let f : ℕ → ℕ × ℕ = λ r. (r, m) in
    let l : length (map f rs) ≡ length rs = length-map rs f in
    let below : k < length rs = subst (λ n. k < n) l lt in
    let e : get_or (map f rs) k d ≡ (get_or rs k 0, m) = get_or-map f rs k 0 d below in
    let P : ℕ × ℕ → Type 0 = λ x. IsDigit x in
    subst P (sym e) (h k 0 below, fit)

pub encoding_of_one : (ds : List (ℕ × ℕ)) (d : ℕ × ℕ) → length ds ≡ 1 → encoding (digits_at ds) ≡ given_off 4 2 (digit (get_or ds 0 d).0 (get_or ds 0 d).1)
encoding_of_one [] d h = absurd (omega arith)
encoding_of_one (x ∷ []) d h = encoding-one (digit x.0 x.1)
encoding_of_one (x ∷ y ∷ ds) d h = absurd (omega arith)

pub length_left : (left row : List (ℕ × ℕ)) → digits_at left ≡ next_round (digits_at row) → length left ≡ (length row + 1) / 2
length_left left row e =
    let l : length (digits_at left) ≡ length left = length-map left (λ d. digit d.0 d.1) in
    let r : length (digits_at row) ≡ length row = length-map row (λ d. digit d.0 d.1) in
    let n = length-next_round (digits_at row) in
    let same : length (digits_at left) ≡ length (next_round (digits_at row)) = ap length e in
    omega arith

pub OnOk-onto : {T E : Type 0} (r : Result T E) (P Q : Type 0) → OnOk r P → (P → Q) → OnOk r Q
OnOk-onto r P Q h f = on_ok_weaker r f h
