-- What single digits give off, and what stays of them.
use Rattle.std.proofs.Common.{◌≡◌, ℕ, zero, suc, ◌+◌, ◌-◌, ◌*◌, ◌/◌, ◌%◌, ◌^◌, ◌<◌, ◌≤◌, List, [], ◌∷◌, ◌++◌, length, drop, get_or, refl, sym, ap, ◌∙◌, arith, append_assoc, append-nil, add-one, subst, add-suc}
use Rattle.std.specs.Int.{div_ceil}
use Rattle.std.proofs.lemmas.Bool.Decides.{nat_tests}
use Rattle.std.proofs.lemmas.Nat.{pow-add}
use Rattle.std.proofs.lemmas.List.{drop_more, drop_all}
use Rattle.std.proofs.Math.Nat.{div-div-eq-div-mul, pow-succ', pow-suc, div-one, mul-le-mul_left, mul-le-mul_right, pow-le-pow_right, mul_assoc}
use Rattle.ntru_codec.specs.Mixed.{digit, given_off, left_over}
use Rattle.ntru_codec.specs.Rows.{low_bytes, Shrinks}

pub shifted : (k v : ℕ) → v / 256 / 256 ^ k ≡ v / 256 ^ suc k
shifted k v = div-div-eq-div-mul v 256 (256 ^ k) ∙ ap (λ d. v / d) (sym (pow-succ' 256 k))

-- one byte more is left out
pub shifted_more : (k v : ℕ) → v / 256 ^ k / 256 ≡ v / 256 ^ (k + 1)
shifted_more k v =
    div-div-eq-div-mul v (256 ^ k) 256 ∙ ap (λ d. v / d) (sym (pow-suc 256 k) ∙ ap (λ n. 256 ^ n) (sym (add-one k)))

-- the byte behind the k lowest
low_bytes-suc : (k v : ℕ) → low_bytes (suc k) v ≡ low_bytes k v ++ (v / 256 ^ k) % 256 ∷ []
unfolding low_bytes
low_bytes-suc zero v = ap (λ w. w % 256 ∷ []) (sym (div-one v))
low_bytes-suc (suc k) v =
    ap (λ xs. v % 256 ∷ xs) (low_bytes-suc k (v / 256) ∙ ap (λ w. low_bytes k (v / 256) ++ w % 256 ∷ []) (shifted k v))

pub low_bytes_more : (k v : ℕ) → low_bytes (k + 1) v ≡ low_bytes k v ++ (v / 256 ^ k) % 256 ∷ []
low_bytes_more k v = ap (λ n. low_bytes n v) (add-one k) ∙ low_bytes-suc k v

pub length-low_bytes : (k v : ℕ) → length (low_bytes k v) ≡ k
unfolding low_bytes
length-low_bytes zero v = refl
length-low_bytes (suc k) v = ap suc (length-low_bytes k (v / 256))

pub low_bytes_none : (v : ℕ) → low_bytes 0 v ≡ []
unfolding low_bytes
low_bytes_none v = refl

-- the bytes of a number above which a lowest byte is put
pub low_bytes_onto : (k v b : ℕ) → b < 256 → low_bytes (k + 1) (v * 256 + b) ≡ b ∷ low_bytes k v
unfolding low_bytes
low_bytes_onto k v b h =
    let low : (v * 256 + b) % 256 ≡ b = omega arith in
    let high : (v * 256 + b) / 256 ≡ v = omega arith in
    ap (λ n. low_bytes n (v * 256 + b)) (add-one k) ∙ ap (λ x. x ∷ low_bytes k ((v * 256 + b) / 256)) low ∙ ap (λ w. b ∷ low_bytes k w) high

pub shifted_onto : (k v b : ℕ) → b < 256 → (v * 256 + b) / 256 ^ (k + 1) ≡ v / 256 ^ k
shifted_onto k v b h =
    let high : (v * 256 + b) / 256 ≡ v = omega arith in
    ap (λ n. (v * 256 + b) / 256 ^ n) (add-one k) ∙ sym (shifted k (v * 256 + b)) ∙ ap (λ w. w / 256 ^ k) high

-- a number is known by the bytes that it gives off and what stays of it
pub same_value : (k v w : ℕ) → low_bytes k v ≡ low_bytes k w → v / 256 ^ k ≡ w / 256 ^ k → v ≡ w
unfolding low_bytes
same_value zero v w low high = sym (div-one v) ∙ high ∙ div-one w
same_value (suc k) v w low high =
    let first : v % 256 ≡ w % 256 = cc in
    let others : low_bytes k (v / 256) ≡ low_bytes k (w / 256) = cc in
    let rest = same_value k (v / 256) (w / 256) others (shifted k v ∙ high ∙ sym (shifted k w)) in
    omega (arith, first, rest)

-- what a digit has given off so far, and what is still to come in `rest` steps at most
pub record Shrinking (limit m bytes rest left : ℕ) : Type 0 where
  pub gives_off : (v : ℕ) → given_off 4 limit (digit v m) ≡ low_bytes bytes v ++ given_off rest limit (digit (v / 256 ^ bytes) left)
  pub leaves : (v : ℕ) → left_over 4 limit (digit v m) ≡ left_over rest limit (digit (v / 256 ^ bytes) left)
  pub covers : m ≤ left * 256 ^ bytes
  pub fits : left ≤ 256 ^ rest
  pub total : bytes + rest ≡ 4

pub Shrinking-start : (limit m : ℕ) → m < 2 ^ 32 → (rest : ℕ) × Shrinking limit m 0 rest m
unfolding low_bytes
Shrinking-start limit m h = (
  4,
  record {
    gives_off = λ v. ap (λ w. given_off 4 limit (digit w m)) (sym (div-one v));
    leaves = λ v. ap (λ w. left_over 4 limit (digit w m)) (sym (div-one v));
    covers = omega arith;
    fits = omega arith;
    total = refl;
  },
)

pub given_off-more : (r limit w m : ℕ) → limit ≤ m → given_off (suc r) limit (digit w m) ≡ w % 256 ∷ given_off r limit (digit (w / 256) ((m + 255) / 256))
unfolding given_off
given_off-more r limit w m h = grind (arith, nat_tests)

pub given_off-none : (r limit w m : ℕ) → m < limit → given_off r limit (digit w m) ≡ []
unfolding given_off
given_off-none zero limit w m h = refl
given_off-none (suc r) limit w m h = grind (arith, nat_tests)

pub left_over-more : (r limit w m : ℕ) → limit ≤ m → left_over (suc r) limit (digit w m) ≡ left_over r limit (digit (w / 256) ((m + 255) / 256))
unfolding left_over
left_over-more r limit w m h = grind (arith, nat_tests)

pub left_over-none : (r limit w m : ℕ) → m < limit → left_over r limit (digit w m) ≡ digit w m
unfolding left_over
left_over-none zero limit w m h = refl
left_over-none (suc r) limit w m h = grind (arith, nat_tests)

pub Shrinking-step : (limit m b left : ℕ) → 2 ≤ limit → limit ≤ left → (rest : ℕ) → Shrinking limit m b rest left → (r : ℕ) × Shrinking limit m (b + 1) r (div_ceil left 256)
Shrinking-step limit m b left two more zero s = let h : left ≤ 1 = s.fits in absurd (omega arith)
Shrinking-step limit m b left two more (suc r) s =
    let up : (left + 255) / 256 ≡ div_ceil left 256 = omega arith in
    let wide : left ≤ div_ceil left 256 * 256 = omega arith in
    let fit : left ≤ 256 ^ r * 256 = subst (λ n. left ≤ n) (pow-suc 256 r) s.fits in (
      r,
      record {
        gives_off = λ v.
            s.gives_off v ∙ ap (λ xs. low_bytes b v ++ xs) (given_off-more r limit (v / 256 ^ b) left more)
            ∙ sym (append_assoc (low_bytes b v) ((v / 256 ^ b) % 256 ∷ []) (given_off r limit (digit (v / 256 ^ b / 256) ((left + 255) / 256))))
            ∙ ap (λ xs. xs ++ given_off r limit (digit (v / 256 ^ b / 256) ((left + 255) / 256))) (sym (low_bytes_more b v))
            ∙ ap (λ w. low_bytes (b + 1) v ++ given_off r limit (digit w ((left + 255) / 256))) (shifted_more b v)
            ∙ ap (λ m'. low_bytes (b + 1) v ++ given_off r limit (digit (v / 256 ^ (b + 1)) m')) up;
        leaves = λ v.
            s.leaves v ∙ left_over-more r limit (v / 256 ^ b) left more
            ∙ ap (λ w. left_over r limit (digit w ((left + 255) / 256))) (shifted_more b v)
            ∙ ap (λ m'. left_over r limit (digit (v / 256 ^ (b + 1)) m')) up;
        covers =
            let e : div_ceil left 256 * 256 * 256 ^ b ≡ div_ceil left 256 * 256 ^ (b + 1) = mul_assoc (div_ceil left 256) 256 (256 ^ b) ∙ ap (λ n. div_ceil left 256 * n) (sym (pow-succ' 256 b) ∙ ap (λ n. 256 ^ n) (sym (add-one b))) in
            omega (arith, s.covers, mul-le-mul_right (256 ^ b) wide, e);
        fits = omega arith;
        total = omega (arith, s.total, add-suc b r);
      },
    )

pub Shrinking-end : (limit m b left : ℕ) → left < limit → (rest : ℕ) → Shrinking limit m b rest left → Shrinks limit m b left
Shrinking-end limit m b left less rest s = record {
  gives_off = λ v. s.gives_off v ∙ ap (λ xs. low_bytes b v ++ xs) (given_off-none rest limit (v / 256 ^ b) left less) ∙ append-nil (low_bytes b v);
  leaves = λ v. s.leaves v ∙ left_over-none rest limit (v / 256 ^ b) left less;
  covers = s.covers;
  fits =
      let four : rest + b ≡ 4 = omega (arith, s.total) in
      let e : 256 ^ rest * 256 ^ b ≡ 2 ^ 32 = sym (pow-add 256 rest b) ∙ ap (λ n. 256 ^ n) four in
      omega (arith, mul-le-mul_right (256 ^ b) s.fits, e);
  below = less;
  few = omega (arith, s.total);
}

-- there is room for one byte more
pub room_one : (v n : ℕ) → 0 < n → (v + 1) * 256 ^ n ≤ 2 ^ 32 → (v + 1) * 256 ≤ 2 ^ 32
room_one v n above fits =
    let one : 256 ^ 1 ≤ 256 ^ n = pow-le-pow_right {n = 256} (omega arith) {i = 1} {j = n} above in
    omega (arith, fits, mul-le-mul_left (v + 1) one)

pub room_after : (v n b : ℕ) → b < 256 → 0 < n → (v + 1) * 256 ^ n ≤ 2 ^ 32 → (v * 256 + b + 1) * 256 ^ (n - 1) ≤ 2 ^ 32
room_after v zero b byte above fits = absurd (omega arith)
room_after v (suc n) b byte above fits =
    let less : v * 256 + b + 1 ≤ (v + 1) * 256 = omega arith in
    let e : (v + 1) * 256 * 256 ^ n ≡ (v + 1) * 256 ^ suc n = mul_assoc (v + 1) 256 (256 ^ n) ∙ ap (λ m. (v + 1) * m) (sym (pow-succ' 256 n)) in
    let back : suc n - 1 ≡ n = omega arith in
    subst (λ m. (v * 256 + b + 1) * 256 ^ m ≤ 2 ^ 32) (sym back) (omega (arith, fits, mul-le-mul_right (256 ^ n) less, e))

-- the element before the last i
pub drop_before : (xs : List ℕ) (i : ℕ) → i < length xs → drop (length xs - (i + 1)) xs ≡ get_or xs (length xs - 1 - i) 0 ∷ drop (length xs - i) xs
drop_before xs i h =
    let at : length xs - (i + 1) ≡ length xs - 1 - i = omega arith in
    let next : length xs - (i + 1) + 1 ≡ length xs - i = omega arith in
    drop_more xs (length xs - (i + 1)) 0 (omega arith)
    ∙ ap (λ n. get_or xs n 0 ∷ drop (length xs - (i + 1) + 1) xs) at
    ∙ ap (λ n. get_or xs (length xs - 1 - i) 0 ∷ drop n xs) next

-- taking bytes back: `v` has the last i bytes already
pub record TakesBack (bytes : List ℕ) (left i v : ℕ) : Type 0 where
  pub low : low_bytes i v ≡ drop (length bytes - i) bytes
  pub high : v / 256 ^ i ≡ left
  pub fits : (v + 1) * 256 ^ (length bytes - i) ≤ 2 ^ 32

pub TakesBack-start : (bytes : List ℕ) (left : ℕ) → (left + 1) * 256 ^ length bytes ≤ 2 ^ 32 → TakesBack bytes left 0 left
TakesBack-start bytes left h =
    let all : length bytes - 0 ≡ length bytes = omega arith in
    record {
      low = low_bytes_none left ∙ sym (drop_all (length bytes - 0) bytes (omega arith));
      high = div-one left;
      fits = subst (λ n. (left + 1) * 256 ^ n ≤ 2 ^ 32) (sym all) h;
    }

pub TakesBack-step : (bytes : List ℕ) (left i v b : ℕ) → i < length bytes → b < 256 → b ≡ get_or bytes (length bytes - 1 - i) 0 → TakesBack bytes left i v → TakesBack bytes left (i + 1) (v * 256 + b)
TakesBack-step bytes left i v b within byte is t =
    let back : length bytes - i - 1 ≡ length bytes - (i + 1) = omega arith in
    record {
      low = low_bytes_onto i v b byte ∙ ap (λ xs. b ∷ xs) t.low ∙ ap (λ x. x ∷ drop (length bytes - i) bytes) is ∙ sym (drop_before bytes i within);
      high = shifted_onto i v b byte ∙ t.high;
      fits = subst (λ n. (v * 256 + b + 1) * 256 ^ n ≤ 2 ^ 32) back (room_after v (length bytes - i) b byte (omega arith) t.fits);
    }

pub TakesBack-end : (bytes : List ℕ) (left i v : ℕ) → length bytes ≡ i → TakesBack bytes left i v → (low_bytes (length bytes) v ≡ bytes) × (v / 256 ^ length bytes ≡ left)
TakesBack-end bytes left i v all t =
    let none : length bytes - i ≡ 0 = omega arith in
    let whole : low_bytes i v ≡ bytes = t.low ∙ ap (λ n. drop n bytes) none in
    (subst (λ n. low_bytes n v ≡ bytes) (sym all) whole, subst (λ n. v / 256 ^ n ≡ left) (sym all) t.high)
