-- Polynomials coefficient by coefficient: congruence, sums, multiples, sizes and centred ones.
use Rattle.std.proofs.Common.{◌≡◌, ℕ, zero, suc, ◌+◌, ◌*◌, ◌<◌, List, [], ◌∷◌, length, ℤ, pos, negsuc, ◌+ℤ◌, ◌*ℤ◌, ◌<ℤ◌, refl, sym, ap, subst, ◌∙◌, ⊎_elim, All, arith}
use Rattle.std.proofs.lemmas.Int.{ints}
use Rattle.std.proofs.lemmas.Bool.{cases_lt}
use Rattle.std.proofs.lemmas.List.{get_or_past, ext_get_or, length-map, length-replicate, get_or-replicate}
use Rattle.std.proofs.lemmas.List.Elements.{All-get_or, All-from_get_or}
use Rattle.std.proofs.Math.IntN.{*ℤ_comm, *ℤ-zero, zero-*ℤ, pos-*ℤ-pos, negsuc-*ℤ-pos}
use Rattle.ring_poly.specs.Ring.{coefficient, product, IsCentred, IsCongruent, AreCongruent, IsWithin, AreRounded}
use Rattle.ring_poly.proofs.Integers.{Within-mul, Within-add}
use Rattle.ring_poly.proofs.Commutes.{product_comm}
use Rattle.ring_poly.proofs.Congruences.{IsCongruent-same, IsCongruent-back, IsCongruent-then, IsCongruent-add, IsCongruent-mul, IsCongruent-onto}
use Rattle.ring_solve.specs.Fields.{zero_of}
use Rattle.ring_laws.specs.Laws.{AreSmall, sum_of, multiple_of}
use Rattle.ring_laws.proofs.Turning.{length-sum_of, coefficient-sum_of, product_respects}

pub coefficient-zeros : (n k : ℕ) → coefficient (zero_of n) k ≡ pos 0
coefficient-zeros n k =
    let l = length-replicate n (pos 0) in
    ⊎_elim (λ lt. get_or-replicate n k (pos 0) (pos 0) lt) (λ ge. get_or_past (zero_of n) k (pos 0) (omega arith)) (cases_lt k n)

pub coefficient-multiple_of : (s : ℤ) (a : List ℤ) (k : ℕ) → coefficient (multiple_of s a) k ≡ s *ℤ coefficient a k
coefficient-multiple_of s [] k = sym (*ℤ-zero s)
coefficient-multiple_of s (c ∷ a) zero = refl
coefficient-multiple_of s (c ∷ a) (suc k) = coefficient-multiple_of s a k

pub length-multiple_of : (s : ℤ) (a : List ℤ) → length (multiple_of s a) ≡ length a
length-multiple_of s a = length-map a (λ d. s *ℤ d)

-- congruence
pub AreCongruent-same : (m : ℤ) (a : List ℤ) → AreCongruent m a a
AreCongruent-same m a = record { len = refl; each = λ k lt. IsCongruent-same m _ _ refl }

pub AreCongruent-back : (m : ℤ) (a b : List ℤ) → AreCongruent m a b → AreCongruent m b a
AreCongruent-back m a b h =
    let l = h.len in
    record { len = sym l; each = λ k lt. IsCongruent-back m _ _ (h.each k (omega arith)) }

pub AreCongruent-then : (m : ℤ) (a b c : List ℤ) → AreCongruent m a b → AreCongruent m b c → AreCongruent m a c
AreCongruent-then m a b c h g =
    let l = g.len in
    record { len = h.len ∙ l; each = λ k lt. IsCongruent-then m _ _ _ (h.each k (omega arith)) (g.each k lt) }

pub products_congruent : (p : ℕ) (m : ℤ) (a b c d : List ℤ) → AreCongruent m a b → AreCongruent m c d → AreCongruent m (product p a c) (product p b d)
products_congruent p m a b c d h g =
    AreCongruent-then m _ (product p a d) _ (product_respects p m a c d g)
    (let P : List ℤ → Type 0 = λ x. AreCongruent m x (product p b d) in subst P (product_comm p d a)
    (let Q : List ℤ → Type 0 = λ x. AreCongruent m (product p d a) x in subst Q (product_comm p d b) (product_respects p m d a b h)))

pub sums_congruent : (m : ℤ) (a b c d : List ℤ) → length a ≡ length c → AreCongruent m a b → AreCongruent m c d → AreCongruent m (sum_of a c) (sum_of b d)
sums_congruent m a b c d e h g =
    let hl = h.len in
    let gl = g.len in
    let f : length b ≡ length d = omega arith in
    let l1 = length-sum_of a c e in
    let l2 = length-sum_of b d f in
    record {
      len = omega arith;
      each = λ k lt.
          IsCongruent-then m _ (coefficient a k +ℤ coefficient c k) _ (IsCongruent-same m _ _ (coefficient-sum_of a c k e))
          (IsCongruent-onto m _ (coefficient b k +ℤ coefficient d k) _ (IsCongruent-add m _ _ _ _ (h.each k (omega arith)) (g.each k (omega arith))) (sym (coefficient-sum_of b d k f)));
    }

IsCongruent-times : (m s t x y : ℤ) → IsCongruent m s t → IsCongruent m x y → IsCongruent m (s *ℤ x) (t *ℤ y)
IsCongruent-times m s t x y h g =
    IsCongruent-then m _ (s *ℤ y) _ (IsCongruent-mul m s x y g)
    (IsCongruent-then m _ (y *ℤ s) _ (IsCongruent-same m _ _ (*ℤ_comm s y)) (IsCongruent-onto m _ (y *ℤ t) _ (IsCongruent-mul m y s t h) (*ℤ_comm y t)))

pub multiples_congruent : (m s t : ℤ) (a b : List ℤ) → IsCongruent m s t → AreCongruent m a b → AreCongruent m (multiple_of s a) (multiple_of t b)
multiples_congruent m s t a b h g =
    let l1 = length-multiple_of s a in
    let l2 = length-multiple_of t b in
    let l = g.len in
    record {
      len = omega arith;
      each = λ k lt.
          IsCongruent-then m _ (s *ℤ coefficient a k) _ (IsCongruent-same m _ _ (coefficient-multiple_of s a k))
          (IsCongruent-onto m _ (t *ℤ coefficient b k) _ (IsCongruent-times m s t _ _ h (g.each k (omega arith))) (sym (coefficient-multiple_of t b k)));
    }

-- m y more is the same modulo m
pub sum_with_multiple : (m : ℤ) (a b : List ℤ) → length a ≡ length b → AreCongruent m (sum_of a (multiple_of m b)) a
sum_with_multiple m a b e =
    let l = length-multiple_of m b in
    let f : length a ≡ length (multiple_of m b) = omega arith in
    record {
      len = length-sum_of a (multiple_of m b) f;
      each = λ k lt.
          record {
            factor = coefficient b k;
            is = coefficient-sum_of a (multiple_of m b) k f ∙ ap (λ x. coefficient a k +ℤ x) (coefficient-multiple_of m b k ∙ *ℤ_comm m (coefficient b k));
          };
    }

-- sums with 0
pub sum-zero : (p : ℕ) (a : List ℤ) → length a ≡ p → sum_of a (zero_of p) ≡ a
sum-zero p a len =
    let l = length-replicate p (pos 0) in
    let e : length a ≡ length (zero_of p) = omega arith in
    let s = length-sum_of a (zero_of p) e in
    ext_get_or (pos 0) (sum_of a (zero_of p)) a s (λ k below. let z = coefficient-zeros p k in let c = coefficient-sum_of a (zero_of p) k e in omega (arith, ints))

pub sum_comm : (a b : List ℤ) → length a ≡ length b → sum_of a b ≡ sum_of b a
sum_comm a b e =
    let l1 = length-sum_of a b e in
    let l2 = length-sum_of b a (sym e) in
    ext_get_or (pos 0) (sum_of a b) (sum_of b a) (omega arith) (λ k below.
    let x = coefficient-sum_of a b k e in
    let y = coefficient-sum_of b a k (sym e) in
    omega (arith, ints))

-- sizes
pub sum_within : (v w : ℕ) (a b : List ℤ) → length a ≡ length b → All (IsWithin v) a → All (IsWithin w) b → All (IsWithin (v + w)) (sum_of a b)
sum_within v w a b e h g =
    let l = length-sum_of a b e in
    All-from_get_or (IsWithin (v + w)) (sum_of a b) (pos 0) (λ k below.
    let P : ℤ → Type 0 = λ c. IsWithin (v + w) c in
    subst P (sym (coefficient-sum_of a b k e))
    (Within-add v w _ _ (All-get_or (IsWithin v) a k (pos 0) (omega arith) h) (All-get_or (IsWithin w) b k (pos 0) (omega arith) g)))

pub multiple_within : (s w : ℕ) (a : List ℤ) → All (IsWithin w) a → All (IsWithin (s * w)) (multiple_of (pos s) a)
multiple_within s w a h =
    let l = length-multiple_of (pos s) a in
    All-from_get_or (IsWithin (s * w)) (multiple_of (pos s) a) (pos 0) (λ k below.
    let P : ℤ → Type 0 = λ c. IsWithin (s * w) c in
    subst P (sym (coefficient-multiple_of (pos s) a k))
    (Within-mul s w (pos s) _ (omega (arith, ints), omega (arith, ints)) (All-get_or (IsWithin w) a k (pos 0) (omega arith) h)))

-- centred polynomials
pub centred_from_within : (m : ℤ) (w : ℕ) (a : List ℤ) → pos (2 * w) <ℤ m → All (IsWithin w) a → All (IsCentred m) a
centred_from_within m w a lt h =
    All-from_get_or (IsCentred m) a (pos 0) (λ k below.
    let c = All-get_or (IsWithin w) a k (pos 0) below h in
    let lo = c.0 in let hi = c.1 in
    (omega (arith, ints), omega (arith, ints)))

zeros_centred : (p : ℕ) (m : ℤ) → pos 0 <ℤ m → All (IsCentred m) (zero_of p)
zeros_centred p m some =
    All-from_get_or (IsCentred m) (zero_of p) (pos 0) (λ k below.
    let z = coefficient-zeros p k in
    (omega (arith, ints), omega (arith, ints)))

pub centred_equal : (m c d : ℤ) → IsCentred m c → IsCentred m d → IsCongruent m c d → c ≡ d
centred_equal (pos m) c d v w h = by_factor h.factor h.is
  where
    by_factor : (k : ℤ) → c ≡ d +ℤ k *ℤ pos m → c ≡ d
    by_factor (pos zero) e = let z = zero-*ℤ (pos m) in omega (arith, ints)
    by_factor (pos (suc n)) e = let t = pos-*ℤ-pos (suc n) m in let high = v.1 in let low = w.0 in absurd (omega (arith, ints))
    by_factor (negsuc n) e = let t = negsuc-*ℤ-pos n m in let low = v.0 in let high = w.1 in absurd (omega (arith, ints))
centred_equal (negsuc m) c d v w h = let low = v.0 in let high = v.1 in absurd (omega (arith, ints))

pub centred_same : (m : ℤ) (a b : List ℤ) → All (IsCentred m) a → All (IsCentred m) b → AreCongruent m a b → a ≡ b
centred_same m a b v w h =
    let l = h.len in
    ext_get_or (pos 0) a b l (λ k below.
    centred_equal m _ _ (All-get_or (IsCentred m) a k (pos 0) below v) (All-get_or (IsCentred m) b k (pos 0) (omega arith) w) (h.each k (omega arith)))

-- a centred polynomial that isn't 0 isn't 0 modulo m either
pub centred_nonzero : (p : ℕ) (m : ℤ) (z : List ℤ) → 0 < p → length z ≡ p → All (IsCentred m) z → (z ≡ zero_of p → ⊥) → AreCongruent m z (zero_of p) → ⊥
centred_nonzero p m z some len v nonzero h =
    let first = All-get_or (IsCentred m) z 0 (pos 0) (omega arith) v in
    let lo = first.0 in let hi = first.1 in
    nonzero (centred_same m z (zero_of p) v (zeros_centred p m (omega (arith, ints))) h)

-- rounding
pub rounded_congruent : (a r : List ℤ) → AreRounded a r → AreCongruent (pos 3) r (zero_of (length a))
rounded_congruent a r h =
    let l = h.len in
    let z = length-replicate (length a) (pos 0) in
    record {
      len = omega arith;
      each = λ k lt.
          let here = h.each k (omega arith) in
          let e = here.multiple in
          let zero_here = coefficient-zeros (length a) k in
          let t = *ℤ_comm (pos 3) here.third in
          record { factor = here.third; is = omega (arith, ints) };
    }

pub rounded_error : (a r : List ℤ) → AreRounded a r → (e : List ℤ) × (length e ≡ length a) × AreSmall e × (r ≡ sum_of a e)
rounded_error a r h =
    let l = h.len in
    let minus = multiple_of (negsuc 0) a in
    let lm = length-multiple_of (negsuc 0) a in
    let f : length r ≡ length minus = omega arith in
    let error = sum_of r minus in
    let le = length-sum_of r minus f in
    let g : length a ≡ length error = omega arith in
    let ls = length-sum_of a error g in
    let at : (k : ℕ) → coefficient error k ≡ coefficient r k +ℤ negsuc 0 *ℤ coefficient a k = λ k.
    coefficient-sum_of r minus k f ∙ ap (λ x. coefficient r k +ℤ x) (coefficient-multiple_of (negsuc 0) a k) in (
      error,
      omega arith,
      All-from_get_or (IsWithin 1) error (pos 0) (λ k below.
          let here = (h.each k (omega arith)).near in
          let lo = here.0 in let hi = here.1 in
          let e = at k in
          (omega (arith, ints), omega (arith, ints))),
      ext_get_or (pos 0) r (sum_of a error) (omega arith) (λ k below.
          let e = at k in
          let s = coefficient-sum_of a error k g in
          omega (arith, ints)),
    )
