-- Congruence of natural numbers.
use Rattle.std.proofs.Common.{◌≡◌, ℕ, zero, suc, ◌+◌, ◌-◌, ◌*◌, ◌/◌, ◌%◌, ◌<◌, ◌≤◌, ℤ, pos, ◌*ℤ◌, ap, subst, arith}
use Rattle.std.proofs.lemmas.Nat.{mul-le}
use Rattle.std.proofs.lemmas.Int.{ints}
use Rattle.std.proofs.Math.IntN.{pos-*ℤ-pos}
use Rattle.ring_poly.specs.Ring.{IsCongruent}
use Rattle.ring_poly.proofs.Congruences.{IsCongruent-same, IsCongruent-back, IsCongruent-then, IsCongruent-mul}

-- equal up to a multiple
pub congruent_by : (m x y k : ℕ) → x ≡ y + k * m → IsCongruent (pos m) (pos x) (pos y)
congruent_by m x y k e = record { factor = pos k; is = let p = pos-*ℤ-pos k m in omega (arith, ints) }

pub rest_congruent : (m x : ℕ) → IsCongruent (pos m) (pos (x % m)) (pos x)
rest_congruent m x = IsCongruent-back (pos m) (pos x) (pos (x % m)) (congruent_by m x (x % m) (x / m) (omega arith))

pub times_congruent : (m a x y : ℕ) → IsCongruent (pos m) (pos x) (pos y) → IsCongruent (pos m) (pos (a * x)) (pos (a * y))
times_congruent m a x y h =
    let P : ℤ → Type 0 = λ z. IsCongruent (pos m) z (pos (a * y)) in
    let Q : ℤ → Type 0 = λ z. IsCongruent (pos m) (pos a *ℤ pos x) z in
    subst P (pos-*ℤ-pos a x) (subst Q (pos-*ℤ-pos a y) (IsCongruent-mul (pos m) (pos a) (pos x) (pos y) h))

-- a product of two numbers below 4591
pub product_small : (a b : ℕ) → a ≤ 4590 → b ≤ 4590 → a * b ≤ 21068100
product_small a b p q = mul-le a b 4590 4590 p q

same_times : (a b c : ℕ) → a ≡ b → a * c ≡ b * c
same_times a b c e = ap (λ x. x * c) e

-- one step of the inversion
pub inversion_step : (m f a r : ℕ) → 0 < r → r < m → IsCongruent (pos m) (pos (f * a)) (pos r) → IsCongruent (pos m) (pos (f * (m - m / r) % m * a)) (pos (m % r))
inversion_step m f a (suc r) pos_r lt h =
    let q = m / suc r in
    let d = m - q in
    let whole : d + q ≡ m = omega arith in
    let row = same_times (d + q) m (suc r) whole in
    let left : pos (f * d % m * a) ≡ pos (a * (f * d % m)) = omega (arith, ints) in
    let right : pos (a * (f * d)) ≡ pos (d * (f * a)) = omega (arith, ints) in
    IsCongruent-then (pos m) _ (pos (a * (f * d % m))) _ (IsCongruent-same (pos m) _ _ left)
    (IsCongruent-then (pos m) _ (pos (a * (f * d))) _ (times_congruent m a (f * d % m) (f * d) (rest_congruent m (f * d)))
    (IsCongruent-then (pos m) _ (pos (d * (f * a))) _ (IsCongruent-same (pos m) _ _ right)
    (IsCongruent-then (pos m) _ (pos (d * suc r)) _ (times_congruent m d (f * a) (suc r) h)
    (congruent_by m (d * suc r) (m % suc r) r (omega arith)))))
inversion_step m f a zero pos_r lt h = absurd (omega arith)
