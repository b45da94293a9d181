-- The moduli are primes.
use Rattle.std.proofs.Common.{◌≡◌, ℕ, zero, suc, ◌+◌, ◌*◌, ◌/◌, ◌%◌, ◌<◌, ◌≤◌, Bool, true, ◌&&◌, nat_lt, ⊎_elim, ℤ, pos, refl, sym, ap, subst, ◌∙◌, arith}
use Rattle.std.proofs.lemmas.Int.{ints}
use Rattle.std.proofs.lemmas.Bool.{and_parts, cases_lt}
use Rattle.std.proofs.lemmas.Bool.Decides.{nat_tests}
use Rattle.std.proofs.lemmas.Nat.{mul-le}
use native.Mathlib.Nat.{add-mul-mod_self_right}
use Rattle.ring_poly.specs.Ring.{IsModulus}
use Rattle.ring_solve.specs.Elimination.{IsPrime}
use Rattle.ring_solve.specs.Fields.{IsField}

-- no number from 2 to b divides m
no_divisor : ℕ → ℕ → Bool
no_divisor m zero = true
no_divisor m (suc zero) = true
no_divisor m (suc (suc j)) = nat_lt 0 (m % suc (suc j)) && no_divisor m (suc j)

tested : (m b : ℕ) → no_divisor m b ≡ true → (k : ℕ) → 1 < k → k ≤ b → 0 < m % k
unfolding no_divisor
tested m zero e k lt le = absurd (omega arith)
tested m (suc zero) e k lt le = absurd (omega arith)
tested m (suc (suc j)) e k lt le =
    let parts = and_parts (nat_lt 0 (m % suc (suc j))) (no_divisor m (suc j)) e in
    ⊎_elim (λ below. tested m (suc j) parts.1 k lt (omega arith))
    (λ at. let same : suc (suc j) ≡ k = omega arith in
    subst (λ (i : ℕ). 0 < m % i) same (positive (m % suc (suc j)) parts.0))
    (cases_lt k (suc (suc j)))
  where
    positive : (n : ℕ) → nat_lt 0 n ≡ true → 0 < n
    positive n e = grind (arith, nat_tests)

divides_back : (m k q : ℕ) → m ≡ 0 + k * q → m % q ≡ 0
divides_back m k q e = ap (λ n. n % q) e ∙ add-mul-mod_self_right 0 k q ∙ omega arith

prime_from_test : (m b : ℕ) → 0 < m → m < (b + 1) * (b + 1) → no_divisor m b ≡ true → IsPrime m
prime_from_test m b some lt e k low high = ⊎_elim
    (λ none.
    let q = m / k in
    let whole : m ≡ 0 + k * q = omega arith in
    let small : q ≤ b = ⊎_elim (λ below. let r : q ≤ b = omega arith in r)
    (λ above. ⊎_elim (λ left. let t = tested m b e k low (omega arith) in absurd (omega arith))
    (λ right. absurd (omega (arith, mul-le (b + 1) (b + 1) k q (omega arith) (omega arith)))) (cases_lt k (b + 1)))
    (cases_lt q (b + 1)) in
    let proper : 1 < q = ⊎_elim (λ one. one) (λ few. ⊎_elim (λ zero_q. let w : m ≡ 0 + k * 0 = whole ∙ ap (λ n. 0 + k * n) (let z : q ≡ 0 = omega arith in z) in absurd (omega arith))
    (λ one_q. let w : m ≡ 0 + k * 1 = whole ∙ ap (λ n. 0 + k * n) (let o : q ≡ 1 = omega arith in o) in absurd (omega arith)) (cases_lt q 1)) (cases_lt 1 q) in
    let t = tested m b e q proper small in
    let z = divides_back m k q whole in
    absurd (omega arith))
    (λ rest. rest)
    (cases_lt (m % k) 1)

pub field_prime : (m : ℕ) (q : ℤ) → pos m ≡ q → IsField q → IsPrime m
unfolding no_divisor
field_prime m q e f = ⊎_elim
    (λ three. let P : ℕ → Type 0 = λ n. IsPrime n in subst P (let i : 3 ≡ m = omega (arith, ints) in i) (prime_from_test 3 1 (omega arith) (omega arith) refl))
    (λ others. ⊎_elim
    (λ middle. let P : ℕ → Type 0 = λ n. IsPrime n in subst P (let i : 127 ≡ m = omega (arith, ints) in i) (prime_from_test 127 11 (omega arith) (omega arith) refl))
    (λ large. let P : ℕ → Type 0 = λ n. IsPrime n in subst P (let i : 4591 ≡ m = omega (arith, ints) in i) (prime_from_test 4591 67 (omega arith) (omega arith) refl))
    others)
    f

pub field_modulus : (q : ℤ) → IsField q → IsModulus q
field_modulus q f = ⊎_elim
    (λ three. subst IsModulus (sym three) (record { odd = refl; least = omega (arith, ints); most = omega (arith, ints) }))
    (λ others. ⊎_elim
    (λ middle. subst IsModulus (sym middle) (record { odd = refl; least = omega (arith, ints); most = omega (arith, ints) }))
    (λ large. subst IsModulus (sym large) (record { odd = refl; least = omega (arith, ints); most = omega (arith, ints) }))
    others)
    f
