-- The inverse modulo m that `inverse_mod` names.
use Rattle.std.proofs.Common.{◌≡◌, ℕ, suc, ◌+◌, ◌-◌, ◌/◌, ◌%◌, ◌<◌, true, Option, Some, None, List, length, replicate, All, ℤ, pos, negsuc, ◌-ℤ◌, refl, subst, arith}
use Rattle.std.specs.List.{range_with_len}
use Rattle.std.specs.Ordering.{int_eq}
use Rattle.std.specs.Bool.{Decides}
use Rattle.std.specs.Cmp.Lexicographic.{pointwise}
use Rattle.std.proofs.lemmas.Int.{ints}
use Rattle.std.proofs.lemmas.Bool.Decides.{Decides-int_eq}
use Rattle.std.proofs.lemmas.Slice.Eq.{slice_eq-Decides}
use Rattle.std.proofs.lemmas.List.Elements.{All-cons, All-replicate, All-weaker}
use Rattle.ring_poly.specs.Ring.{product, IsCentred, AreCongruent}
use Rattle.ring_solve.specs.Fields.{one}
use Rattle.ring_solve.specs.Solutions.{Solves, coefficients_of}
use Rattle.ring_solve.specs.declared.answer.Solved.{Solved}
use Rattle.ring_solve.specs.declared.answer.Solved.TheVariants.{Inverse, Kernel}
use Rattle.ring_laws.specs.Laws.{HasInverse}
use Rattle.ring_laws.proofs.Polynomials.{AreCongruent-back, centred_nonzero}
use Rattle.ring_laws.proofs.Inverses.{inverses_equal, kernel_excludes}
use Rattle.ntru_model.specs.Residues.{product_mod, centred_numbers, inverse_mod}
use Rattle.ntru_model.specs.Search.{lists_of}
use Rattle.ntru_model.proofs.Search.{Occurs, occurs_map, from_map, occurs_below, from_below, listed, from_listed, found, not_found, from_found}
use Rattle.ntru_model.proofs.Residues.{product_mod_is, product_mod_congruent}

pub same_numbers : (xs ys : List ℤ) → Decides (pointwise int_eq xs ys) (xs ≡ ys)
same_numbers xs ys = slice_eq-Decides Decides-int_eq xs ys (pointwise int_eq xs ys) refl

place_of : (m : ℕ) (c : ℤ) → m % 2 ≡ 1 → IsCentred (pos m) c → (i : ℕ) × (i < m) × (pos i -ℤ pos (m / 2) ≡ c)
place_of m (pos n) odd v = let lo = v.0 in let hi = v.1 in (n + m / 2, omega (arith, ints), omega (arith, ints))
place_of m (negsuc n) odd v = let lo = v.0 in let hi = v.1 in (m / 2 - suc n, omega (arith, ints), omega (arith, ints))

occurs_centred : (m : ℕ) (c : ℤ) → m % 2 ≡ 1 → IsCentred (pos m) c → Occurs c (centred_numbers m)
occurs_centred m c odd v =
    let p = place_of m c odd v in
    subst (λ x. Occurs x (centred_numbers m)) p.2 (occurs_map (λ i. pos i -ℤ pos (m / 2)) p.0 (range_with_len 0 m) (occurs_below m p.0 p.1))

from_centred : (m : ℕ) (c : ℤ) → m % 2 ≡ 1 → Occurs c (centred_numbers m) → IsCentred (pos m) c
from_centred m c odd h =
    let p = from_map (λ i. pos i -ℤ pos (m / 2)) c (range_with_len 0 m) h in
    let lt = from_below m p.0 p.1 in
    let e = p.2 in
    (omega (arith, ints), omega (arith, ints))

pub one_centred : (p m : ℕ) → m % 2 ≡ 1 → 1 < m → All (IsCentred (pos m)) (one p)
one_centred p m odd some =
    All-cons (IsCentred (pos m)) (pos 1) (replicate (p - 1) (pos 0)) (omega (arith, ints), omega (arith, ints))
    (All-replicate (IsCentred (pos m)) (p - 1) (pos 0) (omega (arith, ints), omega (arith, ints)))

-- b passes the test exactly where its product with a is 1 modulo m
passes : (p m : ℕ) (a b : List ℤ) → m % 2 ≡ 1 → 1 < m → AreCongruent (pos m) (product p a b) (one p) → pointwise int_eq (product_mod p m a b) (one p) ≡ true
passes p m a b odd some h =
    (same_numbers (product_mod p m a b) (one p)).1
    (product_mod_is p m a b (one p) odd (one_centred p m odd some) (AreCongruent-back (pos m) (product p a b) (one p) h))

pub product_one_from : (p m : ℕ) (a b : List ℤ) → 0 < m → product_mod p m a b ≡ one p → AreCongruent (pos m) (product p a b) (one p)
product_one_from p m a b some e =
    AreCongruent-back (pos m) (one p) (product p a b)
    (let P : List ℤ → Type 0 = λ x. AreCongruent (pos m) x (product p a b) in subst P e (product_mod_congruent p m a b some))

from_passes : (p m : ℕ) (a b : List ℤ) → 0 < m → pointwise int_eq (product_mod p m a b) (one p) ≡ true → AreCongruent (pos m) (product p a b) (one p)
from_passes p m a b some h = product_one_from p m a b some ((same_numbers (product_mod p m a b) (one p)).0 h)

candidate : (p m : ℕ) (b : List ℤ) → m % 2 ≡ 1 → length b ≡ p → All (IsCentred (pos m)) b → Occurs b (lists_of p (centred_numbers m))
candidate p m b odd len v = listed p (centred_numbers m) b len (All-weaker (IsCentred (pos m)) (λ c. Occurs c (centred_numbers m)) (λ c w. occurs_centred m c odd w) b v)

from_candidate : (p m : ℕ) (b : List ℤ) → m % 2 ≡ 1 → Occurs b (lists_of p (centred_numbers m)) → (length b ≡ p) × All (IsCentred (pos m)) b
from_candidate p m b odd h =
    let c = from_listed p (centred_numbers m) b h in
    (c.0, All-weaker (λ c. Occurs c (centred_numbers m)) (IsCentred (pos m)) (λ c w. from_centred m c odd w) b c.1)

pub inverse_found : (p m : ℕ) (a b : List ℤ) → 1 < p → m % 2 ≡ 1 → 1 < m → length a ≡ p → length b ≡ p → All (IsCentred (pos m)) b
    → AreCongruent (pos m) (product p a b) (one p) → inverse_mod p m a ≡ Some b
unfolding inverse_mod
inverse_found p m a b more odd some la lb v h =
    found (λ x. pointwise int_eq (product_mod p m a x) (one p)) (lists_of p (centred_numbers m)) b (candidate p m b odd lb v) (passes p m a b odd some h)
    (λ x o t.
    let c = from_candidate p m x odd o in
    inverses_equal p (pos m) a x b more la c.0 lb c.1 v (from_passes p m a x (omega arith) t) h)

pub inverse_absent : (p m : ℕ) (a : List ℤ) → m % 2 ≡ 1 → 1 < m → (HasInverse p (pos m) a → ⊥) → inverse_mod p m a ≡ None
unfolding inverse_mod
inverse_absent p m a odd some none =
    not_found (λ x. pointwise int_eq (product_mod p m a x) (one p)) (lists_of p (centred_numbers m))
    (λ x o t. none (x, (from_candidate p m x odd o).0, from_passes p m a x (omega arith) t))

-- what an inverse is that was found
pub from_inverse : (p m : ℕ) (a b : List ℤ) → m % 2 ≡ 1 → 1 < m → inverse_mod p m a ≡ Some b → (length b ≡ p) × All (IsCentred (pos m)) b × AreCongruent (pos m) (product p a b) (one p)
unfolding inverse_mod
from_inverse p m a b odd some e =
    let f = from_found (λ x. pointwise int_eq (product_mod p m a x) (one p)) (lists_of p (centred_numbers m)) b e in
    let c = from_candidate p m b odd f.0 in
    (c.0, c.1, from_passes p m a b (omega arith) f.1)

-- by the solver's answer
abbrev pub inverse_of : Solved → Option (List ℤ)
inverse_of (Inverse b) = Some b
inverse_of (Kernel z) = None

pub solved_inverse : (p m : ℕ) (a : List ℤ) (s : Solved) → 1 < p → m % 2 ≡ 1 → 1 < m → length a ≡ p → length (coefficients_of s) ≡ p
    → All (IsCentred (pos m)) (coefficients_of s) → Solves p (pos m) a s → inverse_mod p m a ≡ inverse_of s
solved_inverse p m a (Inverse b) more odd some la ls v h = inverse_found p m a b more odd some la ls v h
solved_inverse p m a (Kernel z) more odd some la ls v h =
    inverse_absent p m a odd some (kernel_excludes p (pos m) a z more la ls (centred_nonzero p (pos m) z (omega arith) ls v h.1) h.0)
