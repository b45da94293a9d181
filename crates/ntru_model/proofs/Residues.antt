-- Centred residues, products modulo m, and rounding.
use Rattle.std.proofs.Common.{◌≡◌, ℕ, suc, ◌+◌, ◌-◌, ◌*◌, ◌/◌, ◌%◌, ◌<◌, List, length, map, All, ℤ, pos, negsuc, ◌+ℤ◌, ◌-ℤ◌, neg_ℤ, refl, sym, subst, ◌∙◌, arith}
use Rattle.std.specs.Int.{int_rem_euclid}
use Rattle.std.proofs.lemmas.Int.{ints}
use Rattle.std.proofs.lemmas.List.{ext_get_or, length-map, get_or-map}
use Rattle.std.proofs.lemmas.List.Elements.{All-get_or, All-from_get_or}
use Rattle.std.proofs.Math.IntN.{*ℤ_comm, pos-*ℤ-pos}
use Rattle.ring_poly.specs.Ring.{coefficient, product, IsCentred, IsCongruent, AreCongruent, IsRounded, AreRounded}
use Rattle.ring_poly.proofs.Congruences.{IsCongruent-back, IsCongruent-then, neg-mul}
use Rattle.ring_poly.proofs.Centred.{rounded_without}
use Rattle.ring_poly.proofs.WindowSums.{length-product}
use Rattle.ring_solve.proofs.Residues.{rest_congruent}
use Rattle.ring_laws.proofs.Polynomials.{centred_equal}
use Rattle.ntru_model.specs.Residues.{centred, product_mod, nearest_triple}

-- the rest of a division, from 0 to m - 1
record IsRest (m : ℕ) (z r : ℤ) : Type 0 where
  value : ℕ
  is : r ≡ pos value
  below : value < m
  congruent : IsCongruent (pos m) r z

rest_is : (m : ℕ) (z : ℤ) → 0 < m → IsRest m z (int_rem_euclid z (pos m))
rest_is m (pos a) some = record { value = a % m; is = refl; below = omega arith; congruent = rest_congruent m a }
rest_is m (negsuc a) some =
    let r : a % m < m = omega arith in
    record {
      value = m - 1 - a % m;
      is = refl;
      below = omega arith;
      congruent = record {
        factor = pos (suc (a / m));
        is =
            let t = pos-*ℤ-pos (suc (a / m)) m in
            let w : m * (a / m) + a % m ≡ a = omega arith in
            let u : suc (a / m) * m ≡ m * (a / m) + m = omega arith in
            omega (arith, ints);
      };
    }

pub centred_congruent : (m : ℕ) (c : ℤ) → 0 < m → IsCongruent (pos m) (centred m c) c
centred_congruent m c some =
    let r = rest_is m (c +ℤ pos (m / 2)) some in
    let e = r.congruent.is in
    record { factor = r.congruent.factor; is = omega (arith, ints) }

pub centred_centred : (m : ℕ) (c : ℤ) → m % 2 ≡ 1 → IsCentred (pos m) (centred m c)
centred_centred m c odd =
    let r = rest_is m (c +ℤ pos (m / 2)) (omega arith) in
    let e = r.is in
    let b = r.below in
    (omega (arith, ints), omega (arith, ints))

-- the only centred number that is congruent to it
pub centred_is : (m : ℕ) (c d : ℤ) → m % 2 ≡ 1 → IsCentred (pos m) d → IsCongruent (pos m) d c → centred m c ≡ d
centred_is m c d odd v h =
    centred_equal (pos m) (centred m c) d (centred_centred m c odd) v
    (IsCongruent-then (pos m) _ c _ (centred_congruent m c (omega arith)) (IsCongruent-back (pos m) d c h))

-- lists
coefficient-centred : (m : ℕ) (xs : List ℤ) (k : ℕ) → k < length xs → coefficient (map (centred m) xs) k ≡ centred m (coefficient xs k)
coefficient-centred m xs k below = get_or-map (centred m) xs k (pos 0) (pos 0) below

pub all_centred : (m : ℕ) (xs : List ℤ) → m % 2 ≡ 1 → All (IsCentred (pos m)) (map (centred m) xs)
all_centred m xs odd =
    let l = length-map xs (centred m) in
    All-from_get_or (IsCentred (pos m)) (map (centred m) xs) (pos 0) (λ k below.
    let P : ℤ → Type 0 = λ c. IsCentred (pos m) c in
    subst P (sym (coefficient-centred m xs k (omega arith))) (centred_centred m (coefficient xs k) odd))

pub all_congruent : (m : ℕ) (xs : List ℤ) → 0 < m → AreCongruent (pos m) (map (centred m) xs) xs
all_congruent m xs some =
    record {
      len = length-map xs (centred m);
      each = λ k below.
          let P : ℤ → Type 0 = λ c. IsCongruent (pos m) c (coefficient xs k) in
          subst P (sym (coefficient-centred m xs k below)) (centred_congruent m (coefficient xs k) some);
    }

pub centred_list : (m : ℕ) (xs out : List ℤ) → m % 2 ≡ 1 → All (IsCentred (pos m)) out → AreCongruent (pos m) out xs → map (centred m) xs ≡ out
centred_list m xs out odd v h =
    let l = h.len in
    let n = length-map xs (centred m) in
    ext_get_or (pos 0) (map (centred m) xs) out (omega arith) (λ k below.
    coefficient-centred m xs k (omega arith)
    ∙ centred_is m (coefficient xs k) (coefficient out k) odd (All-get_or (IsCentred (pos m)) out k (pos 0) (omega arith) v) (h.each k (omega arith)))

-- products
pub length-product_mod : (p m : ℕ) (a b : List ℤ) → length (product_mod p m a b) ≡ p
length-product_mod p m a b = length-map (product p a b) (centred m) ∙ length-product p a b

pub product_mod_centred : (p m : ℕ) (a b : List ℤ) → m % 2 ≡ 1 → All (IsCentred (pos m)) (product_mod p m a b)
product_mod_centred p m a b odd = all_centred m (product p a b) odd

pub product_mod_congruent : (p m : ℕ) (a b : List ℤ) → 0 < m → AreCongruent (pos m) (product_mod p m a b) (product p a b)
product_mod_congruent p m a b some = all_congruent m (product p a b) some

pub product_mod_is : (p m : ℕ) (a b out : List ℤ) → m % 2 ≡ 1 → All (IsCentred (pos m)) out → AreCongruent (pos m) out (product p a b) → product_mod p m a b ≡ out
product_mod_is p m a b out odd v h = centred_list m (product p a b) out odd v h

-- rounding
pub nearest_rounded : (c : ℤ) → IsRounded c (nearest_triple c)
nearest_rounded c = rounded_without c (nearest_triple c) (centred 3 c) (centred_congruent 3 c (omega arith)) (centred_centred 3 c refl) refl

-- c less r is the residue modulo 3
pub nearest_is : (c r : ℤ) → IsRounded c r → nearest_triple c ≡ r
nearest_is c r h =
    let lo = h.near.0 in
    let hi = h.near.1 in
    let e = h.multiple in
    let s = *ℤ_comm (pos 3) h.third in
    let n = neg-mul h.third (pos 3) in
    let small : IsCentred (pos 3) (c -ℤ r) = (omega (arith, ints), omega (arith, ints)) in
    let by : IsCongruent (pos 3) (c -ℤ r) c = record { factor = neg_ℤ h.third; is = omega (arith, ints) } in
    let i : centred 3 c ≡ c -ℤ r = centred_is 3 c (c -ℤ r) refl small by in
    omega (arith, ints)

coefficient-nearest : (xs : List ℤ) (k : ℕ) → k < length xs → coefficient (map nearest_triple xs) k ≡ nearest_triple (coefficient xs k)
coefficient-nearest xs k below = get_or-map nearest_triple xs k (pos 0) (pos 0) below

pub rounded_list : (a : List ℤ) → AreRounded a (map nearest_triple a)
rounded_list a =
    record {
      len = length-map a nearest_triple;
      each = λ k below.
          let P : ℤ → Type 0 = λ r. IsRounded (coefficient a k) r in
          subst P (sym (coefficient-nearest a k below)) (nearest_rounded (coefficient a k));
    }

pub nearest_list : (a r : List ℤ) → AreRounded a r → map nearest_triple a ≡ r
nearest_list a r h =
    let l = h.len in
    let n = length-map a nearest_triple in
    ext_get_or (pos 0) (map nearest_triple a) r (omega arith) (λ k below.
    coefficient-nearest a k (omega arith) ∙ nearest_is (coefficient a k) (coefficient r k) (h.each k (omega arith)))
