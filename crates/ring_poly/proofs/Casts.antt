-- What the code's casts and sums of signed numbers give.
use Rattle.std.proofs.Common.{◌≡◌, ℕ, ◌^◌, ◌<◌, ℤ, pos, ◌+ℤ◌, ◌*ℤ◌, ◌<ℤ◌, ap, ◌∙◌, arith, w32, w64, SFits, to_z, of_z}
use Rattle.std.specs.Int.{w16}
use Rattle.std.specs.Int.RustNames.{int_rem}
use borrow.Author.Differences.{abs_is}
use Rattle.std.proofs.lemmas.Int.{ints, to_z-of_z, rem_is, rem_below, fits_signed_from_abs}
use Rattle.ring_poly.specs.Ring.{IsWithin}
use Rattle.ring_poly.proofs.Integers.{Within-mul}

pub widened : (m : ℕ) (x : ℤ) → m < 2 ^ 15 → IsWithin m x → to_z w32 (of_z w32 (to_z w16 (of_z w16 x))) ≡ x
widened m x lt w = let lo = w.0 in let hi = w.1 in omega (arith, ints)

-- the product of two coefficients
pub multiplied : (x y : ℤ) → IsWithin 2295 x → IsWithin 4590 y → to_z w32 (of_z w32 (to_z w32 (of_z w32 (to_z w16 (of_z w16 x))) *ℤ to_z w32 (of_z w32 (to_z w16 (of_z w16 y))))) ≡ x *ℤ y
multiplied x y v w =
    ap (λ z. to_z w32 (of_z w32 (z *ℤ to_z w32 (of_z w32 (to_z w16 (of_z w16 y)))))) (widened 2295 x (omega arith) v)
    ∙ ap (λ z. to_z w32 (of_z w32 (x *ℤ z))) (widened 4590 y (omega arith) w)
    ∙ (let b = Within-mul 2295 4590 x y v w in let lo = b.0 in let hi = b.1 in omega (arith, ints))

-- a rest, by a small divisor
pub rest_is : (v q : ℤ) → SFits w64 v → pos 2 <ℤ q → q <ℤ pos 5000 → to_z w32 (of_z w32 (to_z w64 (of_z w64 (int_rem (to_z w64 (of_z w64 v)) (to_z w64 (of_z w64 q)))))) ≡ int_rem v q
rest_is v q f low high =
    ap (λ x. to_z w32 (of_z w32 x)) (rem_is w64 v q f (omega (arith, ints)))
    ∙ to_z-of_z w32 (int_rem v q) (fits_signed_from_abs w32 (int_rem v q) (
    let size = abs_is q in
    let below = rem_below v q (omega (arith, ints, abs_is q)) in
    omega (arith, ints, abs_is q)))

pub widened_16 : (x : ℤ) → IsWithin 4590 x → to_z w16 (of_z w16 x) ≡ x
widened_16 x w = let lo = w.0 in let hi = w.1 in omega (arith, ints)

pub multiplied_long : (x y : ℤ) → IsWithin 2295 x → IsWithin 2295 y → to_z w64 (of_z w64 (to_z w64 (of_z w64 (to_z w16 (of_z w16 x))) *ℤ to_z w64 (of_z w64 (to_z w16 (of_z w16 y))))) ≡ x *ℤ y
multiplied_long x y v w =
    let xl = v.0 in let xh = v.1 in let yl = w.0 in let yh = w.1 in
    ap (λ z. to_z w64 (of_z w64 (z *ℤ to_z w64 (of_z w64 (to_z w16 (of_z w16 y)))))) (let e : to_z w64 (of_z w64 (to_z w16 (of_z w16 x))) ≡ x = omega (arith, ints) in e)
    ∙ ap (λ z. to_z w64 (of_z w64 (x *ℤ z))) (let e : to_z w64 (of_z w64 (to_z w16 (of_z w16 y))) ≡ y = omega (arith, ints) in e)
    ∙ (let b = Within-mul 2295 2295 x y v w in let lo = b.0 in let hi = b.1 in omega (arith, ints))

pub summed : (t x r w : ℤ) → t ≡ x → r ≡ w → IsWithin 5267025 x → IsWithin 8016412050 r → to_z w64 (of_z w64 (t +ℤ to_z w64 (of_z w64 r))) ≡ x +ℤ w
summed t x r w e f v h =
    let xl = v.0 in let xh = v.1 in let rl = h.0 in let rh = h.1 in
    ap (λ z. to_z w64 (of_z w64 (z +ℤ to_z w64 (of_z w64 r)))) e
    ∙ (let i : to_z w64 (of_z w64 (x +ℤ to_z w64 (of_z w64 r))) ≡ x +ℤ r = omega (arith, ints) in i)
    ∙ ap (λ z. x +ℤ z) f
