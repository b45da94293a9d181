-- Laws of congruence.
use Rattle.std.proofs.Common.{◌≡◌, ℤ, pos, negsuc, ◌+ℤ◌, ◌-ℤ◌, ◌*ℤ◌, neg_ℤ, sym, ap, subst, ◌∙◌, arith}
use Rattle.std.proofs.lemmas.Int.{ints, quot-rem}
use Rattle.std.specs.Int.RustNames.{int_div, int_rem}
use Rattle.std.proofs.Math.IntN.{*ℤ_comm, zero-*ℤ, *ℤ-one, one}
use Rattle.ring_poly.specs.Ring.{IsCongruent}
use Rattle.ring_poly.proofs.Integers.{mul_assoc, mul-add, add-mul}

pub IsCongruent-same : (m a b : ℤ) → a ≡ b → IsCongruent m a b
IsCongruent-same m a b e = record { factor = pos 0; is = let z = zero-*ℤ m in omega (arith, ints) }

pub neg-mul : (a b : ℤ) → neg_ℤ a *ℤ b ≡ neg_ℤ (a *ℤ b)
neg-mul a b =
    let s = add-mul a (neg_ℤ a) b in
    let z : (a +ℤ neg_ℤ a) *ℤ b ≡ pos 0 = ap (λ x. x *ℤ b) (let e : a +ℤ neg_ℤ a ≡ pos 0 = omega (arith, ints) in e) ∙ zero-*ℤ b in
    omega (arith, ints)

pub IsCongruent-back : (m a b : ℤ) → IsCongruent m a b → IsCongruent m b a
IsCongruent-back m a b h = record { factor = neg_ℤ h.factor; is = let n = neg-mul h.factor m in let e = h.is in omega (arith, ints) }

pub IsCongruent-then : (m a b c : ℤ) → IsCongruent m a b → IsCongruent m b c → IsCongruent m a c
IsCongruent-then m a b c h k = record { factor = h.factor +ℤ k.factor; is = let s = add-mul h.factor k.factor m in let e = h.is in let f = k.is in omega (arith, ints) }

pub IsCongruent-add : (m a b c d : ℤ) → IsCongruent m a b → IsCongruent m c d → IsCongruent m (a +ℤ c) (b +ℤ d)
IsCongruent-add m a b c d h k = record { factor = h.factor +ℤ k.factor; is = let s = add-mul h.factor k.factor m in let e = h.is in let f = k.is in omega (arith, ints) }

pub IsCongruent-mul : (m c a b : ℤ) → IsCongruent m a b → IsCongruent m (c *ℤ a) (c *ℤ b)
IsCongruent-mul m c a b h = record { factor = c *ℤ h.factor; is = ap (λ x. c *ℤ x) h.is ∙ mul-add c b (h.factor *ℤ m) ∙ ap (λ x. c *ℤ b +ℤ x) (sym (mul_assoc c h.factor m)) }

pub times_one : (x : ℤ) → x *ℤ pos 1 ≡ x
unfolding one
times_one x = *ℤ-one x

-- the modulus more or less
pub IsCongruent-more : (m a b r : ℤ) → IsCongruent m a b → r ≡ a +ℤ m → IsCongruent m r b
IsCongruent-more m a b r h e =
    record {
      factor = h.factor +ℤ pos 1;
      is =
          let s : (h.factor +ℤ pos 1) *ℤ m ≡ h.factor *ℤ m +ℤ pos 1 *ℤ m = add-mul h.factor (pos 1) m in
          let o : pos 1 *ℤ m ≡ m = *ℤ_comm (pos 1) m ∙ times_one m in
          let f : a ≡ b +ℤ h.factor *ℤ m = h.is in omega (arith, ints);
    }

pub IsCongruent-less : (m a b r : ℤ) → IsCongruent m a b → r +ℤ m ≡ a → IsCongruent m r b
IsCongruent-less m a b r h e =
    record {
      factor = h.factor -ℤ pos 1;
      is =
          let s : (h.factor +ℤ negsuc 0) *ℤ m ≡ h.factor *ℤ m +ℤ negsuc 0 *ℤ m = add-mul h.factor (negsuc 0) m in
          let o : pos 1 *ℤ m ≡ m = *ℤ_comm (pos 1) m ∙ times_one m in
          let n : negsuc 0 *ℤ m ≡ neg_ℤ (pos 1 *ℤ m) = neg-mul (pos 1) m in
          let d : h.factor -ℤ pos 1 ≡ h.factor +ℤ negsuc 0 = omega (arith, ints) in
          let t : (h.factor -ℤ pos 1) *ℤ m ≡ (h.factor +ℤ negsuc 0) *ℤ m = ap (λ x. x *ℤ m) d in
          let f : a ≡ b +ℤ h.factor *ℤ m = h.is in omega (arith, ints);
    }

pub IsCongruent-rem : (m a r : ℤ) → r ≡ int_rem a m → IsCongruent m r a
IsCongruent-rem m a r e = record { factor = neg_ℤ (int_div a m); is = let n = neg-mul (int_div a m) m in let q = quot-rem a m in omega (arith, ints) }

pub IsCongruent-onto : (m a b v : ℤ) → IsCongruent m a b → b ≡ v → IsCongruent m a v
IsCongruent-onto m a b v h e = let P : ℤ → Type 0 = λ x. IsCongruent m a x in subst P e h
