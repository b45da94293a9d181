-- Laws of the integers that the products need.
use Rattle.std.proofs.Common.{◌≡◌, ℕ, ◌+◌, ◌*◌, ◌≤◌, ℤ, pos, ◌+ℤ◌, ◌*ℤ◌, sym, ap, subst, ◌∙◌, arith}
use Rattle.std.proofs.lemmas.Int.{ints, unsigned_abs-mul}
use Rattle.std.proofs.lemmas.Nat.{mul-le}
use Rattle.std.proofs.Math.IntN.{nat_abs}
use Rattle.std.proofs.Math.IntN.{*ℤ_comm}
use Rattle.ring_poly.specs.Ring.{IsWithin as Within}
use borrow.Author.Differences.{up, down, same_in, product_is, sum_is_lem, abs_is}

by : (k m n : ℕ) → m ≡ n → m * k ≡ n * k
by k m n e = ap (λ x. x * k) e

pub mul_assoc : (a b c : ℤ) → (a *ℤ b) *ℤ c ≡ a *ℤ (b *ℤ c)
mul_assoc a b c =
    let ab = product_is a b in
    let bc = product_is b c in
    let left = product_is (a *ℤ b) c in
    let right = product_is a (b *ℤ c) in
    let ups : up ((a *ℤ b) *ℤ c) ≡ up (a *ℤ (b *ℤ c)) =
    omega (arith, by (up c) _ _ ab.0, by (down c) _ _ ab.1, by (up a) _ _ bc.0, by (down a) _ _ bc.1) in
    let downs : down ((a *ℤ b) *ℤ c) ≡ down (a *ℤ (b *ℤ c)) =
    omega (arith, by (down c) _ _ ab.0, by (up c) _ _ ab.1, by (down a) _ _ bc.0, by (up a) _ _ bc.1) in
    same_in _ _ (omega arith)

pub mul-add : (a b c : ℤ) → a *ℤ (b +ℤ c) ≡ a *ℤ b +ℤ a *ℤ c
mul-add a b c =
    let s = sum_is_lem b c in
    let ab = product_is a b in
    let ac = product_is a c in
    let whole = product_is a (b +ℤ c) in
    let both = sum_is_lem (a *ℤ b) (a *ℤ c) in
    same_in _ _ (omega (arith, by (up a) _ _ s, by (down a) _ _ s))

pub add-mul : (a b c : ℤ) → (a +ℤ b) *ℤ c ≡ a *ℤ c +ℤ b *ℤ c
add-mul a b c = *ℤ_comm (a +ℤ b) c ∙ mul-add c a b ∙ ap (λ x. x +ℤ c *ℤ b) (*ℤ_comm c a) ∙ ap (λ x. a *ℤ c +ℤ x) (*ℤ_comm c b)

pub mul_swap : (a b c : ℤ) → a *ℤ (b *ℤ c) ≡ b *ℤ (a *ℤ c)
mul_swap a b c = sym (mul_assoc a b c) ∙ ap (λ x. x *ℤ c) (*ℤ_comm a b) ∙ mul_assoc b a c

abs_from_Within : (m : ℕ) (a : ℤ) → Within m a → nat_abs a ≤ m
abs_from_Within m a w = let lo = w.0 in let hi = w.1 in omega (arith, ints, abs_is a)

Within-from_abs : (m : ℕ) (a : ℤ) → nat_abs a ≤ m → Within m a
Within-from_abs m a h = (omega (arith, ints, abs_is a), omega (arith, ints, abs_is a))

-- the product of two numbers of bounded size
pub Within-mul : (m n : ℕ) (a b : ℤ) → Within m a → Within n b → Within (m * n) (a *ℤ b)
Within-mul m n a b v w = Within-from_abs (m * n) (a *ℤ b) (
    let e = unsigned_abs-mul a b in
    let P : ℕ → Type 0 = λ k. k ≤ m * n in
    subst P (sym e) (mul-le _ _ m n (abs_from_Within m a v) (abs_from_Within n b w)))

pub Within-add : (m n : ℕ) (a b : ℤ) → Within m a → Within n b → Within (m + n) (a +ℤ b)
Within-add m n a b v w = let al = v.0 in let ah = v.1 in let bl = w.0 in let bh = w.1 in (omega (arith, ints), omega (arith, ints))

pub Within-zero : (m : ℕ) → Within m (pos 0)
Within-zero m = (omega (arith, ints), omega (arith, ints))

pub Within-more : (m n : ℕ) (a : ℤ) → m ≤ n → Within m a → Within n a
Within-more m n a h w = let lo = w.0 in let hi = w.1 in (omega (arith, ints), omega (arith, ints))
