-- The laws of the ring that the key encapsulation rests on, over lists of p integer coefficients.
use Rattle.std.specs.Prelude.{◌≡◌, ℕ, zero, suc, Bool, true, false, List, [], ◌∷◌, length, map, All, ℤ, pos, negsuc, ◌+ℤ◌, ◌*ℤ◌}
use Rattle.std.specs.List.{count_by}
use Rattle.ring_poly.specs.Ring.{product, AreCongruent, IsWithin}
use Rattle.ring_solve.specs.Fields.{one}
use Rattle.ring_solve.specs.declared.answer.Solved.{Solved}
use Rattle.ring_solve.specs.declared.answer.Solved.TheVariants.{Inverse, Kernel}

-- the sum, coefficient by coefficient
abbrev pub sum_of : List ℤ → List ℤ → List ℤ
sum_of [] b = []
sum_of (c ∷ a) [] = []
sum_of (c ∷ a) (d ∷ b) = (c +ℤ d) ∷ sum_of a b

-- c times a polynomial
abbrev pub multiple_of : ℤ → List ℤ → List ℤ
multiple_of c a = map (λ d. c *ℤ d) a

-- each coefficient is -1, 0 or 1
abbrev pub AreSmall : List ℤ → Type 0
AreSmall a = All (IsWithin 1) a

abbrev pub is_nonzero : ℤ → Bool
is_nonzero (pos zero) = false
is_nonzero (pos (suc n)) = true
is_nonzero (negsuc n) = true

-- small, and w of its coefficients aren't 0
pub record IsShort (w : ℕ) (a : List ℤ) : Type 0 where
  pub small : AreSmall a
  pub weight : count_by is_nonzero a ≡ w

-- some polynomial of p coefficients times a is 1 modulo m
abbrev pub HasInverse : ℕ → ℤ → List ℤ → Type 0
HasInverse p m a = (b : List ℤ) × (length b ≡ p) × AreCongruent m (product p a b) (one p)

-- what an answer of the solver shows of a
abbrev pub Shows : ℕ → ℤ → List ℤ → Solved → Type 0
Shows p m a (Inverse b) = HasInverse p m a
Shows p m a (Kernel z) = HasInverse p m a → ⊥
