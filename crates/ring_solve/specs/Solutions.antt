-- What `inverse` answers.
use Rattle.std.specs.Prelude.{◌≡◌, ℕ, List, ℤ}
use Rattle.ring_poly.specs.Ring.{product, AreCongruent}
use Rattle.ring_solve.specs.Fields.{one, zero_of}
use Rattle.ring_solve.specs.declared.answer.Solved.{Solved}
use Rattle.ring_solve.specs.declared.answer.Solved.TheVariants.{Inverse, Kernel}

-- the answer's own product with a says it
abbrev pub Solves : ℕ → ℤ → List ℤ → Solved → Type 0
Solves p m a (Inverse b) = AreCongruent m (product p a b) (one p)
Solves p m a (Kernel z) = AreCongruent m (product p a z) (zero_of p) × (z ≡ zero_of p → ⊥)

-- the coefficients of either answer
abbrev pub coefficients_of : Solved → List ℤ
coefficients_of (Inverse b) = b
coefficients_of (Kernel z) = z
