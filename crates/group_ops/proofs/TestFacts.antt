-- What the tests find out about a message.
use Rattle.std.proofs.Common.{◌≡◌, List, [], ◌∷◌, length, Option, Some, None, option_map, refl, arith}
use Rattle.std.specs.Prelude.{IsSome}

pub no-rows : {A : Type 0} (xs : List A) → length xs ≡ 0 → xs ≡ []
no-rows [] e = refl
no-rows (x ∷ xs) e = absurd (omega (arith, e))

pub some-mapped : {A B : Type 0} (f : A → B) (o : Option A) (y : B) → option_map f o ≡ Some y → IsSome o
some-mapped f None y e = absurd (cc)
some-mapped f (Some x) y e = refl
