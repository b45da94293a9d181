-- What is the first of finitely many candidates to meet a test. So a definition says what a value is, and leaves open
-- how it is found.
use Rattle.std.specs.Prelude.{ℕ, zero, suc, List, [], ◌∷◌, map}
use Rattle.std.specs.List.{flat_map}

-- the lists of n elements, each of which is one of xs
abbrev pub lists_of : {X : Type 0} → ℕ → List X → List (List X)
lists_of zero xs = [] ∷ []
lists_of (suc n) xs = flat_map (λ x. map (λ l. x ∷ l) (lists_of n xs)) xs
