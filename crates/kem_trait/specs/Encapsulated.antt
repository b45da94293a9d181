-- What an encapsulation gives.
use Rattle.std.specs.Prelude.{ℕ, List}

-- a ciphertext, and the key that its maker has
pub record Encapsulated : Type 0 where
  pub cipher : List ℕ
  pub key : List ℕ
