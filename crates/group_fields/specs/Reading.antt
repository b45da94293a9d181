-- What a reader of fields stands for.
use Rattle.std.specs.Prelude.{ℕ, List}

-- the whole byte string, and the place of its next byte
pub record Reading : Type 0 where
  pub whole : List ℕ
  pub place : ℕ
