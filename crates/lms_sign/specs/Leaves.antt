-- What a contract sees of a leaf.
use Rattle.std.specs.Prelude.{ℕ, ◌^◌, ◌==◌, List, slice_index, if◌then◌else◌}

-- a leaf's number, the message that it was made for, and its tree's public key
pub record LeafValue : Type 0 where
  pub number : ℕ
  pub message : List ℕ
  pub public : List ℕ

-- how many leaves the tree of a public key has, by the key's type
abbrev pub leaves_of : List ℕ → ℕ
leaves_of public = 2 ^ (if slice_index public 3 == 5 then 5 else 10)
