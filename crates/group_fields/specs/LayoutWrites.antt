-- What writing a value by its layout gives.
use Rattle.std.specs.Prelude.{◌≡◌, ◌&&◌, Bool, true, Option, Some, List, [], ◌∷◌, ◌++◌, ℕ}
use Rattle.group_fields.specs.Fields.{is_above}
use Rattle.group_fields.specs.Layouts.{Layout, Spells}
use Rattle.group_fields.specs.declared.ids.Digest.{Digest}

-- Behind the old bytes stand bytes that spell a value.
pub record Appends {A : Type 0} (part : Layout A) (value : A) (old new : List ℕ) : Type 0 where
  pub back : List ℕ
  pub whole : new ≡ old ++ back
  pub spelled : Spells part back value

-- each id is above the one before it
abbrev pub ascends : Option Digest → List Digest → Bool
ascends last [] = true
ascends last (id ∷ others) = is_above last id.0 && ascends (Some id) others
