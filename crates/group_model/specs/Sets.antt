-- Ids and byte strings, and membership in lists that stand for sets. docs/GROUP.md, "Messages and
-- histories".
use Rattle.std.specs.Prelude.{ℕ, Bool, true, false, cond, List, [], ◌∷◌, bytes_eq}
use Rattle.std.specs.Ordering.{nat_cmp}
use Rattle.std.specs.Cmp.Lexicographic.{slice_cmp}
use Rattle.std.specs.declared.cmp.Ordering.TheVariants.{Less}
use Rattle.std.specs.Prelude.{◌≡◌}

abbrev pub Bytes : Type 0
Bytes = List ℕ

-- the identity of a member, or of a message: a digest of 32 bytes
abbrev pub Id : Type 0
Id = Bytes

-- x is an element of the list
pub data In {A : Type 0} : A → List A → Type 0 where
  here : {x : A} {xs : List A} → In x (x ∷ xs)
  there : {x y : A} {xs : List A} → In x xs → In x (y ∷ xs)

-- the test of it
abbrev pub has : List Id → Id → Bool
has [] i = false
has (j ∷ js) i = cond (bytes_eq j i) true (has js i)

-- each element of the one list is one of the other
pub record Within {A : Type 0} (p q : List A) : Type 0 where
  pub each : {a : A} → In a p → In a q

-- the one id comes before the other, byte by byte
abbrev pub IsBelow : Id → Id → Type 0
IsBelow i j = slice_cmp nat_cmp i j ≡ Less

-- each id is below the next
abbrev pub IsAscending : List Id → Type 0
IsAscending [] = Unit {0}
IsAscending (i ∷ []) = Unit {0}
IsAscending (i ∷ (j ∷ ids)) = IsBelow i j × IsAscending (j ∷ ids)

-- no id stands twice
abbrev pub IsDistinct : List Id → Type 0
IsDistinct [] = Unit {0}
IsDistinct (i ∷ ids) = (In i ids → ⊥) × IsDistinct ids
