-- The first answer of causes, where one holds, and the first item of a list that is such.
use Rattle.std.specs.Prelude.{◌≡◌, ℕ, ◌<◌, List, Option, Some, None, MatchOption, slice_get}
use Rattle.member_view.specs.Causes.{Causes, GivesNone, IsFirst}

-- the first of the causes that holds gives the answer, and where there is none, no cause holds
abbrev pub AnswersFirst : {A : Type 0} → Causes A → Option A → Type 0
AnswersFirst causes None = GivesNone causes
AnswersFirst causes (Some a) = IsFirst causes a

-- the item at the index is such, and none before it
pub record IsFirstItem {A : Type 0} (items : List A) (IsSuch : ℕ → A → Type 0) (index : ℕ) : Type 0 where
  pub item : A
  pub there : slice_get items index ≡ Some item
  pub such : IsSuch index item
  pub first : (i : ℕ) (other : A) → i < index → slice_get items i ≡ Some other → IsSuch i other → ⊥

-- no item is such
abbrev pub NoItem : {A : Type 0} → List A → (IsSuch : ℕ → A → Type 0) → Type 0
NoItem {A} items IsSuch = (i : ℕ) (item : A) → slice_get items i ≡ Some item → IsSuch i item → ⊥

-- the index is that of the first item that is such, and there is one where an item is such
abbrev pub FindsItem : {A : Type 0} → List A → (IsSuch : ℕ → A → Type 0) → Option ℕ → Type 0
FindsItem items IsSuch found = MatchOption found (NoItem items IsSuch) (IsFirstItem items IsSuch)
