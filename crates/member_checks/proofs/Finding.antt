-- The first item of a list that is such, by a loop over its indices.
use Rattle.std.proofs.Common.{◌≡◌, ℕ, ◌+◌, ◌<◌, ◌≤◌, inl, inr, List, length, slice_get, true, false, Option, Some, None, subst, arith}
use Rattle.std.specs.Option.{is_some}
use Rattle.std.proofs.lemmas.Bool.Decides.{eqb_tells}
use Rattle.causal_history.proofs.ListMore.{get-below, get-one}
use Rattle.member_checks.specs.Answers.{FindsItem, IsFirstItem, NoItem}

-- no item at an index below this one is such
abbrev pub NoneBelow : {A : Type 0} → List A → (IsSuch : ℕ → A → Type 0) → ℕ → Type 0
NoneBelow {A} items IsSuch at = (i : ℕ) (other : A) → i < at → slice_get items i ≡ Some other → IsSuch i other → ⊥

module _ {A : Type 0} (items : List A) (IsSuch : ℕ → A → Type 0) (at : ℕ) where
  pub found-here : (item : A) → slice_get items at ≡ Some item → IsSuch at item → NoneBelow items IsSuch at
      → IsFirstItem items IsSuch at
  found-here item e s none = record { item = item; there = e; such = s; first = none }

  pub none-next : (item : A) → slice_get items at ≡ Some item → (IsSuch at item → ⊥) → NoneBelow items IsSuch at
      → NoneBelow items IsSuch (at + 1)
  none-next item e miss none i other l g s = elim (eqb_tells i at) [
    | inl d ↦ miss (subst (λ z. IsSuch at z) (get-one items at other item (subst (λ z. slice_get items z ≡ Some other) d.1 g) e)
        (subst (λ z. IsSuch z other) d.1 s))
    | inr d ↦ none i other (let n = d.1 in omega arith) g s
  ]

  pub none-all : length items ≤ at → NoneBelow items IsSuch at → NoItem items IsSuch
  none-all l none i other g s = none i other (let b = get-below items i other g in omega arith) g s

module _ {A : Type 0} (items : List A) (IsSuch : ℕ → A → Type 0) where
  pub found-some : (found : Option ℕ) → FindsItem items IsSuch found → is_some found ≡ true
      → (index : ℕ) × IsFirstItem items IsSuch index
  found-some None k e = absurd cc
  found-some (Some index) k e = (index, k)

  pub found-none : (found : Option ℕ) → FindsItem items IsSuch found → is_some found ≡ false → NoItem items IsSuch
  found-none None k e = k
  found-none (Some index) k e = absurd cc
