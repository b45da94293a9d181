-- Distinct ids that were sorted ascend.
use Rattle.std.proofs.Common.{◌≡◌, zero, suc, ◌+◌, false, true, List, [], ◌∷◌, get_or, sym, subst, ap, arith}
use Rattle.std.specs.List as lists
use Rattle.std.specs.List.{AllByRecursion}
use Rattle.std.specs.List.Sorted.{IsPermutation, IsSorted}
use Rattle.std.specs.Ordering.{nat_cmp, is_lt}
use Rattle.std.specs.Cmp.Lexicographic.{slice_cmp}
use Rattle.std.specs.Str.{bytes_eq}
use Rattle.std.proofs.lemmas.List.Sorted.{Contains-permutation, IsPermutation-sym, length_permutation}
use Rattle.std.proofs.lemmas.Map.Keys.{IsDistinct-cons, IsDistinct-head, IsDistinct-tail, IsDistinct-IsPermutation}
use Rattle.std.proofs.lemmas.Map.Made.{IsDistinct-from_AllPairs}
use Rattle.std.proofs.lemmas.Slice.Eq.{bytes_eq-Decides}
use Rattle.group_model.specs.Sets.{Id, In, here, there, IsAscending, IsDistinct}
use Rattle.group_model.proofs.Ascending.{not_below}
use Rattle.group_model.proofs.ListFacts.{test, yes_is, no_is, In-from_Contains, Contains-from_In}
use Rattle.causal_history.proofs.IndexFacts.{bytes_eq-flip}
use Rattle.welcome_history.specs.Welcomes.{AreInOrder}

-- distinct ids, by the test
apart : (i : Id) (ids : List Id) → (In i ids → ⊥) → AllByRecursion (λ y. bytes_eq i y ≡ false) ids
apart i [] n = tt
apart i (j ∷ ids) n = (
  elim (test (bytes_eq i j)) [
    | yes_is t ↦ absurd (n (subst (λ z. In z (j ∷ ids)) (sym ((bytes_eq-Decides i j).0 t)) here))
    | no_is f ↦ f
  ],
  apart i ids (λ k. n (there k)),
)

distinct-tests : (ids : List Id) → IsDistinct ids → lists.IsDistinct bytes_eq ids
distinct-tests [] d = IsDistinct-from_AllPairs bytes_eq-Decides [] (λ i j x l k e. absurd (omega arith))
distinct-tests (i ∷ ids) d = IsDistinct-cons bytes_eq i ids (apart i ids d.0) (distinct-tests ids d.1)

sorted-ascending : (ids : List Id) → IsSorted (slice_cmp nat_cmp) ids → lists.IsDistinct bytes_eq ids → IsAscending ids
sorted-ascending [] s d = tt
sorted-ascending (i ∷ []) s d = tt
sorted-ascending (i ∷ (j ∷ ids)) s d = (
  not_below i j
      (λ b. let f : is_lt (slice_cmp nat_cmp j i) ≡ false = s zero i (omega arith) (omega arith) in
      let t : is_lt (slice_cmp nat_cmp j i) ≡ true = ap is_lt b in cc)
      (λ e. let f : bytes_eq i j ≡ false = (IsDistinct-head bytes_eq i (j ∷ ids) d).0 in
      let t : bytes_eq i j ≡ true = (bytes_eq-Decides i j).1 (sym e) in cc),
  sorted-ascending (j ∷ ids) (λ k x low high.
      let e : suc k + 1 ≡ suc (k + 1) = omega arith in
      let f : is_lt (slice_cmp nat_cmp (get_or (i ∷ (j ∷ ids)) (suc k + 1) x) (get_or (j ∷ ids) k x)) ≡ false =
      s (suc k) x (omega arith) (omega (arith, high)) in
      subst (λ z. is_lt (slice_cmp nat_cmp (get_or (i ∷ (j ∷ ids)) z x) (get_or (j ∷ ids) k x)) ≡ false) e f)
      (IsDistinct-tail bytes_eq i (j ∷ ids) d),
)

sorted-in : (xs ys : List Id) (x : Id) → IsPermutation xs ys → In x xs → In x ys
sorted-in xs ys x p i = In-from_Contains ys x (Contains-permutation xs ys x p (Contains-from_In i))

pub in-order : (ids sorted : List Id) → IsDistinct ids → IsPermutation ids sorted → IsSorted (slice_cmp nat_cmp) sorted → AreInOrder ids sorted
in-order ids sorted distinct perm order = record {
  ascending = sorted-ascending sorted order (IsDistinct-IsPermutation bytes_eq bytes_eq-flip ids sorted perm (distinct-tests ids distinct));
  same = λ x. (sorted-in sorted ids x (IsPermutation-sym ids sorted perm), sorted-in ids sorted x perm);
  count = length_permutation ids sorted perm;
}
