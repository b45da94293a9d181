-- Numbers of ids in an index.
use Rattle.std.proofs.Common.{◌≡◌, ℕ, Bool, true, false, cond, List, [], ◌∷◌, ◌++◌, get_or, position, Option, None, Some, MatchOption, is_some, refl, sym, ◌∙◌, ap}
use Rattle.std.specs.Str.{bytes_eq}
use Rattle.std.specs.List.{list_any}
use Rattle.std.proofs.lemmas.Slice.Eq.{bytes_eq-Decides}
use Rattle.std.proofs.lemmas.List.Quantifiers.{position-Some}
use Rattle.std.proofs.lemmas.Option.{slice_get-get_or}
use Rattle.group_model.specs.Sets.{Id, In, has}
use Rattle.group_model.specs.Marks.{IsPlace}
use Rattle.group_model.specs.Membership.{with_id}
use Rattle.group_model.proofs.ListFacts.{test, yes_is, no_is, In-has}

-- two tests with one meaning
pub same_tests : (a b : Bool) → (a ≡ true → b ≡ true) → (b ≡ true → a ≡ true) → a ≡ b
same_tests true b f k = sym (f refl)
same_tests false true f k = k refl
same_tests false false f k = refl

pub bytes_eq-flip : (a b : List ℕ) → bytes_eq a b ≡ bytes_eq b a
bytes_eq-flip a b = same_tests (bytes_eq a b) (bytes_eq b a)
    (λ e. (bytes_eq-Decides b a).1 (sym ((bytes_eq-Decides a b).0 e)))
    (λ e. (bytes_eq-Decides a b).1 (sym ((bytes_eq-Decides b a).0 e)))

pub any-has : (keys : List Id) (x : Id) → list_any (bytes_eq x) keys ≡ has keys x
any-has [] x = refl
any-has (k ∷ keys) x = elim (test (bytes_eq k x)) [
  | yes_is e ↦ let d : bytes_eq x k ≡ true = bytes_eq-flip x k ∙ e in rw (d, e) refl
  | no_is e ↦ let d : bytes_eq x k ≡ false = bytes_eq-flip x k ∙ e in rw (d, e) (any-has keys x)
]

pub place-found : (keys : List Id) (x : Id) (r : Option ℕ) → r ≡ position (bytes_eq x) keys → is_some r ≡ list_any (bytes_eq x) keys
    → MatchOption r (In x keys → ⊥) (λ at. IsPlace keys at x)
place-found keys x None e f = λ k. let t = In-has keys x k in let a = any-has keys x in cc
place-found keys x (Some i) e f =
    let p = position-Some (bytes_eq x) keys i [] (sym e) in
    slice_get-get_or keys i [] p.0 ∙ ap Some (sym ((bytes_eq-Decides x (get_or keys i [])).0 p.1))

pub put-keys : (keys : List Id) (x : Id) → cond (list_any (bytes_eq x) keys) keys (keys ++ x ∷ []) ≡ with_id keys x
put-keys keys x = ap (λ b. cond b keys (keys ++ x ∷ [])) (any-has keys x)
