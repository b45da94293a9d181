-- Rows and their history.
use Rattle.std.proofs.Common.{◌≡◌, ◌↔◌, ℕ, ◌≤◌, true, false, List, [], ◌∷◌, ◌++◌, length}
use Rattle.std.proofs.Common.{reverse, refl, sym, ◌∙◌}
use Rattle.std.proofs.Common.{subst, arith, Option, Some, None, length-append}
use Rattle.std.specs.Option.{is_some, MatchOption}
use Rattle.std.proofs.lemmas.List.{length-map, length-reverse}
use Rattle.group_model.specs.Sets.{Id, In, has}
use Rattle.group_model.specs.Membership.{joined, with_id}
use Rattle.group_model.specs.Marks.{IsPlace}
use Rattle.group_model.proofs.ListFacts.{yes_is, no_is, test, has-In, In-has}
use Rattle.group_model.proofs.Places.{place-in}
use Rattle.causal_history.specs.Rows.{Row, history_of, row_message}

-- a history has as many messages as rows
pub history-length : (rows : List Row) → length (history_of rows) ≡ length rows
unfolding history_of
history-length rows = length-map (reverse rows) row_message ∙ length-reverse rows

-- one id more is a place more, unless it has one
pub one-more : (ids : List Id) (t : Id) (place : Option ℕ) → length ids ≡ 32
    → MatchOption place (In t ids → ⊥) (λ p. IsPlace ids p t)
    → (is_some place ≡ true) ↔ (length (joined ids (t ∷ [])) ≤ 32)
one-more ids t (Some p) full at =
    let e : with_id ids t ≡ ids = rw (In-has ids t (place-in ids p t at)) refl in
    (λ k. subst (λ z. length z ≤ 32) (sym e) (omega arith), λ k. refl)
one-more ids t None full n =
    let e : has ids t ≡ false = elim (test (has ids t)) [ yes_is d ↦ absurd (n (has-In ids t d)) | no_is d ↦ d ] in
    let f : with_id ids t ≡ ids ++ t ∷ [] = rw e refl in (
      λ k. absurd cc,
      λ k. absurd (let l : length (ids ++ t ∷ []) ≤ 32 = subst (λ z. length z ≤ 32) f k in
          omega (arith, length-append ids (t ∷ []))),
    )
