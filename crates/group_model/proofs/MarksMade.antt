-- Each past has marks.
use Rattle.std.proofs.Common.{◌≡◌, ℕ, ◌<◌, Bool, true, false, cond, inl, inr, List, [], ◌∷◌, nat_eq, length, refl, sym, ◌∙◌, ap, subst, arith}
use Rattle.std.specs.Str.{bytes_eq}
use Rattle.group_model.specs.Sets.{Id, In}
use Rattle.group_model.specs.Messages.{Message, History, past, IsHistory}
use Rattle.group_model.specs.Marks.{HasNumber, MarksPast}
use Rattle.group_model.proofs.ListFacts.{yes_is, no_is, test}
use Rattle.group_model.proofs.Pasts.{past-within, same-message}
use Rattle.group_model.proofs.Says.{any, says-any, says-same}
use Rattle.group_model.proofs.Verdicts.{says-equal}
use Rattle.group_model.proofs.Numbers.{number-in, number-below}

-- a message of the list has the id
abbrev pub id_in : History → Id → Bool
id_in p i = any (λ (a : Message). bytes_eq a.id i) p

-- the marks of those messages of a history that stand in a list
abbrev pub marks_of : History → History → ℕ → Bool
marks_of [] p i = false
marks_of (m ∷ older) p i = cond (nat_eq i (length older)) (id_in p m.id) (marks_of older p i)

marks-at : (h p : History) (i : ℕ) (m : Message) → HasNumber h i m → marks_of h p i ≡ id_in p m.id
marks-at [] p i m r = absurd r
marks-at (n ∷ older) p i m (inl e) =
    ap (λ b. cond b (id_in p n.id) (marks_of older p i)) ((says-equal i (length older)).told e.0)
    ∙ ap (λ (z : Message). id_in p z.id) (sym e.1)
marks-at (n ∷ older) p i m (inr r) = elim (test (nat_eq i (length older))) [
  | yes_is d ↦ absurd (
      let l = number-below older i m r in let e : i ≡ length older = (says-equal i (length older)).holds d in omega (arith, l, e))
  | no_is d ↦ ap (λ b. cond b (id_in p n.id) (marks_of older p i)) d ∙ marks-at older p i m r
]

marks-within : (h p : History) (i : ℕ) → marks_of h p i ≡ true → i < length h
marks-within [] p i e = cc
marks-within (m ∷ older) p i e = elim (test (nat_eq i (length older))) [
  | yes_is d ↦ (let f : i ≡ length older = (says-equal i (length older)).holds d in omega (arith, f))
  | no_is d ↦ (let l = marks-within older p i (rw d at e) in omega (arith, l))
]

pub past-marks : (h : History) → IsHistory h → (ids : List Id) → MarksPast h ids (marks_of h (past h ids))
past-marks h g ids = record {
  each = λ i m r. (
    λ t.
        let found = (says-any (λ (a : Message). says-same a.id m.id) (past h ids)).holds (sym (marks-at h (past h ids) i m r) ∙ t) in
        let same : found.0 ≡ m = same-message h g (past-within h ids found.1) (number-in h i m r) found.2 in
        subst (λ z. In z (past h ids)) same found.1,
    λ j. marks-at h (past h ids) i m r ∙ (says-any (λ (a : Message). says-same a.id m.id) (past h ids)).told (m, j, refl),
  );
  within = marks-within h (past h ids);
}
