-- Each verdict carries one value.
use Rattle.std.proofs.Common.{◌≡◌, ℕ, ◌≤◌, inl, inr, List, sym, ◌∙◌, ap, subst, arith}
use Rattle.group_fields.specs.declared.ids.Digest.{Digest}
use Rattle.group_fields.specs.declared.ids.MessageId.{MessageId}
use Rattle.group_model.specs.Sets.{Id, In}
use Rattle.group_model.specs.Messages.{Message, History, Stands}
use Rattle.group_model.specs.Marks.{HasNumber}
use Rattle.group_model.proofs.Ascending.{below-trans, below-not_self}
use Rattle.group_model.proofs.Numbers.{number-one, number-in}
use Rattle.causal_history.specs.Numbered.{IsLeastMissing}
use Rattle.member_view.specs.Causes.{IsSingle, each}
use Rattle.member_view.specs.Rules.{ForksNone, IsOldestFork}

-- ids of messages are their bytes
same-id : (a b : MessageId) → a.0.0 ≡ b.0.0 → a ≡ b
same-id a b e = ap (λ (z : List ℕ). let d : Digest = record { 0 = z } in let i : MessageId = record { 0 = d } in i) e

least-one : (h : History) (ids : List Id) (i j : Id) → IsLeastMissing h ids i → IsLeastMissing h ids j → i ≡ j
least-one h ids i j a b = elim (a.least j b.among b.missing) [
  | inl e ↦ sym e
  | inr up ↦ elim (b.least i a.among a.missing) [
    | inl e ↦ e
    | inr down ↦ absurd (below-not_self i (below-trans i j i up down))
  ]
]

-- the least predecessor that is missing is one, and where none is missing there is none
pub single-missing : {A : Type 0} (h : History) (ids : List Id) (answer_of : MessageId → A)
    → IsSingle (each ((i : Id) → In i ids → Stands h i) answer_of (λ id. IsLeastMissing h ids id.0.0))
single-missing h ids answer_of = record {
  one = λ a b x y. x.2 ∙ ap answer_of (same-id x.0 y.0 (least-one h ids x.0.0.0 y.0.0.0 x.1 y.1)) ∙ sym y.2;
  apart = λ a x stand. x.1.missing (stand x.0.0.0 x.1.among);
}

-- the oldest fork is one, and where nothing forks there is none
pub single-fork : {A : Type 0} (h : History) (m : Message) (answer_of : MessageId → A)
    → IsSingle (each (ForksNone h m) answer_of (IsOldestFork h m))
single-fork h m answer_of = record {
  one = λ a b x y.
      let ids : x.0.0.0 ≡ y.0.0.0 =
      sym x.1.has_id ∙ ap (λ (z : Message). z.id) (one x.0 y.0 x.1 y.1) ∙ y.1.has_id in
      x.2 ∙ ap answer_of (same-id x.0 y.0 ids) ∙ sym y.2;
  apart = λ a x none. none x.1.by (number-in h x.1.number x.1.by x.1.is_row) x.1.forks;
}
  where
    one : (a b : MessageId) → (x : IsOldestFork h m a) → (y : IsOldestFork h m b) → x.by ≡ y.by
    one a b x y =
        let i : x.number ≤ y.number = x.oldest y.number y.by y.is_row y.forks in
        let j : y.number ≤ x.number = y.oldest x.number x.by x.is_row x.forks in
        let e : x.number ≡ y.number = omega arith in
        number-one h y.number x.by y.by (subst (λ n. HasNumber h n x.by) e x.is_row) y.is_row
