-- A sender's messages by number, and whose turn it is.
use Rattle.std.proofs.Common.{◌≡◌, ◌≢◌, ℕ, ◌+◌, ◌≤◌, Bool, true, false, inl, inr, ◌↔◌, length, Some, None, refl, sym, ◌∙◌, ap, subst}
use Rattle.std.specs.Str.{bytes_eq}
use Rattle.group_model.specs.Sets.{Id, In}
use Rattle.group_model.specs.Messages.{Message, History, IsHistory, Stands}
use Rattle.group_model.specs.Marks.{HasNumber, marked}
use Rattle.group_model.specs.Validity.{IsUnanswered, AnswersOne, AnswersNone, count_of, HasStepped, StepsRatchet}
use Rattle.group_model.proofs.ListFacts.{In-cases, In-nothing, some_same, test, yes_is, no_is}
use Rattle.group_model.proofs.Pasts.{same-message}
use Rattle.group_model.proofs.Numbers.{number-in, number-same, number-one}
use Rattle.group_model.proofs.Says.{says-same}
use Rattle.member_view.specs.Waiting.{WaitsAlone}
use Rattle.member_view.proofs.Oldest.{so_far, so_far-taken, so_far-left, so_far-none, so_far-all, marked-number, marked-within}

-- ---- how many messages a sender has

same-yes : (a b : Id) → a ≡ b → bytes_eq a b ≡ true
same-yes a b e = (says-same a b).told e

same-no : (a b : Id) → a ≢ b → bytes_eq a b ≡ false
same-no a b n = elim (test (bytes_eq a b)) [
  | yes_is t ↦ absurd (n ((says-same a b).holds t))
  | no_is t ↦ t
]

pub count-start : (s : Id) (marks : ℕ → Bool) (h : History) → count_of s (so_far marks h 0) ≡ 0
count-start s marks h = rw (so_far-none marks h) refl

pub count-own : (s : Id) (marks : ℕ → Bool) (h : History) (at : ℕ) (m : Message) → HasNumber h at m → marks at ≡ true → m.sender ≡ s
    → count_of s (so_far marks h (at + 1)) ≡ count_of s (so_far marks h at) + 1
count-own s marks h at m r t e = rw (so_far-taken marks h at m r t) (rw (same-yes m.sender s e) refl)

pub count-other : (s : Id) (marks : ℕ → Bool) (h : History) (at : ℕ) (m : Message) → HasNumber h at m → marks at ≡ true → m.sender ≢ s
    → count_of s (so_far marks h (at + 1)) ≡ count_of s (so_far marks h at)
count-other s marks h at m r t e = rw (so_far-taken marks h at m r t) (rw (same-no m.sender s e) refl)

pub count-skipped : (s : Id) (marks : ℕ → Bool) (h : History) (at : ℕ) (m : Message) → HasNumber h at m → marks at ≡ false
    → count_of s (so_far marks h (at + 1)) ≡ count_of s (so_far marks h at)
count-skipped s marks h at m r t = rw (so_far-left marks h at m r t) refl

pub count-end : (s : Id) (marks : ℕ → Bool) (h : History) (at : ℕ) → length h ≤ at
    → count_of s (so_far marks h at) ≡ count_of s (marked marks h)
count-end s marks h at l = rw (so_far-all marks h at l) refl

-- ---- whether a message of the sender steps its ratchet

pub stepped-start : (marks : ℕ → Bool) (h : History) (s : Id) → HasStepped (so_far marks h 0) s → ⊥
stepped-start marks h s k = In-nothing (subst (λ z. In k.by z) (so_far-none marks h) k.there_is)

pub stepped-more : (marks : ℕ → Bool) (h : History) (s : Id) (at : ℕ) (m : Message) → HasNumber h at m → marks at ≡ true
    → ((m.sender ≡ s) × StepsRatchet m.kind → ⊥) → (HasStepped (so_far marks h at) s → ⊥) → HasStepped (so_far marks h (at + 1)) s → ⊥
stepped-more marks h s at m r t miss none k = elim (In-cases (subst (λ z. In k.by z) (so_far-taken marks h at m r t) k.there_is)) [
  | inl d ↦ miss (subst (λ (z : Message). (z.sender ≡ s) × StepsRatchet z.kind) d (k.own, k.steps))
  | inr j ↦ none (record { by = k.by; there_is = j; own = k.own; steps = k.steps })
]

pub stepped-skipped : (marks : ℕ → Bool) (h : History) (s : Id) (at : ℕ) (m : Message) → HasNumber h at m → marks at ≡ false
    → (HasStepped (so_far marks h at) s → ⊥) → HasStepped (so_far marks h (at + 1)) s → ⊥
stepped-skipped marks h s at m r t none k = none (record {
  by = k.by;
  there_is = subst (λ z. In k.by z) (so_far-left marks h at m r t) k.there_is;
  own = k.own;
  steps = k.steps;
})

pub stepped-end : (marks : ℕ → Bool) (h : History) (s : Id) (at : ℕ) → length h ≤ at → (HasStepped (so_far marks h at) s → ⊥)
    → HasStepped (marked marks h) s → ⊥
stepped-end marks h s at l none k = none (record {
  by = k.by;
  there_is = subst (λ z. In k.by z) (sym (so_far-all marks h at l)) k.there_is;
  own = k.own;
  steps = k.steps;
})

-- ---- whose turn it is

pub alone-none : (h : History) (marks : ℕ → Bool) (s : Id) → WaitsAlone h (marked marks h) s None ↔ AnswersNone (marked marks h) s
alone-none h marks s = (
  λ k o u. let n = marked-number h marks u.there_is in absurd (let e = k n.number o n.is_row u in cc),
  λ none i o r u. absurd (none o u),
)

pub alone-one : (h : History) → IsHistory h → (marks : ℕ → Bool) (s i : Id) (at : ℕ) (a : Message) → HasNumber h at a → a.id ≡ i
    → (IsUnanswered (marked marks h) s a × WaitsAlone h (marked marks h) s (Some at)) ↔ AnswersOne (marked marks h) s i
alone-one h g marks s i at a r e = (
  λ k. record {
    operation = a;
    waits = k.0;
    has_id = e;
    only = λ o u. let n = marked-number h marks u.there_is in
        let d : at ≡ n.number = some_same (k.1 n.number o n.is_row u) in
        ap (λ (z : Message). z.id) (number-one h at o a (subst (λ z. HasNumber h z o) (sym d) n.is_row) r) ∙ e;
  },
  λ one. (
    subst (λ z. IsUnanswered (marked marks h) s z)
        (same-message h g (marked-within h marks one.waits.there_is) (number-in h at a r) (one.has_id ∙ sym e)) one.waits,
    λ j o n u.
        let d : o ≡ a = same-message h g (number-in h j o n) (number-in h at a r) (one.only o u ∙ sym e) in
        ap (λ z. Some z) (number-same h g at j a r (subst (λ z. HasNumber h j z) d n)),
  ),
)

pub missing-one : (h : History) (marks : ℕ → Bool) (s i : Id) → (Stands h i → ⊥) → AnswersOne (marked marks h) s i → ⊥
missing-one h marks s i miss one =
    miss (record { by = one.operation; there_is = marked-within h marks one.waits.there_is; has_id = one.has_id })
