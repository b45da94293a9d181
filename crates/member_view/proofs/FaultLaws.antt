-- The faults of a message: each cause gives one answer, and no fault is what validity asks.
use Rattle.std.specs.Prelude.{MatchOption}
use Rattle.std.proofs.Common.{◌↔◌, ◌≡◌, ℕ, ◌+◌, ◌<◌, ◌≤◌, ◌⊎◌, inl, inr, List, [], ◌∷◌, length, Some, None, Option, refl, sym, ◌∙◌, ap, subst, arith}
use Rattle.group_model.specs.Sets.{Id, In, there}
use Rattle.group_model.specs.Messages.{Kind, Create, Update, Remove, Add, Ack, AddAck, Text, Message, History, past}
use Rattle.group_model.specs.Marks.{HasNumber}
use Rattle.group_model.specs.Validity.{IsNamedSender, IsCurrentMember, MayFollow, Opens, MeetsKind}
use Rattle.group_model.proofs.ListFacts.{In-cases, In-nothing, some_same}
use Rattle.group_model.proofs.Pasts.{past-none}
use Rattle.group_model.proofs.Numbers.{number-in, number-one}
use Rattle.group_fields.specs.declared.ids.MessageId.{MessageId}
use Rattle.member_view.specs.Causes.{Causes, IsFirst, GivesNone, IsSingle, AreSingle, single-unless, each, first-one, first-none}
use Rattle.member_view.specs.Rules.{IsForkOf, ForksNone, IsOldestFork, IsInOrder, any_inviter, causes_over, causes_at_first, rule_causes}
use Rattle.member_view.specs.declared.faults.RuleFault.{RuleFault}
use Rattle.member_view.specs.declared.faults.RuleFault.TheVariants as faults
use Rattle.member_view.proofs.Oldest.{oldest, oldest-none, oldest-more, oldest-in, oldest-all}

-- ---- forks, in an upward pass

pub forks-start : (h : History) (m : Message) → ForksNone (oldest h 0) m
forks-start h m = subst (λ z. ForksNone z m) (sym (oldest-none h)) (λ a i f. In-nothing i)

pub forks-more : (h : History) (n : ℕ) (m a : Message) → HasNumber h n a → (IsForkOf m a → ⊥) → ForksNone (oldest h n) m
    → ForksNone (oldest h (n + 1)) m
forks-more h n m a r miss none = subst (λ z. ForksNone z m) (sym (oldest-more h n a r))
    (λ b i f. elim (In-cases i) [ inl d ↦ miss (subst (λ z. IsForkOf m z) d f) | inr j ↦ none b j f ])

pub forks-end : (h : History) (n : ℕ) (m : Message) → length h ≤ n → ForksNone (oldest h n) m → ForksNone h m
forks-end h n m l none = subst (λ z. ForksNone z m) (oldest-all h n l) none

pub fork-found : (h : History) (n : ℕ) (m a : Message) (id : MessageId) → HasNumber h n a → IsForkOf m a → a.id ≡ id.0.0 → ForksNone (oldest h n) m
    → IsOldestFork h m id
fork-found h n m a id r f e none = record {
  by = a;
  number = n;
  is_row = r;
  forks = f;
  has_id = e;
  oldest = λ i b s k. elim (below_or i n) [
    | inl l ↦ absurd (none b (oldest-in h n i b s l) k)
    | inr l ↦ l
  ];
}
  where
    below_or : (i n : ℕ) → (i < n) ⊎ (n ≤ i)
    below_or i n = grind arith

-- there is one oldest fork
same-id : (a b : MessageId) → a.0.0 ≡ b.0.0 → a ≡ b
same-id a b e = let f : List ℕ → MessageId = λ z. record { 0 = record { 0 = z } } in ap f e

oldest-one : (h : History) (m : Message) (a b : MessageId) → IsOldestFork h m a → IsOldestFork h m b → a ≡ b
oldest-one h m a b x y =
    let l = x.oldest y.number y.by y.is_row y.forks in
    let k = y.oldest x.number x.by x.is_row x.forks in
    let e : x.number ≡ y.number = omega arith in
    let d : x.by ≡ y.by = number-one h y.number x.by y.by (subst (λ z. HasNumber h z x.by) e x.is_row) y.is_row in
    same-id a b (sym x.has_id ∙ ap (λ (z : Message). z.id) d ∙ y.has_id)

single-forked : (h : History) (m : Message) → IsSingle (each (ForksNone h m) faults.Forked (IsOldestFork h m))
single-forked h m = record {
  one = λ a b x y. x.2 ∙ ap faults.Forked (oldest-one h m x.0 y.0 x.1 y.1) ∙ sym y.2;
  apart = λ a x none. none x.1.by (number-in h x.1.number x.1.by x.1.is_row) x.1.forks;
}

-- ---- each cause gives one answer

single-over : (rule : History → List Id) (h p : History) (m : Message) → AreSingle (causes_over rule h p m)
single-over rule h p m = (
  single-unless (IsNamedSender p m) faults.Stranger,
  (
    single-unless (IsCurrentMember rule p m) faults.NotMember,
    (
      single-forked h m,
      (
        single-unless (IsInOrder p m) faults.BadOrder,
        (single-unless (MeetsKind rule (any_inviter m) p m.sender m.kind) faults.BadKind, tt),
      ),
    ),
  ),
)

single-first : (rule : History → List Id) (m : Message) (k : Kind) → AreSingle (causes_at_first rule m k)
single-first rule m (Create members) = (single-unless (Opens (any_inviter m) m) faults.BadKind, tt)
single-first rule m Update = single-over rule [] [] m
single-first rule m (Remove y) = single-over rule [] [] m
single-first rule m (Add y) = single-over rule [] [] m
single-first rule m (Ack o took) = single-over rule [] [] m
single-first rule m (AddAck o) = single-over rule [] [] m
single-first rule m Text = single-over rule [] [] m

pub single-rules : (rule : History → List Id) (h : History) (m : Message) → AreSingle (rule_causes rule h m)
unfolding rule_causes
single-rules rule [] m = single-first rule m m.kind
single-rules rule (l ∷ older) m = single-over rule (l ∷ older) (past (l ∷ older) m.predecessors) m

-- ---- no fault

unnamed-none : (m : Message) → IsNamedSender [] m → ⊥
unnamed-none m n = In-nothing n.there_is

opens-none : (rule : History → List Id) (m : Message) (k : Kind) → GivesNone (causes_at_first rule m k) → Opens (any_inviter m) m
opens-none rule m (Create members) n = n.0
opens-none rule m Update n = absurd (unnamed-none m n.0)
opens-none rule m (Remove y) n = absurd (unnamed-none m n.0)
opens-none rule m (Add y) n = absurd (unnamed-none m n.0)
opens-none rule m (Ack o took) n = absurd (unnamed-none m n.0)
opens-none rule m (AddAck o) n = absurd (unnamed-none m n.0)
opens-none rule m Text n = absurd (unnamed-none m n.0)

pub goes-on : (rule : History → List Id) (h : History) (m : Message) → GivesNone (rule_causes rule h m) → MayFollow rule (any_inviter m) h m
unfolding rule_causes
goes-on rule [] m n = opens-none rule m m.kind n
goes-on rule (l ∷ older) m n = record { named = n.0; member = n.1.0; next = n.1.1.1.0.next; suits = n.1.1.1.1.0; in_turn = n.1.1.1.0.in_turn; heads = n.1.1.1.0.heads }

pub forks-none : (rule : History → List Id) (h : History) (m : Message) → GivesNone (rule_causes rule h m) → ForksNone h m
unfolding rule_causes
forks-none rule [] m n = λ a i f. In-nothing i
forks-none rule (l ∷ older) m n = n.1.1.0

-- ---- the first cause, step by step

module _ (rule : History → List Id) (h p : History) (m : Message) where
  pub first-stranger : (IsNamedSender p m → ⊥) → IsFirst (causes_over rule h p m) faults.Stranger
  first-stranger n = inl (n, refl)

  pub first-not_member : IsNamedSender p m → (IsCurrentMember rule p m → ⊥) → IsFirst (causes_over rule h p m) faults.NotMember
  first-not_member a n = inr (a, inl (n, refl))

  pub first-forked : IsNamedSender p m → IsCurrentMember rule p m → (id : MessageId) → IsOldestFork h m id
      → IsFirst (causes_over rule h p m) (faults.Forked id)
  first-forked a b id f = inr (a, inr (b, inl (id, f, refl)))

  pub first-bad_order : IsNamedSender p m → IsCurrentMember rule p m → ForksNone h m → (IsInOrder p m → ⊥)
      → IsFirst (causes_over rule h p m) faults.BadOrder
  first-bad_order a b d n = inr (a, inr (b, inr (d, inl (n, refl))))

  pub first-bad_kind : IsNamedSender p m → IsCurrentMember rule p m → ForksNone h m → IsInOrder p m
      → (MeetsKind rule (any_inviter m) p m.sender m.kind → ⊥) → IsFirst (causes_over rule h p m) faults.BadKind
  first-bad_kind a b d e n = inr (a, inr (b, inr (d, inr (e, inl (n, refl)))))

  pub no-fault : IsNamedSender p m → IsCurrentMember rule p m → ForksNone h m → IsInOrder p m
      → MeetsKind rule (any_inviter m) p m.sender m.kind → GivesNone (causes_over rule h p m)
  no-fault a b d e f = (a, (b, (d, (e, (f, tt)))))

-- ---- over the empty history

pub create-refused : (rule : History → List Id) (m : Message) (members : List Id) → Create members ≡ m.kind → (Opens (any_inviter m) m → ⊥)
    → IsFirst (rule_causes rule [] m) faults.BadKind
unfolding rule_causes
create-refused rule m members e n = subst (λ k. IsFirst (causes_at_first rule m k) faults.BadKind) e (inl (n, refl))

pub create-taken : (rule : History → List Id) (m : Message) (members : List Id) → Create members ≡ m.kind → Opens (any_inviter m) m
    → GivesNone (rule_causes rule [] m)
unfolding rule_causes
create-taken rule m members e o = subst (λ k. GivesNone (causes_at_first rule m k)) e (o, tt)

at_first-over : (rule : History → List Id) (m : Message) (k : Kind) → ((members : List Id) → k ≡ Create members → ⊥)
    → causes_at_first rule m k ≡ causes_over rule [] [] m
at_first-over rule m (Create members) n = absurd (n members refl)
at_first-over rule m Update n = refl
at_first-over rule m (Remove y) n = refl
at_first-over rule m (Add y) n = refl
at_first-over rule m (Ack o took) n = refl
at_first-over rule m (AddAck o) n = refl
at_first-over rule m Text n = refl

pub causes-over : (rule : History → List Id) (h : History) (m : Message) → (h ≡ [] → (members : List Id) → m.kind ≡ Create members → ⊥)
    → rule_causes rule h m ≡ causes_over rule h (past h m.predecessors) m
unfolding rule_causes
causes-over rule [] m n = at_first-over rule m m.kind (n refl) ∙ ap (λ z. causes_over rule [] z m) (sym (past-none m.predecessors))
causes-over rule (l ∷ older) m n = refl

-- ---- the answer is exactly that of the causes

pub answer-first : (causes : Causes RuleFault) → AreSingle causes → (r : Option RuleFault) → MatchOption r (GivesNone causes) (λ a. IsFirst causes a)
    → (fault : RuleFault) → (r ≡ Some fault) ↔ IsFirst causes fault
answer-first causes s None k fault = (λ e. absurd (let d : None ≡ Some fault = e in cc), λ f. absurd (first-none causes s fault f k))
answer-first causes s (Some a) k fault = (
  λ e. let d : a ≡ fault = some_same e in subst (λ z. IsFirst causes z) d k,
  λ f. ap (λ z. Some z) (first-one causes s a fault k f),
)

pub answer-none : (causes : Causes RuleFault) → AreSingle causes → (r : Option RuleFault) → MatchOption r (GivesNone causes) (λ a. IsFirst causes a)
    → (r ≡ None) ↔ GivesNone causes
answer-none causes s None k = (λ e. k, λ n. refl)
answer-none causes s (Some a) k = (λ e. absurd (let d : Some a ≡ None = e in cc), λ n. absurd (first-none causes s a k n))
