-- Answers by their causes, in order: a new refusal is one line of a list.
use Rattle.std.specs.Prelude.{◌≡◌, ◌⊎◌, List, [], ◌∷◌, ◌++◌}
use Rattle.std.proofs.Common.{inl, inr, sym, ◌∙◌}

-- what a cause answers where it holds, and what holds where it doesn't
pub record Cause (A : Type 0) : Type 1 where
  pub gives : A → Type 0
  pub passes : Type 0

-- the causes, in the order in which they are asked
abbrev pub Causes : Type 0 → Type 1
Causes A = List (Cause A)

-- one answer, where the fact doesn't hold
abbrev pub unless : {A : Type 0} → (fact : Type 0) → A → Cause A
unless fact answer = record { gives = λ a. (fact → ⊥) × (a ≡ answer); passes = fact }

-- one answer, where the fact holds
abbrev pub when : {A : Type 0} → (fact : Type 0) → A → Cause A
when fact answer = record { gives = λ a. fact × (a ≡ answer); passes = fact → ⊥ }

-- the answer of a value that is such, where the fact doesn't hold
abbrev pub each : {A B : Type 0} → (fact : Type 0) → (answer_of : B → A) → (IsSuch : B → Type 0) → Cause A
each {A} {B} fact answer_of IsSuch = record { gives = λ a. (b : B) × IsSuch b × (a ≡ answer_of b); passes = fact }

-- the first cause that holds gives the answer
abbrev pub IsFirst : {A : Type 0} → Causes A → A → Type 0
IsFirst [] a = ⊥
IsFirst (c ∷ causes) a = c.gives a ⊎ (c.passes × IsFirst causes a)

-- no cause holds
abbrev pub GivesNone : {A : Type 0} → Causes A → Type 0
GivesNone [] = Unit {0}
GivesNone (c ∷ causes) = c.passes × GivesNone causes

-- a cause gives one answer, and none where it doesn't hold
pub record IsSingle {A : Type 0} (c : Cause A) : Type 0 where
  pub one : (a b : A) → c.gives a → c.gives b → a ≡ b
  pub apart : (a : A) → c.gives a → c.passes → ⊥

abbrev pub AreSingle : {A : Type 0} → Causes A → Type 0
AreSingle [] = Unit {0}
AreSingle (c ∷ causes) = IsSingle c × AreSingle causes

-- ---- laws

pub single-unless : {A : Type 0} (fact : Type 0) (answer : A) → IsSingle (unless fact answer)
single-unless fact answer = record {
  one = λ a b x y. x.1 ∙ sym y.1;
  apart = λ a x y. x.0 y;
}

pub single-when : {A : Type 0} (fact : Type 0) (answer : A) → IsSingle (when fact answer)
single-when fact answer = record {
  one = λ a b x y. x.1 ∙ sym y.1;
  apart = λ a x y. y x.0;
}

-- the first cause gives one answer
pub first-one : {A : Type 0} (causes : Causes A) → AreSingle causes → (a b : A) → IsFirst causes a → IsFirst causes b
    → a ≡ b
first-one [] s a b x y = absurd x
first-one (c ∷ causes) s a b (inl x) (inl y) = s.0.one a b x y
first-one (c ∷ causes) s a b (inl x) (inr y) = absurd (s.0.apart a x y.0)
first-one (c ∷ causes) s a b (inr x) (inl y) = absurd (s.0.apart b y x.0)
first-one (c ∷ causes) s a b (inr x) (inr y) = first-one causes s.1 a b x.1 y.1

-- and none where no cause holds
pub first-none : {A : Type 0} (causes : Causes A) → AreSingle causes → (a : A) → IsFirst causes a → GivesNone causes → ⊥
first-none [] s a x n = x
first-none (c ∷ causes) s a (inl x) n = s.0.apart a x n.0
first-none (c ∷ causes) s a (inr x) n = first-none causes s.1 a x.1 n.1

-- lists of causes, one behind the other
pub first-front : {A : Type 0} (front back : Causes A) (a : A) → IsFirst front a → IsFirst (front ++ back) a
first-front [] back a x = absurd x
first-front (c ∷ front) back a (inl x) = inl x
first-front (c ∷ front) back a (inr x) = inr (x.0, first-front front back a x.1)

pub first-back : {A : Type 0} (front back : Causes A) (a : A) → GivesNone front → IsFirst back a
    → IsFirst (front ++ back) a
first-back [] back a n x = x
first-back (c ∷ front) back a n x = inr (n.0, first-back front back a n.1 x)

pub none-both : {A : Type 0} (front back : Causes A) → GivesNone front → GivesNone back → GivesNone (front ++ back)
none-both [] back n k = k
none-both (c ∷ front) back n k = (n.0, none-both front back n.1 k)

pub single-both : {A : Type 0} (front back : Causes A) → AreSingle front → AreSingle back → AreSingle (front ++ back)
single-both [] back s k = k
single-both (c ∷ front) back s k = (s.0, single-both front back s.1 k)
