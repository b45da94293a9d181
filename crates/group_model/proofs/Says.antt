-- Tests that say whether a proposition holds.
use Rattle.std.proofs.Common.{◌≡◌, Bool, true, false, ◌⊎◌, inl, inr, List, [], ◌∷◌, refl, sym, subst}
use Rattle.std.specs.Str.{bytes_eq}
use Rattle.std.proofs.lemmas.Slice.Eq.{bytes_eq-Decides}
use Rattle.group_model.specs.Sets.{Id, In, here, there, has}
use Rattle.group_model.proofs.ListFacts.{yes_is, no_is, test, has-In, In-has, In-cases, In-nothing}

-- the test is true exactly where the proposition holds
pub record Says (b : Bool) (P : Type 0) : Type 0 where
  pub holds : b ≡ true → P
  pub told : P → b ≡ true

abbrev pub both : Bool → Bool → Bool
both true b = b
both false b = false

abbrev pub either : Bool → Bool → Bool
either true b = true
either false b = b

abbrev pub opposite : Bool → Bool
opposite true = false
opposite false = true

abbrev pub any : {A : Type 0} → (A → Bool) → List A → Bool
any t [] = false
any t (x ∷ xs) = either (t x) (any t xs)

abbrev pub each : {A : Type 0} → (A → Bool) → List A → Bool
each t [] = true
each t (x ∷ xs) = both (t x) (each t xs)

pub both-true : (a b : Bool) → both a b ≡ true → (a ≡ true) × (b ≡ true)
both-true true b e = (refl, e)
both-true false b e = cc

pub true-both : (a b : Bool) → a ≡ true → b ≡ true → both a b ≡ true
true-both true b d e = e
true-both false b d e = cc

pub says-other : {a : Bool} {P Q : Type 0} → (P → Q) → (Q → P) → Says a P → Says a Q
says-other f g s = record { holds = λ e. f (s.holds e); told = λ q. s.told (g q) }

pub says-and : {a b : Bool} {P Q : Type 0} → Says a P → Says b Q → Says (both a b) (P × Q)
says-and {a} {b} s t = record {
  holds = λ e. let k = both-true a b e in (s.holds k.0, t.holds k.1);
  told = λ p. true-both a b (s.told p.0) (t.told p.1);
}

pub either-true : (a b : Bool) → either a b ≡ true → (a ≡ true) ⊎ (b ≡ true)
either-true true b e = inl refl
either-true false b e = inr e

true-either : (a b : Bool) → (a ≡ true) ⊎ (b ≡ true) → either a b ≡ true
true-either true b e = refl
true-either false b (inl e) = cc
true-either false b (inr e) = e

pub says-or : {a b : Bool} {P Q : Type 0} → Says a P → Says b Q → Says (either a b) (P ⊎ Q)
says-or {a} {b} {P} {Q} s t = record {
  holds = λ e. elim (either-true a b e) [ inl k ↦ inl (s.holds k) | inr k ↦ inr (t.holds k) ];
  told = λ p. true-either a b (elim p [ inl k ↦ inl (s.told k) | inr k ↦ inr (t.told k) ]);
}

opposite-true : (a : Bool) → opposite a ≡ true → a ≡ true → ⊥
opposite-true true e d = cc
opposite-true false e d = cc

true-opposite : (a : Bool) → (a ≡ true → ⊥) → opposite a ≡ true
true-opposite true n = absurd (n refl)
true-opposite false n = refl

pub says-not : {a : Bool} {P : Type 0} → Says a P → Says (opposite a) (P → ⊥)
says-not {a} s = record {
  holds = λ e p. opposite-true a e (s.told p);
  told = λ n. true-opposite a (λ e. n (s.holds e));
}

pub says-if : {a b : Bool} {P Q : Type 0} → Says a P → Says b Q → Says (either (opposite a) b) (P → Q)
says-if {a} {b} s t = record {
  holds = λ e p. elim (either-true (opposite a) b e) [ inl k ↦ absurd (opposite-true a k (s.told p)) | inr k ↦ t.holds k ];
  told = λ f. true-either (opposite a) b (elim (test a) [
    | yes_is k ↦ inr (t.told (f (s.holds k)))
    | no_is k ↦ inl (true-opposite a (λ e. cc))
  ]);
}

pub any-true : {A : Type 0} (t : A → Bool) (xs : List A) → any t xs ≡ true → (x : A) × In x xs × (t x ≡ true)
any-true t [] e = cc
any-true t (x ∷ xs) e = elim (either-true (t x) (any t xs) e) [
  | inl k ↦ (x, here, k)
  | inr k ↦ let r = any-true t xs k in (r.0, there r.1, r.2)
]

pub true-any : {A : Type 0} (t : A → Bool) (xs : List A) (x : A) → In x xs → t x ≡ true → any t xs ≡ true
true-any t [] x i e = absurd (In-nothing i)
true-any t (y ∷ xs) x i e = true-either (t y) (any t xs) (elim (In-cases i) [
  | inl d ↦ inl (subst (λ z. t z ≡ true) d e)
  | inr k ↦ inr (true-any t xs x k e)
])

pub each-true : {A : Type 0} (t : A → Bool) (xs : List A) → each t xs ≡ true → (x : A) → In x xs → t x ≡ true
each-true t [] e x i = absurd (In-nothing i)
each-true t (y ∷ xs) e x i = let k = both-true (t y) (each t xs) e in elim (In-cases i) [
  | inl d ↦ subst (λ z. t z ≡ true) (sym d) k.0
  | inr j ↦ each-true t xs k.1 x j
]

pub true-each : {A : Type 0} (t : A → Bool) (xs : List A) → ((x : A) → In x xs → t x ≡ true) → each t xs ≡ true
true-each t [] f = refl
true-each t (y ∷ xs) f = true-both (t y) (each t xs) (f y here) (true-each t xs (λ x i. f x (there i)))

pub says-any : {A : Type 0} {t : A → Bool} {P : A → Type 0} → ((x : A) → Says (t x) (P x)) → (xs : List A)
    → Says (any t xs) ((x : A) × In x xs × P x)
says-any {A} {t} {P} s xs = record {
  holds = λ e. let r = any-true t xs e in (r.0, r.1, (s r.0).holds r.2);
  told = λ p. true-any t xs p.0 p.1 ((s p.0).told p.2);
}

pub says-each : {A : Type 0} {t : A → Bool} {P : A → Type 0} → ((x : A) → Says (t x) (P x)) → (xs : List A)
    → Says (each t xs) ((x : A) → In x xs → P x)
says-each {A} {t} {P} s xs = record {
  holds = λ e x i. (s x).holds (each-true t xs e x i);
  told = λ f. true-each t xs (λ x i. (s x).told (f x i));
}

pub says-same : (a b : Id) → Says (bytes_eq a b) (a ≡ b)
says-same a b = record { holds = (bytes_eq-Decides a b).0; told = (bytes_eq-Decides a b).1 }

pub says-has : (ids : List Id) (i : Id) → Says (has ids i) (In i ids)
says-has ids i = record { holds = has-In ids i; told = In-has ids i }

pub says-yes : {P : Type 0} → P → Says true P
says-yes p = record { holds = λ e. p; told = λ q. refl }

pub says-no : {P : Type 0} → (P → ⊥) → Says false P
says-no n = record { holds = λ e. cc; told = λ p. absurd (n p) }
