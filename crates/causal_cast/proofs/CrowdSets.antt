-- Crowds of others: what is in both, in one and not in the other, in none, and one place alone.
use Rattle.std.proofs.Common.{◌≡◌, ◌≢◌, ℕ, ◌<◌, Bool, true, false, not, ◌&&◌, ◌⊎◌, inl, inr, zero, suc, List, []}
use Rattle.std.proofs.Common.{◌∷◌, length, refl, sym}
use Rattle.std.proofs.Common.{◌∙◌, subst, nat_eq, arith}
use Rattle.std.proofs.lemmas.Bool.Decides.{nat_tests}
use Rattle.group_model.specs.Sets.{Id, In, IsDistinct}
use Rattle.group_model.specs.Marks.{IsPlace, IsCrowd}
use Rattle.group_model.proofs.ListFacts.{yes_is, no_is, test}
use Rattle.group_model.proofs.Places.{place-in, place-one, place-distinct}

and-both : (a b : Bool) → (a && b) ≡ true → (a ≡ true) × (b ≡ true)
and-both true true e = (refl, refl)
and-both true false e = cc
and-both false b e = cc

and-of : (a b : Bool) → a ≡ true → b ≡ true → (a && b) ≡ true
and-of true true d e = refl
and-of true false d e = e
and-of false b d e = d

not-true : (b : Bool) → not b ≡ true → b ≡ false
not-true true e = sym e
not-true false e = refl

not-false : (b : Bool) → b ≡ false → not b ≡ true
not-false true e = sym e
not-false false e = refl

-- those in both
pub crowd-both : (ids : List Id) (a b c : ℕ → Bool) (P Q : Id → Type 0) → IsCrowd ids a P → IsCrowd ids b Q
    → ((p : ℕ) → c p ≡ (a p && b p)) → IsCrowd ids c (λ y. P y × Q y)
crowd-both ids a b c P Q x y is = record {
  each = λ p i at. (
    λ e. let k = and-both (a p) (b p) (sym (is p) ∙ e) in ((x.each p i at).0 k.0, (y.each p i at).0 k.1),
    λ k. is p ∙ and-of (a p) (b p) ((x.each p i at).1 k.0) ((y.each p i at).1 k.1),
  );
  within = λ p e. x.within p (and-both (a p) (b p) (sym (is p) ∙ e)).0;
}

-- those in the one and not in the other
pub crowd-without : (ids : List Id) (a b c : ℕ → Bool) (P Q : Id → Type 0) → IsCrowd ids a P → IsCrowd ids b Q
    → ((p : ℕ) → c p ≡ (a p && not (b p))) → IsCrowd ids c (λ y. P y × (Q y → ⊥))
crowd-without ids a b c P Q x y is = record {
  each = λ p i at. (
    λ e. let k = and-both (a p) (not (b p)) (sym (is p) ∙ e) in
        let n : b p ≡ false = not-true (b p) k.1 in
        ((x.each p i at).0 k.0, λ q. let d : b p ≡ true = (y.each p i at).1 q in cc),
    λ k. is p ∙ and-of (a p) (not (b p)) ((x.each p i at).1 k.0) (not-false (b p) (out p i at k.1)),
  );
  within = λ p e. x.within p (and-both (a p) (not (b p)) (sym (is p) ∙ e)).0;
}
  where
    out : (p : ℕ) (i : Id) → IsPlace ids p i → (Q i → ⊥) → b p ≡ false
    out p i at n = elim (test (b p)) [ yes_is e ↦ absurd (n ((y.each p i at).0 e)) | no_is e ↦ e ]

-- nobody
pub crowd-none : (ids : List Id) (c : ℕ → Bool) (P : Id → Type 0) → ((p : ℕ) → c p ≡ false)
    → ((y : Id) → In y ids → P y → ⊥) → IsCrowd ids c P
crowd-none ids c P is n = record {
  each = λ p i at. (
    λ e. let d : c p ≡ false = is p in absurd (let f : false ≡ true = sym d ∙ e in cc),
    λ k. absurd (n i (place-in ids p i at) k),
  );
  within = λ p e. let d : c p ≡ false = is p in absurd (let f : false ≡ true = sym d ∙ e in cc);
}

-- the same crowd by another property
pub crowd-by : (ids : List Id) (c : ℕ → Bool) (P Q : Id → Type 0) → IsCrowd ids c P → ((y : Id) → P y → Q y)
    → ((y : Id) → Q y → P y) → IsCrowd ids c Q
crowd-by ids c P Q x f g = record {
  each = λ p i at. (λ e. f i ((x.each p i at).0 e), λ k. (x.each p i at).1 (g i k));
  within = x.within;
}

place-below : (ids : List Id) (p : ℕ) (x : Id) → IsPlace ids p x → p < length ids
place-below [] p x e = absurd cc
place-below (i ∷ ids) zero x e = omega arith
place-below (i ∷ ids) (suc p) x e = let k : p < length ids = place-below ids p x e in omega arith

-- one place alone
pub crowd-only : (ids : List Id) (c : ℕ → Bool) (at : ℕ) (x : Id) → IsDistinct ids → IsPlace ids at x → c at ≡ true
    → ((p : ℕ) → p ≢ at → c p ≡ false) → IsCrowd ids c (λ y. x ≡ y)
crowd-only ids c at x g here set others = record {
  each = λ p y i. (
    λ e. place-one ids at x y here (subst (λ z. IsPlace ids z y) (is p e) i),
    λ e. subst (λ z. c z ≡ true) (place-distinct ids g at p x here (subst (λ z. IsPlace ids p z) (sym e) i)) set,
  );
  within = λ p e. subst (λ z. z < length ids) (sym (is p e)) (place-below ids at x here);
}
  where
    is : (p : ℕ) → c p ≡ true → p ≡ at
    is p e = elim (test (nat_eq p at)) [
      | yes_is d ↦ grind (arith, nat_tests)
      | no_is d ↦ let n : p ≢ at = grind (arith, nat_tests) in let f : c p ≡ false = others p n in cc
    ]

-- one place more
pub crowd-more : (ids : List Id) (a c : ℕ → Bool) (P : Id → Type 0) (at : ℕ) (x : Id) → IsDistinct ids
    → IsPlace ids at x → IsCrowd ids a P → c at ≡ true → ((p : ℕ) → p ≢ at → c p ≡ a p)
    → IsCrowd ids c (λ y. P y ⊎ (y ≡ x))
crowd-more ids a c P at x g here k set others = record {
  each = λ p y i. elim (test (nat_eq p at)) [
    | yes_is d ↦ let e : p ≡ at = grind (arith, nat_tests) in (
      λ q. inr (place-one ids at y x (subst (λ z. IsPlace ids z y) e i) here),
      λ q. subst (λ z. c z ≡ true) (sym e) set,
    )
    | no_is d ↦ let n : p ≢ at = grind (arith, nat_tests) in (
      λ q. inl ((k.each p y i).0 (sym (others p n) ∙ q)),
      λ q. elim q [
        | inl r ↦ others p n ∙ (k.each p y i).1 r
        | inr r ↦ absurd (n (place-distinct ids g p at y i (subst (λ z. IsPlace ids at z) (sym r) here)))
      ],
    )
  ];
  within = λ p e. elim (test (nat_eq p at)) [
    | yes_is d ↦ let f : p ≡ at = grind (arith, nat_tests) in
        subst (λ z. z < length ids) (sym f) (place-below ids at x here)
    | no_is d ↦ let n : p ≢ at = grind (arith, nat_tests) in k.within p (sym (others p n) ∙ e)
  ];
}
