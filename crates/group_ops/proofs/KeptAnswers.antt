-- Inputs that are kept place by place are kept together.
use Rattle.std.proofs.Common.{◌≡◌, ◌∙◌, ℕ, zero, suc, ◌+◌, ◌<◌, Bool, true, false, cond, List, [], ◌∷◌, length, Option, Some, None, inl, inr, refl, ap, sym, subst, arith, add-one, nat_eq, nat_le}
use Rattle.std.specs.Prelude.{bytes_eq}
use Rattle.std.proofs.lemmas.Bool.{eqb-false, eqb-true, leb-false, leb-true}
use Rattle.std.proofs.lemmas.Slice.Eq.{bytes_eq-Decides}
use Rattle.kem_trait.specs.declared.kem.Kem.{Ghosts}
use Rattle.group_model.specs.Sets.{Bytes, Id, In, here, there, has}
use Rattle.group_model.specs.Knowledge.{or_else}
use Rattle.group_model.specs.Settings.{Owner}
use Rattle.group_model.proofs.ListFacts.{yes_is, no_is, test, In-has, has-In, In-cases}
use Rattle.member_book.specs.Books.{BookState, keep}
use Rattle.member_book.specs.Places.{KeepsEach, id_at}
use Rattle.secret_book.specs.HeldBooks.{BookTable, HeldBook, held, with_kept}
use Rattle.book_standing.specs.Standing.{CallsStand, HeldStands}
use Rattle.group_ops.specs.Answers.{answer_kept, answers_kept}

-- ---- lists of ids

same-test : (a b : Bool) → (a ≡ true → b ≡ true) → (b ≡ true → a ≡ true) → a ≡ b
same-test true b f g = sym (f refl)
same-test false true f g = g refl
same-test false false f g = refl

-- what is kept depends on which ids the list has
pub same-kept : (i : Id) (ids others : List Id) (f : Id → Option Bytes) (b : BookState)
    → ((t : Id) → In t ids → In t others) → ((t : Id) → In t others → In t ids)
    → keep i ids f b ≡ keep i others f b
same-kept i ids others f b forth back = λ x. record b { kept = λ j t. at j t x }
  where
    same : (t : Id) → has ids t ≡ has others t
    same t = same-test (has ids t) (has others t) (λ e. In-has others t (forth t (has-In ids t e)))
        (λ e. In-has ids t (back t (has-In others t e)))

    at : (j t : Id) → (keep i ids f b).kept j t ≡ (keep i others f b).kept j t
    at j t = ap (λ (z : Bool). cond (bytes_eq i j) (cond z (or_else (f t) (b.kept j t)) (b.kept j t)) (b.kept j t)) (same t)

both_same : {A : Type 0} (t : Bool) (v : A) → cond t v v ≡ v
both_same true v = refl
both_same false v = refl

-- without a seed nothing is kept
pub none-kept : (i : Id) (ids : List Id) (b : BookState) → keep i ids (λ y. None) b ≡ b
none-kept i ids b = λ x. record b { kept = λ j t. at j t x }
  where
    at : (j t : Id) → (keep i ids (λ y. None) b).kept j t ≡ b.kept j t
    at j t = ap (λ (z : Option Bytes). cond (bytes_eq i j) z (b.kept j t)) (both_same (has ids t) (b.kept j t))
        ∙ both_same (bytes_eq i j) (b.kept j t)

-- of nobody nothing is kept
kept-nobody : (i : Id) (f : Id → Option Bytes) (b : BookState) → keep i [] f b ≡ b
kept-nobody i f b = λ x. record b { kept = λ j t. both_same (bytes_eq i j) (b.kept j t) x }

-- one input is kept by its value
kept-one : (i y : Id) (v : Bytes) (f : Id → Option Bytes) (b : BookState) → f y ≡ Some v
    → keep i (y ∷ []) (λ z. Some v) b ≡ keep i (y ∷ []) f b
kept-one i y v f b e = λ x. record b { kept = λ j t. at j t x }
  where
    at : (j t : Id) → (keep i (y ∷ []) (λ z. Some v) b).kept j t ≡ (keep i (y ∷ []) f b).kept j t
    at j t = elim (test (bytes_eq y t)) [
      | no_is n ↦ rw n refl
      | yes_is s ↦ rw s (ap (λ (o : Option Bytes). cond (bytes_eq i j) (or_else o (b.kept j t)) (b.kept j t))
          (sym e ∙ ap f ((bytes_eq-Decides y t).0 s)))
    ]

-- ---- the ids of a crowd

-- the ids at the places below the number that are in the crowd
unfoldable pub crowd_ids : (ids : List Id) (bits : ℕ → Bool) → ℕ → List Id
crowd_ids ids bits zero = []
crowd_ids ids bits (suc n) = cond (bits n) (id_at ids n ∷ crowd_ids ids bits n) (crowd_ids ids bits n)

before : (n p : ℕ) → p < suc n → (n ≡ p → ⊥) → p < n
before n p l other = elim (test (nat_le n p)) [
  | yes_is t ↦ absurd (other (let k = leb-true n p t in omega (arith, l, k)))
  | no_is f ↦ leb-false n p f
]

no-bit : (t : Bool) → t ≡ false → t ≡ true → ⊥
no-bit true f e = absurd (cc)
no-bit false f e = absurd (cc)

pub crowd-at : (ids : List Id) (bits : ℕ → Bool) (n p : ℕ) → p < n → bits p ≡ true → In (id_at ids p) (crowd_ids ids bits n)
unfolding crowd_ids
crowd-at ids bits zero p l e = absurd (omega (arith, l))
crowd-at ids bits (suc n) p l e = elim (test (bits n)) [
  | yes_is t ↦ rw t (elim (test (nat_eq n p)) [
    | yes_is s ↦ subst (λ (q : ℕ). In (id_at ids q) (id_at ids n ∷ crowd_ids ids bits n)) (eqb-true n p s) here
    | no_is s ↦ there (crowd-at ids bits n p (before n p l (eqb-false n p s)) e)
  ])
  | no_is f ↦ rw f (crowd-at ids bits n p (before n p l (λ d. no-bit (bits n) f (ap bits d ∙ e))) e)
]

-- where an id of the crowd stands
pub record InCrowd (ids : List Id) (bits : ℕ → Bool) (n : ℕ) (t : Id) : Type 0 where
  pub place : ℕ
  pub below : place < n
  pub among : bits place ≡ true
  pub is : id_at ids place ≡ t

further : (ids : List Id) (bits : ℕ → Bool) (n : ℕ) (t : Id) → InCrowd ids bits n t → InCrowd ids bits (suc n) t
further ids bits n t k = record { place = k.place; below = omega (arith, k.below); among = k.among; is = k.is }

pub crowd-only : (ids : List Id) (bits : ℕ → Bool) (n : ℕ) (t : Id) → In t (crowd_ids ids bits n) → InCrowd ids bits n t
unfolding crowd_ids
crowd-only ids bits zero t i = elim i [ ]
crowd-only ids bits (suc n) t i = elim (test (bits n)) [
  | yes_is e ↦ elim (In-cases (subst (λ (z : Bool). In t (cond z (id_at ids n ∷ crowd_ids ids bits n) (crowd_ids ids bits n))) e i)) [
    | inl d ↦ record { place = n; below = omega arith; among = e; is = sym d }
    | inr j ↦ further ids bits n t (crowd-only ids bits n t j)
  ]
  | no_is e ↦ further ids bits n t (crowd-only ids bits n t
      (subst (λ (z : Bool). In t (cond z (id_at ids n ∷ crowd_ids ids bits n) (crowd_ids ids bits n))) e i))
]

-- ---- what is kept place by place

-- places are counted
pub same_places : (a b : BookTable) → (held a).met ≡ (held b).met → length a.places ≡ length b.places
unfolding held
same_places a b e = e

-- the answers of the places below the number are kept
pub record AreKept (of : Id) (secret : ℕ → Bytes) (bits : ℕ → Bool) (n : ℕ) (before after : BookTable) : Type 0 where
  pub kept : held after ≡ answers_kept of secret bits n (held before)
  pub places : length after.places ≡ length before.places

kept-next : (of : Id) (secret : ℕ → Bytes) (bits : ℕ → Bool) (n : ℕ) (b : HeldBook)
    → answers_kept of secret bits (n + 1) b ≡ answer_kept of secret bits n (answers_kept of secret bits n b)
unfolding answers_kept
kept-next of secret bits n b = ap (λ (k : ℕ). answers_kept of secret bits k b) (add-one n)

pub first-kept : (of : Id) (secret : ℕ → Bytes) (bits : ℕ → Bool) (b : BookTable) → AreKept of secret bits 0 b b
unfolding answers_kept
first-kept of secret bits b = record { kept = refl; places = refl }

pub more-kept : (of : Id) (secret : ℕ → Bytes) (bits : ℕ → Bool) (n : ℕ) (before now after : BookTable)
    → AreKept of secret bits n before now → held after ≡ answer_kept of secret bits n (held now)
    → length after.places ≡ length now.places → AreKept of secret bits (n + 1) before after
more-kept of secret bits n before now after k e l = record {
  kept = e ∙ ap (answer_kept of secret bits n) k.kept ∙ sym (kept-next of secret bits n (held before));
  places = l ∙ k.places;
}

module _ {K P : Type 0} (kem : Ghosts K P) (O : Owner) (ids : List Id) (of : Id) (f : Id → Option Bytes) (secret : ℕ → Bytes)
    (same : (p : ℕ) → f (id_at ids p) ≡ Some (secret p)) (bits : ℕ → Bool) (within : (p : ℕ) → bits p ≡ true → p < length ids)
    (Calls : (q : ℕ) (x : HeldBook) (s : BookState) → HeldStands kem O ids x s → q < length ids → CallsStand kem O ids q x s)
    (Each : KeepsEach) where
  kept-more : (n : ℕ) (b : HeldBook) (state : BookState) → HeldStands kem O ids b (keep of (crowd_ids ids bits n) f state)
      → (t : Bool) → bits n ≡ t → HeldStands kem O ids (cond t (with_kept of n (Some (secret n)) b) b)
      (keep of (cond t (id_at ids n ∷ crowd_ids ids bits n) (crowd_ids ids bits n)) f state)
  kept-more n b state h true e =
      let before : BookState = keep of (crowd_ids ids bits n) f state in
      subst (λ (s : BookState). HeldStands kem O ids (with_kept of n (Some (secret n)) b) s)
      (kept-one of (id_at ids n) (secret n) f before (same n) ∙ Each of (id_at ids n) (crowd_ids ids bits n) f state)
      ((Calls n b before h (within n e)).keeps of (secret n))
  kept-more n b state h false e = h

  pub answers-stand : (n : ℕ) (b : HeldBook) (state : BookState) → HeldStands kem O ids b state
      → HeldStands kem O ids (answers_kept of secret bits n b) (keep of (crowd_ids ids bits n) f state)
  unfolding answers_kept crowd_ids
  answers-stand zero b state h = subst (λ (s : BookState). HeldStands kem O ids b s) (sym (kept-nobody of f state)) h
  answers-stand (suc n) b state h =
      kept-more n (answers_kept of secret bits n b) state (answers-stand n b state h) (bits n) refl
