-- A book by places stands for one by ids.
use Rattle.std.proofs.Common.{◌≡◌, ℕ, zero, suc, ◌<◌, ◌≤◌, true, false, Bool, List, [], ◌∷◌, ◌++◌, length, Option, Some, None, refl, sym, ◌∙◌, ap, subst, cond, arith, nat_eq}
use Rattle.std.specs.Str.{bytes_eq}
use Rattle.std.specs.Option.{option_map}
use Rattle.std.proofs.lemmas.Slice.Eq.{bytes_eq-Decides}
use Rattle.group_model.specs.Sets.{Bytes, Id, In, here, there, has, IsDistinct}
use Rattle.group_model.specs.KeyTerms.{Once, turned_known, secret_known, first_chain, next_chain}
use Rattle.group_model.specs.Knowledge.{or_else}
use Rattle.group_model.proofs.ListFacts.{yes_is, no_is, test}
use Rattle.group_model.proofs.ListFacts.{same_id-true, other_id, equal_id}
use Rattle.group_model.proofs.Verdicts.{says-equal}
use Rattle.member_book.specs.Books.{put, keep}
use Rattle.member_book.specs.Places.{put_at, gives_at, place_of, id_at, by_ids, PlacesServe, MeetServes, KeepsEach}

place-found : (ids : List Id) (t : Id) → place_of ids t < length ids → id_at ids (place_of ids t) ≡ t
place-found [] t l = absurd (omega (arith, l))
place-found (i ∷ ids) t l = elim (test (bytes_eq i t)) [
  | yes_is e ↦ rw e ((bytes_eq-Decides i t).0 e)
  | no_is e ↦ rw e (place-found ids t (let k : suc (place_of ids t) < length (i ∷ ids) = rw e at l in omega (arith, k)))
]

id-in : (ids : List Id) (p : ℕ) → p < length ids → In (id_at ids p) ids
id-in [] p l = absurd (omega (arith, l))
id-in (i ∷ ids) zero l = here
id-in (i ∷ ids) (suc p) l = there (id-in ids p (omega (arith, l)))

place-own : (ids : List Id) (p : ℕ) → IsDistinct ids → p < length ids → place_of ids (id_at ids p) ≡ p
place-own [] p d l = absurd (omega (arith, l))
place-own (i ∷ ids) zero d l = rw (same_id-true i) refl
place-own (i ∷ ids) (suc p) d l =
    let j : In (id_at ids p) ids = id-in ids p (omega (arith, l)) in
    rw (other_id i (id_at ids p) (λ e. d.0 (subst (λ z. In z ids) (sym e) j))) (ap suc (place-own ids p d.1 (omega (arith, l))))

same-test : (a b : Bool) → (a ≡ true → b ≡ true) → (b ≡ true → a ≡ true) → a ≡ b
same-test true b f g = sym (f refl)
same-test false true f g = g refl
same-test false false f g = refl

same-place : (ids : List Id) (p : ℕ) → IsDistinct ids → p < length ids → (t : Id) → nat_eq p (place_of ids t) ≡ bytes_eq (id_at ids p) t
same-place ids p d l t = same-test (nat_eq p (place_of ids t)) (bytes_eq (id_at ids p) t)
    (λ e. let q : p ≡ place_of ids t = (says-equal p (place_of ids t)).holds e in
    equal_id (id_at ids p) t (ap (id_at ids) q ∙ place-found ids t (subst (λ z. z < length ids) q l)))
    (λ e. (says-equal p (place_of ids t)).told (sym (place-own ids p d l) ∙ ap (place_of ids) ((bytes_eq-Decides (id_at ids p) t).0 e)))

module _ (ids : List Id) (p : ℕ) (d : IsDistinct ids) (l : p < length ids) where
  at-put : {A : Type 0} (f : ℕ → A) (v : A) (t : Id) → put_at f p v (place_of ids t) ≡ put (λ s. f (place_of ids s)) (id_at ids p) v t
  at-put f v t = ap (λ z. cond z v (f (place_of ids t))) (same-place ids p d l t)

  at-own : {A : Type 0} (f : ℕ → A) → f p ≡ f (place_of ids (id_at ids p))
  at-own f = ap f (sym (place-own ids p d l))

  at-kept : (f : Id → ℕ → Option Bytes) (i : Id) (v : Option Bytes) (j t : Id)
      → cond (bytes_eq i j) (cond (nat_eq p (place_of ids t)) v (f j (place_of ids t))) (f j (place_of ids t))
      ≡ cond (bytes_eq i j) (cond (bytes_eq (id_at ids p) t) v (f j (place_of ids t))) (f j (place_of ids t))
  at-kept f i v j t = ap (λ z. cond (bytes_eq i j) (cond z v (f j (place_of ids t))) (f j (place_of ids t))) (same-place ids p d l t)

one-of : (a : Bool) (v : Bytes) (k : Option Bytes) → cond a (Some v) k ≡ cond (cond a true false) (Some v) k
one-of true v k = refl
one-of false v k = refl

pub places_serve : PlacesServe
places_serve ids p b d l = record {
  hands = λ r. λ i. record (by_ids ids b) { ratchet = λ t. at-put ids p d l b.ratchet (Some r) t i };
  steps = λ K input. (λ i. record (by_ids ids b) {
    ratchet = λ t. at-put ids p d l b.ratchet (turned_known K (option_map (λ k. Once k) input) (b.ratchet p)) t i;
    chain = λ t. at-put ids p d l b.chain (option_map (first_chain K) (gives_at K p input b)) t i;
  }) ∙ ap (λ z. record (by_ids ids b) {
    ratchet = put (λ s. b.ratchet (place_of ids s)) (id_at ids p) (turned_known K (option_map (λ k. Once k) input) z);
    chain = put (λ s. b.chain (place_of ids s)) (id_at ids p) (option_map (first_chain K) (secret_known K (option_map (λ k. Once k) input) z));
  }) (at-own ids p d l b.ratchet);
  gives = λ K input. ap (λ z. secret_known K (option_map (λ k. Once k) input) z) (at-own ids p d l b.ratchet);
  chains = λ K. (λ i. record (by_ids ids b) { chain = λ t. at-put ids p d l b.chain (option_map (next_chain K) (b.chain p)) t i })
      ∙ ap (λ z. record (by_ids ids b) { chain = put (λ s. b.chain (place_of ids s)) (id_at ids p) (option_map (next_chain K) z) }) (at-own ids p d l b.chain);
  keeps = λ i v. (λ x. record (by_ids ids b) { kept = λ j t. at-kept ids p d l b.kept i (Some v) j t x })
      ∙ (λ x. record (by_ids ids b) { kept = λ j t. cond (bytes_eq i j) (one-of (bytes_eq (id_at ids p) t) v (b.kept j (place_of ids t)) x) (b.kept j (place_of ids t)) });
  spends = λ i. λ x. record (by_ids ids b) { kept = λ j t. at-kept ids p d l b.kept i None j t x };
  spent_gives = λ i. at-own ids p d l (b.kept i);
  sends = λ es. λ i. record (by_ids ids b) { events = λ t. at-put ids p d l b.events es t i };
}

-- where an id stands once more are met
data Met (ids : List Id) (i t : Id) : Type 0 where
  as_before : place_of (ids ++ i ∷ []) t ≡ place_of ids t → Met ids i t
  not_met : length ids ≤ place_of (ids ++ i ∷ []) t → length ids ≤ place_of ids t → Met ids i t

met : (ids : List Id) (i t : Id) → Met ids i t
met [] i t = not_met (omega arith) (omega arith)
met (j ∷ ids) i t = elim (test (bytes_eq j t)) [
  | yes_is e ↦ as_before (rw e refl)
  | no_is e ↦ elim (met ids i t) [
    | as_before q ↦ as_before (rw e (ap suc q))
    | not_met q r ↦ not_met (rw e (omega (arith, q))) (rw e (omega (arith, r)))
  ]
]

at-met : {A : Type 0} (f : ℕ → A) (v : A) (ids : List Id) (i : Id) → ((p : ℕ) → length ids ≤ p → f p ≡ v) → (t : Id)
    → f (place_of (ids ++ i ∷ []) t) ≡ f (place_of ids t)
at-met f v ids i n t = elim (met ids i t) [
  | as_before q ↦ ap f q
  | not_met q r ↦ n (place_of (ids ++ i ∷ []) t) q ∙ sym (n (place_of ids t) r)
]

pub meet_serves : MeetServes
meet_serves ids i b u = λ x. record {
  ratchet = λ t. at-met b.ratchet _ ids i u.ratchets t x;
  chain = λ t. at-met b.chain _ ids i u.chains t x;
  events = λ t. at-met b.events _ ids i u.events t x;
  kept = λ j t. at-met (b.kept j) _ ids i (u.kept j) t x;
}

or_same : (a k : Option Bytes) → or_else a (or_else a k) ≡ or_else a k
or_same None k = refl
or_same (Some v) k = refl

each : (y z : Bool) (a k : Option Bytes) → cond (cond y true false) (or_else a (cond z (or_else a k) k)) (cond z (or_else a k) k)
    ≡ cond (cond y true z) (or_else a k) k
each true true a k = or_same a k
each true false a k = refl
each false true a k = refl
each false false a k = refl

pub keeps_each : KeepsEach
keeps_each i y ids f b = λ x. record b { kept = λ j t. at j t x }
  where
    at : (j t : Id) → (keep i (y ∷ []) f (keep i ids f b)).kept j t ≡ (keep i (y ∷ ids) f b).kept j t
    at j t = elim (test (bytes_eq i j)) [
      | no_is e ↦ rw e refl
      | yes_is e ↦ rw e (each (bytes_eq y t) (has ids t) (f t) (b.kept j t))
    ]
