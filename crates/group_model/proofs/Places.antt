-- Places of ids: those of the ids that a history names, in the order in which it names them, never move.
use Rattle.std.proofs.Common.{◌≡◌, ℕ, Bool, get_or, zero, suc, true, List, [], ◌∷◌, ◌++◌, refl, sym, ◌∙◌, ap, subst}
use Rattle.std.proofs.lemmas.Option.{slice_get-get_or}
use Rattle.group_model.specs.Sets.{Id, In, here, there, has, IsDistinct}
use Rattle.group_model.specs.Messages.{Message, History}
use Rattle.group_model.specs.Membership.{with_id, joined, ids_named, named_by}
use Rattle.group_model.specs.Marks.{IsPlace, IsCrowd}
use Rattle.group_model.proofs.ListFacts.{test, yes_is, no_is}

pub place-in : (ids : List Id) (p : ℕ) (x : Id) → IsPlace ids p x → In x ids
place-in [] p x e = absurd cc
place-in (i ∷ ids) zero x e = let d : i ≡ x = cc in subst (λ z. In z (i ∷ ids)) d here
place-in (i ∷ ids) (suc p) x e = there (place-in ids p x e)

pub in-place : (ids : List Id) (x : Id) → In x ids → (p : ℕ) × IsPlace ids p x
in-place [] x i = elim i [ ]
in-place (j ∷ ids) x here = (zero, refl)
in-place (j ∷ ids) x (there i) = let r = in-place ids x i in (suc r.0, r.1)

pub place-one : (ids : List Id) (p : ℕ) (x y : Id) → IsPlace ids p x → IsPlace ids p y → x ≡ y
place-one ids p x y e d = cc

pub place-distinct : (ids : List Id) → IsDistinct ids → (p q : ℕ) (x : Id) → IsPlace ids p x → IsPlace ids q x → p ≡ q
place-distinct [] g p q x e d = absurd cc
place-distinct (i ∷ ids) g zero zero x e d = refl
place-distinct (i ∷ ids) g zero (suc q) x e d = let f : x ≡ i = cc in absurd (g.0 (subst (λ z. In z ids) f (place-in ids q x d)))
place-distinct (i ∷ ids) g (suc p) zero x e d = let f : x ≡ i = cc in absurd (g.0 (subst (λ z. In z ids) f (place-in ids p x e)))
place-distinct (i ∷ ids) g (suc p) (suc q) x e d = ap suc (place-distinct ids g.1 p q x e d)

place-kept : (ids more : List Id) (p : ℕ) (x : Id) → IsPlace ids p x → IsPlace (ids ++ more) p x
place-kept [] more p x e = absurd cc
place-kept (i ∷ ids) more zero x e = e
place-kept (i ∷ ids) more (suc p) x e = place-kept ids more p x e

pub place-joined : (ids more : List Id) (p : ℕ) (x : Id) → IsPlace ids p x → IsPlace (joined ids more) p x
place-joined ids [] p x e = e
place-joined ids (i ∷ more) p x e = place-joined (with_id ids i) more p x (elim (test (has ids i)) [
  | yes_is t ↦ rw t e
  | no_is f ↦ rw f (place-kept ids (i ∷ []) p x e)
])

-- one message more leaves the places
pub place-stays : (m : Message) (h : History) (p : ℕ) (x : Id) → IsPlace (ids_named h) p x → IsPlace (ids_named (m ∷ h)) p x
place-stays m h p x e = place-joined (ids_named h) (named_by m.kind) p x e

-- the bits of a property are one set
crowd-forth : (ids : List Id) (P : Id → Type 0) (a b : ℕ → Bool) → IsCrowd ids a P → IsCrowd ids b P → (p : ℕ) → a p ≡ true → b p ≡ true
crowd-forth ids P a b k l p e =
    let g : IsPlace ids p (get_or ids p []) = slice_get-get_or ids p [] (k.within p e) in
    (l.each p (get_or ids p []) g).1 ((k.each p (get_or ids p []) g).0 e)

pub crowd-one : (ids : List Id) (P : Id → Type 0) (a b : ℕ → Bool) → IsCrowd ids a P → IsCrowd ids b P → (p : ℕ) → a p ≡ b p
crowd-one ids P a b k l p = elim (test (a p)) [
  | yes_is e ↦ e ∙ sym (crowd-forth ids P a b k l p e)
  | no_is e ↦ elim (test (b p)) [
    | yes_is d ↦ absurd (let c : a p ≡ true = crowd-forth ids P b a l k p d in cc)
    | no_is d ↦ e ∙ sym d
  ]
]
