-- Functions of places that are changed at one place.
use Rattle.std.proofs.Common.{◌≡◌, ℕ, ◌<◌, Bool, true, false, cond, Option, refl, sym, ap, subst, arith, bytes_eq}
use Rattle.std.proofs.lemmas.Bool.{ne_eqb}
use Rattle.group_model.specs.Sets.{Bytes, Id}
use Rattle.member_book.specs.Places.{put_at}
use Rattle.secret_book.specs.HeldBooks.{keep_in}

differ : (p q : ℕ) → p < q → p ≡ q → ⊥
differ p q l e = absurd (omega (arith, l, e))

-- behind the place nothing changes
pub put_beyond : {A : Type 0} (f : ℕ → A) (p q : ℕ) (v : A) → p < q → put_at f p v q ≡ f q
put_beyond f p q v l = ap (λ (t : Bool). cond t v (f q)) (ne_eqb p q (differ p q l))

both_same : {A : Type 0} (t : Bool) (v : A) → cond t v v ≡ v
both_same true v = refl
both_same false v = refl

pub keep_beyond : (f : Id → ℕ → Option Bytes) (i j : Id) (p q : ℕ) (v : Option Bytes) → p < q → keep_in f i p v j q ≡ f j q
keep_beyond f i j p q v l =
    subst (λ (t : Bool). cond (bytes_eq i j) (cond t v (f j q)) (f j q) ≡ f j q) (sym (ne_eqb p q (differ p q l)))
    (both_same (bytes_eq i j) (f j q))
