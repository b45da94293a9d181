-- Products and their coefficients, for both sets.
use Rattle.std.proofs.Common.{◌≡◌, inl, inr, refl, ap, sym, subst, ◌∙◌, ℕ, ◌+◌, ◌*◌, ◌/◌, ◌≤◌, List, All, ℤ, pos, ◌*ℤ◌, arith, unsigned_abs}
use Rattle.std.proofs.lemmas.Int.{ints}
use Rattle.std.proofs.lemmas.List.Elements.{All-map, All-weaker, All-same}
use Rattle.ring_poly.specs.Ring.{AreCongruent, IsCentred, product}
use Rattle.ring_laws.specs.Laws.{multiple_of}
use Rattle.ntru_codec.specs.Small.{IsSmall}
use Rattle.kem_trait.specs.Streams.{Stream}
use Rattle.ntru_model.specs.Draws.{short_draw}
use Rattle.ntru_model.specs.Residues.{product_mod}
use Rattle.ntru_model.proofs.Residues.{product_mod_is}
use Rattle.ntru_model.proofs.Small.{all_within_small}
use Rattle.ntru_model.proofs.Drawn.{short_draw_short}
use Rattle.ntru_prime.specs.Sets.{IsSet}

three_centred : (m : ℕ) (d : ℤ) → 127 ≤ m → IsSmall d → IsCentred (pos m) (pos 3 *ℤ d)
three_centred m d low h =
    elim h [
      | inl e ↦ subst (λ x. IsCentred (pos m) (pos 3 *ℤ x)) (sym e) (omega (arith, ints), omega (arith, ints))
      | inr r ↦ elim r [
        | inl e ↦ subst (λ x. IsCentred (pos m) (pos 3 *ℤ x)) (sym e) (omega (arith, ints), omega (arith, ints))
        | inr e ↦ subst (λ x. IsCentred (pos m) (pos 3 *ℤ x)) (sym e) (omega (arith, ints), omega (arith, ints))
      ]
    ]

-- three times a small polynomial is centred
pub triple_centred : {p : ℕ} {q : ℤ} {w : ℕ} → IsSet p q w → (f t : List ℤ) → t ≡ multiple_of (pos 3) f → All IsSmall f → All (IsCentred q) t
triple_centred {p} {q} {w} set f t e h =
    All-same (IsCentred q) t (multiple_of (pos 3) f) e
    (All-map (IsCentred q) (λ d. pos 3 *ℤ d) f
    (All-weaker IsSmall (λ d. IsCentred q (pos 3 *ℤ d)) (λ d s. subst (λ z. IsCentred z (pos 3 *ℤ d)) (sym set.positive) (three_centred (unsigned_abs q) d set.low s)) f h))

-- between the two ways to write the modulus
pub to_natural : {p : ℕ} {q : ℤ} {w : ℕ} → IsSet p q w → (a : List ℤ) → All (IsCentred q) a → All (IsCentred (pos (unsigned_abs q))) a
to_natural {p} {q} {w} set a h = subst (λ z. All (IsCentred z) a) set.positive h

pub from_natural : {p : ℕ} {q : ℤ} {w : ℕ} → IsSet p q w → (a : List ℤ) → All (IsCentred (pos (unsigned_abs q))) a → All (IsCentred q) a
from_natural {p} {q} {w} set a h = subst (λ z. All (IsCentred z) a) (sym set.positive) h

-- what a product modulo q is
pub product_by : {p : ℕ} {q : ℤ} {w : ℕ} → IsSet p q w → (a b out : List ℤ) → All (IsCentred q) out → AreCongruent q out (product p a b) → out ≡ product_mod p (unsigned_abs q) a b
product_by {p} {q} {w} set a b out centred congruent =
    sym (product_mod_is p (unsigned_abs q) a b out (let s = set.sixths in omega arith) (to_natural set out centred) (subst (λ z. AreCongruent z out (product p a b)) set.positive congruent))

pub product_3_by : (p : ℕ) (a b out : List ℤ) → All (IsCentred (pos 3)) out → AreCongruent (pos 3) out (product p a b) → out ≡ product_mod p 3 a b
product_3_by p a b out centred congruent = sym (product_mod_is p 3 a b out refl centred congruent)

-- q by its rest modulo 6
pub six_form : {p : ℕ} {q : ℤ} {w : ℕ} → IsSet p q w → q ≡ pos (6 * (unsigned_abs q / 6) + 1)
six_form {p} {q} {w} set = set.positive ∙ ap pos (let s = set.sixths in omega arith)

-- a drawn short polynomial is small
pub short_small : {p : ℕ} {q : ℤ} {w : ℕ} → IsSet p q w → (words : Stream) (r : List ℤ) → r ≡ short_draw p w words → All IsSmall r
short_small {p} {q} {w} set words r e = All-same IsSmall r (short_draw p w words) e (all_within_small (short_draw p w words) (short_draw_short p w words set.weight).small)
