-- Inverses by the answers of the solver.
use Rattle.std.proofs.Common.{◌≡◌, refl, ap, sym, subst, ◌∙◌, ℕ, suc, ◌+◌, ◌-◌, ◌<◌, ◌≤◌, Option, Some, None, List, length, All, ℤ, pos, unsigned_abs, arith}
use Rattle.std.proofs.lemmas.List.Elements.{All-same}
use Rattle.ring_poly.specs.Ring.{IsCentred}
use Rattle.ring_solve.specs.declared.answer.Solved.{Solved}
use Rattle.ring_solve.specs.Solutions.{Solves, coefficients_of}
use Rattle.kem_trait.specs.Streams.{Stream, behind}
use Rattle.ntru_model.specs.Draws.{first_invertible, Invertible, small_draw, words_tried}
use Rattle.ntru_model.specs.Residues.{inverse_mod}
use Rattle.ntru_model.proofs.Computed.{first_none, first_here, first_later}
use Rattle.ntru_model.proofs.Drawn.{small_draw_small}
use Rattle.ntru_model.proofs.Inverses.{solved_inverse, inverse_of}
use Rattle.ntru_model.proofs.Taken.{left_here, left_later, left_over}
use Rattle.ntru_model.proofs.Small.{all_small_within, all_within_centred}
use Rattle.ntru_prime.specs.Sets.{IsSet}
use Rattle.ntru_prime.proofs.Sums.{to_natural}

-- a drawn small polynomial is centred modulo 3
pub small_centred : (p : ℕ) (words : Stream) (g : List ℤ) → g ≡ small_draw p words → All (IsCentred (pos 3)) g
small_centred p words g e = All-same (IsCentred (pos 3)) g (small_draw p words) e (all_within_centred (small_draw p words) (all_small_within (small_draw p words) (small_draw_small p words)))

pub inverse_3 : (p : ℕ) (a : List ℤ) (s : Solved) → 1 < p → length a ≡ p → Solves p (pos 3) a s → length (coefficients_of s) ≡ p → All (IsCentred (pos 3)) (coefficients_of s) → inverse_mod p 3 a ≡ inverse_of s
inverse_3 p a s some la solves ls centred = solved_inverse p 3 a s some refl (omega arith) la ls centred solves

pub inverse_q : {p : ℕ} {q : ℤ} {w : ℕ} → IsSet p q w → (a t : List ℤ) (s : Solved) → t ≡ a → length t ≡ p → Solves p q t s → length (coefficients_of s) ≡ p → All (IsCentred q) (coefficients_of s) → inverse_mod p (unsigned_abs q) a ≡ inverse_of s
inverse_q {p} {q} {w} set a t s e la solves ls centred =
    ap (inverse_mod p (unsigned_abs q)) (sym e)
    ∙ solved_inverse p (unsigned_abs q) t s (let z = set.size.0 in omega arith) (let z = set.sixths in omega arith) (let z = set.low in omega arith) la ls (to_natural set (coefficients_of s) centred)
    (subst (λ z. Solves p z t s) set.positive solves)

-- one more try
pub try_later : (p i : ℕ) (draw : Stream → List ℤ) (invert : List ℤ → Option (List ℤ)) (words : Stream) (result : Option Invertible) (a : List ℤ) (after : Stream) → i < 16
    → result ≡ first_invertible p (16 - i) draw invert words → a ≡ draw words → after ≡ behind p words → invert a ≡ None
    → result ≡ first_invertible p (16 - (i + 1)) draw invert after
try_later p i draw invert words result a after lt so drawn left none =
    let step : 16 - i ≡ suc (16 - (i + 1)) = omega arith in
    so ∙ ap (λ n. first_invertible p n draw invert words) step ∙ first_later p (16 - (i + 1)) draw invert words (ap invert (sym drawn) ∙ none)
    ∙ ap (first_invertible p (16 - (i + 1)) draw invert) (sym left)

pub try_here : (p i : ℕ) (draw : Stream → List ℤ) (invert : List ℤ → Option (List ℤ)) (words : Stream) (result : Option Invertible) (a b : List ℤ) (after : Stream) → i < 16
    → result ≡ first_invertible p (16 - i) draw invert words → a ≡ draw words → after ≡ behind p words → invert a ≡ Some b
    → result ≡ Some (record { drawn = a; inverse = b; left = after })
try_here p i draw invert words result a b after lt so drawn left some =
    let step : 16 - i ≡ suc (16 - (i + 1)) = omega arith in
    so ∙ ap (λ n. first_invertible p n draw invert words) step ∙ first_here p (16 - (i + 1)) draw invert words b (ap invert (sym drawn) ∙ some)
    ∙ ap (λ x. Some (record { drawn = x; inverse = b; left = behind p words })) (sym drawn)
    ∙ ap (λ x. Some (record { drawn = a; inverse = b; left = x })) (sym left)

pub tries_over : (p i : ℕ) (draw : Stream → List ℤ) (invert : List ℤ → Option (List ℤ)) (words : Stream) (result : Option Invertible) → 16 ≤ i
    → result ≡ first_invertible p (16 - i) draw invert words → result ≡ None
tries_over p i draw invert words result le so =
    let step : 16 - i ≡ 0 = omega arith in
    so ∙ ap (λ n. first_invertible p n draw invert words) step ∙ first_none p draw invert words

-- which words are left behind one more try
pub left_by_later : (p i : ℕ) (draw : Stream → List ℤ) (invert : List ℤ → Option (List ℤ)) (words left : Stream) (a : List ℤ) (after : Stream) → i < 16
    → left ≡ behind (words_tried p (16 - i) draw invert words) words → a ≡ draw words → after ≡ behind p words → invert a ≡ None
    → left ≡ behind (words_tried p (16 - (i + 1)) draw invert after) after
left_by_later p i draw invert words left a after lt so drawn passed none =
    let step : 16 - i ≡ suc (16 - (i + 1)) = omega arith in
    so ∙ ap (λ n. behind (words_tried p n draw invert words) words) step ∙ left_later p (16 - (i + 1)) draw invert words (ap invert (sym drawn) ∙ none)
    ∙ ap (λ (w : Stream). behind (words_tried p (16 - (i + 1)) draw invert w) w) (sym passed)

pub left_by_here : (p i : ℕ) (draw : Stream → List ℤ) (invert : List ℤ → Option (List ℤ)) (words left : Stream) (a b : List ℤ) (after : Stream) → i < 16
    → left ≡ behind (words_tried p (16 - i) draw invert words) words → a ≡ draw words → after ≡ behind p words → invert a ≡ Some b
    → after ≡ left
left_by_here p i draw invert words left a b after lt so drawn passed some =
    let step : 16 - i ≡ suc (16 - (i + 1)) = omega arith in
    passed ∙ sym (so ∙ ap (λ n. behind (words_tried p n draw invert words) words) step ∙ left_here p (16 - (i + 1)) draw invert words b (ap invert (sym drawn) ∙ some))

pub left_by_all : (p i : ℕ) (draw : Stream → List ℤ) (invert : List ℤ → Option (List ℤ)) (words left : Stream) → 16 ≤ i
    → left ≡ behind (words_tried p (16 - i) draw invert words) words → words ≡ left
left_by_all p i draw invert words left le so =
    let step : 16 - i ≡ 0 = omega arith in
    sym (so ∙ ap (λ n. behind (words_tried p n draw invert words) words) step ∙ left_over p draw invert words)
