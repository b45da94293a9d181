-- Pairs made from words, by the values that the code computes.
use Rattle.std.proofs.Common.{◌≡◌, ap, ap₂, sym, subst, ◌∙◌, ℕ, ◌+◌, ◌/◌, add-zero, Option, Some, None, List, length, All, ℤ, pos, unsigned_abs, arith, ◌≤◌, inl, inr}
use Rattle.std.specs.Option.{option_map, option_and_then}
use Rattle.std.proofs.lemmas.Int.{ints}
use Rattle.std.proofs.lemmas.List.Elements.{All-weaker}
use Rattle.ring_poly.specs.Ring.{IsCentred}
use Rattle.ring_laws.specs.Laws.{multiple_of}
use Rattle.ntru_codec.specs.Small.{IsSmall}
use Rattle.ntru_model.specs.Parameters.{Parameters, small_len}
use Rattle.kem_trait.specs.Streams.{Stream, behind}
use Rattle.ntru_model.specs.Draws.{Invertible, first_invertible, words_tried, small_draw, short_draw, bytes_draw}
use Rattle.ntru_model.specs.Residues.{inverse_mod, product_mod}
use Rattle.ntru_model.specs.Pairs.{pair_drawn, pair_words, secret_key, secret_read, words_behind_f, words_behind_g}
use Rattle.ntru_model.proofs.Drawn.{first_gives, small_draw_small}
use Rattle.ntru_model.proofs.DrawnPairs.{drawn_tested}
use Rattle.kem_trait.proofs.StreamFacts.{behind-behind}
use Rattle.ntru_model.proofs.Inverses.{from_inverse}
use Rattle.ntru_model.proofs.Sets.{is_set}
use Rattle.ntru_model.proofs.Tested.{IsTested, HasParts, read_back, secret_parts}
use Rattle.ntru_prime.specs.Sets.{IsSet, parameters, set_of, pair_with}
use Rattle.ntru_prime.specs.Keys.{made}
use Rattle.ntru_prime.proofs.Sums.{from_natural}

abbrev first_of_g : ℕ → Stream → Option Invertible
first_of_g p words = first_invertible p 16 (small_draw p) (inverse_mod p 3) words

abbrev first_of_f : ℕ → ℕ → ℕ → Stream → Option Invertible
first_of_f p m w words = first_invertible p 16 (short_draw p w) (λ a. inverse_mod p m (multiple_of (pos 3) a)) words

pub made_without_g : (p : ℕ) (q : ℤ) (w : ℕ) (words : Stream) → first_of_g p words ≡ None → made (set_of p q w) words ≡ None
unfolding made pair_drawn
made_without_g p q w words e =
    ap (λ o. option_map (secret_key (set_of p q w)) (option_and_then (λ x. option_map (λ f. record { f = f.drawn; g_inverse = x.inverse; h = product_mod p (unsigned_abs q) x.drawn f.inverse; rho = bytes_draw (small_len (set_of p q w)) f.left }) (first_of_f p (unsigned_abs q) w x.left)) o)) e

pub pair_from : (p : ℕ) (q : ℤ) (w : ℕ) (words : Stream) (g : Invertible) (o : Option Invertible) → first_of_g p words ≡ Some g → first_of_f p (unsigned_abs q) w g.left ≡ o
    → pair_drawn (set_of p q w) words ≡ option_map (λ f. record { f = f.drawn; g_inverse = g.inverse; h = product_mod p (unsigned_abs q) g.drawn f.inverse; rho = bytes_draw (small_len (set_of p q w)) f.left }) o
unfolding pair_drawn
pair_from p q w words g o eg ef =
    ap (option_and_then (λ x. option_map (λ f. record { f = f.drawn; g_inverse = x.inverse; h = product_mod p (unsigned_abs q) x.drawn f.inverse; rho = bytes_draw (small_len (set_of p q w)) f.left }) (first_of_f p (unsigned_abs q) w x.left))) eg
    ∙ ap (option_map (λ f. record { f = f.drawn; g_inverse = g.inverse; h = product_mod p (unsigned_abs q) g.drawn f.inverse; rho = bytes_draw (small_len (set_of p q w)) f.left })) ef

pub made_without_f : (p : ℕ) (q : ℤ) (w : ℕ) (words : Stream) (g : Invertible) → first_of_g p words ≡ Some g → first_of_f p (unsigned_abs q) w g.left ≡ None → made (set_of p q w) words ≡ None
unfolding made
made_without_f p q w words g eg ef = ap (option_map (secret_key (set_of p q w))) (pair_from p q w words g None eg ef)

small_centred : (m : ℕ) (d : ℤ) → 127 ≤ m → IsSmall d → IsCentred (pos m) d
small_centred m d low h =
    elim h [
      | inl e ↦ subst (IsCentred (pos m)) (sym e) (omega (arith, ints), omega (arith, ints))
      | inr r ↦ elim r [
        | inl e ↦ subst (IsCentred (pos m)) (sym e) (omega (arith, ints), omega (arith, ints))
        | inr e ↦ subst (IsCentred (pos m)) (sym e) (omega (arith, ints), omega (arith, ints))
      ]
    ]

pub g_centred_q : {p : ℕ} {q : ℤ} {w : ℕ} → IsSet p q w → (words : Stream) (g : Invertible) → first_of_g p words ≡ Some g → All (IsCentred q) g.drawn
g_centred_q {p} {q} {w} set words g e =
    All-weaker IsSmall (IsCentred q) (λ d s. subst (λ z. IsCentred z d) (sym set.positive) (small_centred (unsigned_abs q) d set.low s)) g.drawn
    (first_gives (λ a. All IsSmall a) p 16 (small_draw p) (inverse_mod p 3) words g (λ u. small_draw_small p u) e).0

pub f_inverse_is : {p : ℕ} {q : ℤ} {w : ℕ} → IsSet p q w → (words : Stream) (f : Invertible) → first_of_f p (unsigned_abs q) w words ≡ Some f → (length f.inverse ≡ p) × All (IsCentred q) f.inverse
f_inverse_is {p} {q} {w} set words f e =
    let given = first_gives (λ a. Unit {0}) p 16 (short_draw p w) (λ a. inverse_mod p (unsigned_abs q) (multiple_of (pos 3) a)) words f (λ u. tt) e in
    let i = from_inverse p (unsigned_abs q) (multiple_of (pos 3) f.drawn) f.inverse (let s = set.sixths in omega arith) (let s = set.low in omega arith) given.1 in
    (i.0, from_natural set f.inverse i.1)

-- the pair that is made
module _ {p : ℕ} {q : ℤ} {w : ℕ} (set : IsSet p q w) (words : Stream) (g f : Invertible) (h : List ℤ) (rho : List ℕ)
    (eg : first_of_g p words ≡ Some g) (ef : first_of_f p (unsigned_abs q) w g.left ≡ Some f) (eh : h ≡ product_mod p (unsigned_abs q) g.drawn f.inverse) (er : rho ≡ bytes_draw (small_len (set_of p q w)) f.left) where
  pub drawn : pair_drawn (set_of p q w) words ≡ Some (record { f = f.drawn; g_inverse = g.inverse; h = h; rho = rho })
  drawn = pair_from p q w words g (Some f) eg ef ∙ ap₂ (λ a b. Some (record { f = f.drawn; g_inverse = g.inverse; h = a; rho = b })) (sym eh) (sym er)

  pub drawn_is : IsTested (set_of p q w) (record { f = f.drawn; g_inverse = g.inverse; h = h; rho = rho })
  drawn_is = (drawn_tested (set_of p q w) words (record { f = f.drawn; g_inverse = g.inverse; h = h; rho = rho }) (is_set (set_of p q w) set.known) drawn).0

  pub made_is : (secret : List ℕ) → secret ≡ secret_key (set_of p q w) (record { f = f.drawn; g_inverse = g.inverse; h = h; rho = rho }) → made (set_of p q w) words ≡ Some secret
  unfolding made
  made_is secret e = ap (option_map (secret_key (set_of p q w))) drawn ∙ ap Some (sym e)

  pub reads : (secret : List ℕ) → secret ≡ secret_key (set_of p q w) (record { f = f.drawn; g_inverse = g.inverse; h = h; rho = rho }) → secret_read (parameters p) secret ≡ Some (pair_with (parameters p) f.drawn g.inverse h secret)
  reads secret e =
      let one = is_set (set_of p q w) set.known in
      let tested = drawn_tested (set_of p q w) words (record { f = f.drawn; g_inverse = g.inverse; h = h; rho = rho }) one drawn in
      let whole : secret_read (set_of p q w) secret ≡ Some (record { f = f.drawn; g_inverse = g.inverse; h = h; rho = rho }) = ap (secret_read (set_of p q w)) e ∙ read_back (set_of p q w) (record { f = f.drawn; g_inverse = g.inverse; h = h; rho = rho }) one tested.0 tested.1 in
      let parts = subst (HasParts (set_of p q w) (record { f = f.drawn; g_inverse = g.inverse; h = h; rho = rho })) (sym e) (secret_parts (set_of p q w) (record { f = f.drawn; g_inverse = g.inverse; h = h; rho = rho }) one tested.0 tested.1) in
      subst (λ s. secret_read s secret ≡ Some (pair_with s f.drawn g.inverse h secret)) (sym set.named)
      (whole ∙ ap (λ r. Some (record { f = f.drawn; g_inverse = g.inverse; h = h; rho = r })) (sym parts.rho))

-- secret keys of equal parts
pub secret_same : (s : Parameters) (f f' g g' h h' : List ℤ) (rho : List ℕ) → f ≡ f' → g ≡ g' → h ≡ h'
    → secret_key s (record { f = f; g_inverse = g; h = h; rho = rho }) ≡ secret_key s (record { f = f'; g_inverse = g'; h = h'; rho = rho })
secret_same s f f' g g' h h' rho ef eg eh =
    ap (λ x. secret_key s (record { f = x; g_inverse = g; h = h; rho = rho })) ef
    ∙ ap (λ x. secret_key s (record { f = f'; g_inverse = x; h = h; rho = rho })) eg
    ∙ ap (λ x. secret_key s (record { f = f'; g_inverse = g'; h = x; rho = rho })) eh

-- which words are left
abbrev tries_of_g : ℕ → Stream → ℕ
tries_of_g p words = words_tried p 16 (small_draw p) (inverse_mod p 3) words

abbrev tries_of_f : ℕ → ℕ → ℕ → Stream → ℕ
tries_of_f p m w words = words_tried p 16 (short_draw p w) (λ a. inverse_mod p m (multiple_of (pos 3) a)) words

pub left_without_g : (p : ℕ) (q : ℤ) (w : ℕ) (words after : Stream) → first_of_g p words ≡ None → after ≡ behind (tries_of_g p words) words
    → after ≡ behind (pair_words (set_of p q w) words) words
unfolding pair_words
left_without_g p q w words after none left =
    left ∙ ap (λ n. behind n words) (sym (ap (λ o. tries_of_g p words + words_behind_g (set_of p q w) o) none ∙ add-zero (tries_of_g p words)))

left_with_g : (p : ℕ) (q : ℤ) (w : ℕ) (words : Stream) (g : Invertible) (after : Stream) (count : ℕ) → first_of_g p words ≡ Some g
    → g.left ≡ behind (tries_of_g p words) words
    → tries_of_f p (unsigned_abs q) w g.left + words_behind_f (set_of p q w) (first_of_f p (unsigned_abs q) w g.left) ≡ count
    → after ≡ behind count g.left → after ≡ behind (pair_words (set_of p q w) words) words
unfolding pair_words
left_with_g p q w words g after count eg left is_count is_after =
    is_after ∙ ap (behind count) left ∙ behind-behind (tries_of_g p words) count words
    ∙ ap (λ n. behind n words) (ap (λ n. tries_of_g p words + n) (sym is_count) ∙ sym (ap (λ o. tries_of_g p words + words_behind_g (set_of p q w) o) eg))

pub left_without_f : (p : ℕ) (q : ℤ) (w : ℕ) (words : Stream) (g : Invertible) (after : Stream) → first_of_g p words ≡ Some g
    → first_of_f p (unsigned_abs q) w g.left ≡ None → g.left ≡ behind (tries_of_g p words) words
    → after ≡ behind (tries_of_f p (unsigned_abs q) w g.left) g.left → after ≡ behind (pair_words (set_of p q w) words) words
left_without_f p q w words g after eg none left is_after =
    left_with_g p q w words g after (tries_of_f p (unsigned_abs q) w g.left) eg left
    (ap (λ o. tries_of_f p (unsigned_abs q) w g.left + words_behind_f (set_of p q w) o) none ∙ add-zero (tries_of_f p (unsigned_abs q) w g.left)) is_after

pub left_of_pair : (p : ℕ) (q : ℤ) (w : ℕ) (words : Stream) (g f : Invertible) (after : Stream) → first_of_g p words ≡ Some g
    → first_of_f p (unsigned_abs q) w g.left ≡ Some f → g.left ≡ behind (tries_of_g p words) words
    → f.left ≡ behind (tries_of_f p (unsigned_abs q) w g.left) g.left → after ≡ behind ((small_len (set_of p q w) + 3) / 4) f.left
    → after ≡ behind (pair_words (set_of p q w) words) words
left_of_pair p q w words g f after eg ef left_g left_f is_after =
    let of_f : ℕ = tries_of_f p (unsigned_abs q) w g.left in
    let of_rho : ℕ = (small_len (set_of p q w) + 3) / 4 in
    left_with_g p q w words g after (of_f + of_rho) eg left_g (ap (λ o. of_f + words_behind_f (set_of p q w) o) ef)
    (is_after ∙ ap (behind of_rho) left_f ∙ behind-behind of_f of_rho g.left)
