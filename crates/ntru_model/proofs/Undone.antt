-- Decapsulation finds the short polynomial of a ciphertext, and the key of it.
use Rattle.std.proofs.Common.{◌≡◌, ℕ, ◌+◌, ◌-◌, ◌*◌, ◌/◌, ◌%◌, ◌<◌, cond, true, false, Some, List, ◌++◌, length, map, take, replicate, All, nat_eq, count_by, ℤ, pos, refl, sym, ap, subst, ◌∙◌, arith}
use Rattle.std.specs.Cmp.Lexicographic.{pointwise}
use Rattle.std.proofs.lemmas.Option.{same_Some}
use Rattle.std.proofs.lemmas.Int.{ints}
use Rattle.std.proofs.lemmas.Bool.Decides.{Decides-eqb}
use Rattle.std.proofs.lemmas.Slice.Eq.{bytes_eq-Decides}
use Rattle.std.proofs.lemmas.List.{length-map, length-append, take_at}
use Rattle.ring_poly.specs.Ring.{product, IsWithin, AreCongruent}
use Rattle.ring_poly.proofs.Commutes.{product_comm}
use Rattle.ring_poly.proofs.Centred.{all_centred_from_rounded}
use Rattle.ring_poly.proofs.WindowSums.{length-product}
use Rattle.ring_solve.specs.Fields.{one}
use Rattle.ring_laws.specs.Laws.{AreSmall, IsShort, is_nonzero, multiple_of, sum_of}
use Rattle.ring_laws.proofs.Polynomials.{AreCongruent-same, AreCongruent-back, AreCongruent-then, products_congruent, sums_congruent, sum_with_multiple, sum_within, multiple_within, centred_from_within, length-multiple_of, rounded_error}
use Rattle.ring_laws.proofs.Turning.{product_assoc, product_respects, product-sum_of, product-multiple_of}
use Rattle.ring_laws.proofs.Small.{product_low}
use Rattle.ring_laws.proofs.Inverses.{product_one}
use Rattle.ntru_codec.specs.Small.{small_encoding}
use Rattle.kem_trait.specs.Encapsulated.{Encapsulated}
use Rattle.ntru_model.specs.Parameters.{Parameters, core_len, cipher_len}
use Rattle.ntru_model.specs.Residues.{centred, product_mod, nearest_triple}
use Rattle.kem_trait.specs.Streams.{Stream}
use Rattle.ntru_model.specs.Draws.{short_draw}
use Rattle.ntru_model.specs.Encodings.{public_read, rounded_encoding, rounded_read}
use Rattle.ntru_model.specs.Pairs.{KeyPair, hash, g_of, public_key, secret_read}
use Rattle.ntru_model.specs.Encapsulation.{cipher_of, key_of, refused_key, encapsulation, encapsulated, r_found, r_of, answer, decapsulated, decapsulated_by}
use Rattle.ntru_model.proofs.Options.{map_parts}
use Rattle.ntru_model.proofs.Small.{all_within_centred}
use Rattle.ntru_model.proofs.Residues.{length-product_mod, product_mod_centred, product_mod_congruent, product_mod_is, all_congruent, rounded_list}
use Rattle.ntru_model.proofs.Inverses.{product_one_from}
use Rattle.ntru_model.proofs.Drawn.{short_draw_short, length-short_draw}
use Rattle.ntru_model.proofs.Sets.{IsSet}
use Rattle.ntru_model.proofs.Bytes.{public_back, rounded_back, triples_from_rounded, length-core}
use Rattle.ntru_model.proofs.Steps.{encapsulated_by, decapsulated_with, decapsulated_is}
use Rattle.ntru_model.proofs.Tested.{IsTested, tested_from_read, length-hash}

-- the polynomial of the ciphertext
abbrev core_of : Parameters → List ℤ → List ℤ → List ℤ
core_of s h r = map nearest_triple (product_mod s.p s.q h r)

length-core_of : (s : Parameters) (h r : List ℤ) → length (core_of s h r) ≡ s.p
length-core_of s h r = length-map (product_mod s.p s.q h r) nearest_triple ∙ length-product_mod s.p s.q h r

-- g r and three times a product of small polynomials, which is small enough to be centred modulo q
module _ (p q w : ℕ) (f h r g : List ℤ) (some : 1 < p) (odd : q % 2 ≡ 1) (room : 16 * w < q) (lf : length f ≡ p) (lh : length h ≡ p) (lr : length r ≡ p) (lg : length g ≡ p)
    (g_is : product_mod p q (multiple_of (pos 3) f) h ≡ g) (short_f : IsShort w f) (short_r : IsShort w r) (small_g : AreSmall g) where
  by_key : AreCongruent (pos q) (product p (multiple_of (pos 3) f) (product_mod p q h r)) (product p g r)
  by_key =
      let a = multiple_of (pos 3) f in
      let la : length (multiple_of (pos 3) f) ≡ p = length-multiple_of (pos 3) f ∙ lf in
      let first : AreCongruent (pos q) (product p (multiple_of (pos 3) f) (product_mod p q h r)) (product p (multiple_of (pos 3) f) (product p h r)) =
      product_respects p (pos q) (multiple_of (pos 3) f) (product_mod p q h r) (product p h r) (product_mod_congruent p q h r (omega arith)) in
      let near_g : AreCongruent (pos q) (product p (multiple_of (pos 3) f) h) g =
      AreCongruent-back (pos q) g (product p (multiple_of (pos 3) f) h)
      (let P : List ℤ → Type 0 = λ x. AreCongruent (pos q) x (product p (multiple_of (pos 3) f) h) in
      subst P g_is (product_mod_congruent p q (multiple_of (pos 3) f) h (omega arith))) in
      let second : AreCongruent (pos q) (product p (product p (multiple_of (pos 3) f) h) r) (product p g r) =
      products_congruent p (pos q) (product p (multiple_of (pos 3) f) h) g r r near_g (AreCongruent-same (pos q) r) in
      AreCongruent-then (pos q) (product p (multiple_of (pos 3) f) (product_mod p q h r)) (product p (multiple_of (pos 3) f) (product p h r)) (product p g r) first
      (let P : List ℤ → Type 0 = λ x. AreCongruent (pos q) x (product p g r) in subst P (product_assoc p (multiple_of (pos 3) f) h r some la lh lr) second)

  error_product : (e : List ℤ) → product p (multiple_of (pos 3) f) e ≡ multiple_of (pos 3) (product p e f)
  error_product e = product_comm p (multiple_of (pos 3) f) e ∙ product-multiple_of p (pos 3) e f

  opened : (c e : List ℤ) → length e ≡ p → AreSmall e → c ≡ sum_of (product_mod p q h r) e
      → product_mod p q (multiple_of (pos 3) f) c ≡ sum_of (product p g r) (multiple_of (pos 3) (product p e f))
  opened c e le small_e c_is =
      let three_f = multiple_of (pos 3) f in
      let hr = product_mod p q h r in
      let lhr = length-product_mod p q h r in
      let lef = length-product p e f in
      let lm = length-multiple_of (pos 3) (product p e f) in
      let lgr = length-product p g r in
      let lfh = length-product p (multiple_of (pos 3) f) (product_mod p q h r) in
      let split : product p (multiple_of (pos 3) f) c ≡ sum_of (product p (multiple_of (pos 3) f) (product_mod p q h r)) (multiple_of (pos 3) (product p e f)) =
      ap (product p (multiple_of (pos 3) f)) c_is ∙ product-sum_of p (multiple_of (pos 3) f) (product_mod p q h r) e (omega arith)
      ∙ ap (λ x. sum_of (product p (multiple_of (pos 3) f) (product_mod p q h r)) x) (error_product e) in
      let near : AreCongruent (pos q) (product p (multiple_of (pos 3) f) c) (sum_of (product p g r) (multiple_of (pos 3) (product p e f))) =
      (let P : List ℤ → Type 0 = λ x. AreCongruent (pos q) x (sum_of (product p g r) (multiple_of (pos 3) (product p e f))) in
      subst P (sym split)
      (sums_congruent (pos q) (product p (multiple_of (pos 3) f) (product_mod p q h r)) (product p g r) (multiple_of (pos 3) (product p e f)) (multiple_of (pos 3) (product p e f)) (omega arith) by_key (AreCongruent-same (pos q) (multiple_of (pos 3) (product p e f))))) in
      let within : All (IsWithin (2 * w + 3 * (2 * w))) (sum_of (product p g r) (multiple_of (pos 3) (product p e f))) =
      sum_within (2 * w) (3 * (2 * w)) (product p g r) (multiple_of (pos 3) (product p e f)) (omega arith) (product_low p w g r lg small_g short_r)
      (multiple_within 3 (2 * w) (product p e f) (product_low p w e f le small_e short_f)) in
      product_mod_is p q (multiple_of (pos 3) f) c (sum_of (product p g r) (multiple_of (pos 3) (product p e f))) odd
      (centred_from_within (pos q) (2 * w + 3 * (2 * w)) (sum_of (product p g r) (multiple_of (pos 3) (product p e f))) (omega (arith, ints)) within)
      (AreCongruent-back (pos q) (product p (multiple_of (pos 3) f) c) (sum_of (product p g r) (multiple_of (pos 3) (product p e f))) near)

-- modulo 3 it is g r, and times the inverse of g it is r
divided : (p : ℕ) (g i r d : List ℤ) → 1 < p → length g ≡ p → length i ≡ p → length r ≡ p → length d ≡ p → AreSmall r → product_mod p 3 g i ≡ one p
    → product_mod p 3 (map (centred 3) (sum_of (product p g r) (multiple_of (pos 3) d))) i ≡ r
divided p g i r d some lg li lr ld small inverse =
    let lgr = length-product p g r in
    let t = sum_of (product p g r) (multiple_of (pos 3) d) in
    let near : AreCongruent (pos 3) (map (centred 3) (sum_of (product p g r) (multiple_of (pos 3) d))) (product p g r) =
    AreCongruent-then (pos 3) (map (centred 3) (sum_of (product p g r) (multiple_of (pos 3) d))) (sum_of (product p g r) (multiple_of (pos 3) d)) (product p g r)
    (all_congruent 3 (sum_of (product p g r) (multiple_of (pos 3) d)) (omega arith)) (sum_with_multiple (pos 3) (product p g r) d (omega arith)) in
    let times : AreCongruent (pos 3) (product p (map (centred 3) (sum_of (product p g r) (multiple_of (pos 3) d))) i) (product p (product p g r) i) =
    products_congruent p (pos 3) (map (centred 3) (sum_of (product p g r) (multiple_of (pos 3) d))) (product p g r) i i near (AreCongruent-same (pos 3) i) in
    let turned : product p (product p g r) i ≡ product p r (product p g i) =
    ap (λ x. product p x i) (product_comm p g r) ∙ product_assoc p r g i some lr lg li in
    let last : AreCongruent (pos 3) (product p r (product p g i)) r =
    (let P : List ℤ → Type 0 = λ x. AreCongruent (pos 3) (product p r (product p g i)) x in
    subst P (product_one p r lr) (product_respects p (pos 3) r (product p g i) (one p) (product_one_from p 3 g i (omega arith) inverse))) in
    let whole : AreCongruent (pos 3) (product p (map (centred 3) (sum_of (product p g r) (multiple_of (pos 3) d))) i) r =
    AreCongruent-then (pos 3) (product p (map (centred 3) (sum_of (product p g r) (multiple_of (pos 3) d))) i) (product p (product p g r) i) r times
    (let P : List ℤ → Type 0 = λ x. AreCongruent (pos 3) x r in subst P (sym turned) last) in
    product_mod_is p 3 (map (centred 3) (sum_of (product p g r) (multiple_of (pos 3) d))) i r refl (all_within_centred r small)
    (AreCongruent-back (pos 3) (product p (map (centred 3) (sum_of (product p g r) (multiple_of (pos 3) d))) i) r whole)

pub found_again : (s : Parameters) (pair : KeyPair) (r : List ℤ) → IsSet s → IsTested s pair → length r ≡ s.p → IsShort s.w r → r_found s pair (core_of s pair.h r) ≡ r
found_again s pair r set t len short =
    let form = set.q_form in
    let odd : s.q % 2 ≡ 1 = omega arith in
    let hr = product_mod s.p s.q pair.h r in
    let lhr = length-product_mod s.p s.q pair.h r in
    let e = rounded_error (product_mod s.p s.q pair.h r) (core_of s pair.h r) (rounded_list (product_mod s.p s.q pair.h r)) in
    let lg : length (g_of s pair) ≡ s.p = length-product_mod s.p s.q (multiple_of (pos 3) pair.f) pair.h in
    let open_is = opened s.p s.q s.w pair.f pair.h r (g_of s pair) set.p_some odd set.w_room t.f_len t.h_len len lg refl t.f_short short t.g_small (core_of s pair.h r) e.0 (e.1 ∙ lhr) e.2 e.3 in
    ap (λ x. product_mod s.p 3 (map (centred 3) x) pair.g_inverse) open_is
    ∙ divided s.p (g_of s pair) pair.g_inverse r (product s.p e.0 pair.f) set.p_some lg t.inverse_len len (length-product s.p e.0 pair.f) short.small t.g_one

kept_short : (s : Parameters) (r : List ℤ) → IsShort s.w r → r_of s r ≡ r
kept_short s r short = ap (λ b. cond b r (replicate s.w (pos 1) ++ replicate (s.p - s.w) (pos 0))) ((Decides-eqb (count_by is_nonzero r) s.w).1 short.weight)

-- the ciphertext of r
cipher_front : (s : Parameters) (h : List ℤ) (public : List ℕ) (r : List ℤ) → take (core_len s) (cipher_of s h public r) ≡ rounded_encoding s (core_of s h r)
unfolding cipher_of
cipher_front s h public r = take_at (rounded_encoding s (core_of s h r)) (hash 2 (hash 3 (small_encoding r) ++ hash 4 public)) (core_len s) (length-core s (core_of s h r) (length-core_of s h r))

pub length-cipher : (s : Parameters) (h : List ℤ) (public : List ℕ) (r : List ℤ) → length (cipher_of s h public r) ≡ cipher_len s
unfolding cipher_of
length-cipher s h public r =
    let a = length-core s (core_of s h r) (length-core_of s h r) in
    let b = length-hash 2 (hash 3 (small_encoding r) ++ hash 4 public) in
    length-append (rounded_encoding s (core_of s h r)) (hash 2 (hash 3 (small_encoding r) ++ hash 4 public)) ∙ omega arith

core_read : (s : Parameters) (h : List ℤ) (public : List ℕ) (r : List ℤ) → IsSet s → rounded_read s (take (core_len s) (cipher_of s h public r)) ≡ Some (core_of s h r)
core_read s h public r set =
    let form = set.q_form in
    let odd : s.q % 2 ≡ 1 = omega arith in
    let near = rounded_list (product_mod s.p s.q h r) in
    ap (rounded_read s) (cipher_front s h public r)
    ∙ rounded_back s (core_of s h r) set (length-core_of s h r)
    (all_centred_from_rounded (pos s.q) (product_mod s.p s.q h r) (core_of s h r) (s.q / 6) (ap pos (let e : s.q ≡ 6 * (s.q / 6) + 1 = omega arith in e)) (product_mod_centred s.p s.q h r odd) near)
    (triples_from_rounded (product_mod s.p s.q h r) (core_of s h r) near)

same_cipher : (s : Parameters) (pair : KeyPair) (r : List ℤ) → answer s pair (cipher_of s pair.h (public_key s pair) r) r ≡ key_of r (cipher_of s pair.h (public_key s pair) r)
same_cipher s pair r =
    ap (λ b. cond b (key_of r (cipher_of s pair.h (public_key s pair) r)) (refused_key pair.rho (cipher_of s pair.h (public_key s pair) r)))
    ((bytes_eq-Decides (cipher_of s pair.h (public_key s pair) r) (cipher_of s pair.h (public_key s pair) r)).1 refl)

pub undone : (s : Parameters) (pair : KeyPair) (r : List ℤ) → IsSet s → IsTested s pair → length r ≡ s.p → IsShort s.w r
    → decapsulated s pair (cipher_of s pair.h (public_key s pair) r) ≡ Some (key_of r (cipher_of s pair.h (public_key s pair) r))
undone s pair r set t len short =
    decapsulated_is s pair (cipher_of s pair.h (public_key s pair) r) (core_of s pair.h r) (core_read s pair.h (public_key s pair) r set)
    ∙ ap (λ x. Some (answer s pair (cipher_of s pair.h (public_key s pair) r) x)) (ap (r_of s) (found_again s pair r set t len short) ∙ kept_short s r short)
    ∙ ap Some (same_cipher s pair r)

-- what is encapsulated to the public key of a tested pair
pub encapsulated_is : (s : Parameters) (pair : KeyPair) (words : Stream) (e : Encapsulated) → IsSet s → IsTested s pair → encapsulated s (public_key s pair) words ≡ Some e
    → encapsulation s pair.h (public_key s pair) (short_draw s.p s.w words) ≡ e
encapsulated_is s pair words e set t h =
    same_Some (encapsulation s pair.h (public_key s pair) (short_draw s.p s.w words)) e
    (sym (encapsulated_by s (public_key s pair) words pair.h (public_back s pair.h set t.h_len t.h_centred)) ∙ h)

pub decapsulates_law : (s : Parameters) (secret : List ℕ) (pair : KeyPair) (words : Stream) (e : Encapsulated) → IsSet s → secret_read s secret ≡ Some pair
    → encapsulated s (public_key s pair) words ≡ Some e → decapsulated_by s secret e.cipher ≡ Some e.key
decapsulates_law s secret pair words e set read made =
    let t = (tested_from_read s secret pair set read).0 in
    decapsulated_with s secret e.cipher pair read
    ∙ subst (λ x. decapsulated s pair x.cipher ≡ Some x.key) (encapsulated_is s pair words e set t made)
    (undone s pair (short_draw s.p s.w words) set t (length-short_draw s.p s.w words) (short_draw_short s.p s.w words set.w_few))

pub length-encapsulated : (s : Parameters) (public : List ℕ) (words : Stream) (e : Encapsulated) → encapsulated s public words ≡ Some e → (length e.cipher ≡ cipher_len s) × (length e.key ≡ 32)
unfolding encapsulated
length-encapsulated s public words e h =
    let r = short_draw s.p s.w words in
    let parts = map_parts (λ x. encapsulation s x public (short_draw s.p s.w words)) (public_read s public) e h in
    subst (λ x. (length x.cipher ≡ cipher_len s) × (length x.key ≡ 32)) parts.2 (
      length-cipher s parts.0 public (short_draw s.p s.w words),
      length-hash 1 (hash 3 (small_encoding (short_draw s.p s.w words)) ++ cipher_of s parts.0 public (short_draw s.p s.w words)),
    )

answer_length : (s : Parameters) (pair : KeyPair) (cipher : List ℕ) (r : List ℤ) → length (answer s pair cipher r) ≡ 32
answer_length s pair cipher r =
    elim (pointwise nat_eq (cipher_of s pair.h (public_key s pair) r) cipher) as (λ t. length (cond t (key_of r cipher) (refused_key pair.rho cipher)) ≡ 32) [
      | true ↦ length-hash 1 (hash 3 (small_encoding r) ++ cipher)
      | false ↦ length-hash 0 (hash 3 pair.rho ++ cipher)
    ]

pub length-decapsulated : (s : Parameters) (pair : KeyPair) (cipher key : List ℕ) → decapsulated s pair cipher ≡ Some key → length key ≡ 32
unfolding decapsulated
length-decapsulated s pair cipher key h =
    let parts = map_parts (λ core. answer s pair cipher (r_of s (r_found s pair core))) (rounded_read s (take (core_len s) cipher)) key h in
    ap length (sym parts.2) ∙ answer_length s pair cipher (r_of s (r_found s pair parts.0))
