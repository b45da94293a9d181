-- Pairs that are drawn are tested.
use Rattle.std.proofs.Common.{◌≡◌, ℕ, ◌%◌, ◌<◌, Some, List, length, All, ℤ, pos, refl, sym, ap, subst, ◌∙◌, arith}
use Rattle.std.proofs.lemmas.Int.{ints}
use Rattle.ring_poly.specs.Ring.{product, AreCongruent}
use Rattle.ring_poly.proofs.Commutes.{product_comm}
use Rattle.ring_solve.specs.Fields.{one}
use Rattle.ring_laws.specs.Laws.{AreSmall, IsShort, multiple_of}
use Rattle.ring_laws.proofs.Polynomials.{AreCongruent-back, AreCongruent-then, centred_from_within, length-multiple_of}
use Rattle.ring_laws.proofs.Turning.{product_assoc, product_respects}
use Rattle.ring_laws.proofs.Inverses.{product_one}
use Rattle.ntru_codec.specs.Small.{IsSmall}
use Rattle.ntru_model.specs.Parameters.{Parameters, small_len}
use Rattle.ntru_model.specs.Residues.{product_mod, inverse_mod}
use Rattle.kem_trait.specs.Streams.{Stream}
use Rattle.ntru_model.specs.Draws.{small_draw, short_draw, Invertible}
use Rattle.ntru_model.specs.Pairs.{KeyPair, g_of, tries, pair_drawn}
use Rattle.ntru_model.proofs.Options.{and_then_parts, map_parts}
use Rattle.ntru_model.proofs.Small.{all_small_within, all_centred_within}
use Rattle.ntru_model.proofs.Residues.{length-product_mod, product_mod_centred, product_mod_congruent, product_mod_is}
use Rattle.ntru_model.proofs.Inverses.{from_inverse, one_centred}
use Rattle.ntru_model.proofs.Drawn.{small_draw_small, length-small_draw, short_draw_short, length-short_draw, length-bytes_draw, first_gives}
use Rattle.ntru_model.proofs.Sets.{IsSet}
use Rattle.ntru_model.proofs.Steps.{with_short, with_small, small_tries, short_tries}
use Rattle.ntru_model.proofs.Tested.{IsTested}

pub swapped : (p : ℕ) (a b c : List ℤ) → 1 < p → length a ≡ p → length b ≡ p → length c ≡ p → product p a (product p b c) ≡ product p b (product p a c)
swapped p a b c some la lb lc =
    sym (product_assoc p a b c some la lb lc) ∙ ap (λ x. product p x c) (product_comm p a b) ∙ product_assoc p b a c some lb la lc

-- a (g / a) is g
quotient_back : (p q : ℕ) (a g i : List ℤ) → 1 < p → q % 2 ≡ 1 → 6 < q → length a ≡ p → length g ≡ p → length i ≡ p → AreSmall g
    → AreCongruent (pos q) (product p a i) (one p) → product_mod p q a (product_mod p q g i) ≡ g
quotient_back p q a g i some odd more la lg li small inverse =
    let first : AreCongruent (pos q) (product p a (product_mod p q g i)) (product p a (product p g i)) =
    product_respects p (pos q) a (product_mod p q g i) (product p g i) (product_mod_congruent p q g i (omega arith)) in
    let second : AreCongruent (pos q) (product p g (product p a i)) g =
    (let P : List ℤ → Type 0 = λ x. AreCongruent (pos q) (product p g (product p a i)) x in
    subst P (product_one p g lg) (product_respects p (pos q) g (product p a i) (one p) inverse)) in
    let whole : AreCongruent (pos q) (product p a (product_mod p q g i)) g =
    AreCongruent-then (pos q) (product p a (product_mod p q g i)) (product p a (product p g i)) g first
    (let P : List ℤ → Type 0 = λ x. AreCongruent (pos q) x g in subst P (sym (swapped p a g i some la lg li)) second) in
    product_mod_is p q a (product_mod p q g i) g odd (centred_from_within (pos q) 1 g (omega (arith, ints)) small)
    (AreCongruent-back (pos q) (product p a (product_mod p q g i)) g whole)

made_tested : (s : Parameters) (g f : Invertible) → IsSet s → length g.drawn ≡ s.p → All IsSmall g.drawn → inverse_mod s.p 3 g.drawn ≡ Some g.inverse
    → length f.drawn ≡ s.p → IsShort s.w f.drawn → inverse_mod s.p s.q (multiple_of (pos 3) f.drawn) ≡ Some f.inverse → IsTested s (with_short s g f)
made_tested s g f set lg small ig lf short jf =
    let form = set.q_form in
    let big = set.q_some in
    let odd : s.q % 2 ≡ 1 = omega arith in
    let gi = from_inverse s.p 3 g.drawn g.inverse refl (omega arith) ig in
    let fi = from_inverse s.p s.q (multiple_of (pos 3) f.drawn) f.inverse odd (omega arith) jf in
    let within = all_small_within g.drawn small in
    let g_is : g_of s (with_short s g f) ≡ g.drawn =
    quotient_back s.p s.q (multiple_of (pos 3) f.drawn) g.drawn f.inverse set.p_some odd big (length-multiple_of (pos 3) f.drawn ∙ lf) lg fi.0 within fi.2 in
    record {
      f_len = lf;
      f_short = short;
      inverse_len = gi.0;
      inverse_small = all_centred_within g.inverse gi.1;
      h_len = length-product_mod s.p s.q g.drawn f.inverse;
      h_centred = product_mod_centred s.p s.q g.drawn f.inverse odd;
      g_small = subst AreSmall (sym g_is) within;
      g_one = ap (λ x. product_mod s.p 3 x g.inverse) g_is
          ∙ product_mod_is s.p 3 g.drawn g.inverse (one s.p) refl (one_centred s.p 3 refl (omega arith)) (AreCongruent-back (pos 3) (product s.p g.drawn g.inverse) (one s.p) gi.2);
    }

pub drawn_tested : (s : Parameters) (words : Stream) (pair : KeyPair) → IsSet s → pair_drawn s words ≡ Some pair → IsTested s pair × (length pair.rho ≡ small_len s)
unfolding pair_drawn
drawn_tested s words pair set e =
    let a = and_then_parts (with_small s) (small_tries s words) pair e in
    let b = map_parts (with_short s a.0) (short_tries s a.0.left) pair a.2 in
    let g = first_gives (λ c. (length c ≡ s.p) × All IsSmall c) s.p tries (small_draw s.p) (inverse_mod s.p 3) words a.0
    (λ u. (length-small_draw s.p u, small_draw_small s.p u)) a.1 in
    let f = first_gives (λ c. (length c ≡ s.p) × IsShort s.w c) s.p tries (short_draw s.p s.w) (λ f. inverse_mod s.p s.q (multiple_of (pos 3) f)) a.0.left b.0
    (λ u. (length-short_draw s.p s.w u, short_draw_short s.p s.w u set.w_few)) b.1 in
    subst (λ x. IsTested s x × (length x.rho ≡ small_len s)) b.2
    (made_tested s a.0 b.0 set g.0.0 g.0.1 g.1 f.0.0 f.0.1 f.1, length-bytes_draw (small_len s) b.0.left)
