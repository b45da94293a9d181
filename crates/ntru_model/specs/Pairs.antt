-- Key pairs: what they are, how they are drawn, and their bytes.
use Rattle.std.specs.Prelude.{ℕ, ◌+◌, ◌/◌, Bool, ◌&&◌, ◌||◌, negsuc, Option, Some, None, List, ◌∷◌, ◌++◌, take, drop, ℤ, pos, nat_eq, if◌then◌else◌}
use Rattle.std.specs.List.{count_by, list_all}
use Rattle.std.specs.Option.{option_map, option_and_then}
use Rattle.std.specs.Ordering.{int_eq}
use Rattle.std.specs.Cmp.Lexicographic.{pointwise}
use Rattle.sha2.specs.Sha512.{sha512}
use Rattle.ring_solve.specs.Fields.{one}
use Rattle.ring_laws.specs.Laws.{multiple_of, is_nonzero}
use Rattle.ntru_codec.specs.Small.{small_encoding}
use Rattle.ntru_model.specs.Parameters.{Parameters, small_len, public_len}
use Rattle.ntru_model.specs.Residues.{product_mod, inverse_mod}
use Rattle.kem_trait.specs.Streams.{Stream}
use Rattle.ntru_model.specs.Draws.{Invertible, small_draw, short_draw, bytes_draw, first_invertible, words_tried}
use Rattle.ntru_model.specs.Encodings.{public_encoding, public_read, small_read}

-- the first 32 bytes of SHA-512 of a byte and these bytes
unfoldable pub hash : ℕ → List ℕ → List ℕ
hash b bytes = take 32 (sha512 (b ∷ bytes))

-- f is short, g_inverse the inverse modulo 3 of a small g, h = g / (3 f) modulo q, and rho enters refused keys
pub record KeyPair : Type 0 where
  pub f : List ℤ
  pub g_inverse : List ℤ
  pub h : List ℤ
  pub rho : List ℕ

abbrev pub public_key : Parameters → KeyPair → List ℕ
public_key s pair = public_encoding s pair.h

-- f, g_inverse, the public key, rho, and a hash of the public key
unfoldable pub secret_key : Parameters → KeyPair → List ℕ
secret_key s pair =
    small_encoding pair.f ++ small_encoding pair.g_inverse ++ public_key s pair ++ pair.rho ++ hash 4 (public_key s pair)

-- 3 f h modulo q
abbrev pub g_of : Parameters → KeyPair → List ℤ
g_of s pair = product_mod s.p s.q (multiple_of (pos 3) pair.f) pair.h

abbrev pub is_small_number : ℤ → Bool
is_small_number c = int_eq c (pos 0) || int_eq c (pos 1) || int_eq c (negsuc 0)

-- f has w coefficients that aren't 0, 3 f h is small, and its product with g_inverse is 1 modulo 3
unfoldable pub is_tested : Parameters → KeyPair → Bool
is_tested s pair =
    nat_eq (count_by is_nonzero pair.f) s.w
    && list_all is_small_number (g_of s pair)
    && pointwise int_eq (product_mod s.p 3 (g_of s pair) pair.g_inverse) (one s.p)

-- the fields of a secret key, where its polynomials are spelled
unfoldable pub fields_read : Parameters → List ℕ → Option KeyPair
fields_read s bytes =
    option_and_then (λ f. option_and_then (λ g_inverse. option_map
    (λ h. record {
      f = f;
      g_inverse = g_inverse;
      h = h;
      rho = take (small_len s) (drop (small_len s + small_len s + public_len s) bytes);
    })
    (public_read s (take (public_len s) (drop (small_len s + small_len s) bytes))))
    (small_read s.p (take (small_len s) (drop (small_len s) bytes))))
    (small_read s.p (take (small_len s) bytes))

-- the tested pair whose secret key the bytes are, where there is one
unfoldable pub secret_read : Parameters → List ℕ → Option KeyPair
secret_read s bytes = option_and_then
    (λ pair. if is_tested s pair && pointwise nat_eq (secret_key s pair) bytes then Some pair else None)
    (fields_read s bytes)

-- how often g and f are drawn at most
abbrev pub tries : ℕ
tries = 16

-- the first g that has an inverse modulo 3, and the first f for which 3 f has one modulo q
abbrev pub g_drawn : Parameters → Stream → Option Invertible
g_drawn s words = first_invertible s.p tries (small_draw s.p) (inverse_mod s.p 3) words

abbrev pub f_drawn : Parameters → Stream → Option Invertible
f_drawn s words =
    first_invertible s.p tries (short_draw s.p s.w) (λ f. inverse_mod s.p s.q (multiple_of (pos 3) f)) words

-- g is drawn until it has an inverse modulo 3, then f until 3 f has one modulo q, then rho
unfoldable pub pair_drawn : Parameters → Stream → Option KeyPair
pair_drawn s words =
    option_and_then (λ g. option_map
    (λ f. record {
      f = f.drawn;
      g_inverse = g.inverse;
      h = product_mod s.p s.q g.drawn f.inverse;
      rho = bytes_draw (small_len s) f.left;
    })
    (f_drawn s g.left))
    (g_drawn s words)

-- how many words the draws of g take, and those of f
abbrev pub g_words : Parameters → Stream → ℕ
g_words s words = words_tried s.p tries (small_draw s.p) (inverse_mod s.p 3) words

abbrev pub f_words : Parameters → Stream → ℕ
f_words s words = words_tried s.p tries (short_draw s.p s.w) (λ f. inverse_mod s.p s.q (multiple_of (pos 3) f)) words

-- how many words are taken behind those of f, where there is an f, and behind those of g, where there is a g
abbrev pub words_behind_f : Parameters → Option Invertible → ℕ
words_behind_f s None = 0
words_behind_f s (Some f) = (small_len s + 3) / 4

abbrev pub words_behind_g : Parameters → Option Invertible → ℕ
words_behind_g s None = 0
words_behind_g s (Some g) = f_words s g.left + words_behind_f s (f_drawn s g.left)

-- how many words a pair takes, or the draws that give none
unfoldable pub pair_words : Parameters → Stream → ℕ
pair_words s words = g_words s words + words_behind_g s (g_drawn s words)
