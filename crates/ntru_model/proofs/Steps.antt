-- Each definition by what its steps give.
use Rattle.std.proofs.Common.{◌≡◌, ◌+◌, Bool, true, false, cond, ◌&&◌, Option, Some, None, List, ℕ, take, drop, nat_eq, option_map, option_and_then, ℤ, pos, refl, ap, ◌∙◌}
use Rattle.std.specs.Cmp.Lexicographic.{pointwise}
use Rattle.std.proofs.lemmas.Slice.Eq.{bytes_eq-Decides}
use Rattle.ring_laws.specs.Laws.{multiple_of}
use Rattle.ntru_model.specs.Parameters.{Parameters, small_len, public_len, core_len}
use Rattle.ntru_model.specs.Residues.{product_mod, inverse_mod}
use Rattle.kem_trait.specs.Streams.{Stream}
use Rattle.ntru_model.specs.Draws.{small_draw, short_draw, bytes_draw, Invertible, first_invertible}
use Rattle.ntru_model.specs.Encodings.{small_read, public_read, rounded_read}
use Rattle.ntru_model.specs.Pairs.{KeyPair, secret_key, is_tested, fields_read, secret_read, tries, pair_drawn}
use Rattle.ntru_model.specs.Encapsulation.{encapsulation, encapsulated, r_found, r_of, answer, decapsulated, decapsulated_by}

-- drawn pairs
abbrev pub with_short : Parameters → Invertible → Invertible → KeyPair
with_short s g f = record { f = f.drawn; g_inverse = g.inverse; h = product_mod s.p s.q g.drawn f.inverse; rho = bytes_draw (small_len s) f.left }

abbrev pub short_tries : Parameters → Stream → Option Invertible
short_tries s words = first_invertible s.p tries (short_draw s.p s.w) (λ f. inverse_mod s.p s.q (multiple_of (pos 3) f)) words

abbrev pub small_tries : Parameters → Stream → Option Invertible
small_tries s words = first_invertible s.p tries (small_draw s.p) (inverse_mod s.p 3) words

abbrev pub with_small : Parameters → Invertible → Option KeyPair
with_small s g = option_map (with_short s g) (short_tries s g.left)

pub pair_drawn_is : (s : Parameters) (words : Stream) (g f : Invertible) → small_tries s words ≡ Some g → short_tries s g.left ≡ Some f → pair_drawn s words ≡ Some (with_short s g f)
unfolding pair_drawn
pair_drawn_is s words g f hg hf = ap (option_and_then (with_small s)) hg ∙ ap (option_map (with_short s g)) hf

pub no_small : (s : Parameters) (words : Stream) → small_tries s words ≡ None → pair_drawn s words ≡ None
unfolding pair_drawn
no_small s words h = ap (option_and_then (with_small s)) h

pub no_short : (s : Parameters) (words : Stream) (g : Invertible) → small_tries s words ≡ Some g → short_tries s g.left ≡ None → pair_drawn s words ≡ None
unfolding pair_drawn
no_short s words g hg hf = ap (option_and_then (with_small s)) hg ∙ ap (option_map (with_short s g)) hf

-- the fields of a secret key
abbrev pub with_h : Parameters → List ℕ → List ℤ → List ℤ → List ℤ → KeyPair
with_h s bytes f g h = record { f = f; g_inverse = g; h = h; rho = take (small_len s) (drop (small_len s + small_len s + public_len s) bytes) }

abbrev pub with_inverse : Parameters → List ℕ → List ℤ → List ℤ → Option KeyPair
with_inverse s bytes f g = option_map (with_h s bytes f g) (public_read s (take (public_len s) (drop (small_len s + small_len s) bytes)))

abbrev pub with_f : Parameters → List ℕ → List ℤ → Option KeyPair
with_f s bytes f = option_and_then (with_inverse s bytes f) (small_read s.p (take (small_len s) (drop (small_len s) bytes)))

pub fields_are : (s : Parameters) (bytes : List ℕ) (f g h : List ℤ) → small_read s.p (take (small_len s) bytes) ≡ Some f → small_read s.p (take (small_len s) (drop (small_len s) bytes)) ≡ Some g
    → public_read s (take (public_len s) (drop (small_len s + small_len s) bytes)) ≡ Some h → fields_read s bytes ≡ Some (with_h s bytes f g h)
unfolding fields_read
fields_are s bytes f g h hf hg hh = ap (option_and_then (with_f s bytes)) hf ∙ ap (option_and_then (with_inverse s bytes f)) hg ∙ ap (option_map (with_h s bytes f g)) hh

pub no_f : (s : Parameters) (bytes : List ℕ) → small_read s.p (take (small_len s) bytes) ≡ None → fields_read s bytes ≡ None
unfolding fields_read
no_f s bytes h = ap (option_and_then (with_f s bytes)) h

pub no_inverse : (s : Parameters) (bytes : List ℕ) (f : List ℤ) → small_read s.p (take (small_len s) bytes) ≡ Some f → small_read s.p (take (small_len s) (drop (small_len s) bytes)) ≡ None → fields_read s bytes ≡ None
unfolding fields_read
no_inverse s bytes f hf hg = ap (option_and_then (with_f s bytes)) hf ∙ ap (option_and_then (with_inverse s bytes f)) hg

pub no_h : (s : Parameters) (bytes : List ℕ) (f g : List ℤ) → small_read s.p (take (small_len s) bytes) ≡ Some f → small_read s.p (take (small_len s) (drop (small_len s) bytes)) ≡ Some g
    → public_read s (take (public_len s) (drop (small_len s + small_len s) bytes)) ≡ None → fields_read s bytes ≡ None
unfolding fields_read
no_h s bytes f g hf hg hh = ap (option_and_then (with_f s bytes)) hf ∙ ap (option_and_then (with_inverse s bytes f)) hg ∙ ap (option_map (with_h s bytes f g)) hh

-- and the pair with them
abbrev where_same : Parameters → List ℕ → KeyPair → Option KeyPair
where_same s bytes pair = cond (is_tested s pair && pointwise nat_eq (secret_key s pair) bytes) (Some pair) None

pub secret_read_by : (s : Parameters) (bytes : List ℕ) (pair : KeyPair) → fields_read s bytes ≡ Some pair
    → secret_read s bytes ≡ cond (is_tested s pair && pointwise nat_eq (secret_key s pair) bytes) (Some pair) None
unfolding secret_read
secret_read_by s bytes pair h = ap (option_and_then (where_same s bytes)) h

pub secret_read_is : (s : Parameters) (bytes : List ℕ) (pair : KeyPair) → fields_read s bytes ≡ Some pair → is_tested s pair ≡ true → secret_key s pair ≡ bytes → secret_read s bytes ≡ Some pair
secret_read_is s bytes pair h t e =
    secret_read_by s bytes pair h
    ∙ ap (λ b. cond (b && pointwise nat_eq (secret_key s pair) bytes) (Some pair) None) t
    ∙ ap (λ b. cond b (Some pair) None) ((bytes_eq-Decides (secret_key s pair) bytes).1 e)

pub not_tested : (s : Parameters) (bytes : List ℕ) (pair : KeyPair) → fields_read s bytes ≡ Some pair → is_tested s pair ≡ false → secret_read s bytes ≡ None
not_tested s bytes pair h t = secret_read_by s bytes pair h ∙ ap (λ b. cond (b && pointwise nat_eq (secret_key s pair) bytes) (Some pair) None) t

both_step : (a b : Bool) (pair : KeyPair) → b ≡ false → cond (a && b) (Some pair) None ≡ None
both_step true b pair e = ap (λ t. cond t (Some pair) None) e
both_step false b pair e = refl

pub not_same : (s : Parameters) (bytes : List ℕ) (pair : KeyPair) → fields_read s bytes ≡ Some pair → pointwise nat_eq (secret_key s pair) bytes ≡ false → secret_read s bytes ≡ None
not_same s bytes pair h e = secret_read_by s bytes pair h ∙ both_step (is_tested s pair) (pointwise nat_eq (secret_key s pair) bytes) pair e

pub no_fields : (s : Parameters) (bytes : List ℕ) → fields_read s bytes ≡ None → secret_read s bytes ≡ None
unfolding secret_read
no_fields s bytes h = ap (option_and_then (where_same s bytes)) h

-- encapsulation and decapsulation
pub encapsulated_by : (s : Parameters) (public : List ℕ) (words : Stream) (h : List ℤ) → public_read s public ≡ Some h → encapsulated s public words ≡ Some (encapsulation s h public (short_draw s.p s.w words))
unfolding encapsulated
encapsulated_by s public words h e = ap (option_map (λ x. encapsulation s x public (short_draw s.p s.w words))) e

pub decapsulated_with : (s : Parameters) (secret cipher : List ℕ) (pair : KeyPair) → secret_read s secret ≡ Some pair → decapsulated_by s secret cipher ≡ decapsulated s pair cipher
unfolding decapsulated_by
decapsulated_with s secret cipher pair e = ap (option_and_then (λ x. decapsulated s x cipher)) e

pub decapsulated_is : (s : Parameters) (pair : KeyPair) (cipher : List ℕ) (core : List ℤ) → rounded_read s (take (core_len s) cipher) ≡ Some core
    → decapsulated s pair cipher ≡ Some (answer s pair cipher (r_of s (r_found s pair core)))
unfolding decapsulated
decapsulated_is s pair cipher core e = ap (option_map (λ x. answer s pair cipher (r_of s (r_found s pair x)))) e

pub no_core : (s : Parameters) (pair : KeyPair) (cipher : List ℕ) → rounded_read s (take (core_len s) cipher) ≡ None → decapsulated s pair cipher ≡ None
unfolding decapsulated
no_core s pair cipher e = ap (option_map (λ x. answer s pair cipher (r_of s (r_found s pair x)))) e
