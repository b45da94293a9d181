-- What the fields of a secret key are read as.
use Rattle.std.proofs.Common.{◌≡◌, ap, sym, subst, ◌∙◌, ℕ, ◌+◌, ◌%◌, Option, Some, None, List, length, take, drop, ℤ}
use Rattle.std.specs.Option.{option_map, option_and_then}
use Rattle.ntru_codec.specs.Small.{SpellsSmall, IsSmallSpelling}
use Rattle.ntru_model.specs.Parameters.{Parameters, small_len, public_len}
use Rattle.ntru_model.specs.Encodings.{public_read, small_read}
use Rattle.ntru_model.specs.Pairs.{KeyPair, fields_read}
use Rattle.ntru_model.proofs.Computed.{small_read_from}
use Rattle.ntru_model.proofs.Readers.{small_read_none}
use Rattle.ntru_prime.specs.Sets.{pair_with}

-- a small polynomial in a part of a secret key
pub small_none : (p n : ℕ) (bytes part : List ℕ) → n ≡ p → part ≡ bytes → (IsSmallSpelling n part → ⊥) → None ≡ small_read p bytes
small_none p n bytes part en ep none =
    sym (small_read_none p bytes (λ spelled. none (subst (λ k. IsSmallSpelling k part) (sym en) (subst (λ b. IsSmallSpelling p b) (sym ep) spelled))))

pub small_some : (p : ℕ) (bytes part : List ℕ) (a : List ℤ) → p % 4 ≡ 1 → length a ≡ p → part ≡ bytes → SpellsSmall part a → Some a ≡ small_read p bytes
small_some p bytes part a one len ep spells = sym (small_read_from p bytes a one len (subst (λ b. SpellsSmall b a) ep spells))

module _ (s : Parameters) (bytes : List ℕ) where
  abbrev with_h : List ℤ → List ℤ → List ℤ → KeyPair
  with_h f g h = pair_with s f g h bytes

  pub fields_none_f : None ≡ small_read s.p (take (small_len s) bytes) → None ≡ fields_read s bytes
  unfolding fields_read
  fields_none_f e =
      ap (option_and_then (λ f. option_and_then (λ g. option_map (with_h f g) (public_read s (take (public_len s) (drop (small_len s + small_len s) bytes)))) (small_read s.p (take (small_len s) (drop (small_len s) bytes))))) e

  pub fields_none_g : (f : List ℤ) → Some f ≡ small_read s.p (take (small_len s) bytes) → None ≡ small_read s.p (take (small_len s) (drop (small_len s) bytes)) → None ≡ fields_read s bytes
  unfolding fields_read
  fields_none_g f ef eg =
      ap (option_and_then (λ g. option_map (with_h f g) (public_read s (take (public_len s) (drop (small_len s + small_len s) bytes))))) eg
      ∙ ap (option_and_then (λ f. option_and_then (λ g. option_map (with_h f g) (public_read s (take (public_len s) (drop (small_len s + small_len s) bytes)))) (small_read s.p (take (small_len s) (drop (small_len s) bytes))))) ef

  pub fields_all : (f g : List ℤ) (o : Option (List ℤ)) → Some f ≡ small_read s.p (take (small_len s) bytes) → Some g ≡ small_read s.p (take (small_len s) (drop (small_len s) bytes))
      → o ≡ public_read s (take (public_len s) (drop (small_len s + small_len s) bytes)) → option_map (with_h f g) o ≡ fields_read s bytes
  unfolding fields_read
  fields_all f g o ef eg eh =
      ap (option_map (with_h f g)) eh
      ∙ ap (option_and_then (λ g. option_map (with_h f g) (public_read s (take (public_len s) (drop (small_len s + small_len s) bytes))))) eg
      ∙ ap (option_and_then (λ f. option_and_then (λ g. option_map (with_h f g) (public_read s (take (public_len s) (drop (small_len s + small_len s) bytes)))) (small_read s.p (take (small_len s) (drop (small_len s) bytes))))) ef
