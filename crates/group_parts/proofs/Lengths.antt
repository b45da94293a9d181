-- How many bytes parts, their contents and the outputs of a ratchet have.
use Rattle.std.proofs.Common.{◌≡◌, ℕ, ◌+◌, ◌≤◌, true, ◌∙◌, ap, sym, inl, inr, length, Some, arith, length-drop}
use Rattle.std.proofs.lemmas.List.{length-take-le}
use Rattle.hkdf_seal.specs.Sealing.{sealed_with_tag}
use Rattle.hkdf_seal.proofs.Opening.{length-expand, length-sealed_with_tag}
use Rattle.kem_trait.specs.Streams.{words_of_seed}
use Rattle.kem_trait.specs.declared.kem.Kem.{Ghosts}
use Rattle.group_model.specs.Sets.{Bytes}
use Rattle.group_model.specs.Primitives.{Content, Encapsulation}
use Rattle.group_parts.specs.Contents.{content_len, content_written}
use Rattle.group_parts.specs.KeyPairs.{as_encapsulation, encapsulation, is_pair}
use Rattle.group_parts.specs.Parts.{part_len, sealed_len}
use Rattle.group_parts.specs.Ratchets.{next_ratchet, ratchet_step, update_secret}
use Rattle.group_parts.proofs.Tested.{mapped, tested-parts}
use Rattle.group_parts.proofs.Written.{length-written}

length-step : (ratchet input : Bytes) → length (ratchet_step ratchet input) ≡ 64
unfolding ratchet_step
length-step ratchet input = length-expand _ _ 64

pub length-update_secret : (ratchet input : Bytes) → length (update_secret ratchet input) ≡ 32
unfolding update_secret
length-update_secret ratchet input = length-take-le 32 (ratchet_step ratchet input) (omega (arith, length-step ratchet input))

pub length-next_ratchet : (ratchet input : Bytes) → length (next_ratchet ratchet input) ≡ 32
unfolding next_ratchet
length-next_ratchet ratchet input = length-drop 32 (ratchet_step ratchet input) ∙ omega (arith, length-step ratchet input)

module _ {K P : Type 0} (kem : Ghosts K P) where
  pub large : kem.SET ≡ 1 → (content_len kem ≡ 2957) × (part_len kem ≡ 4033)
  large is = elim kem.has_set_lengths [
    | inl first ↦
        let public : kem.PUBLIC_LEN ≡ 1158 = first.1 in
        let secret : kem.SECRET_LEN ≡ 1763 = first.2 in
        let cipher : kem.CIPHER_LEN ≡ 1039 = first.3 in
        (omega arith, omega arith)
    | inr second ↦ let other : kem.SET ≡ 2 = second.0 in absurd (omega arith)
  ]

  pub small : kem.SET ≡ 2 → (content_len kem ≡ 164) × (part_len kem ≡ 259)
  small is = elim kem.has_set_lengths [
    | inl first ↦ let other : kem.SET ≡ 1 = first.0 in absurd (omega arith)
    | inr second ↦
        let public : kem.PUBLIC_LEN ≡ 33 = second.1 in
        let secret : kem.SECRET_LEN ≡ 95 = second.2 in
        let cipher : kem.CIPHER_LEN ≡ 58 = second.3 in
        (omega arith, omega arith)
  ]

  pub most : (content_len kem ≤ 2957) × (part_len kem ≤ 4033)
  most = elim kem.has_set_lengths [
    | inl first ↦ let sizes = large first.0 in (omega (arith, sizes.0), omega (arith, sizes.1))
    | inr second ↦ let sizes = small second.0 in (omega (arith, sizes.0), omega (arith, sizes.1))
  ]

  pub length-sealed_content : (content : Content) (bytes key : Bytes) → content_written kem content ≡ Some bytes → length (sealed_with_tag key bytes) ≡ sealed_len kem
  length-sealed_content content bytes key e =
      length-sealed_with_tag key bytes ∙ ap (λ (n : ℕ). n + 32) (length-written kem content bytes e)

  pub length-pair : (secret public : Bytes) → is_pair kem secret public ≡ true → (length secret ≡ kem.SECRET_LEN) × (length public ≡ kem.PUBLIC_LEN)
  length-pair secret public h =
      let t = tested-parts kem secret public h in (
        kem.secrets_have_length secret t.0,
        ap length t.1 ∙ kem.publics_have_length (kem.public_in secret) (kem.public_is_public secret t.0),
      )

  pub length-encapsulation : (public seed : Bytes) (e : Encapsulation) → encapsulation kem public seed ≡ Some e → (length e.ciphertext ≡ kem.CIPHER_LEN) × (length e.key ≡ 32)
  unfolding encapsulation
  length-encapsulation public seed e h =
      let m = mapped as_encapsulation (kem.encapsulated public (words_of_seed seed)) e h in
      let lengths = kem.ciphers_have_length public (words_of_seed seed) m.0 m.1 in (
        ap (λ (z : Encapsulation). length z.ciphertext) (sym m.2) ∙ lengths.0,
        ap (λ (z : Encapsulation). length z.key) (sym m.2) ∙ lengths.1,
      )
