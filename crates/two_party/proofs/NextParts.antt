-- The next part from its fields.
use Rattle.std.proofs.Common.{ℕ, take, ◌≡◌, ◌+◌, ◌-◌, ◌^◌, ◌<◌, true, ◌∷◌, ◌++◌, length, Option, Some, None, sym, ◌∙◌, ap, ap₂, option_map}
use Rattle.std.specs.Int.{w32, to_be_bytes}
use Rattle.kem_trait.specs.declared.kem.Kem.{Ghosts}
use Rattle.hkdf_seal.specs.Sealing.{sealed_with_tag}
use Rattle.group_model.specs.Sets.{Bytes}
use Rattle.group_model.specs.Primitives.{Content, Encapsulation}
use Rattle.group_model.specs.Pairing.{Draws, sealed_part}
use Rattle.group_parts.specs.KeyPairs.{encapsulation}
use Rattle.group_parts.specs.Contents.{is_content, content_bytes, content_written}
use Rattle.group_parts.specs.Parts.{origin_of, part_bytes}
use Rattle.group_keys.specs.Primitives.{primitives_of}
use Rattle.member_book.specs.PairStates.{PairState, next_content, next_part}
use Rattle.std.proofs.Common.{Bool, ◌&&◌, cond, nat_eq, nat_lt, arith}
use Rattle.std.proofs.lemmas.Bool.{and_from}
use Rattle.std.proofs.lemmas.List.{take_at}
use Rattle.std.proofs.lemmas.Bool.Decides.{nat_tests}

module _ {K P : Type 0} (kem : Ghosts K P) where
  -- the fields of the next content pass its test
  content-test : (k : PairState) (d : Draws) (payload : Bytes) → length payload ≡ 32 → kem.is_secret d.own.secret ≡ true
      → d.own.public ≡ kem.public_in d.own.secret → kem.is_secret d.other.secret ≡ true → k.sends < 2 ^ 32 - 1
      → is_content kem (next_content k d payload) ≡ true
  content-test k d payload n own public other low =
      let a : nat_eq (length payload) 32 ≡ true = grind (arith, nat_tests) in
      let b : nat_lt 0 (k.sends + 1) ≡ true = grind (arith, nat_tests) in
      let c : nat_lt (k.sends + 1) (2 ^ 32) ≡ true = grind (arith, nat_tests) in
      let e : kem.is_public d.own.public ≡ true = ap kem.is_public public ∙ kem.public_is_public d.own.secret own in
      and_from (nat_eq (length payload) 32) (kem.is_secret d.other.secret && ((nat_lt 0 (k.sends + 1) && nat_lt (k.sends + 1) (2 ^ 32)) && kem.is_public d.own.public)) a
      (and_from (kem.is_secret d.other.secret) ((nat_lt 0 (k.sends + 1) && nat_lt (k.sends + 1) (2 ^ 32)) && kem.is_public d.own.public) other
      (and_from (nat_lt 0 (k.sends + 1) && nat_lt (k.sends + 1) (2 ^ 32)) (kem.is_public d.own.public)
      (and_from (nat_lt 0 (k.sends + 1)) (nat_lt (k.sends + 1) (2 ^ 32)) b c) e))

  written : (c : Content) → is_content kem c ≡ true → content_written kem c ≡ Some (content_bytes kem c)
  unfolding content_written
  written c h = ap (λ (b : Bool). cond b (Some (content_bytes kem c)) None) h

  next_part-made : (k : PairState) (d : Draws) (payload key ciphertext sealed : Bytes)
      → length payload ≡ 32 → kem.is_secret d.own.secret ≡ true → d.own.public ≡ kem.public_in d.own.secret
      → kem.is_secret d.other.secret ≡ true → k.sends < 2 ^ 32 - 1
      → encapsulation kem k.target.public d.encapsulation ≡ Some (record { key = key; ciphertext = ciphertext })
      → sealed ≡ sealed_with_tag key (content_bytes kem (next_content k d payload))
      → option_map (part_bytes kem) (next_part (primitives_of kem) k d payload)
      ≡ Some (origin_of k.target.made_by_sender ∷ (to_be_bytes w32 k.target.number ++ (ciphertext ++ sealed)))
  unfolding primitives_of part_bytes
  next_part-made k d payload key ciphertext sealed n own public other low enc s =
      let w : content_written kem (next_content k d payload) ≡ Some (content_bytes kem (next_content k d payload)) =
      written (next_content k d payload) (content-test k d payload n own public other low) in
      ap₂ (λ (e : Option Encapsulation) (v : Option Bytes). option_map (part_bytes kem) (sealed_part (primitives_of kem) k.target e v)) enc w
      ∙ ap (λ (z : Bytes). Some (origin_of k.target.made_by_sender ∷ (to_be_bytes w32 k.target.number ++ (ciphertext ++ z)))) (sym s)

  -- the same from what the code has: the state and the draws by their fields, and the first five bytes
  pub next_part-from : (k k' : PairState) (d d' : Draws) (payload public seed key ciphertext sealed target : Bytes)
      → k' ≡ k → d' ≡ d
      → length payload ≡ 32 → kem.is_secret d'.own.secret ≡ true → d'.own.public ≡ kem.public_in d'.own.secret
      → kem.is_secret d'.other.secret ≡ true → k.sends < 2 ^ 32 - 1
      → public ≡ k'.target.public → seed ≡ d'.encapsulation
      → encapsulation kem public seed ≡ Some (record { key = key; ciphertext = ciphertext })
      → sealed ≡ sealed_with_tag key (content_bytes kem (next_content k' d' payload))
      → target ≡ origin_of k'.target.made_by_sender ∷ to_be_bytes w32 k'.target.number
      → option_map (part_bytes kem) (next_part (primitives_of kem) k d payload) ≡ Some (target ++ (ciphertext ++ sealed))
  next_part-from k k' d d' payload public seed key ciphertext sealed target ke de n own pub' other low pe se enc s t =
      ap₂ (λ (z : PairState) (y : Draws). option_map (part_bytes kem) (next_part (primitives_of kem) z y payload)) (sym ke) (sym de)
      ∙ next_part-made k' d' payload key ciphertext sealed n own pub' other (rw ke low) (ap₂ (encapsulation kem) (sym pe) (sym se) ∙ enc) s
      ∙ ap (λ (z : Bytes). Some (z ++ (ciphertext ++ sealed))) (sym t)

  -- a public key that is written over another is one
  pub written-public : (public rest : Bytes) (n : ℕ) (pair : P) → length public ≡ n
      → public ≡ kem.public_in (kem.secret_key pair) → kem.is_public (take n (public ++ rest)) ≡ true
  written-public public rest n pair l e = ap kem.is_public (take_at public rest n l ∙ e)
      ∙ kem.public_is_public (kem.secret_key pair) (kem.pairs_are_tested pair)
