-- The sizes of a part that is made.
use Rattle.std.proofs.Common.{◌≡◌, ◌^◌, ◌<◌, Option, Some, None, refl, subst, length}
use Rattle.kem_trait.specs.declared.kem.Kem.{Ghosts}
use Rattle.hkdf_seal.specs.Sealing.{sealed_with_tag}
use Rattle.group_model.specs.Sets.{Bytes}
use Rattle.group_model.specs.Primitives.{Content, Encapsulation}
use Rattle.group_model.specs.Pairing.{Part, Target, sealed_part}
use Rattle.group_parts.specs.Contents.{content_written}
use Rattle.group_parts.specs.KeyPairs.{encapsulation}
use Rattle.group_parts.specs.Parts.{IsSized, sealed_len}
use Rattle.group_parts.proofs.Lengths.{length-encapsulation, length-sealed_content}
use Rattle.group_keys.specs.Primitives.{primitives_of}

some_is : {A : Type 0} (x y : A) → Some x ≡ Some y → x ≡ y
some_is x y e = cc

module _ {K P : Type 0} (kem : Ghosts K P) where
  sized : (to : Target) (o : Option Encapsulation) (w : Option Bytes) (part : Part) → to.number < 2 ^ 32
      → ((e : Encapsulation) → o ≡ Some e → length e.ciphertext ≡ kem.CIPHER_LEN)
      → ((bytes key : Bytes) → w ≡ Some bytes → length (sealed_with_tag key bytes) ≡ sealed_len kem)
      → sealed_part (primitives_of kem) to o w ≡ Some part → IsSized kem part
  unfolding primitives_of
  sized to None w part few ciphers seals h = cc
  sized to (Some e) None part few ciphers seals h = cc
  sized to (Some e) (Some bytes) part few ciphers seals h =
      let made : Part = record { made_by_sender = to.made_by_sender; number = to.number; ciphertext = e.ciphertext; sealed = sealed_with_tag e.key bytes } in
      subst (IsSized kem) (some_is made part h)
      (record { number = few; ciphertext = ciphers e refl; sealed = seals bytes e.key refl })

  pub made-sized : (to : Target) (content : Content) (seed : Bytes) (part : Part) → to.number < 2 ^ 32
      → sealed_part (primitives_of kem) to (encapsulation kem to.public seed) (content_written kem content) ≡ Some part → IsSized kem part
  made-sized to content seed part few h =
      sized to (encapsulation kem to.public seed) (content_written kem content) part few
      (λ e is. (length-encapsulation kem to.public seed e is).0)
      (λ bytes key is. length-sealed_content kem content bytes key is) h
