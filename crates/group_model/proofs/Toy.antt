-- Primitives that meet the laws and are no cryptography: for examples alone.
use Rattle.std.proofs.Common.{◌≡◌, ℕ, ◌+◌, ◌*◌, ◌%◌, true, cond, [], ◌∷◌, Option, Some, None, refl, sym, ◌∙◌, ap, subst, nat_eq}
use Rattle.std.specs.Str.{bytes_eq}
use Rattle.group_model.specs.Sets.{Bytes}
use Rattle.group_model.specs.Primitives.{KeyPair, Encapsulation, Content, Primitives}
use Rattle.group_model.proofs.Says.{says-same}
use Rattle.group_model.proofs.Verdicts.{says-equal}

-- a number that stands for bytes
abbrev pub mix : ℕ → Bytes → ℕ
mix a [] = a
mix a (x ∷ xs) = mix ((a * 31 + x + 1) % 1000003) xs

-- the public key of a secret key
abbrev pub public_of : Bytes → Bytes
public_of secret = mix 5 secret ∷ []

abbrev pub key_with : (public ciphertext : Bytes) → Bytes
key_with public ciphertext = mix (mix 6 public) ciphertext ∷ []

abbrev pub unsealed : (key sealed : Bytes) → Option Bytes
unsealed key [] = None
unsealed key (t ∷ text) = cond (nat_eq t (mix 4 key)) (Some text) None

-- contents whose payload and keys are one number each
abbrev pub written : (payload secret : Bytes) → ℕ → (public : Bytes) → Option Bytes
written (a ∷ []) (b ∷ []) n (c ∷ []) = Some (a ∷ b ∷ n ∷ c ∷ [])
written payload secret n public = None

abbrev pub reading : Bytes → Option Content
reading (a ∷ (b ∷ (n ∷ (c ∷ [])))) = Some (record { payload = a ∷ []; secret = b ∷ []; number = n; public = c ∷ [] })
reading bytes = None

pub written-read : (payload secret : Bytes) (n : ℕ) (public bytes : Bytes) → written payload secret n public ≡ Some bytes
    → reading bytes ≡ Some (record { payload = payload; secret = secret; number = n; public = public })
written-read (a ∷ []) (b ∷ []) n (c ∷ []) bytes e =
    let d : (a ∷ b ∷ n ∷ c ∷ []) ≡ bytes = (let f : Some (a ∷ b ∷ n ∷ c ∷ []) ≡ Some bytes = e in cc) in
    subst (λ z. reading z ≡ Some (record { payload = a ∷ []; secret = b ∷ []; number = n; public = c ∷ [] })) d refl
written-read payload secret n public bytes e = cc

pub opened : (secret public seed : Bytes) (e : Encapsulation) → bytes_eq public (public_of secret) ≡ true
    → Some (record { key = key_with public seed; ciphertext = seed }) ≡ Some e → Some (key_with (public_of secret) e.ciphertext) ≡ Some e.key
opened secret public seed e p d =
    let f : record { key = key_with public seed; ciphertext = seed } ≡ e = cc in
    let same : public ≡ public_of secret = (says-same public (public_of secret)).holds p in
    ap (λ (z : Encapsulation). Some (key_with (public_of secret) z.ciphertext)) (sym f)
    ∙ ap (λ z. Some (key_with z seed)) (sym same) ∙ ap (λ (z : Encapsulation). Some z.key) f

pub made : (seed : Bytes) (pair : KeyPair) → Some (record { secret = seed; public = public_of seed }) ≡ Some pair → bytes_eq pair.public (public_of pair.secret) ≡ true
made seed pair e =
    let f : record { secret = seed; public = public_of seed } ≡ pair = cc in
    subst (λ (z : KeyPair). bytes_eq z.public (public_of z.secret) ≡ true) f ((says-same (public_of seed) (public_of seed)).told refl)

unfoldable pub toy : Primitives
toy = record {
  derive = λ key label id. mix (mix (mix 1 key) label) id ∷ [];
  next = λ ratchet input. mix (mix 2 ratchet) input ∷ [];
  out = λ ratchet input. mix (mix 3 ratchet) input ∷ [];
  seal = λ key text. mix 4 key ∷ text;
  unseal = unsealed;
  is_pair = λ secret public. bytes_eq public (public_of secret);
  make = λ seed. Some (record { secret = seed; public = public_of seed });
  encapsulate = λ public seed. Some (record { key = key_with public seed; ciphertext = seed });
  decapsulate = λ secret ciphertext. Some (key_with (public_of secret) ciphertext);
  write = λ c. written c.payload c.secret c.number c.public;
  read = reading;
  unseal_seal = λ key text. ap (λ b. cond b (Some text) None) ((says-equal (mix 4 key) (mix 4 key)).told refl);
  made_pair = made;
  decapsulate_encapsulate = opened;
  read_write = λ c bytes e. written-read c.payload c.secret c.number c.public bytes e;
}
