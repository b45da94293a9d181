-- Pairs that are made are tested, and what is encapsulated to a tested pair is found.
use Rattle.std.proofs.Common.{◌≡◌, true, Option, Some, None, IsSome, refl, sym, ◌∙◌, ap, subst, option_map}
use Rattle.std.specs.Str.{bytes_eq}
use Rattle.std.proofs.lemmas.Slice.Eq.{bytes_eq-Decides}
use Rattle.std.proofs.lemmas.Bool.{and_from, and_parts}
use Rattle.kem_trait.specs.Streams.{words_of_seed}
use Rattle.kem_trait.specs.declared.kem.Kem.{Ghosts}
use Rattle.group_model.specs.Sets.{Bytes}
use Rattle.group_model.specs.Primitives.{KeyPair, Encapsulation}
use Rattle.group_parts.specs.KeyPairs.{is_pair, pair_of, made_pair, encapsulation, as_encapsulation}

-- what a mapped option holds
pub mapped : {A B : Type 0} (f : A → B) (o : Option A) (b : B) → option_map f o ≡ Some b → (a : A) × (o ≡ Some a) × (f a ≡ b)
mapped f (Some a) b e = (a, refl, cc)
mapped f None b e = cc

module _ {K P : Type 0} (kem : Ghosts K P) where
  -- a pair is tested exactly where its secret key is, and its public key is the one in it
  pub tested-parts : (secret public : Bytes) → is_pair kem secret public ≡ true
      → (kem.is_secret secret ≡ true) × (public ≡ kem.public_in secret)
  unfolding is_pair
  tested-parts secret public h =
      let k = and_parts (kem.is_secret secret) (bytes_eq public (kem.public_in secret)) h in
      (k.0, (bytes_eq-Decides public (kem.public_in secret)).0 k.1)

  pub tested-from : (secret : Bytes) → kem.is_secret secret ≡ true → is_pair kem secret (kem.public_in secret) ≡ true
  unfolding is_pair
  tested-from secret h =
      and_from (kem.is_secret secret) (bytes_eq (kem.public_in secret) (kem.public_in secret)) h
      ((bytes_eq-Decides (kem.public_in secret) (kem.public_in secret)).1 refl)

  pub made-tested : (seed : Bytes) (pair : KeyPair) → made_pair kem seed ≡ Some pair → is_pair kem pair.secret pair.public ≡ true
  unfolding made_pair
  made-tested seed pair e =
      let m = mapped (pair_of kem) (kem.made (words_of_seed seed)) pair e in
      subst (λ (z : KeyPair). is_pair kem z.secret z.public ≡ true) m.2
      (tested-from m.0 (kem.made_is_tested (words_of_seed seed) m.0 m.1))

  pub decapsulates : (secret public seed : Bytes) (e : Encapsulation) → is_pair kem secret public ≡ true
      → encapsulation kem public seed ≡ Some e → kem.decapsulated secret e.ciphertext ≡ Some e.key
  unfolding encapsulation
  decapsulates secret public seed e h d =
      let t = tested-parts secret public h in
      let m = mapped as_encapsulation (kem.encapsulated public (words_of_seed seed)) e d in
      let given : kem.encapsulated (kem.public_in secret) (words_of_seed seed) ≡ Some m.0 =
      ap (λ (z : Bytes). kem.encapsulated z (words_of_seed seed)) (sym t.1) ∙ m.1 in
      subst (λ (z : Encapsulation). kem.decapsulated secret z.ciphertext ≡ Some z.key) m.2
      (kem.decapsulates secret (words_of_seed seed) m.0 t.0 given)

  pub public-tested : (secret public : Bytes) → is_pair kem secret public ≡ true → kem.is_public public ≡ true
  public-tested secret public h =
      let t = tested-parts secret public h in ap kem.is_public t.1 ∙ kem.public_is_public secret t.0

  -- to a public key every seed encapsulates
  some_mapped : {A B : Type 0} (f : A → B) (o : Option A) → IsSome o → IsSome (option_map f o)
  some_mapped f (Some a) h = refl
  some_mapped f None h = h

  pub encapsulates : (public seed : Bytes) → kem.is_public public ≡ true → IsSome (encapsulation kem public seed)
  unfolding encapsulation
  encapsulates public seed is =
      some_mapped as_encapsulation (kem.encapsulated public (words_of_seed seed)) (kem.encapsulates public (words_of_seed seed) is)
