-- The laws of a key encapsulation, for both sets.
use Rattle.std.proofs.Common.{◌≡◌, refl, ap, sym, ◌∙◌, ℕ, true, Option, Some, None, IsSome, List, length, is_some}
use Rattle.std.specs.Option.{option_map}
use Rattle.kem_trait.specs.Encapsulated.{Encapsulated}
use Rattle.ntru_model.specs.Parameters.{Parameters, IsKnown, public_len}
use Rattle.ntru_model.specs.Draws.{short_draw}
use Rattle.ntru_model.specs.Encodings.{public_read}
use Rattle.ntru_model.specs.Pairs.{KeyPair, pair_drawn, secret_key, secret_read}
use Rattle.ntru_model.specs.Encapsulation.{decapsulated_by, encapsulated, encapsulation}
use Rattle.ntru_model.proofs.Options.{map_parts}
use Rattle.ntru_model.proofs.Sets.{is_set}
use Rattle.ntru_model.proofs.DrawnPairs.{drawn_tested}
use Rattle.ntru_model.proofs.Bytes.{public_back, from_public_read, public_bytes, length-public}
use Rattle.ntru_model.proofs.Tested.{read_back, tested_from_read, parts_from_read}
use Rattle.ntru_model.proofs.Undone.{decapsulates_law, length-encapsulated}
use Rattle.ntru_model.proofs.Laws.{known_secret_len}
use Rattle.ntru_prime.specs.Keys.{made, is_secret, is_public, public_in}
use Rattle.ntru_prime.specs.Lengths.{HasLengths}

-- what a value that is there is
some_of : {A : Type 0} (o : Option A) → is_some o ≡ true → (a : A) × (o ≡ Some a)
some_of (Some a) h = (a, refl)
some_of None h = cc

-- bytes that read as a pair are a secret key
pub is_secret_from : (s : Parameters) (bytes : List ℕ) (pair : KeyPair) → secret_read s bytes ≡ Some pair → is_secret s bytes ≡ true
unfolding is_secret
is_secret_from s bytes pair h = ap is_some h

pub secret_from : (s : Parameters) (bytes : List ℕ) → is_secret s bytes ≡ true → (pair : KeyPair) × (secret_read s bytes ≡ Some pair)
unfolding is_secret
secret_from s bytes h = some_of (secret_read s bytes) h

-- what words give is the secret key of a tested pair
pub made_is_tested : (s : Parameters) → IsKnown s → (words : ℕ → ℕ) (secret : List ℕ) → made s words ≡ Some secret → is_secret s secret ≡ true
unfolding made
made_is_tested s known words secret h =
    let found = map_parts (secret_key s) (pair_drawn s words) secret h in
    let tested = drawn_tested s words found.0 (is_set s known) found.1 in
    is_secret_from s secret found.0 (ap (secret_read s) (sym found.2) ∙ read_back s found.0 (is_set s known) tested.0 tested.1)

-- the public key of a tested pair is one
pub public_is_public : (s : Parameters) → IsKnown s → (secret : List ℕ) → is_secret s secret ≡ true → is_public s (public_in s secret) ≡ true
unfolding is_public
public_is_public s known secret h =
    let found = secret_from s secret h in
    let set = is_set s known in
    let tested = tested_from_read s secret found.0 set found.1 in
    let parts = parts_from_read s secret found.0 set found.1 in
    ap (λ bytes. is_some (public_read s bytes)) parts.h ∙ ap is_some (public_back s found.0.h set tested.0.h_len tested.0.h_centred)

-- decapsulation undoes encapsulation
pub decapsulates : (s : Parameters) → IsKnown s → (secret : List ℕ) (words : ℕ → ℕ) (e : Encapsulated) → is_secret s secret ≡ true
    → encapsulated s (public_in s secret) words ≡ Some e → decapsulated_by s secret e.cipher ≡ Some e.key
decapsulates s known secret words e h given =
    let found = secret_from s secret h in
    let set = is_set s known in
    let parts = parts_from_read s secret found.0 set found.1 in
    decapsulates_law s secret found.0 words e set found.1 (ap (λ bytes. encapsulated s bytes words) (sym parts.h) ∙ given)

-- a secret key of a tested pair has its length
pub secrets_have_length : {s : Parameters} {of_secret of_public of_cipher : ℕ} → HasLengths s of_secret of_public of_cipher → (secret : List ℕ) → is_secret s secret ≡ true → length secret ≡ of_secret
secrets_have_length {s} sizes secret h =
    let found = secret_from s secret h in
    known_secret_len s secret found.0 sizes.known found.1 ∙ sizes.of_secret

-- a public key has its length
public_length : (s : Parameters) → IsKnown s → (public : List ℕ) → is_public s public ≡ true → length public ≡ public_len s
unfolding is_public
public_length s known public h =
    let found = some_of (public_read s public) h in
    ap length (sym (public_bytes s public found.0 found.1)) ∙ length-public s found.0 (from_public_read s public found.0 (is_set s known) found.1).0

pub publics_have_length : {s : Parameters} {of_secret of_public of_cipher : ℕ} → HasLengths s of_secret of_public of_cipher → (public : List ℕ) → is_public s public ≡ true → length public ≡ of_public
publics_have_length {s} sizes public h = public_length s sizes.known public h ∙ sizes.of_public

-- to each public key any words encapsulate
some_mapped : {A B : Type 0} (f : A → B) (o : Option A) → is_some o ≡ true → is_some (option_map f o) ≡ true
some_mapped f (Some a) h = refl
some_mapped f None h = h

pub encapsulates : (s : Parameters) (public : List ℕ) (words : ℕ → ℕ) → is_public s public ≡ true → IsSome (encapsulated s public words)
unfolding is_public encapsulated
encapsulates s public words h = some_mapped (λ a. encapsulation s a public (short_draw s.p s.w words)) (public_read s public) h

-- what is encapsulated has its lengths
pub ciphers_have_length : {s : Parameters} {of_secret of_public of_cipher : ℕ} → HasLengths s of_secret of_public of_cipher → (public : List ℕ) (words : ℕ → ℕ) (e : Encapsulated)
    → encapsulated s public words ≡ Some e → (length e.cipher ≡ of_cipher) × (length e.key ≡ 32)
ciphers_have_length {s} sizes public words e h =
    let lengths = length-encapsulated s public words e h in
    (lengths.0 ∙ sizes.of_cipher, lengths.1)
