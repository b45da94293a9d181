-- The laws for the two sets.
use Rattle.std.proofs.Common.{◌≡◌, ℕ, Some, List, length, All, ℤ, pos, sym, ap, ◌∙◌}
use Rattle.ring_poly.specs.Ring.{IsCentred}
use Rattle.kem_trait.specs.Encapsulated.{Encapsulated}
use Rattle.ntru_model.specs.Parameters.{Parameters, IsKnown, public_len, secret_len}
use Rattle.kem_trait.specs.Streams.{Stream}
use Rattle.ntru_model.specs.Encodings.{public_encoding, public_read}
use Rattle.ntru_model.specs.Pairs.{KeyPair, pair_drawn, public_key, secret_key, secret_read}
use Rattle.ntru_model.specs.Encapsulation.{encapsulated, decapsulated_by}
use Rattle.ntru_model.proofs.Sets.{is_set}
use Rattle.ntru_model.proofs.Bytes.{public_back, from_public_read, length-public}
use Rattle.ntru_model.proofs.Tested.{IsTested, HasParts, tested_from_read, read_back, rho_from_read, length-secret, parts_from_read}
use Rattle.ntru_model.proofs.DrawnPairs.{drawn_tested}
use Rattle.ntru_model.proofs.Undone.{decapsulates_law}

pub known_draws : (s : Parameters) (words : Stream) (pair : KeyPair) → IsKnown s → pair_drawn s words ≡ Some pair → secret_read s (secret_key s pair) ≡ Some pair
known_draws s words pair known drawn =
    let set = is_set s known in
    let t = drawn_tested s words pair set drawn in
    read_back s pair set t.0 t.1

pub known_decapsulates : (s : Parameters) (secret : List ℕ) (pair : KeyPair) (words : Stream) (e : Encapsulated) → IsKnown s → secret_read s secret ≡ Some pair
    → encapsulated s (public_key s pair) words ≡ Some e → decapsulated_by s secret e.cipher ≡ Some e.key
known_decapsulates s secret pair words e known read made = decapsulates_law s secret pair words e (is_set s known) read made

-- what a pair has that was read
pub known_tested : (s : Parameters) (secret : List ℕ) (pair : KeyPair) → IsKnown s → secret_read s secret ≡ Some pair → IsTested s pair
known_tested s secret pair known read = (tested_from_read s secret pair (is_set s known) read).0

pub known_secret : (s : Parameters) (secret : List ℕ) (pair : KeyPair) → IsKnown s → secret_read s secret ≡ Some pair → secret_key s pair ≡ secret
known_secret s secret pair known read = (tested_from_read s secret pair (is_set s known) read).1

pub known_parts : (s : Parameters) (secret : List ℕ) (pair : KeyPair) → IsKnown s → secret_read s secret ≡ Some pair → HasParts s pair secret
known_parts s secret pair known read = parts_from_read s secret pair (is_set s known) read

pub known_secret_len : (s : Parameters) (secret : List ℕ) (pair : KeyPair) → IsKnown s → secret_read s secret ≡ Some pair → length secret ≡ secret_len s
known_secret_len s secret pair known read =
    let set = is_set s known in
    let t = tested_from_read s secret pair set read in
    ap length (sym t.1) ∙ length-secret s pair set t.0 (rho_from_read s secret pair set read)

pub known_public_len : (s : Parameters) (secret : List ℕ) (pair : KeyPair) → IsKnown s → secret_read s secret ≡ Some pair → length (public_key s pair) ≡ public_len s
known_public_len s secret pair known read = length-public s pair.h (known_tested s secret pair known read).h_len

-- public keys
pub known_public : (s : Parameters) (h : List ℤ) → IsKnown s → length h ≡ s.p → All (IsCentred (pos s.q)) h → public_read s (public_encoding s h) ≡ Some h
known_public s h known len all = public_back s h (is_set s known) len all

pub known_own : (s : Parameters) (secret : List ℕ) (pair : KeyPair) → IsKnown s → secret_read s secret ≡ Some pair → public_read s (public_key s pair) ≡ Some pair.h
known_own s secret pair known read = let t = known_tested s secret pair known read in known_public s pair.h known t.h_len t.h_centred

pub known_polynomial : (s : Parameters) (public : List ℕ) (h : List ℤ) → IsKnown s → public_read s public ≡ Some h → (length h ≡ s.p) × All (IsCentred (pos s.q)) h
known_polynomial s public h known read = from_public_read s public h (is_set s known) read
