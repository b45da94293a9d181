-- A signature leads back to its public key.
use Rattle.std.proofs.Common.{◌≡◌, ℕ, ◌+◌, ◌*◌, ◌-◌, ◌<◌, List, ◌++◌, length, take, drop, refl, sym, ap, ◌∙◌, arith, length-append, append_assoc}
use Rattle.std.proofs.lemmas.List.{take_at, drop_at, drop-drop}
use Rattle.std.specs.Int.{w32, to_be_bytes}
use Rattle.sha2.specs.Sha256.{sha256}
use Rattle.sha2.proofs.Facts256.{length-sha256}
use Rattle.lms_ots.specs.OneTime.{candidate_key, chain, chain_end, completed_element, digit, element_at, hashed_message, joined, one_time_public, one_time_signature, prefix, randomizer, secret_element, signed_element}
use Rattle.lms_ots.proofs.Steps.{chain_compose, digit_small, joined-element, joined-same, length-chain}

pub length-randomizer : (id : List ℕ) (q : ℕ) (seed : List ℕ) → length (randomizer id q seed) ≡ 32
unfolding randomizer
length-randomizer id q seed = length-sha256 _

pub length-signed_element : (id : List ℕ) (q : ℕ) (seed hash : List ℕ) (i : ℕ) → length (signed_element id q seed hash i) ≡ 32
unfolding signed_element secret_element
length-signed_element id q seed hash i =
    length-chain (prefix id q i) (secret_element id q seed i) 0 (digit hash i) (length-sha256 _)

-- an element behind the type and the randomizer
pub signed-element_at : (type c : List ℕ) (f : ℕ → List ℕ) (i : ℕ) → length type ≡ 4 → length c ≡ 32 → ((i : ℕ) → length (f i) ≡ 32) → i < 67
    → element_at (type ++ c ++ joined f 67) (36 + 32 * i) ≡ f i
signed-element_at type c f i four wide wide_all h =
    let signature : List ℕ = type ++ c ++ joined f 67 in
    let behind : drop 36 signature ≡ joined f 67 = drop_at (type ++ c) (joined f 67) 36 (length-append type c ∙ omega arith) in
    ap (take 32) (sym (drop-drop (32 * i) 36 signature) ∙ ap (drop (32 * i)) behind) ∙ joined-element f 67 i wide_all h

pub randomizer-element_at : (type c rest : List ℕ) → length type ≡ 4 → length c ≡ 32 → element_at (type ++ c ++ rest) 4 ≡ c
randomizer-element_at type c rest four wide =
    ap (λ s. element_at s 4) (append_assoc type c rest)
    ∙ (ap (take 32) (drop_at type (c ++ rest) 4 four) ∙ take_at c rest 32 wide)

-- the end of a chain, from what a signature holds
pub signed-completed : (id : List ℕ) (q : ℕ) (seed hash signature : List ℕ) (i : ℕ)
    → element_at signature (36 + 32 * i) ≡ signed_element id q seed hash i
    → completed_element id q signature hash i ≡ chain_end id q seed i
unfolding completed_element signed_element chain_end
signed-completed id q seed hash signature i is =
    let start : List ℕ = prefix id q i in
    let d : ℕ = digit hash i in
    let whole : d + (15 - d) ≡ 15 = omega (arith, digit_small hash i) in
    let x : List ℕ = secret_element id q seed i in
    let zero_plus : 0 + d ≡ d = omega arith in
    ap (chain start d (15 - d)) is
    ∙ (ap (λ s. chain start s (15 - d) (chain start 0 d x)) (sym zero_plus)
    ∙ (chain_compose start x 0 d (15 - d) ∙ ap (λ n. chain start 0 n x) whole))

-- a signature leads back to its public key
pub candidate-signed : (id : List ℕ) (q : ℕ) (seed message : List ℕ)
    → candidate_key id q message (one_time_signature id q seed message) ≡ one_time_public id q seed
unfolding candidate_key one_time_signature one_time_public
candidate-signed id q seed message =
    let type : List ℕ = to_be_bytes w32 3 in
    let c : List ℕ = randomizer id q seed in
    let hash : List ℕ = hashed_message id q c message in
    let f : ℕ → List ℕ = signed_element id q seed hash in
    let signature : List ℕ = type ++ c ++ joined f 67 in
    let wide : length c ≡ 32 = length-randomizer id q seed in
    let is_hash : hashed_message id q (element_at signature 4) message ≡ hash =
    ap (λ r. hashed_message id q r message) (randomizer-element_at type c (joined f 67) refl wide) in
    let ends : joined (completed_element id q signature hash) 67 ≡ joined (chain_end id q seed) 67 =
    joined-same (completed_element id q signature hash) (chain_end id q seed) 67
    (λ i h. signed-completed id q seed hash signature i (signed-element_at type c f i refl wide (length-signed_element id q seed hash) h)) in
    ap (λ g. sha256 (prefix id q 0x8080 ++ joined (completed_element id q signature g) 67)) is_hash
    ∙ ap (λ j. sha256 (prefix id q 0x8080 ++ j)) ends
