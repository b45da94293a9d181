-- LM-OTS (RFC 8554, section 4) for the type LMOTS_SHA256_N32_W4, which has n = 32, w = 4, p = 67 and ls = 4.
-- The standard's names: I is the identifier of a key pair, q the number of a leaf, SEED the secret.
use Rattle.std.specs.Prelude.{◌≡◌, ℕ, zero, suc, ◌+◌, ◌-◌, ◌*◌, ◌/◌, ◌%◌, ◌^◌, List, [], ◌∷◌, ◌++◌, length, take, drop, slice_index}
use Rattle.std.specs.Int.{w16, w32, to_be_bytes}
use Rattle.sha2.specs.Sha256.{sha256}

-- I | u32str(q) | u16str(word): what the input of each hash of sections 4 and 5 begins with
unfoldable pub prefix : List ℕ → ℕ → ℕ → List ℕ
prefix id q word = id ++ to_be_bytes w32 q ++ to_be_bytes w16 word

-- f(0) | f(1) | .. | f(n - 1)
unfoldable pub joined : (ℕ → List ℕ) → ℕ → List ℕ
joined f zero = []
joined f (suc n) = joined f n ++ f n

-- f(0) + f(1) + .. + f(n - 1)
unfoldable pub total : (ℕ → ℕ) → ℕ → ℕ
total f zero = 0
total f (suc n) = total f n + f n

-- a value after so many steps of a chain, from step `first` on. Each step hashes the chain's prefix, the number
-- of the step as one byte, and the value before it (sections 4.3, 4.5 and 4.6).
unfoldable pub chain : List ℕ → ℕ → ℕ → List ℕ → List ℕ
chain start first zero value = value
chain start first (suc n) value = sha256 (start ++ (first + n) ∷ chain start first n value)

-- the private element x[i], made from the seed (appendix A)
unfoldable pub secret_element : List ℕ → ℕ → List ℕ → ℕ → List ℕ
secret_element id q seed i = sha256 (prefix id q i ++ 0xff ∷ seed)

-- the end of chain i (section 4.3)
unfoldable pub chain_end : List ℕ → ℕ → List ℕ → ℕ → List ℕ
chain_end id q seed i = chain (prefix id q i) 0 15 (secret_element id q seed i)

-- K: the hash of the ends of all chains (section 4.3); 0x8080 is D_PBLC
unfoldable pub one_time_public : List ℕ → ℕ → List ℕ → List ℕ
one_time_public id q seed = sha256 (prefix id q 0x8080 ++ joined (chain_end id q seed) 67)

-- Q: the hash of the message behind the randomizer C (section 4.5); 0x8181 is D_MESG
unfoldable pub hashed_message : List ℕ → ℕ → List ℕ → List ℕ → List ℕ
hashed_message id q randomizer message = sha256 (prefix id q 0x8181 ++ randomizer ++ message)

-- coef(S, i, w) at w = 4: half byte i, the high half of a byte first (section 3.1.3)
abbrev pub coef : List ℕ → ℕ → ℕ
coef bytes i = slice_index bytes (i / 2) / 2 ^ (4 - 4 * (i % 2)) % 16

-- Cksm(S): how far the half bytes of Q stay below 15 together, shifted left by ls (section 4.4)
unfoldable pub checksum : List ℕ → ℕ
checksum hash = total (λ i. 15 - coef hash i) 64 * 2 ^ 4

-- half byte i of Q | Cksm(Q): how far chain i goes in a signature (section 4.5)
unfoldable pub digit : List ℕ → ℕ → ℕ
digit hash i = coef (hash ++ to_be_bytes w16 (checksum hash)) i

-- C. The standard leaves its choice open.
unfoldable pub randomizer : List ℕ → ℕ → List ℕ → List ℕ
randomizer id q seed = sha256 (prefix id q 0xfffd ++ 0xff ∷ seed)

-- what a signature by C and Q holds for chain i (section 4.5)
unfoldable pub signed_element : List ℕ → ℕ → List ℕ → List ℕ → ℕ → List ℕ
signed_element id q seed hash i = chain (prefix id q i) 0 (digit hash i) (secret_element id q seed i)

-- u32str(type) | C | y[0] | .. | y[66] (section 4.5)
unfoldable pub one_time_signature : List ℕ → ℕ → List ℕ → List ℕ → List ℕ
one_time_signature id q seed message =
    let c = randomizer id q seed in
    to_be_bytes w32 3 ++ c ++ joined (signed_element id q seed (hashed_message id q c message)) 67

-- bytes of the form of a signature of this type (section 4.6, steps 2a to 2d)
pub record IsOneTimeSignature (signature : List ℕ) : Type 0 where
  pub length : length signature ≡ 2180
  pub type : take 4 signature ≡ to_be_bytes w32 3

-- the 32 bytes from a place on
abbrev pub element_at : List ℕ → ℕ → List ℕ
element_at bytes place = take 32 (drop place bytes)

-- z[i]: element y[i] of a signature, taken to the end of its chain (section 4.6, step 3)
unfoldable pub completed_element : List ℕ → ℕ → List ℕ → List ℕ → ℕ → List ℕ
completed_element id q signature hash i =
    chain (prefix id q i) (digit hash i) (15 - digit hash i) (element_at signature (36 + 32 * i))

-- Kc: the public key that a signature of a message leads to (section 4.6, algorithm 4b)
unfoldable pub candidate_key : List ℕ → ℕ → List ℕ → List ℕ → List ℕ
candidate_key id q message signature =
    sha256 (prefix id q 0x8080 ++ joined (completed_element id q signature (hashed_message id q (element_at signature 4) message)) 67)
