-- What a book holds of each place, and what each call makes of it. docs/GROUP.md, "The book of a
-- member".
use Rattle.std.specs.Prelude.{◌≡◌, ◌≤◌, ℕ, zero, suc, ◌+◌, ◌&&◌, cond, List, [], ◌∷◌, length, Option, Some, None}
use Rattle.std.specs.Prelude.{bytes_eq, nat_eq, option_map}
use Rattle.kem_trait.specs.declared.kem.Kem.{Ghosts}
use Rattle.group_model.specs.Sets.{Bytes, Id}
use Rattle.group_model.specs.Primitives.{Primitives}
use Rattle.group_model.specs.KeyTerms.{Once, turned_known, secret_known, empty_ratchet, first_chain, next_chain}
use Rattle.group_model.specs.KeyTerms.{message_key}
use Rattle.group_model.specs.Pairing.{Draws}
use Rattle.group_parts.specs.Parts.{part_bytes}
use Rattle.group_keys.specs.Primitives.{primitives_of}
use Rattle.member_book.specs.PairStates.{PairState, at_start, after_send, next_part}
use Rattle.member_book.specs.Places.{put_at}
use Rattle.two_party.specs.Received.{received, after_part, payload_of}

-- what is held of one place: its ratchet and its text chain, where they are known, and its pairing
pub record PlaceState : Type 0 where
  pub ratchet : Option Bytes
  pub chain : Option Bytes
  -- none at the own place
  pub pairing : Option PairState

-- the input of an answer: of the operation, and of the place that may answer it
pub record KeptSecret : Type 0 where
  pub of : Id
  pub place : ℕ
  pub secret : Bytes

-- A book as it is written down: the secret key of the pair on the own card, the places that were met, in their order,
-- and what is kept
pub record BookTable : Type 0 where
  pub secret : Bytes
  pub places : List PlaceState
  pub kept : List KeptSecret

-- a place as it is met
abbrev pub fresh_place : Option PairState → PlaceState
fresh_place pairing = record { ratchet = Some empty_ratchet; chain = None; pairing = pairing }

-- the value at each place of a list, and another past its end
abbrev pub at_places : {A B : Type 0} → (A → B) → B → List A → ℕ → B
at_places f d [] p = d
at_places f d (x ∷ xs) zero = f x
at_places f d (x ∷ xs) (suc p) = at_places f d xs p

-- what is kept for the answer of a place to an operation
abbrev pub kept_by : List KeptSecret → (of : Id) → ℕ → Option Bytes
kept_by [] of place = None
kept_by (k ∷ ks) of place = cond (bytes_eq of k.of && nat_eq place k.place) (Some k.secret) (kept_by ks of place)

-- nothing is kept for the answers of this place or of a place behind it
abbrev pub NothingKept : ℕ → ((of : Id) → ℕ → Option Bytes) → Type 0
NothingKept place kept = (of : Id) (p : ℕ) → place ≤ p → kept of p ≡ None

-- What a book holds
pub record HeldBook : Type 0 where
  pub secret : Bytes
  -- how many places were met
  pub met : ℕ
  pub ratchet : ℕ → Option Bytes
  pub chain : ℕ → Option Bytes
  pub pairing : ℕ → Option PairState
  pub kept : (of : Id) → ℕ → Option Bytes

-- Nothing is held of this place, nor of a place behind it: it has the ratchet that a place is met with, no text chain
-- and no pairing, and nothing is kept for its answers
pub record NothingHeld (place : ℕ) (b : HeldBook) : Type 0 where
  pub ratchet : (p : ℕ) → place ≤ p → b.ratchet p ≡ Some empty_ratchet
  pub chain : (p : ℕ) → place ≤ p → b.chain p ≡ None
  pub pairing : (p : ℕ) → place ≤ p → b.pairing p ≡ None
  pub kept : NothingKept place b.kept

unfoldable pub held : BookTable → HeldBook
held b = record {
  secret = b.secret;
  met = length b.places;
  ratchet = at_places (λ (s : PlaceState). s.ratchet) (Some empty_ratchet) b.places;
  chain = at_places (λ (s : PlaceState). s.chain) None b.places;
  pairing = at_places (λ (s : PlaceState). s.pairing) None b.places;
  kept = kept_by b.kept;
}

-- what is kept, with another value at one operation and place
abbrev pub keep_in : ((of : Id) → ℕ → Option Bytes) → (of : Id) → ℕ → Option Bytes → (of : Id) → ℕ → Option Bytes
keep_in f i p v j q = cond (bytes_eq i j) (cond (nat_eq p q) v (f j q)) (f j q)

abbrev pub started : (secret : Bytes) → HeldBook
started secret = record {
  secret = secret;
  met = 0;
  ratchet = λ p. Some empty_ratchet;
  chain = λ p. None;
  pairing = λ p. None;
  kept = λ i p. None;
}

-- the next place is met, with the public key on its card, or the own place
abbrev pub met_with : (public : Option Bytes) → HeldBook → HeldBook
met_with public b = record b {
  met = b.met + 1;
  pairing = put_at b.pairing b.met (option_map (at_start b.secret) public);
}

abbrev pub handed : ℕ → Bytes → HeldBook → HeldBook
handed p r b = record b { ratchet = put_at b.ratchet p (Some r) }

abbrev pub with_kept : (of : Id) → ℕ → Option Bytes → HeldBook → HeldBook
with_kept i p v b = record b { kept = keep_in b.kept i p v }

abbrev pub with_pairing : ℕ → Option PairState → HeldBook → HeldBook
with_pairing p k b = record b { pairing = put_at b.pairing p k }

-- the place has the draws of one more part that was sent to it
abbrev pub sealed_at : ℕ → Draws → HeldBook → HeldBook
sealed_at p d b = with_pairing p (option_map (λ k. after_send k d) (b.pairing p)) b

module _ (K : Primitives) where
  -- the update secret that a step gives, and the ratchet behind it
  abbrev pub secret_by : (input ratchet : Option Bytes) → Option Bytes
  secret_by input ratchet = secret_known K (option_map (λ i. Once i) input) ratchet

  abbrev pub ratchet_by : (input ratchet : Option Bytes) → Option Bytes
  ratchet_by input ratchet = turned_known K (option_map (λ i. Once i) input) ratchet

  -- a step starts the text chain anew; without an input ratchet and chain are forgotten
  abbrev pub stepped : ℕ → (input : Option Bytes) → HeldBook → HeldBook
  stepped p input b = record b {
    ratchet = put_at b.ratchet p (ratchet_by input (b.ratchet p));
    chain = put_at b.chain p (option_map (first_chain K) (secret_by input (b.ratchet p)));
  }

  -- the key of the next text
  abbrev pub text_key_of : Option Bytes → Option Bytes
  text_key_of chain = option_map (message_key K) chain

  abbrev pub chained : ℕ → HeldBook → HeldBook
  chained p b = record b { chain = put_at b.chain p (option_map (next_chain K) (b.chain p)) }

module _ {K P : Type 0} (kem : Ghosts K P) where
  -- the bytes of the next part of a pairing
  abbrev pub part_from : Draws → (payload : Bytes) → PairState → Option Bytes
  part_from d payload k = option_map (part_bytes kem) (next_part (primitives_of kem) k d payload)

  -- what the bytes of a part open to
  abbrev pub payload_from : (bytes : Bytes) → PairState → Option Bytes
  payload_from bytes k = option_map payload_of (received kem k bytes)

  -- the pairing of the place took these bytes
  abbrev pub opened_at : ℕ → (bytes : Bytes) → HeldBook → HeldBook
  opened_at p bytes b = with_pairing p (option_map (λ k. after_part kem k bytes) (b.pairing p)) b
