-- What a book holds as a book by places, with the events that its pairings stand for. docs/GROUP.md, "The book of a
-- member".
use Rattle.std.specs.Prelude.{◌≡◌, ℕ, List, [], ◌∷◌, Option, Some, None}
use Rattle.kem_trait.specs.declared.kem.Kem.{Ghosts}
use Rattle.group_model.specs.Sets.{Bytes, Id}
use Rattle.group_model.specs.Primitives.{KeyPair, Content, Primitives}
use Rattle.group_model.specs.Pairing.{Draws, PairEvent, Sent, Opened}
use Rattle.group_parts.specs.Parts.{part_in}
use Rattle.member_book.specs.PairStates.{PairState, PairStands}
use Rattle.member_book.specs.Places.{PlaceBook, put_at, hand_at, keep_at, spent_at, events_at, gives_at, step_at}
use Rattle.member_book.specs.Places.{chained_at}
use Rattle.two_party.specs.Received.{received}
use Rattle.secret_book.specs.HeldBooks.{HeldBook, started, met_with, handed, stepped, secret_by, chained, with_kept}
use Rattle.secret_book.specs.HeldBooks.{with_pairing, sealed_at, opened_at}

-- the book by places, with these events
abbrev pub placed : (ℕ → List PairEvent) → HeldBook → PlaceBook
placed es b = record { ratchet = b.ratchet; chain = b.chain; events = es; kept = b.kept }

-- each call at a place is that of the book by places, and meeting a place changes nothing
pub record ServesPlaces (es : ℕ → List PairEvent) (p : ℕ) (b : HeldBook) : Type 0 where
  pub meets : (public : Option Bytes) → placed es (met_with public b) ≡ placed es b
  pub hands : (r : Bytes) → placed es (handed p r b) ≡ hand_at p r (placed es b)
  pub steps : (K : Primitives) (input : Option Bytes)
      → placed es (stepped K p input b) ≡ step_at K p input (placed es b)
  pub gives : (K : Primitives) (input : Option Bytes)
      → secret_by K input (b.ratchet p) ≡ gives_at K p input (placed es b)
  pub chains : (K : Primitives) → placed es (chained K p b) ≡ chained_at K p (placed es b)
  pub keeps : (i : Id) (v : Bytes) → placed es (with_kept i p (Some v) b) ≡ keep_at i p v (placed es b)
  pub spends : (i : Id) → placed es (with_kept i p None b) ≡ spent_at i p (placed es b)
  pub sends : (k : Option PairState) (events : List PairEvent)
      → placed (put_at es p events) (with_pairing p k b) ≡ events_at p events (placed es b)

-- Each pairing stands for its events, of a member with this pair on its card towards who have these public keys
abbrev pub PairingsStand : (card : KeyPair) (keys : ℕ → Bytes) (es : ℕ → List PairEvent) → HeldBook → Type 0
PairingsStand card keys es b = (p : ℕ) (k : PairState) → b.pairing p ≡ Some k → PairStands card (keys p) (es p) k

module _ (card : KeyPair) (keys : ℕ → Bytes) (es : ℕ → List PairEvent) where
  abbrev pub StartStands : Type 0
  StartStands = PairingsStand card keys es (started card.secret)

  abbrev pub MeetStands : Type 0
  MeetStands = (b : HeldBook) → PairingsStand card keys es b → b.secret ≡ card.secret → es b.met ≡ []
      → PairingsStand card keys es (met_with (Some (keys b.met)) b)

  abbrev pub OwnStands : Type 0
  OwnStands = (b : HeldBook) → PairingsStand card keys es b → PairingsStand card keys es (met_with None b)

  abbrev pub SendStands : Type 0
  SendStands = (b : HeldBook) (p : ℕ) (d : Draws) → PairingsStand card keys es b
      → PairingsStand card keys (put_at es p (Sent d ∷ es p)) (sealed_at p d b)

  module _ {K P : Type 0} (kem : Ghosts K P) where
    -- bytes that open to a content
    abbrev pub OpenStands : Type 0
    OpenStands = (b : HeldBook) (p : ℕ) (bytes : Bytes) (k : PairState) (content : Content)
        → PairingsStand card keys es b → b.pairing p ≡ Some k → received kem k bytes ≡ Some content
        → PairingsStand card keys (put_at es p (Opened (part_in kem bytes) content ∷ es p)) (opened_at kem p bytes b)

-- bytes that open to nothing leave everything
abbrev pub RefusedStays : {K P : Type 0} → Ghosts K P → Type 0
RefusedStays kem = (b : HeldBook) (p : ℕ) (bytes : Bytes) (k : PairState) → b.pairing p ≡ Some k
    → received kem k bytes ≡ None → opened_at kem p bytes b ≡ b
