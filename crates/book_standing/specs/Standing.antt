-- What a book holds stands for a book of the model. docs/GROUP.md, "The book of a member".
use Rattle.std.specs.Prelude.{◌≡◌, ◌≢◌, ◌≤◌, ◌<◌, ℕ, List, [], ◌∷◌, ◌++◌, length, Option, Some, None, IsSome}
use Rattle.std.specs.Prelude.{option_map}
use Rattle.std.specs.Option.{option_and_then}
use Rattle.kem_trait.specs.declared.kem.Kem.{Ghosts}
use Rattle.group_model.specs.Sets.{Bytes, Id, In, IsDistinct}
use Rattle.group_model.specs.Knowledge.{payload_in}
use Rattle.group_model.specs.Pairing.{Draws, PairEvent, Sent, part_to}
use Rattle.group_model.specs.Settings.{Owner}
use Rattle.group_parts.specs.Parts.{part_bytes, part_read}
use Rattle.group_keys.specs.Primitives.{primitives_of}
use Rattle.member_book.specs.Books as model
use Rattle.member_book.specs.Books.{BookState, put}
use Rattle.member_book.specs.Places.{by_ids, id_at}
use Rattle.secret_book.specs.HeldBooks.{HeldBook, NothingHeld, started, met_with, handed, stepped, secret_by, chained}
use Rattle.secret_book.specs.HeldBooks.{text_key_of, with_kept, opened_at, payload_from, sealed_at, part_from}
use Rattle.secret_book.specs.Serving.{PairingsStand, placed}

module _ {K P : Type 0} (kem : Ghosts K P) (O : Owner) where
  -- The members of these ids were met, in the order of their places, and what is held of them is this book of the
  -- model, of this owner, whose primitives are those of the key encapsulation.
  pub record HeldStands (ids : List Id) (b : HeldBook) (state : BookState) : Type 0 where
    pub primitives : O.primitives ≡ primitives_of kem
    pub secret : b.secret ≡ O.card.secret
    pub distinct : IsDistinct ids
    pub met : b.met ≡ length ids
    pub unmet : NothingHeld (length ids) b
    -- each but the owner has a pairing, which stands for what was sent and opened
    pub others : (p : ℕ) → p < length ids → id_at ids p ≢ O.id → IsSome (b.pairing p)
    pub events : ℕ → List PairEvent
    pub unsent : (p : ℕ) → length ids ≤ p → events p ≡ []
    pub pairings : PairingsStand O.card (λ p. O.public_key (id_at ids p)) events b
    pub is : by_ids ids (placed events b) ≡ state

  -- What each call at a place makes of what is held stands for what it makes of the book of the model, and answers
  -- what that has.
  pub record CallsStand (ids : List Id) (p : ℕ) (b : HeldBook) (state : BookState) : Type 0 where
    pub ratchet : b.ratchet p ≡ state.ratchet (id_at ids p)
    pub chain : b.chain p ≡ state.chain (id_at ids p)
    pub kept : (i : Id) → b.kept i p ≡ state.kept i (id_at ids p)
    pub hands : (r : Bytes) → HeldStands ids (handed p r b) (model.hand (id_at ids p) (Some r) state)
    pub steps : (input : Option Bytes)
        → HeldStands ids (stepped (primitives_of kem) p input b) (model.step O.primitives (id_at ids p) input state)
    pub gives : (input : Option Bytes) → secret_by (primitives_of kem) input (b.ratchet p)
        ≡ model.step_gives O.primitives (id_at ids p) input state
    pub chains : HeldStands ids (chained (primitives_of kem) p b) (model.chained O.primitives (id_at ids p) state)
    pub keys : text_key_of (primitives_of kem) (b.chain p) ≡ model.text_key O.primitives (id_at ids p) state
    pub keeps : (i : Id) (v : Bytes)
        → HeldStands ids (with_kept i p (Some v) b) (model.keep i (id_at ids p ∷ []) (λ y. Some v) state)
    pub spends : (i : Id) → HeldStands ids (with_kept i p None b) (model.spent i (id_at ids p) state)
    pub opens : (bytes : Bytes) → IsSome (b.pairing p) → HeldStands ids (opened_at kem p bytes b)
        (model.open_from O.primitives O.card (id_at ids p) (part_read kem bytes) state)
    pub payload : (bytes : Bytes) → IsSome (b.pairing p) → option_and_then (payload_from kem bytes) (b.pairing p)
        ≡ payload_in O.primitives O.card (state.events (id_at ids p)) (part_read kem bytes)
    pub sends : (d : Draws) → IsSome (b.pairing p) → HeldStands ids (sealed_at p d b)
        (record state { events = put state.events (id_at ids p) (Sent d ∷ state.events (id_at ids p)) })
    pub part : (d : Draws) (payload : Bytes) → IsSome (b.pairing p)
        → option_and_then (part_from kem d payload) (b.pairing p)
        ≡ option_map (part_bytes kem)
        (part_to O.primitives (O.public_key (id_at ids p)) (state.events (id_at ids p)) d payload)

  -- before anybody was met
  abbrev pub StartStands : Type 0
  StartStands = O.primitives ≡ primitives_of kem → HeldStands [] (started O.card.secret) model.start

  -- another member is met, with the public key on its card
  abbrev pub MeetStands : Type 0
  MeetStands = (ids : List Id) (i : Id) (b : HeldBook) (state : BookState) → HeldStands ids b state → (In i ids → ⊥)
      → HeldStands (ids ++ i ∷ []) (met_with (Some (O.public_key i)) b) state

  -- the own place is met
  abbrev pub OwnStands : Type 0
  OwnStands = (ids : List Id) (b : HeldBook) (state : BookState) → HeldStands ids b state → (In O.id ids → ⊥)
      → HeldStands (ids ++ O.id ∷ []) (met_with None b) state
