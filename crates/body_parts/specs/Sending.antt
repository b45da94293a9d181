-- Parts that a member makes for receivers, from what its book holds. docs/GROUP.md, "Parts" and "The book of a member".
use Rattle.std.specs.Prelude.{◌≡◌, ℕ, ◌≤◌, ◌<◌, ◌-◌, ◌^◌, Bool, List, [], length, map, Some, None}
use Rattle.std.specs.Prelude.{IsSome, IfSome}
use Rattle.std.specs.Option.{option_and_then}
use Rattle.kem_trait.specs.declared.kem.Kem.{Ghosts}
use Rattle.group_fields.specs.Layouts.{Spells}
use Rattle.wire_codec.specs.Packets.{AddressedPart, parts_body}
use Rattle.group_model.specs.Sets.{Bytes, Id, In}
use Rattle.group_model.specs.Primitives.{Primitives}
use Rattle.group_model.specs.Pairing.{Draws, Part, draws}
use Rattle.group_model.specs.Packets.{Given}
use Rattle.group_model.specs.Parts.{parts_of}
use Rattle.group_model.specs.Settings.{Owner}
use Rattle.group_parts.specs.Parts.{IsSized, part_bytes}
use Rattle.group_keys.specs.Primitives.{primitives_of}
use Rattle.group_packets.specs.Packets.{addressed_of, part_written}
use Rattle.member_book.specs.Books.{BookState}
use Rattle.member_book.specs.BooksAfter.{part_by}
use Rattle.member_book.specs.Calls.{sends_each}
use Rattle.member_book.specs.PairStates.{PairState, next_part}
use Rattle.two_party.specs.Drawn.{Drawn, left_for}
use Rattle.secret_book.specs.HeldBooks.{HeldBook, sealed_at}
use Rattle.book_standing.specs.Standing.{HeldStands}
use Rattle.body_parts.specs.declared.addressing.Receiver.{Receiver}
use Rattle.body_parts.specs.Receivers.{ArePlaced, AreReceivers, id_to, ids_to}

-- The place was met, it is not the own one, and the numbers of its keys aren't used up.
pub record CanReach (b : HeldBook) (p : ℕ) : Type 0 where
  pub met : p < b.met
  pub other : IsSome (b.pairing p)
  pub few : IfSome (b.pairing p) (λ k. k.sends < 2 ^ 32 - 1)

-- A part can be made for the member with the id at the place.
pub record CanSend (b : HeldBook) (drawn : List Drawn) (p : ℕ) (id : Id) : Type 0 where
  pub reach : CanReach b p
  -- draws are left for it
  pub draw : IsSome (left_for drawn id)

-- a part can be made for each receiver
abbrev pub CanSendAll : HeldBook → List Drawn → List Receiver → Type 0
CanSendAll b drawn to = (r : Receiver) → In r to → CanSend b drawn r.place (id_to r)

-- what is left for these ids was drawn from a step's random bytes
abbrev pub AreDrawnFrom : Primitives → (random : Bytes) → List Drawn → List Id → Type 0
AreDrawnFrom K random drawn ids = (y : Id) → In y ids → left_for drawn y ≡ draws K random y

-- a step's random bytes, and no text
abbrev pub given : (random : Bytes) → Given
given random = record { random = random; text = [] }

module _ {K P : Type 0} (kem : Ghosts K P) where
  -- Bytes are those of a part with a payload that was sealed for a receiver: the next part of its pairing, with the
  -- draws that were left for it, which what is held of its place has from then on.
  pub record IsSealedFor (r : Receiver) (payload : Bytes) (drawn : List Drawn) (before after : HeldBook)
      (bytes : Bytes) : Type 0 where
    pub draw : Draws
    pub left : left_for drawn (id_to r) ≡ Some draw
    pub part : Part
    pub next : option_and_then (λ (k : PairState). next_part (primitives_of kem) k draw payload)
        (before.pairing r.place) ≡ Some part
    pub sized : IsSized kem part
    pub are : bytes ≡ part_bytes kem part
    pub held : after ≡ sealed_at r.place draw before

  -- What parts with a payload are in the model, by the book of their owner, from a step's random bytes: those for the
  -- receivers, in their order. What is held stands for the book after one send to each.
  pub record SendsTo (O : Owner) (ids : List Id) (random payload : Bytes) (to : List Receiver) (state : BookState)
      (b : HeldBook) (parts : List AddressedPart) : Type 0 where
    pub sent : parts_of (λ y. part_by O (given random) y payload state) (ids_to to)
        ≡ Some (map (addressed_of kem) parts)
    pub stands : HeldStands kem O ids b (sends_each O random (ids_to to) state)

  -- Parts with a payload were made for the receivers, from what was held before and the draws that were left.
  pub record AreMadeFor (to : List Receiver) (payload : Bytes) (drawn : List Drawn) (before after : HeldBook)
      (parts : List AddressedPart) : Type 0 where
    pub count : length parts ≡ length to
    pub met : after.met ≡ before.met
    -- each is the one spelling of a part
    pub written : map (part_written kem) (map (addressed_of kem) parts) ≡ parts
    -- whatever book of the model was stood for
    pub sends : (O : Owner) (ids : List Id) (state : BookState) (random : Bytes) → HeldStands kem O ids before state
        → ArePlaced ids to → AreDrawnFrom (primitives_of kem) random drawn (ids_to to)
        → SendsTo O ids random payload to state after parts

  -- Bytes are the body of a message that carries parts with a payload alone: for those of these ids whose places have
  -- their bits, ascending by their ids.
  pub record IsPartsBody (ids : List Id) (bits : ℕ → Bool) (payload : Bytes) (drawn : List Drawn)
      (before after : HeldBook) (bytes : Bytes) : Type 0 where
    pub to : List Receiver
    pub receivers : AreReceivers ids bits to
    pub parts : List AddressedPart
    pub made : AreMadeFor to payload drawn before after parts
    pub spelled : (greatest : ℕ) → length parts ≤ greatest → Spells (parts_body kem.SET greatest) bytes (record {
      cards = [];
      parts = parts;
      history = None;
      text = None;
    })
