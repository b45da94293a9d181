-- The book after an entry: from the book, the messages before it, and the entry's own packet.
use Rattle.std.specs.Prelude.{true, false, List, [], ◌∷◌, Option, Some, None, option_map}
use Rattle.std.specs.Option.{option_and_then}
use Rattle.group_model.specs.Sets.{Bytes, Id}
use Rattle.group_model.specs.Messages.{Kind, Create, Update, Remove, Add, Ack, AddAck, Text, Message, History}
use Rattle.group_model.specs.Messages.{with_past}
use Rattle.group_model.specs.Membership.{without}
use Rattle.group_model.specs.KeyTerms.{welcome_word, add_word, seed_of, member_secret}
use Rattle.group_model.specs.Pairing.{Part, Draws, draws, part_to}
use Rattle.group_model.specs.Settings.{Owner}
use Rattle.group_model.specs.Packets.{Packet, Given, part_for}
use Rattle.group_model.specs.Logs.{LogEntry, Joined, Took, Made, header_of, rows_of}
use Rattle.group_model.specs.Knowledge.{or_else, handed_by, payload_in, text_by, text_opened}
use Rattle.member_book.specs.Books.{BookState, hand, keep, spent, step_gives, step, chained, welcomed, open_from}
use Rattle.member_book.specs.Books.{sealed_to}

module _ (O : Owner) where
  -- who gets a part of the create, update or remove m: its view less its sender
  abbrev pub recipients : History → Message → List Id
  recipients h m = without (O.rule (with_past h m)) (m.sender ∷ [])

  abbrev pub member_of : (seed : Option Bytes) → Id → Option Bytes
  member_of seed y = option_map (λ k. member_secret O.primitives k y) seed

  abbrev pub welcome_of : (ratchet : Option Bytes) → Option Bytes
  welcome_of ratchet = option_map (λ r. O.primitives.out r welcome_word) ratchet

  -- a create, update or remove of this seed
  abbrev pub seeded : History → Message → (seed : Option Bytes) → BookState → BookState
  seeded h m seed b =
      step O.primitives m.sender (member_of seed m.sender) (keep m.id (recipients h m) (λ y. member_of seed y) b)

  -- an add of y
  abbrev pub added : Message → (y : Id) → BookState → BookState
  added m y b = step O.primitives m.sender (Some add_word) (step O.primitives m.sender (Some welcome_word)
      (keep m.id (y ∷ []) (λ z. welcome_of (b.ratchet m.sender)) b))

  -- an ack with `took` of the operation i by s
  abbrev pub acked : (i s : Id) → (forward : Option Bytes) → BookState → BookState
  acked i s forward b = step O.primitives s (or_else (b.kept i s) forward) (spent i s b)

  -- The book is moved by a message: the history is that with the message. Every ack of s to an operation spends the
  -- input that is kept for it, since nobody may answer twice
  abbrev pub moved : Kind → History → Message → (seed forward : Option Bytes) → BookState → BookState
  moved (Create members) h m seed forward b = seeded h m seed b
  moved Update h m seed forward b = seeded h m seed b
  moved (Remove y) h m seed forward b = seeded h m seed b
  moved (Add y) h m seed forward b = added m y b
  moved (Ack i true) h m seed forward b = acked i m.sender forward b
  moved (Ack i false) h m seed forward b = spent i m.sender b
  moved (AddAck i) h m seed forward b = step O.primitives m.sender (Some add_word) b
  moved Text h m seed forward b = chained O.primitives m.sender b

  -- and the update secret that it gives
  abbrev pub gained : Kind → Message → (seed forward : Option Bytes) → BookState → Option Bytes
  gained (Create members) m seed forward b = step_gives O.primitives m.sender (member_of seed m.sender) b
  gained Update m seed forward b = step_gives O.primitives m.sender (member_of seed m.sender) b
  gained (Remove y) m seed forward b = step_gives O.primitives m.sender (member_of seed m.sender) b
  gained (Add y) m seed forward b =
      step_gives O.primitives m.sender (Some add_word) (step O.primitives m.sender (Some welcome_word) b)
  gained (Ack i true) m seed forward b = step_gives O.primitives m.sender (or_else (b.kept i m.sender) forward) b
  gained (Ack i false) m seed forward b = None
  gained (AddAck i) m seed forward b = step_gives O.primitives m.sender (Some add_word) b
  gained Text m seed forward b = None

  -- what the packet's part to the owner opens to
  abbrev pub part_opens : Packet → BookState → Option Bytes
  part_opens p b = payload_in O.primitives O.card (b.events p.header.sender) (part_for p.parts O.id)

  -- the part is opened, and the ratchet that it may hand is taken
  abbrev pub heard_by : Packet → BookState → BookState
  heard_by p b = hand p.header.sender (handed_by O.id p.header.kind (part_opens p b))
      (open_from O.primitives O.card p.header.sender (part_for p.parts O.id) b)

  -- the seed, and the forwarded secret, of an entry
  abbrev pub seed_at : LogEntry → BookState → Option Bytes
  seed_at (Joined p) b = None
  seed_at (Took p) b = part_opens p b
  seed_at (Made p t) b = Some (seed_of O.primitives t.random)

  abbrev pub forward_at : LogEntry → BookState → Option Bytes
  forward_at (Joined p) b = None
  forward_at (Took p) b = part_opens p b
  forward_at (Made p t) b = None

  -- the book with what the entry's parts do to it, before the message moves it
  abbrev pub readied : LogEntry → BookState → BookState
  readied (Joined p) b = heard_by p (welcomed O.primitives p.rows b)
  readied (Took p) b = heard_by p b
  readied (Made p t) b = sealed_to O.primitives t p.parts b

  -- the book after the entry; the history is that before it
  abbrev pub book_after : History → LogEntry → BookState → BookState
  book_after h e b =
      moved (header_of e).kind (header_of e ∷ rows_of e h) (header_of e) (seed_at e b) (forward_at e b) (readied e b)

  -- the update secret that the entry gives
  abbrev pub learned : LogEntry → BookState → Option Bytes
  learned e b = gained (header_of e).kind (header_of e) (seed_at e b) (forward_at e b) (readied e b)

  -- the text that an entry has: what a text opens to, or what was sent as it
  abbrev pub text_in : LogEntry → BookState → Option Bytes
  text_in (Joined p) b = None
  text_in (Took p) b = text_by p.header.kind (text_opened O.primitives (b.chain p.header.sender) p.sealed)
  text_in (Made p t) b = text_by p.header.kind (Some t.text)

  -- what the parts of a message of the owner carry, by the book before it
  abbrev pub payload_of : Given → Kind → BookState → Option Bytes
  payload_of t (Create members) b = Some (seed_of O.primitives t.random)
  payload_of t Update b = Some (seed_of O.primitives t.random)
  payload_of t (Remove y) b = Some (seed_of O.primitives t.random)
  payload_of t (Add y) b = b.ratchet O.id
  payload_of t (Ack i true) b = b.kept i O.id
  payload_of t (Ack i false) b = None
  payload_of t (AddAck i) b = b.ratchet O.id
  payload_of t Text b = None

  -- the part of the owner for y with this payload
  abbrev pub part_by : Given → (y : Id) → (payload : Bytes) → BookState → Option Part
  part_by t y v b = option_and_then (λ (d : Draws). part_to O.primitives (O.public_key y) (b.events y) d v)
      (draws O.primitives t.random y)
