-- What each call of the program does to the book, and that the calls of a step make the book after its entry.
-- h is the history before the message m; part is the message's part to the owner, whose own message has none.
-- docs/GROUP.md, "The book of a member".
use Rattle.std.specs.Prelude.{◌≡◌, Bool, true, false, cond, List, ◌∷◌, Option, Some, None, bytes_eq}
use Rattle.group_model.specs.Sets.{Bytes, Id, has}
use Rattle.group_model.specs.Messages.{Kind, Create, Update, Remove, Add, Ack, AddAck, Text, Message, History}
use Rattle.group_model.specs.KeyTerms.{add_word, seed_of}
use Rattle.group_model.specs.Pairing.{Part, draws}
use Rattle.group_model.specs.Settings.{Owner}
use Rattle.group_model.specs.Packets.{Packet, Given, part_for}
use Rattle.group_model.specs.Logs.{LogEntry, Joined, Took, Made, Log}
use Rattle.group_model.specs.Knowledge.{or_else, with_draws, payload_in}
use Rattle.group_model.specs.LawfulLogs.{MakesPacket}
use Rattle.member_book.specs.Books.{BookState, hand, spent, step, chained, welcomed, open_from, sealed_to}
use Rattle.member_book.specs.BooksAfter.{seeded, added, acked, book_after}

module _ (O : Owner) where
  -- the parts of a make_ call: one send to each of these ids, with draws from the step's bytes
  abbrev pub sends_each : (random : Bytes) → List Id → BookState → BookState
  sends_each random ids b = record b {
    events = λ y. cond (has ids y) (with_draws (draws O.primitives random y) (b.events y)) (b.events y);
  }

  abbrev pub opens_to : Message → Option Part → BookState → Option Bytes
  opens_to m part b = payload_in O.primitives O.card (b.events m.sender) part

  abbrev pub opened : Message → Option Part → BookState → BookState
  opened m part b = open_from O.primitives O.card m.sender part b

  -- the seed is the given one, or what the part opens to
  abbrev pub take_seeded : History → Message → Option Part → (own_seed : Option Bytes) → BookState → BookState
  take_seeded h m part own b = seeded O (m ∷ h) m (or_else own (opens_to m part b)) (opened m part b)

  abbrev pub take_ack : Message → (i : Id) → (took : Bool) → Option Part → BookState → BookState
  take_ack m i true part b = acked O i m.sender (opens_to m part b) (opened m part b)
  take_ack m i false part b = spent i m.sender (opened m part b)

  abbrev pub take_add : Message → (y : Id) → Option Part → BookState → BookState
  take_add m y part b =
      added O m y (hand m.sender (cond (bytes_eq y O.id) (opens_to m part b) None) (opened m part b))

  abbrev pub take_add_ack : Message → Option Part → BookState → BookState
  take_add_ack m part b =
      step O.primitives m.sender (Some add_word) (hand m.sender (opens_to m part b) (opened m part b))

  -- the calls of a step that takes or makes a message
  abbrev pub take : Kind → History → Message → Option Part → (own_seed : Option Bytes) → BookState → BookState
  take (Create members) h m part own b = take_seeded h m part own b
  take Update h m part own b = take_seeded h m part own b
  take (Remove y) h m part own b = take_seeded h m part own b
  take (Add y) h m part own b = take_add m y part b
  take (Ack i took) h m part own b = take_ack m i took part b
  take (AddAck i) h m part own b = take_add_ack m part b
  take Text h m part own b = chained O.primitives m.sender b

  abbrev pub by_calls : History → LogEntry → BookState → BookState
  by_calls h (Joined p) b =
      take p.header.kind p.rows p.header (part_for p.parts O.id) None (welcomed O.primitives p.rows b)
  by_calls h (Took p) b = take p.header.kind h p.header (part_for p.parts O.id) None b
  by_calls h (Made p t) b =
      take p.header.kind h p.header None (Some (seed_of O.primitives t.random)) (sealed_to O.primitives t p.parts b)

-- A text has no part; a welcome is an add
abbrev pub CallsMake : Type 0
CallsMake = (O : Owner) (h : History) (e : LogEntry) (b : BookState)
    → ((p : Packet) → e ≡ Took p → p.header.kind ≡ Text → part_for p.parts O.id ≡ None)
    → ((p : Packet) → e ≡ Joined p → p.header.kind ≡ Add O.id)
    → book_after O h e b ≡ by_calls O h e b

-- the parts that are made are one send to each addressee
abbrev pub SendsEach : Type 0
SendsEach = (O : Owner) (l : Log) (p : Packet) (t : Given) (b : BookState) → (k : MakesPacket O l p t)
    → sealed_to O.primitives t p.parts b ≡ sends_each O t.random k.addressees b

-- an answer that takes its own input first, and then seals and steps, does the same
abbrev pub SpendFirst : Type 0
SpendFirst = (O : Owner) (i s : Id) (t : Given) (ids : List Id) (b : BookState)
    → acked O i s None (sends_each O t.random ids b)
    ≡ step O.primitives s (b.kept i s) (sends_each O t.random ids (spent i s b))
