-- The book of a whole log, and what it says in a world. docs/GROUP.md, "The book of a member".
use Rattle.std.specs.Prelude.{◌≡◌, [], ◌∷◌, Option, Some, option_map}
use Rattle.std.specs.Option.{option_and_then}
use Rattle.group_model.specs.Sets.{Bytes, Id}
use Rattle.group_model.specs.Messages.{Text}
use Rattle.group_model.specs.Validity.{HasStepped}
use Rattle.group_model.specs.KeyTerms.{bytes}
use Rattle.group_model.specs.Pairing.{Part}
use Rattle.group_model.specs.Settings.{Setting, Owner, owner_in}
use Rattle.group_model.specs.Packets.{Packet, Given}
use Rattle.group_model.specs.Logs.{LogEntry, header_of, Log, hist}
use Rattle.group_model.specs.Knowledge.{learnt_at, known, chain_known, events}
use Rattle.group_model.specs.Parts.{parts_of}
use Rattle.group_model.specs.LawfulLogs.{MakesPacket, MayEnter, IsLawfulLog}
use Rattle.group_model.specs.Worlds.{Turns, log_of}
use Rattle.group_model.specs.LawfulWorlds.{IsLawful}
use Rattle.group_model.specs.Agreement.{MadeBy, IsEntitled, secret_made}
use Rattle.member_book.specs.Books.{BookState, start}
use Rattle.member_book.specs.BooksAfter.{book_after, learned, text_in, payload_of, part_by}
use Rattle.member_book.specs.Standing.{BookStands}

module _ (O : Owner) where
  -- the book of a log
  abbrev pub book_of : Log → BookState
  book_of [] = start
  book_of (e ∷ l) = book_after O (hist l) e (book_of l)

  -- the packet's parts, by the book before it
  abbrev pub part_of : Packet → Given → BookState → Id → Option Part
  part_of p t b y = option_and_then (λ v. part_by O t y v b) (payload_of O t p.header.kind b)

-- An entry that may come keeps the book right, which gives the update secret that the log tells
abbrev pub EntryKeeps : Type 0
EntryKeeps = (O : Owner) (l : Log) (e : LogEntry) (b : BookState) → IsLawfulLog O l → MayEnter O l e → BookStands O l b
    → BookStands O (e ∷ l) (book_after O (hist l) e b)
    × (learned O e b ≡ learnt_at O.primitives O.card O.id e l)

-- the book of a lawful log stands for it
abbrev pub LogKeeps : Type 0
LogKeeps = (O : Owner) (l : Log) → IsLawfulLog O l → BookStands O l (book_of O l)

-- the parts of a message that is made are those by the book
abbrev pub MakesSame : Type 0
MakesSame = (O : Owner) (l : Log) (p : Packet) (t : Given) (b : BookState) → IsLawfulLog O l → (k : MakesPacket O l p t)
    → BookStands O l b → parts_of (part_of O p t b) k.addressees ≡ Some p.parts

-- nothing is sent to oneself, so the own place needs no pairing
abbrev pub NoneToSelf : Type 0
NoneToSelf = (O : Owner) (l : Log) → IsLawfulLog O l → events O.primitives O.card O.id O.id l ≡ []

-- a member knows its own ratchet, and its own text chain once it stepped
abbrev pub OwnKnown : Type 0
OwnKnown = (O : Owner) (l : Log) → IsLawfulLog O l
    → ((r : Bytes) × (known O.primitives O.card O.id l O.id ≡ Some r))
    × (HasStepped (hist l) O.id → (k : Bytes) × (chain_known O.primitives O.card O.id l O.id ≡ Some k))

abbrev pub and_then : Id → LogEntry → Turns → Turns
and_then x e w = record { who = x; entry = e } ∷ w

-- What the book gives at an entry is what its maker's terms say: of each message that its member is entitled to the
-- update secret, and of each text its bytes
abbrev pub BookAgrees : Type 0
BookAgrees = (G : Setting) (w : Turns) (x : Id) (e : LogEntry) → IsLawful G (and_then x e w)
    → IsEntitled G (and_then x e w) x (header_of e) → (k : MadeBy (and_then x e w) (header_of e))
    → learned (owner_in G x) e (book_of (owner_in G x) (log_of w x))
    ≡ option_map (bytes G.primitives) (secret_made G.primitives k)

abbrev pub BookReads : Type 0
BookReads = (G : Setting) (w : Turns) (x : Id) (e : LogEntry) → IsLawful G (and_then x e w)
    → IsEntitled G (and_then x e w) x (header_of e) → (header_of e).kind ≡ Text
    → (k : MadeBy (and_then x e w) (header_of e))
    → text_in (owner_in G x) e (book_of (owner_in G x) (log_of w x)) ≡ Some k.given.text
