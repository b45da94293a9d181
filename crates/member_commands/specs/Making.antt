-- What the call of a command makes: the member's next message, and the history and the book with it. docs/GROUP.md,
-- "The reference member" and "The book of a member".
use Rattle.std.specs.Prelude.{◌≡◌, ℕ, Bool, List, [], Option}
use Rattle.kem_trait.specs.declared.kem.Kem.{Ghosts}
use Rattle.sha2.specs.Sha256.{sha256}
use Rattle.group_fields.specs.Headers.{spelling}
use Rattle.group_fields.specs.declared.header.Header.{Header}
use Rattle.group_fields.specs.declared.header.Kind.{Kind}
use Rattle.group_fields.specs.declared.header.Target.{Target}
use Rattle.group_model.specs.Sets.{Bytes, Id}
use Rattle.group_model.specs.Messages.{History}
use Rattle.group_model.specs.KeyTerms.{seed_of}
use Rattle.group_model.specs.Knowledge.{learnt_at}
use Rattle.group_model.specs.Logs.{Made}
use Rattle.group_model.specs.Marks.{IsPlace}
use Rattle.group_model.specs.Membership.{ids_named}
use Rattle.group_model.specs.Packets.{Given, Packet}
use Rattle.group_model.specs.Settings.{Owner}
use Rattle.group_keys.specs.Primitives.{primitives_of}
use Rattle.group_messages.specs.Messages.{message_of}
use Rattle.causal_history.specs.Rows.{IsKept, Row, history_of}
use Rattle.member_book.specs.Books.{BookState, sealed_to}
use Rattle.member_book.specs.Laws.{book_of}
use Rattle.secret_book.specs.HeldBooks.{HeldBook}
use Rattle.book_standing.specs.Standing.{HeldStands}
use Rattle.book_steps.specs.Entries.{MakesEntry}
use Rattle.reference_member.specs.Accepted.{with_made}
use Rattle.reference_member.specs.Members.{Member, known}
use Rattle.reference_member.specs.Messages.{IsByCommand, MadeMessage, as_packet}
use Rattle.reference_member.specs.Steps.{Input}
use Rattle.next_messages.specs.Bodies.{IsSeededNext}
use Rattle.next_messages.specs.Due.{IsDueTo, IsNew}
use Rattle.next_messages.specs.Headers.{IsNextHeader}
use Rattle.member_commands.specs.Commands.{IsPlain}
use Rattle.member_commands.specs.declared.making.MadeNext.{MadeNext}

-- the header with the digest of its body
abbrev pub closed : Header → (body : Bytes) → Header
closed header body = record header { body = record { 0 = sha256 body } }

-- the row of a message without cards
abbrev pub plain_row : Header → Row
plain_row header = record { header = header; cards = [] }

-- The message that was made has the header.
pub record IsWritten (header : Header) (made : MadeNext) : Type 0 where
  pub spelled : made.header ≡ spelling header
  pub id : made.id.0.0 ≡ (message_of header).id
  pub seq : made.seq ≡ header.seq

module _ {K P : Type 0} (kem : Ghosts K P) (rule : History → List Id) (rows : List Row) (random : Bytes) where
  -- Bytes are the body that a book made for the header: with the step's seed, for those whom its message is due to.
  pub record IsBodyFor (header : Header) (before after : HeldBook) (body : Bytes) : Type 0 where
    pub bits : ℕ → Bool
    pub due : IsDueTo rule rows header bits
    pub sealed : IsSeededNext kem (ids_named (history_of rows)) [] bits random before after body

  -- The own message of the header was taken, once its parts were sealed, by the owner at the place.
  abbrev pub IsTakenBy : Header → (place : ℕ) → (before after : HeldBook) → (learned : Option Bytes) → Type 0
  IsTakenBy header place before after learned =
      (O : Owner) (state : BookState) (p : Packet) (t : Given) → O.rule ≡ rule
      → IsPlace (ids_named (history_of rows)) place O.id
      → HeldStands kem O (ids_named (history_of rows)) before (sealed_to O.primitives t p.parts state)
      → p.header ≡ message_of header → seed_of O.primitives t.random ≡ seed_of (primitives_of kem) random
      → MakesEntry kem O (history_of rows) (Made p t) state learned after

  -- What the call does, one after the other: a header without its body's digest, the body, and the message taken.
  pub record AreDone (me : Id) (place : ℕ) (kind : Kind) (target : Target) (header : Header) (body : Bytes)
      (before sealed after : HeldBook) (learned : Option Bytes) : Type 0 where
    pub kept : IsKept rows
    pub plain : IsPlain kind
    pub own : IsPlace (ids_named (history_of rows)) place me
    pub begun : IsNextHeader kem.SET rows me random kind target header
    pub made : IsBodyFor header before sealed body
    pub new : IsNew rows (message_of (closed header body))
    pub taken : IsTakenBy (closed header body) place sealed after learned

module _ {K P : Type 0} (kem : Ghosts K P) (rule : History → List Id) (M : Member) (O : Owner) (t : Given) where
  -- The message with this header and body is the one that the input asks the member for; the rows, the book and the own
  -- update secret are those of the member with it.
  pub record IsMadeBy (input : Input) (header : Header) (body : Bytes) (rows : List Row) (book : HeldBook)
      (learned : Option Bytes) : Type 0 where
    pub next : MadeMessage
    pub header_is : next.header ≡ header
    pub body_is : next.body ≡ body
    pub by_command : IsByCommand kem rule M t input next
    pub rows_are : rows ≡ (with_made kem t next M).rows
    pub stands : HeldStands kem O (ids_named (known (with_made kem t next M))) book
        (book_of O (with_made kem t next M).log)
    pub learns : learned ≡ learnt_at O.primitives O.card O.id (Made (as_packet kem M next) t) M.log

  -- It was made so.
  pub record MakesNext (input : Input) (made : MadeNext) (rows : List Row) (book : HeldBook) : Type 0 where
    pub header : Header
    pub written : IsWritten header made
    pub is : IsMadeBy input header made.body rows book made.learned
