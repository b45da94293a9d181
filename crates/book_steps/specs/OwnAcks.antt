-- The own ack of an operation, step by step: the input that is kept for it is spent first, then sealed to those that it
-- is forwarded to, and then the own ratchet steps by it. docs/GROUP.md, "The book of a member".
use Rattle.std.specs.Prelude.{◌≡◌, true, false, List, Option, None}
use Rattle.kem_trait.specs.declared.kem.Kem.{Ghosts}
use Rattle.group_model.specs.Sets.{Bytes, Id}
use Rattle.group_model.specs.Logs.{Made}
use Rattle.group_model.specs.Membership.{ids_named}
use Rattle.group_model.specs.Messages.{Ack, History}
use Rattle.group_model.specs.Packets.{Given, Packet}
use Rattle.group_model.specs.Settings.{Owner}
use Rattle.member_book.specs.Books.{BookState, sealed_to, spent, step, step_gives}
use Rattle.member_book.specs.BooksAfter.{acked}
use Rattle.member_book.specs.Calls.{sends_each}
use Rattle.secret_book.specs.HeldBooks.{HeldBook}
use Rattle.book_standing.specs.Standing.{HeldStands}
use Rattle.book_steps.specs.Entries.{MakesEntry}

module _ {K P : Type 0} (kem : Ghosts K P) (O : Owner) (ids : List Id) (state : BookState) where
  -- The input that is kept for the owner's answer to an operation is taken out.
  pub record SpendsOwn (i : Id) (secret : Option Bytes) (b : HeldBook) : Type 0 where
    pub input : secret ≡ state.kept i O.id
    pub stands : HeldStands kem O ids b (spent i O.id state)

  -- The owner steps by an input.
  pub record StepsOwn (input learned : Option Bytes) (b : HeldBook) : Type 0 where
    pub gives : learned ≡ step_gives O.primitives O.id input state
    pub stands : HeldStands kem O ids b (step O.primitives O.id input state)

-- the book once the input of the owner's answer to the operation i was spent, and its parts were sealed to these ids
abbrev pub spent_and_sealed : Owner → Given → (to : List Id) → (i : Id) → BookState → BookState
spent_and_sealed O t to i b = sends_each O t.random to (spent i O.id b)

module _ {K P : Type 0} (kem : Ghosts K P) (O : Owner) (h : History) (p : Packet) (t : Given) (to : List Id)
    (state : BookState) (i : Id) where
  -- The own ack with `took` is these three steps, and they make its entry.
  pub record StepsMakeAck : Type 0 where
    pub is_acked : acked O i O.id None (sends_each O t.random to state)
        ≡ step O.primitives O.id (state.kept i O.id) (spent_and_sealed O t to i state)
    pub makes : (secret : Option Bytes) (b : HeldBook)
        → StepsOwn kem O (ids_named h) (spent_and_sealed O t to i state) (state.kept i O.id) secret b
        → MakesEntry kem O h (Made p t) state secret b

  -- Without `took` it is the first two, and gives no update secret.
  pub record SpendingMakesAck : Type 0 where
    pub makes : (b : HeldBook) → HeldStands kem O (ids_named h) b (spent_and_sealed O t to i state)
        → MakesEntry kem O h (Made p t) state None b

module _ {K P : Type 0} (kem : Ghosts K P) where
  -- An own ack with `took`, whose parts were sealed to these ids
  abbrev pub OwnAckSteps : Type 0
  OwnAckSteps = (O : Owner) (h : History) (p : Packet) (t : Given) (to : List Id) (state : BookState) (i : Id)
      → p.header.kind ≡ Ack i true → p.header.sender ≡ O.id
      → sealed_to O.primitives t p.parts state ≡ sends_each O t.random to state
      → StepsMakeAck kem O h p t to state i

  -- and one without
  abbrev pub OwnAckSpends : Type 0
  OwnAckSpends = (O : Owner) (h : History) (p : Packet) (t : Given) (to : List Id) (state : BookState) (i : Id)
      → p.header.kind ≡ Ack i false → p.header.sender ≡ O.id
      → sealed_to O.primitives t p.parts state ≡ sends_each O t.random to state
      → SpendingMakesAck kem O h p t to state i
