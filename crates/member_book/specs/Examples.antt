-- What the laws of the book say of the example of three members. docs/GROUP.md, "Lawful worlds that there are".
use Rattle.std.specs.Prelude.{◌≡◌, List, [], ◌∷◌, Some, codes}
use Rattle.group_model.specs.Sets.{Bytes, Id}
use Rattle.group_model.specs.Settings.{owner_in}
use Rattle.group_model.specs.Packets.{Packet}
use Rattle.group_model.specs.Logs.{Took, Made, hist}
use Rattle.group_model.specs.Knowledge.{events, chain_known}
use Rattle.group_model.specs.Parts.{parts_of}
use Rattle.group_model.specs.Worlds.{Turns, log_of, Moment}
use Rattle.group_model.specs.Agreement.{MadeBy}
use Rattle.group_model.specs.Examples.{ada, bob, cyd, question, forwarded, ThreeMembers}
use Rattle.member_book.specs.Books.{BookState, sealed_to}
use Rattle.member_book.specs.BooksAfter.{book_after, learned, text_in}
use Rattle.member_book.specs.Standing.{BookStands}
use Rattle.member_book.specs.Laws.{book_of, part_of}
use Rattle.member_book.specs.Calls.{by_calls, sends_each}
use Rattle.member_book.specs.Places.{PlaceBook, ByPlaces}
use Rattle.member_book.specs.PairStates.{PairState, PairStands}

-- The book reads the question at its entry in ada's log, and the calls of a text make the book after it
pub record QuestionRead (e : ThreeMembers) : Type 0 where
  pub packet : Packet
  pub before : Turns
  pub moment : Moment e.world ada (Took packet) before
  pub is : packet.header ≡ question
  pub reads : text_in (owner_in e.setting ada) (Took packet) (book_of (owner_in e.setting ada) (log_of before ada))
      ≡ Some (codes "hello")
  pub by_calls : (b : BookState) → book_after (owner_in e.setting ada) (hist (log_of before ada)) (Took packet) b
      ≡ by_calls (owner_in e.setting ada) (hist (log_of before ada)) (Took packet) b

-- The book before bob's ack that forwards gives its parts and its update secret, and sends one part to each addressee
pub record ForwardedByBook (e : ThreeMembers) (k : MadeBy e.world forwarded) : Type 0 where
  pub learned : learned (owner_in e.setting bob) (Made k.packet k.given)
      (book_of (owner_in e.setting bob) (log_of k.before bob)) ≡ Some e.secret
  pub addressees : List Id
  pub parts : parts_of (part_of (owner_in e.setting bob) k.packet k.given
      (book_of (owner_in e.setting bob) (log_of k.before bob))) addressees ≡ Some k.packet.parts
  pub sends : (b : BookState) → sealed_to e.setting.primitives k.given k.packet.parts b
      ≡ sends_each (owner_in e.setting bob) k.given.random addressees b

-- The books of three members stand for their logs, which send their owners nothing; ada's text chain is known; each
-- pairing has a state; and books of three places serve for books of their ids
pub record BooksOfThreeMembers (e : ThreeMembers) : Type 0 where
  pub stands : (x : Id)
      → BookStands (owner_in e.setting x) (log_of e.world x) (book_of (owner_in e.setting x) (log_of e.world x))
  pub none_to_self : (x : Id) → events e.setting.primitives (owner_in e.setting x).card x x (log_of e.world x) ≡ []
  pub chain : (k : Bytes)
      × (chain_known e.setting.primitives (owner_in e.setting ada).card ada (log_of e.world ada) ada ≡ Some k)
  pub question_read : QuestionRead e
  pub made : MadeBy e.world forwarded
  pub forwarded_by_book : ForwardedByBook e made
  pub pairing : (y : Id) → (k : PairState) × PairStands (owner_in e.setting ada).card (e.setting.public_key y)
      (events e.setting.primitives (owner_in e.setting ada).card ada y (log_of e.world ada)) k
  pub by_places : (b : PlaceBook) → ByPlaces (ada ∷ bob ∷ cyd ∷ []) 2 b
