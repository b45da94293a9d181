-- What the steps of taking an add make of what is held. docs/GROUP.md, "The book of a member".
use Rattle.std.specs.Prelude.{◌≡◌, ℕ, List, length, Option, None}
use Rattle.kem_trait.specs.declared.kem.Kem.{Ghosts}
use Rattle.group_model.specs.Sets.{Bytes, Id}
use Rattle.group_model.specs.Marks.{IsPlace}
use Rattle.group_model.specs.Messages.{Add, Message, History}
use Rattle.group_model.specs.Settings.{Owner}
use Rattle.member_book.specs.Books.{BookState, welcomed}
use Rattle.member_book.specs.BooksAfter.{added, gained}
use Rattle.secret_book.specs.HeldBooks.{BookTable, HeldBook, held}
use Rattle.book_standing.specs.Standing.{HeldStands}

-- the ids have their places among the others as well
abbrev pub HavePlaces : (ids others : List Id) → Type 0
HavePlaces ids others = (p : ℕ) (x : Id) → IsPlace ids p x → IsPlace others p x

module _ {K P : Type 0} (kem : Ghosts K P) where
  -- The senders of the messages, which are among these ids, are forgotten: of each its ratchet and its text chain.
  pub record SendersForgotten (ids : List Id) (messages : History) (before after : BookTable) : Type 0 where
    pub stands : (O : Owner) (others : List Id) (state : BookState) → HavePlaces ids others
        → HeldStands kem O others (held before) state
        → HeldStands kem O others (held after) (welcomed O.primitives messages state)
    pub pairings : (held after).pairing ≡ (held before).pairing
    pub places : length after.places ≡ length before.places

  -- An add of y moves the book, and gives the update secret.
  pub record MovesAdd (O : Owner) (m : Message) (y : Id) (ids : List Id) (state : BookState) (secret : Option Bytes)
      (b : HeldBook) : Type 0 where
    pub learned : secret ≡ gained O (Add y) m None None state
    pub stands : HeldStands kem O ids b (added O m y state)
