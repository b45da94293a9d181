-- What a message of any kind makes of a member's book, and what the member learns of it, by the entry that the message
-- leaves in the member's log. docs/GROUP.md, "The book of a member".
use Rattle.std.specs.Prelude.{◌≡◌, false, ◌∷◌, Option, None, is_some}
use Rattle.kem_trait.specs.declared.kem.Kem.{Ghosts}
use Rattle.group_model.specs.Sets.{Bytes}
use Rattle.group_model.specs.Logs.{LogEntry, Joined, Took, Made, header_of, rows_of}
use Rattle.group_model.specs.Membership.{ids_named}
use Rattle.group_model.specs.Messages.{Kind, Create, Update, Remove, Add, Ack, AddAck, Text, History}
use Rattle.group_model.specs.Settings.{Owner}
use Rattle.group_model.specs.Validity.{IsOperation}
use Rattle.member_book.specs.Books.{BookState, welcomed}
use Rattle.member_book.specs.BooksAfter as books
use Rattle.member_book.specs.BooksAfter.{book_after, part_opens, text_in}
use Rattle.secret_book.specs.HeldBooks.{HeldBook}
use Rattle.book_standing.specs.Standing.{HeldStands}
use Rattle.opened_parts.specs.declared.opening.Taken.{Taken}

-- what the entry's part to the owner opens to, in the book that it is opened in; an own message has none
abbrev pub opens_to : Owner → LogEntry → BookState → Option Bytes
opens_to O (Joined p) b = part_opens O p (welcomed O.primitives p.rows b)
opens_to O (Took p) b = part_opens O p b
opens_to O (Made p t) b = None

-- an own message of the kind steps its sender's ratchet as soon as its parts are sealed: any but an ack and a text
abbrev pub StepsAsMade : Kind → Type 0
StepsAsMade (Create members) = Unit {0}
StepsAsMade Update = Unit {0}
StepsAsMade (Remove y) = Unit {0}
StepsAsMade (Add y) = Unit {0}
StepsAsMade (Ack o took) = ⊥
StepsAsMade (AddAck o) = Unit {0}
StepsAsMade Text = ⊥

module _ {K P : Type 0} (kem : Ghosts K P) (O : Owner) (h : History) (e : LogEntry) (state : BookState) where
  -- The message of the entry is taken, over the history before it: the book that is held then is the one after the
  -- entry, and what was learned is the update secret that the entry gives.
  pub record TakesEntry (taken : Taken) (b : HeldBook) : Type 0 where
    pub stands : HeldStands kem O (ids_named (header_of e ∷ rows_of e h)) b (book_after O h e state)
    pub learned : taken.learned ≡ books.learned O e state
    -- whether the part of an operation opened; of an answer nothing is said of its part
    pub took : IsOperation (header_of e).kind → taken.took ≡ is_some (opens_to O e state)
    pub answers : (IsOperation (header_of e).kind → ⊥) → taken.took ≡ false

  -- The own message of the entry is taken, once its parts are sealed.
  pub record MakesEntry (secret : Option Bytes) (b : HeldBook) : Type 0 where
    pub stands : HeldStands kem O (ids_named (header_of e ∷ rows_of e h)) b (book_after O h e state)
    pub learned : secret ≡ books.learned O e state

  -- The text of the entry is read, or made. It gives no update secret.
  pub record HasText (text : Option Bytes) (b : HeldBook) : Type 0 where
    pub stands : HeldStands kem O (ids_named (header_of e ∷ rows_of e h)) b (book_after O h e state)
    pub reads : text ≡ text_in O e state
    pub no_secret : books.learned O e state ≡ None
