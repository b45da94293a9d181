-- What a member that takes an add or its answer holds then, and what it learns, by the book of the model: h is the
-- history before the message m, whose part for the member is `part`. docs/GROUP.md, "The book of a member".
use Rattle.std.specs.Prelude.{◌≡◌, cond, ◌∷◌, Option, None, is_some, bytes_eq}
use Rattle.kem_trait.specs.declared.kem.Kem.{Ghosts}
use Rattle.group_model.specs.Sets.{Bytes, Id}
use Rattle.group_model.specs.Membership.{ids_named}
use Rattle.group_model.specs.Messages.{Add, AddAck, Message, History}
use Rattle.group_model.specs.Pairing.{Part}
use Rattle.group_model.specs.Settings.{Owner}
use Rattle.member_book.specs.Books.{BookState, hand, welcomed}
use Rattle.member_book.specs.BooksAfter.{gained}
use Rattle.member_book.specs.Calls as calls
use Rattle.member_book.specs.Calls.{opened, opens_to}
use Rattle.secret_book.specs.HeldBooks.{HeldBook}
use Rattle.book_standing.specs.Standing.{HeldStands}
use Rattle.opened_parts.specs.declared.opening.Taken.{Taken}

module _ {K P : Type 0} (kem : Ghosts K P) (O : Owner) (h : History) (m : Message) where
  -- the book that an add of y is taken with: who is added has forgotten the senders of what is handed on
  abbrev pub joined : (y : Id) → BookState → BookState
  joined y b = cond (bytes_eq y O.id) (welcomed O.primitives h b) b

  -- the book once the part was opened, and the ratchet in it taken where it is this member's to take
  abbrev pub heard : (y : Id) → Option Part → BookState → BookState
  heard y part b = hand m.sender (cond (bytes_eq y O.id) (opens_to O m part b) None) (opened O m part b)

  -- An add of y is taken: the book that is held then is the one of the model, and what was learned is the update secret
  -- of the add.
  pub record TakesAdd (y : Id) (part : Option Part) (state : BookState) (taken : Taken) (b : HeldBook) : Type 0 where
    -- whether the part opened
    pub took : taken.took ≡ is_some (opens_to O m part (joined y state))
    pub learned : taken.learned ≡ gained O (Add y) m None None (heard y part (joined y state))
    pub stands : HeldStands kem O (ids_named (m ∷ h)) b (calls.take_add O m y part (joined y state))

  -- The answer to an add of another is taken.
  pub record TakesAddAck (i : Id) (part : Option Part) (state : BookState) (secret : Option Bytes) (b : HeldBook)
      : Type 0 where
    pub learned : secret
        ≡ gained O (AddAck i) m None None (hand m.sender (opens_to O m part state) (opened O m part state))
    pub stands : HeldStands kem O (ids_named h) b (calls.take_add_ack O m part state)
