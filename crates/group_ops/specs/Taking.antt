-- What a member that takes a message holds then, and what it learns, by the book of the model: h is the history before
-- the message m, whose part for the member is `part`. docs/GROUP.md, "The book of a member".
use Rattle.std.specs.Prelude.{◌≡◌, Bool, ◌∷◌, Option, None, is_some}
use Rattle.kem_trait.specs.declared.kem.Kem.{Ghosts}
use Rattle.group_model.specs.Sets.{Bytes, Id}
use Rattle.group_model.specs.Knowledge.{or_else}
use Rattle.group_model.specs.Membership.{ids_named}
use Rattle.group_model.specs.Messages.{Kind, Create, Update, Remove, Add, Ack, AddAck, Text, Message, History}
use Rattle.group_model.specs.Pairing.{Part}
use Rattle.group_model.specs.Settings.{Owner}
use Rattle.member_book.specs.Books.{BookState, step_gives}
use Rattle.member_book.specs.BooksAfter.{gained, member_of, seeded}
use Rattle.member_book.specs.Calls as calls
use Rattle.member_book.specs.Calls.{opened, opens_to}
use Rattle.secret_book.specs.HeldBooks.{HeldBook}
use Rattle.book_standing.specs.Standing.{HeldStands}
use Rattle.opened_parts.specs.declared.opening.Taken.{Taken}

abbrev pub IsAck : Kind → Type 0
IsAck (Create members) = ⊥
IsAck Update = ⊥
IsAck (Remove y) = ⊥
IsAck (Add y) = ⊥
IsAck (Ack o took) = Unit {0}
IsAck (AddAck o) = ⊥
IsAck Text = ⊥

module _ {K P : Type 0} (kem : Ghosts K P) (O : Owner) (h : History) (m : Message) where
  -- What a create, an update or a remove does once its seed is known or not: what is kept of it, and its sender's step.
  pub record MovesSeeded (seed : Option Bytes) (state : BookState) (secret : Option Bytes) (b : HeldBook)
      : Type 0 where
    pub learned : secret ≡ step_gives O.primitives m.sender (member_of O seed m.sender) state
    pub stands : HeldStands kem O (ids_named (m ∷ h)) b (seeded O (m ∷ h) m seed state)

  -- A create, an update or a remove is taken, with the seed where it is an own one: the book that is held then is the
  -- one of the model, and what was learned is the update secret of that step.
  pub record TakesSeeded (part : Option Part) (own : Option Bytes) (state : BookState) (taken : Taken) (b : HeldBook)
      : Type 0 where
    -- whether the part opened
    pub took : taken.took ≡ is_some (opens_to O m part state)
    pub learned : taken.learned ≡ step_gives O.primitives m.sender
        (member_of O (or_else own (opens_to O m part state)) m.sender) (opened O m part state)
    pub stands : HeldStands kem O (ids_named (m ∷ h)) b (calls.take_seeded O h m part own state)

  -- The ack of an operation is taken.
  pub record TakesAck (i : Id) (took : Bool) (part : Option Part) (state : BookState) (secret : Option Bytes)
      (b : HeldBook) : Type 0 where
    pub learned : secret ≡ gained O m.kind m None (opens_to O m part state) (opened O m part state)
    pub stands : HeldStands kem O (ids_named h) b (calls.take_ack O m i took part state)
