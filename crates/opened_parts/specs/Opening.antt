-- What opening a part of a place is by the book of the model. docs/GROUP.md, "The book of a member".
use Rattle.std.specs.Prelude.{◌≡◌, ℕ, List, Option}
use Rattle.std.specs.Option.{option_and_then}
use Rattle.kem_trait.specs.declared.kem.Kem.{Ghosts}
use Rattle.group_model.specs.Sets.{Bytes, Id}
use Rattle.group_model.specs.Knowledge.{payload_in}
use Rattle.group_model.specs.Pairing.{Part}
use Rattle.group_model.specs.Settings.{Owner}
use Rattle.group_parts.specs.Parts.{part_read}
use Rattle.member_book.specs.Books.{BookState, open_from}
use Rattle.member_book.specs.Places.{id_at}
use Rattle.secret_book.specs.HeldBooks.{HeldBook}
use Rattle.book_standing.specs.Standing.{HeldStands}

module _ {K P : Type 0} (kem : Ghosts K P) where
  -- the part that is given as bytes; bytes that are those of no part are none
  abbrev pub given_part : Option Bytes → Option Part
  given_part bytes = option_and_then (part_read kem) bytes

  -- The part of the place opens to the answer, and the book that is held then is the one of the model with the part
  -- opened.
  pub record Opens (O : Owner) (ids : List Id) (p : ℕ) (part : Option Part) (answer : Option Bytes) (state : BookState)
      (b : HeldBook) : Type 0 where
    pub payload : answer ≡ payload_in O.primitives O.card (state.events (id_at ids p)) part
    pub stands : HeldStands kem O ids b (open_from O.primitives O.card (id_at ids p) part state)
