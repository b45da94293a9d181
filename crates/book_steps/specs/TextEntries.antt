-- Texts that are read and made, by the entries that they leave. docs/GROUP.md, "Knowledge".
use Rattle.std.specs.Prelude.{◌≡◌, ℕ, Option, [], Some, None}
use Rattle.kem_trait.specs.declared.kem.Kem.{Ghosts}
use Rattle.group_model.specs.Sets.{Bytes}
use Rattle.group_model.specs.Knowledge.{text_opened}
use Rattle.group_model.specs.Logs.{Made, Took}
use Rattle.group_model.specs.Marks.{IsPlace}
use Rattle.group_model.specs.Membership.{ids_named}
use Rattle.group_model.specs.Messages.{History, Text}
use Rattle.group_model.specs.Packets.{Given, Packet, part_for}
use Rattle.group_model.specs.Settings.{Owner}
use Rattle.member_book.specs.Books as model
use Rattle.member_book.specs.Books.{BookState}
use Rattle.member_book.specs.Places.{id_at}
use Rattle.secret_book.specs.HeldBooks.{HeldBook}
use Rattle.book_standing.specs.Standing.{HeldStands}
use Rattle.book_steps.specs.Entries.{HasText}

module _ {K P : Type 0} (kem : Ghosts K P) where
  -- A text of another that was read at its sender's place has its entry.
  abbrev pub TextsHeard : Type 0
  TextsHeard = (O : Owner) (h : History) (p : Packet) (place : ℕ) (state : BookState) (text : Option Bytes)
      (b : HeldBook) → p.header.kind ≡ Text → part_for p.parts O.id ≡ None → IsPlace (ids_named h) place p.header.sender
      → text ≡ text_opened O.primitives (state.chain (id_at (ids_named h) place)) p.sealed
      → HeldStands kem O (ids_named h) b (model.chained O.primitives (id_at (ids_named h) place) state)
      → HasText kem O h (Took p) state text b

  -- An own text that was made at the own place has its entry.
  abbrev pub TextsSaid : Type 0
  TextsSaid = (O : Owner) (h : History) (p : Packet) (t : Given) (me : ℕ) (state : BookState) (b : HeldBook)
      → p.header.kind ≡ Text → p.header.sender ≡ O.id → p.parts ≡ [] → IsPlace (ids_named h) me O.id
      → HeldStands kem O (ids_named h) b (model.chained O.primitives (id_at (ids_named h) me) state)
      → HasText kem O h (Made p t) state (Some t.text) b
