-- The bodies of texts, and that they are those of the model. docs/GROUP.md, "Knowledge".
use Rattle.std.specs.Prelude.{◌≡◌, ◌++◌, ℕ, List, [], Option, Some, None}
use Rattle.std.specs.Int.{w16, to_be_bytes}
use Rattle.kem_trait.specs.declared.kem.Kem.{Ghosts}
use Rattle.group_fields.specs.Layouts.{Spells}
use Rattle.wire_codec.specs.Packets.{Sealed, text_body}
use Rattle.group_model.specs.Sets.{Bytes, Id}
use Rattle.group_model.specs.Primitives.{Primitives}
use Rattle.group_model.specs.Knowledge.{text_sealed, text_opened}
use Rattle.group_model.specs.Settings.{Owner}
use Rattle.group_keys.specs.Primitives.{primitives_of}
use Rattle.member_book.specs.Books as model
use Rattle.member_book.specs.Books.{BookState}
use Rattle.member_book.specs.Places.{id_at}
use Rattle.secret_book.specs.HeldBooks.{HeldBook, chained}
use Rattle.book_standing.specs.Standing.{HeldStands}

-- the bytes of the body of a text of this size, whose sealed bytes, with the tag behind them, are these
abbrev pub body_bytes : (size : ℕ) → (sealed : Bytes) → Bytes
body_bytes size sealed = to_be_bytes w16 size ++ sealed

-- Bytes spell the body of a text that was sealed by a text chain.
pub record IsTextBody (K : Primitives) (chain : Option Bytes) (text bytes : Bytes) : Type 0 where
  pub carried : Sealed
  pub sealed : text_sealed K chain text ≡ Some (carried.body ++ carried.tag)
  pub spelled : Spells text_body bytes (record { cards = []; parts = []; history = None; text = Some carried })

module _ {K P : Type 0} (kem : Ghosts K P) (O : Owner) where
  -- The texts of a place are those of the member there, by what the model knows of its text chain, and a text moves
  -- that chain on.
  pub record TextsStand (ids : List Id) (p : ℕ) (b : HeldBook) (state : BookState) : Type 0 where
    pub sealed : (text : Bytes) → text_sealed (primitives_of kem) (b.chain p) text
        ≡ text_sealed O.primitives (state.chain (id_at ids p)) text
    pub opened : (bytes : Bytes) → text_opened (primitives_of kem) (b.chain p) bytes
        ≡ text_opened O.primitives (state.chain (id_at ids p)) bytes
    pub moves : HeldStands kem O ids (chained (primitives_of kem) p b) (model.chained O.primitives (id_at ids p) state)
