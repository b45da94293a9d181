-- Members that a book meets, in the order in which their history names them. docs/GROUP.md, "The book of a member".
use Rattle.std.specs.Prelude.{◌≡◌, ◌≢◌, ℕ, true, List, length, map, IsSome}
use Rattle.kem_trait.specs.declared.kem.Kem.{Ghosts}
use Rattle.group_fields.specs.Cards.{HasSpelling, card_id}
use Rattle.group_fields.specs.declared.card.Card.{Card}
use Rattle.group_model.specs.Sets.{Id, In, IsDistinct}
use Rattle.group_model.specs.Marks.{IsPlace}
use Rattle.group_model.specs.Settings.{Owner}
use Rattle.member_book.specs.Books.{BookState}
use Rattle.secret_book.specs.HeldBooks.{BookTable, held}
use Rattle.book_standing.specs.Standing.{HeldStands}

-- Exactly the members of these ids were met, in the order of their places, and each but the own one has a pairing.
pub record AreMet (ids : List Id) (me : Id) (b : BookTable) : Type 0 where
  pub count : length b.places ≡ length ids
  pub others : (p : ℕ) (x : Id) → IsPlace ids p x → x ≢ me → IsSome ((held b).pairing p)

-- the owner says of each of the cards what key it has
abbrev pub SaysKeys : Owner → List Card → Type 0
SaysKeys O cards = (card : Card) → In card cards → O.public_key (card_id card) ≡ card.kem_public

-- With these ids instead of the others before, what is held stands for the same book of the model, of each owner that
-- says of the cards what they say.
pub record MeetsMore {K P : Type 0} (kem : Ghosts K P) (me : Id) (cards : List Card) (before after : List Id)
    (old new : BookTable) : Type 0 where
  pub met : AreMet after me new
  pub stands : (O : Owner) (state : BookState) → O.id ≡ me → SaysKeys O cards
      → HeldStands kem O before (held old) state → HeldStands kem O after (held new) state

-- the cards are of members that are none of these, and of one each
pub record AreNew (ids : List Id) (cards : List Card) : Type 0 where
  pub distinct : IsDistinct (map card_id cards)
  pub others : (card : Card) → In card cards → In (card_id card) ids → ⊥

-- each of the cards has a spelling, and its key is a public key
pub record CanMeet {K P : Type 0} (kem : Ghosts K P) (cards : List Card) : Type 0 where
  pub spelled : (card : Card) → In card cards → HasSpelling card
  pub keys : (card : Card) → In card cards → kem.is_public card.kem_public ≡ true
