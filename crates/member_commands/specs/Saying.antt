-- What the call of a text makes: the member's next message, and the text of its entry. docs/GROUP.md, "The reference
-- member" and "Knowledge".
use Rattle.std.specs.Prelude.{◌≡◌, ◌⊎◌, ℕ, List, Option, Some, None}
use Rattle.kem_trait.specs.declared.kem.Kem.{Ghosts}
use Rattle.group_fields.specs.declared.header.Header.{Header}
use Rattle.group_fields.specs.declared.header.Kind.TheVariants as kinds
use Rattle.group_fields.specs.declared.header.Target.TheVariants as targets
use Rattle.group_model.specs.Sets.{Bytes, Id}
use Rattle.group_model.specs.Messages.{History}
use Rattle.group_model.specs.Knowledge.{text_at}
use Rattle.group_model.specs.Logs.{Made}
use Rattle.group_model.specs.Marks.{IsPlace}
use Rattle.group_model.specs.Membership.{ids_named}
use Rattle.group_model.specs.Settings.{Owner}
use Rattle.group_keys.specs.Primitives.{primitives_of}
use Rattle.group_messages.specs.Messages.{message_of}
use Rattle.causal_history.specs.Rows.{IsKept, Row, history_of}
use Rattle.secret_book.specs.HeldBooks.{HeldBook, chained}
use Rattle.app_messages.specs.Texts.{IsTextBody}
use Rattle.reference_member.specs.Members.{Member}
use Rattle.reference_member.specs.Messages.{MadeMessage, as_packet}
use Rattle.reference_member.specs.Steps.{Send}
use Rattle.next_messages.specs.Due.{IsNew}
use Rattle.next_messages.specs.Headers.{IsNextHeader}
use Rattle.member_commands.specs.Commands.{given_to}
use Rattle.member_commands.specs.Making.{IsMadeBy, MakesNext, closed}
use Rattle.member_commands.specs.Refusing.{HasManyHeads, IsRepeated}
use Rattle.member_commands.specs.declared.making.MadeNext.{MadeNext}
use Rattle.member_commands.specs.declared.refusal.NotMade.{NotMade}
use Rattle.member_commands.specs.declared.refusal.NotMade.TheVariants.{Memory, NoUsableKey, Repeated, Unfit}

-- why a text isn't sealed by a text chain
abbrev pub IsShut : (chain : Option Bytes) → NotMade → Type 0
IsShut chain NoUsableKey = ⊥
IsShut chain Repeated = ⊥
IsShut chain Unfit = chain ≡ None
IsShut chain Memory = Unit {0}

module _ {K P : Type 0} (kem : Ghosts K P) (rows : List Row) (random : Bytes) (me : Id) where
  -- the header is that of the member's next text, whatever body it has
  abbrev pub IsTextHeader : Header → Type 0
  IsTextHeader header = IsNextHeader kem.SET rows me random kinds.Text targets.Nothing header

  -- What the call does, one after the other: a header without its body's digest, and the body, by the next message key
  -- of the own place.
  pub record IsSaid (place : ℕ) (text : Bytes) (header : Header) (body : Bytes) (before after : HeldBook) : Type 0 where
    pub kept : IsKept rows
    pub own : IsPlace (ids_named (history_of rows)) place me
    pub begun : IsTextHeader header
    pub sealed : IsTextBody (primitives_of kem) (before.chain place) text body
    pub moved : after ≡ chained (primitives_of kem) place before
    pub new : IsNew rows (message_of (closed header body))

  -- why there is no next text: by a header that it has, whatever digest of a body that has
  abbrev pub IsUnsaid : (place : ℕ) → HeldBook → NotMade → Type 0
  IsUnsaid place book NoUsableKey = ⊥
  IsUnsaid place book Repeated = (header : Header) × IsTextHeader header × IsRepeated rows header
  IsUnsaid place book Unfit = HasManyHeads rows ⊎ (book.chain place ≡ None)
  IsUnsaid place book Memory = Unit {0}

module _ {K P : Type 0} (kem : Ghosts K P) (rule : History → List Id) (M : Member) (O : Owner) (random text : Bytes)
  where
    -- the entry of the message has the text that was sent
    abbrev pub HasSent : MadeMessage → Type 0
    HasSent next =
        text_at O.primitives O.card O.id (Made (as_packet kem M next) (given_to (Send text) random)) M.log ≡ Some text

    -- The message with this header and body is the one that a `Send` of the text asks the member for.
    pub record IsSaidBy (header : Header) (body : Bytes) (rows : List Row) (book : HeldBook) : Type 0 where
      pub is : IsMadeBy kem rule M O (given_to (Send text) random) (Send text) header body rows book None
      pub says : HasSent is.next

    -- It was made so.
    pub record SaysNext (made : MadeNext) (rows : List Row) (book : HeldBook) : Type 0 where
      pub makes : MakesNext kem rule M O (given_to (Send text) random) (Send text) made rows book
      pub says : HasSent makes.is.next
