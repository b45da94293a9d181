-- Commands whose messages send a seed and carry no cards: an update, and a remove. docs/GROUP.md, "The reference
-- member".
use Rattle.std.specs.Prelude.{◌≡◌, List, Some}
use Rattle.kem_trait.specs.declared.kem.Kem.{Ghosts}
use Rattle.group_fields.specs.declared.header.Kind.{Kind}
use Rattle.group_fields.specs.declared.header.Kind.TheVariants as kinds
use Rattle.group_fields.specs.declared.header.Target.{Target}
use Rattle.group_fields.specs.declared.header.Target.TheVariants as targets
use Rattle.group_model.specs.Sets.{Bytes, Id}
use Rattle.group_model.specs.Messages.{History}
use Rattle.group_model.specs.Membership.{ids_named}
use Rattle.group_model.specs.Packets.{Given}
use Rattle.group_model.specs.Settings.{Owner}
use Rattle.causal_history.specs.Rows.{Row}
use Rattle.member_view.specs.Causes.{GivesNone}
use Rattle.member_book.specs.Laws.{book_of}
use Rattle.secret_book.specs.HeldBooks.{HeldBook}
use Rattle.book_standing.specs.Standing.{HeldStands}
use Rattle.reference_member.specs.Accepted.{IsRunOf, given_by}
use Rattle.reference_member.specs.Members.{IsOwner, Member, known, own_id}
use Rattle.reference_member.specs.Messages.{MadeMessage}
use Rattle.reference_member.specs.Refusals.{member_id, refusals_of}
use Rattle.reference_member.specs.Steps.{Add, Create, Init, Input, Remove, Send, Step, Take, Update}

-- a kind of such a message
abbrev pub IsPlain : Kind → Type 0
IsPlain kinds.Create = ⊥
IsPlain kinds.Update = Unit {0}
IsPlain kinds.Remove = Unit {0}
IsPlain kinds.Add = ⊥
IsPlain kinds.Ack = ⊥
IsPlain kinds.AddAck = ⊥
IsPlain kinds.Text = ⊥

-- the input of a step asks for a message of this kind, for this target
abbrev pub AsksFor : Input → Kind → Target → Type 0
AsksFor (Init inviter height) kind target = ⊥
AsksFor (Create cards) kind target = ⊥
AsksFor (Add card) kind target = ⊥
AsksFor (Remove y) kind target = (kind ≡ kinds.Remove) × (target ≡ targets.Member (member_id y))
AsksFor Update kind target = (kind ≡ kinds.Update) × (target ≡ targets.Nothing)
AsksFor (Send text) kind target = ⊥
AsksFor (Take packet) kind target = ⊥

-- what a step with these random bytes is given
abbrev pub given_to : Input → (random : Bytes) → Given
given_to input random = given_by (record { input = input; random = random })

module _ {K P : Type 0} (kem : Ghosts K P) (rule : History → List Id) where
  -- The member after steps has this id and these rows, nothing refuses it the input, and its book is held.
  pub record MayMake (me : Id) (rows : List Row) (book : HeldBook) (input : Input) (M : Member) (O : Owner)
      : Type 0 where
    pub steps : List Step
    pub made : List MadeMessage
    pub run : IsRunOf kem rule steps (Some M) made
    pub refused_by_none : GivesNone (refusals_of kem rule (Some M) input)
    pub rows_are : M.rows ≡ rows
    pub id : own_id kem M ≡ me
    pub owner : IsOwner kem rule M O
    pub stands : HeldStands kem O (ids_named (known M)) book (book_of O M.log)
