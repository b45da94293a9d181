-- Why a call makes no message.
use Rattle.std.specs.Prelude.{◌≡◌, ◌⊎◌, ℕ, ◌<◌, ◌∷◌, Bool, true, List, length}
use Rattle.kem_trait.specs.declared.kem.Kem.{Ghosts}
use Rattle.kem_trait.specs.declared.kem.KemRefusal.{KemRefusal}
use Rattle.kem_trait.specs.declared.kem.KemRefusal.TheVariants as kems
use Rattle.group_fields.specs.declared.header.Header.{Header}
use Rattle.group_fields.specs.declared.header.Kind.{Kind}
use Rattle.group_fields.specs.declared.header.Target.{Target}
use Rattle.group_model.specs.Sets.{Bytes, Id}
use Rattle.group_model.specs.Messages.{AreHeads, History, Stands}
use Rattle.group_model.specs.Membership.{ids_named}
use Rattle.group_keys.specs.Primitives.{primitives_of}
use Rattle.group_messages.specs.Messages.{message_of}
use Rattle.causal_history.specs.Rows.{Row, history_of}
use Rattle.secret_book.specs.HeldBooks.{BookTable, HeldBook}
use Rattle.body_parts.specs.Sending.{CanReach}
use Rattle.next_messages.specs.Bodies.{LacksDraws}
use Rattle.next_messages.specs.Due.{IsDueTo}
use Rattle.next_messages.specs.Headers.{IsNextHeader}
use Rattle.member_commands.specs.declared.refusal.NotMade.{NotMade}
use Rattle.member_commands.specs.declared.refusal.NotMade.TheVariants.{Memory, NoUsableKey, Repeated, Unfit}

-- a refusal of a key encapsulation
abbrev pub by_kem : KemRefusal → NotMade
by_kem kems.NoUsableKey = NoUsableKey
by_kem kems.Memory = Memory

-- With these refusals nothing was sealed yet, and the book is as it was.
abbrev pub StaysAfter : NotMade → (before after : BookTable) → Type 0
StaysAfter NoUsableKey before after = after ≡ before
StaysAfter Repeated before after = Unit {0}
StaysAfter Unfit before after = after ≡ before
StaysAfter Memory before after = Unit {0}

-- parts can be sent to the places below the number that have their bits
abbrev pub AreReached : HeldBook → (count : ℕ) → (bits : ℕ → Bool) → Type 0
AreReached b count bits = (p : ℕ) → p < count → bits p ≡ true → CanReach b p

module _ (rows : List Row) where
  -- a row has the id of the header's message
  abbrev pub IsRepeated : Header → Type 0
  IsRepeated header = Stands (history_of rows) (message_of header).id

  -- the history has more heads than a header may have predecessors
  abbrev pub HasManyHeads : Type 0
  HasManyHeads = (ids : List Id) → AreHeads (history_of rows) ids → 32 < length ids

  -- why there is no header
  abbrev pub IsUnbegun : NotMade → Type 0
  IsUnbegun NoUsableKey = ⊥
  IsUnbegun Repeated = ⊥
  IsUnbegun Unfit = HasManyHeads
  IsUnbegun Memory = Unit {0}

  -- why the message of a header isn't taken
  abbrev pub IsUntaken : Header → NotMade → Type 0
  IsUntaken header NoUsableKey = ⊥
  IsUntaken header Repeated = IsRepeated header
  IsUntaken header Unfit = ⊥
  IsUntaken header Memory = Unit {0}

module _ {K P : Type 0} (kem : Ghosts K P) (rule : History → List Id) (rows : List Row) (random : Bytes) where
  -- for one of those whom the header's message is due to, the random bytes give no usable key
  pub record LacksKey (header : Header) : Type 0 where
    pub bits : ℕ → Bool
    pub due : IsDueTo rule rows header bits
    pub lacks : LacksDraws (primitives_of kem) (ids_named (message_of header ∷ history_of rows)) bits random

  -- one of them can't be reached
  pub record LacksReach (header : Header) (book : HeldBook) : Type 0 where
    pub bits : ℕ → Bool
    pub due : IsDueTo rule rows header bits
    pub unreached : AreReached book (length (ids_named (history_of rows))) bits → ⊥

  -- why there is no body for a header
  abbrev pub IsUnsealed : Header → HeldBook → NotMade → Type 0
  IsUnsealed header book NoUsableKey = LacksKey header
  IsUnsealed header book Repeated = IsRepeated rows header
  IsUnsealed header book Unfit = LacksReach header book
  IsUnsealed header book Memory = Unit {0}

  -- why there is no next message: by a header that it has, whatever digest of a body that has
  abbrev pub IsUnmade : (me : Id) → Kind → Target → HeldBook → NotMade → Type 0
  IsUnmade me kind target book NoUsableKey =
      (header : Header) × IsNextHeader kem.SET rows me random kind target header × LacksKey header
  IsUnmade me kind target book Repeated =
      (header : Header) × IsNextHeader kem.SET rows me random kind target header × IsRepeated rows header
  IsUnmade me kind target book Unfit =
      HasManyHeads rows
      ⊎ ((header : Header) × IsNextHeader kem.SET rows me random kind target header × LacksReach header book)
  IsUnmade me kind target book Memory = Unit {0}
