-- Why a member refuses a step, in order. docs/GROUP.md, "The reference member".
use Rattle.std.specs.Prelude.{◌≡◌, ◌≢◌, ◌⊎◌, ℕ, ◌<◌, ◌≤◌, ◌+◌, ◌^◌, cond, nat_eq, List, [], ◌∷◌, ◌++◌, length}
use Rattle.std.specs.Prelude.{slice_get, Option, Some, None}
use Rattle.kem_trait.specs.declared.kem.Kem.{Ghosts}
use Rattle.group_fields.specs.Cards.{card_id}
use Rattle.group_fields.specs.declared.card.Card.{Card}
use Rattle.group_fields.specs.declared.ids.MemberId.{MemberId}
use Rattle.group_model.specs.Sets.{Bytes, Id, In}
use Rattle.group_model.specs.Messages.{History}
use Rattle.group_model.specs.Membership.{ids_named}
use Rattle.group_model.specs.Validity.{HasStepped}
use Rattle.causal_history.specs.Rows.{Row}
use Rattle.member_view.specs.Causes.{Cause, Causes, IsFirst, each, unless, when}
use Rattle.wire_codec.specs.Packets.{IsMalformed, IsPacket, Packet as ReadPacket}
use Rattle.causal_cast.specs.Verdicts.{verdicts}
use Rattle.causal_cast.specs.declared.verdict.Verdict.{Verdict}
use Rattle.causal_cast.specs.declared.verdict.Verdict.TheVariants as answers
use Rattle.welcome_history.specs.Joining.{first_verdicts}
use Rattle.reference_member.specs.Members.{IsIn, Member, joining, judging, known, made_count, own_id}
use Rattle.reference_member.specs.Steps.{Add, Create, Init, Input, Remove, Send, Take, Update}
use Rattle.reference_member.specs.declared.refusal.Refusal.{Refusal}
use Rattle.reference_member.specs.declared.refusal.Refusal.TheVariants as refusals

-- an id as a value of its type
abbrev pub member_id : Id → MemberId
member_id id = record { 0 = record { 0 = id } }

-- a card by its number, from 1, and a place in it
pub record CardPlace : Type 0 where
  pub number : ℕ
  pub place : ℕ

-- of the cards, the first that is such stands at the index
pub record IsFirstCard (cards : List Card) (IsSuch : ℕ → Card → Type 0) (index : ℕ) (card : Card) : Type 0 where
  pub there : slice_get cards index ≡ Some card
  pub such : IsSuch index card
  pub first : (i : ℕ) (other : Card) → i < index → slice_get cards i ≡ Some other → IsSuch i other → ⊥

-- the id is that of the first card that is such
pub record IsOfFirst (cards : List Card) (IsSuch : ℕ → Card → Type 0) (id : MemberId) : Type 0 where
  pub index : ℕ
  pub card : Card
  pub is_first : IsFirstCard cards IsSuch index card
  pub has_id : id.0.0 ≡ card_id card

-- no card is such
abbrev pub NoneIs : List Card → (IsSuch : ℕ → Card → Type 0) → Type 0
NoneIs cards IsSuch = (i : ℕ) (card : Card) → slice_get cards i ≡ Some card → IsSuch i card → ⊥

module _ {K P : Type 0} (kem : Ghosts K P) (rule : History → List Id) (M : Member) where
  -- it was in a group, and is a member no more
  pub record IsOut : Type 0 where
    pub joined : M.rows ≢ []
    pub out : IsIn kem rule M → ⊥

  -- ---- packets

  -- all verdicts on a packet, in order: those of a member that is in no group yet, or those over its history
  abbrev pub verdicts_over : List Row → ReadPacket → Causes Verdict
  verdicts_over [] packet = first_verdicts (joining kem rule M) packet
  verdicts_over (row ∷ rows) packet = verdicts (judging kem rule M) packet

  -- the verdict on bytes: what no packet has is malformed, and else the first verdict that holds of the packet
  abbrev pub IsVerdict : Bytes → Verdict → Type 0
  IsVerdict bytes verdict =
      ((place : ℕ) × IsMalformed bytes place × (verdict ≡ answers.Malformed place))
      ⊎ ((packet : ReadPacket) × IsPacket packet bytes × IsFirst (verdicts_over M.rows packet) verdict)

  -- a packet is refused by its verdict, unless that is that it is ready
  abbrev pub on_packet : Bytes → Cause Refusal
  on_packet bytes = record {
    gives = λ refusal. (verdict : Verdict) × IsVerdict bytes verdict × (verdict ≢ answers.Ready)
        × (refusal ≡ refusals.Packet verdict);
    passes = IsVerdict bytes answers.Ready;
  }

  -- ---- cards

  -- the place at which a card is refused: its set is another, or its key is none
  abbrev pub card_fault : Card → Option ℕ
  card_fault card =
      cond (nat_eq card.set kem.SET) (cond (kem.is_public card.kem_public) None (Some 91)) (Some 2)

  abbrev pub IsFaulty : (place : ℕ) → ℕ → Card → Type 0
  IsFaulty place index card = card_fault card ≡ Some place

  abbrev pub HasFault : ℕ → Card → Type 0
  HasFault index card = (place : ℕ) × IsFaulty place index card

  -- the first card that is refused, and its place
  pub record IsFirstFault (cards : List Card) (at : CardPlace) : Type 0 where
    pub index : ℕ
    pub card : Card
    pub is_first : IsFirstCard cards HasFault index card
    pub number : at.number ≡ index + 1
    pub place : card_fault card ≡ Some at.place

  -- the card is given twice, or its member is named in the history
  abbrev pub IsThere : List Card → ℕ → Card → Type 0
  IsThere cards index card =
      In (card_id card) (ids_named (known M))
      ⊎ ((i : ℕ) × (other : Card) × (i ≢ index) × (slice_get cards i ≡ Some other) × (card_id other ≡ card_id card))

  abbrev pub IsOthers : ℕ → Card → Type 0
  IsOthers index card = card.inviter.0.0 ≢ own_id kem M

  -- the member of the card is this one
  abbrev pub IsOwn : ℕ → Card → Type 0
  IsOwn index card = card_id card ≡ own_id kem M

  abbrev pub on_cards : List Card → Causes Refusal
  on_cards cards =
      each (NoneIs cards HasFault) (λ at. refusals.NotCard at.number at.place) (IsFirstFault cards)
      ∷ unless (NoneIs cards IsOwn) refusals.SelfTarget
      ∷ each (NoneIs cards (IsThere cards)) refusals.AlreadyMember (IsOfFirst cards (IsThere cards))
      ∷ each (NoneIs cards IsOthers) refusals.WrongInviter (IsOfFirst cards IsOthers)
      ∷ []

  -- ---- steps

  -- there is room for one more message, and a leaf to sign it with
  abbrev pub on_room : Causes Refusal
  on_room =
      unless (length (known M) < 4096) (refusals.HistoryFull (length (known M)))
      ∷ unless (made_count kem M < 2 ^ M.height) (refusals.KeysSpent (made_count kem M))
      ∷ []

  -- what is asked of each command of a member that is in a group
  abbrev pub on_joined : Causes Refusal
  on_joined = when IsOut refusals.Out ∷ unless (M.rows ≢ []) refusals.NotJoined ∷ []

  abbrev pub on_create : List Card → Causes Refusal
  on_create cards =
      when IsOut refusals.Out
      ∷ unless (M.rows ≡ []) refusals.AlreadyJoined
      ∷ (on_cards cards ++ (unless (length cards ≤ 31) refusals.MembersFull ∷ on_room))

  abbrev pub on_add : Card → Causes Refusal
  on_add card =
      on_joined
      ++ (on_cards (card ∷ []) ++ (unless (length (ids_named (known M)) < 32) refusals.MembersFull ∷ on_room))

  abbrev pub on_remove : Id → Causes Refusal
  on_remove target =
      on_joined
      ++ (unless (target ≢ own_id kem M) refusals.SelfTarget
      ∷ unless (In target (rule (known M))) (refusals.UnknownTarget (member_id target))
      ∷ on_room)

  abbrev pub on_send : Bytes → Causes Refusal
  on_send text =
      on_joined
      ++ (unless (length text ≤ 4096) (refusals.TextTooLong (length text))
      ∷ unless (HasStepped (known M) (own_id kem M)) refusals.NoSecret
      ∷ on_room)

  -- the refusals of a member that was made, in order
  abbrev pub on_input : Input → Causes Refusal
  on_input (Init inviter height) = when (Unit {0}) refusals.AlreadyMade ∷ []
  on_input (Create cards) = on_create cards
  on_input (Add card) = on_add card
  on_input (Remove target) = on_remove target
  on_input Update = on_joined ++ on_room
  on_input (Send text) = on_send text
  on_input (Take packet) = on_packet packet ∷ []

-- the first step makes the member
abbrev pub before_made : Input → Causes Refusal
before_made (Init inviter height) = []
before_made (Create cards) = when (Unit {0}) refusals.NotMade ∷ []
before_made (Add card) = when (Unit {0}) refusals.NotMade ∷ []
before_made (Remove target) = when (Unit {0}) refusals.NotMade ∷ []
before_made Update = when (Unit {0}) refusals.NotMade ∷ []
before_made (Send text) = when (Unit {0}) refusals.NotMade ∷ []
before_made (Take packet) = when (Unit {0}) refusals.NotMade ∷ []

module _ {K P : Type 0} (kem : Ghosts K P) (rule : History → List Id) where
  -- all refusals of a step, in order, but those of the random bytes
  unfoldable pub refusals_of : Option Member → Input → Causes Refusal
  refusals_of None input = before_made input
  refusals_of (Some M) input = on_input kem rule M input
