-- The refusals of commands, stage by stage.
use Rattle.std.proofs.Common.{◌≡◌, ◌≢◌, ◌<◌, ◌≤◌, inl, inr, refl, List, [], ◌∷◌, ◌++◌, length, Option, Some, None}
use Rattle.kem_trait.specs.declared.kem.Kem.{Ghosts}
use Rattle.group_fields.specs.declared.card.Card.{Card}
use Rattle.group_model.specs.Sets.{Bytes, Id, In}
use Rattle.group_model.specs.Messages.{History}
use Rattle.group_model.specs.Membership.{ids_named}
use Rattle.group_model.specs.Validity.{HasStepped}
use Rattle.member_view.specs.Causes.{Causes, GivesNone, IsFirst, first-back, first-front, none-both, unless}
use Rattle.reference_member.specs.Members.{Member, known, own_id}
use Rattle.reference_member.specs.Refusals.{IsOut, member_id, on_add, on_cards, on_create, on_joined, on_remove, on_room, on_send}
use Rattle.reference_member.specs.declared.refusal.Refusal.{Refusal}
use Rattle.reference_member.specs.declared.refusal.Refusal.TheVariants as refusals
use Rattle.member_checks.specs.Answers.{AnswersFirst}

-- where no cause of the front holds, those behind it answer
pub answers-back : {A : Type 0} (front back : Causes A) (answer : Option A) → GivesNone front → AnswersFirst back answer
    → AnswersFirst (front ++ back) answer
answers-back front back None n k = none-both front back n k
answers-back front back (Some a) n k = first-back front back a n k

module _ {K P : Type 0} (kem : Ghosts K P) (rule : History → List Id) (M : Member) where
  J : Causes Refusal
  J = on_joined kem rule M

  behind_cards : Causes Refusal
  behind_cards = unless (length (ids_named (known M)) < 32) refusals.MembersFull ∷ on_room kem rule M

  behind_founders : List Card → Causes Refusal
  behind_founders cards = unless (length cards ≤ 31) refusals.MembersFull ∷ on_room kem rule M

  pub update-joined : (r : Refusal) → IsFirst (on_joined kem rule M) r → IsFirst (on_joined kem rule M ++ on_room kem rule M) r
  update-joined r x = first-front (on_joined kem rule M) (on_room kem rule M) r x

  pub remove-joined : (target : Id) (r : Refusal) → IsFirst (on_joined kem rule M) r → IsFirst (on_remove kem rule M target) r
  remove-joined target r x = first-front (on_joined kem rule M)
      (unless (target ≢ own_id kem M) refusals.SelfTarget
      ∷ unless (In target (rule (known M))) (refusals.UnknownTarget (member_id target)) ∷ on_room kem rule M) r x

  pub send-joined : (text : Bytes) (r : Refusal) → IsFirst (on_joined kem rule M) r → IsFirst (on_send kem rule M text) r
  send-joined text r x = first-front (on_joined kem rule M)
      (unless (length text ≤ 4096) (refusals.TextTooLong (length text))
      ∷ unless (HasStepped (known M) (own_id kem M)) refusals.NoSecret ∷ on_room kem rule M) r x

  module _ (card : Card) where
    pub add-joined : (r : Refusal) → IsFirst (on_joined kem rule M) r → IsFirst (on_add kem rule M card) r
    unfolding behind_cards
    add-joined r x = first-front (on_joined kem rule M) (on_cards kem rule M (card ∷ []) ++ behind_cards) r x

    pub add-cards : (r : Refusal) → GivesNone (on_joined kem rule M) → IsFirst (on_cards kem rule M (card ∷ [])) r
        → IsFirst (on_add kem rule M card) r
    unfolding behind_cards
    add-cards r n x = first-back (on_joined kem rule M) (on_cards kem rule M (card ∷ []) ++ behind_cards) r n
        (first-front (on_cards kem rule M (card ∷ [])) behind_cards r x)

    pub add-behind : (answer : Option Refusal) → GivesNone (on_joined kem rule M) → GivesNone (on_cards kem rule M (card ∷ []))
        → AnswersFirst (unless (length (ids_named (known M)) < 32) refusals.MembersFull ∷ on_room kem rule M) answer
        → AnswersFirst (on_add kem rule M card) answer
    unfolding behind_cards
    add-behind answer n k x = answers-back (on_joined kem rule M) (on_cards kem rule M (card ∷ []) ++ behind_cards) answer n
        (answers-back (on_cards kem rule M (card ∷ [])) behind_cards answer k x)

    pub add-full : GivesNone (on_joined kem rule M) → GivesNone (on_cards kem rule M (card ∷ []))
        → (length (ids_named (known M)) < 32 → ⊥) → IsFirst (on_add kem rule M card) refusals.MembersFull
    add-full n k full = add-behind (Some refusals.MembersFull) n k (inl (full, refl))

    pub add-room : (answer : Option Refusal) → GivesNone (on_joined kem rule M) → GivesNone (on_cards kem rule M (card ∷ []))
        → length (ids_named (known M)) < 32 → AnswersFirst (on_room kem rule M) answer → AnswersFirst (on_add kem rule M card) answer
    add-room answer n k low x = add-behind answer n k
        (answers-back (unless (length (ids_named (known M)) < 32) refusals.MembersFull ∷ []) (on_room kem rule M) answer (low, tt) x)

  module _ (cards : List Card) (inside : IsOut kem rule M → ⊥) (fresh : M.rows ≡ []) where
    pub create-behind : (answer : Option Refusal)
        → AnswersFirst (on_cards kem rule M cards ++ (unless (length cards ≤ 31) refusals.MembersFull ∷ on_room kem rule M)) answer
        → AnswersFirst (on_create kem rule M cards) answer
    create-behind None x = (inside, (fresh, x))
    create-behind (Some r) x = inr (inside, inr (fresh, x))

    pub create-cards : (r : Refusal) → IsFirst (on_cards kem rule M cards) r → IsFirst (on_create kem rule M cards) r
    create-cards r x = create-behind (Some r) (first-front (on_cards kem rule M cards)
        (unless (length cards ≤ 31) refusals.MembersFull ∷ on_room kem rule M) r x)

    pub create-full : GivesNone (on_cards kem rule M cards) → (length cards ≤ 31 → ⊥)
        → IsFirst (on_create kem rule M cards) refusals.MembersFull
    create-full k full = create-behind (Some refusals.MembersFull) (first-back (on_cards kem rule M cards)
        (unless (length cards ≤ 31) refusals.MembersFull ∷ on_room kem rule M) refusals.MembersFull k (inl (full, refl)))

    pub create-room : (answer : Option Refusal) → GivesNone (on_cards kem rule M cards) → length cards ≤ 31
        → AnswersFirst (on_room kem rule M) answer → AnswersFirst (on_create kem rule M cards) answer
    create-room answer k low x = create-behind answer (answers-back (on_cards kem rule M cards)
        (unless (length cards ≤ 31) refusals.MembersFull ∷ on_room kem rule M) answer k
        (answers-back (unless (length cards ≤ 31) refusals.MembersFull ∷ []) (on_room kem rule M) answer (low, tt) x))
