-- The refusals by cards, of what is asked of these.
use Rattle.std.proofs.Common.{◌≡◌, ℕ, zero, suc, ◌+◌, inl, inr, List, [], ◌∷◌, map, slice_get, Some, refl, sym, ◌∙◌, ap, subst}
use Rattle.kem_trait.specs.declared.kem.Kem.{Ghosts}
use Rattle.group_fields.specs.declared.card.Card.{Card}
use Rattle.group_model.specs.Sets.{Id}
use Rattle.group_model.specs.Messages.{History}
use Rattle.group_model.specs.Membership.{ids_named}
use Rattle.causal_history.proofs.ListMore.{get-map, get-one}
use Rattle.member_view.specs.Causes.{IsFirst}
use Rattle.reference_member.specs.Members.{Member, known, own_id}
use Rattle.reference_member.specs.Refusals.{HasFault, IsFirstCard, IsOthers, IsOwn, IsThere, NoneIs, on_cards}
use Rattle.reference_member.specs.declared.refusal.Refusal.TheVariants as refusals
use Rattle.member_checks.specs.Answers.{IsFirstItem, NoItem}
use Rattle.member_checks.specs.Facts.{IsFaulty, IsKnown, IsOf, IsOfOther, facts_of}
use Rattle.member_checks.specs.declared.facts.CardFacts.{CardFacts}

-- the item of which another list has the image
pub record IsImage {A B : Type 0} (f : A → B) (xs : List A) (i : ℕ) (b : B) : Type 0 where
  pub item : A
  pub there : slice_get xs i ≡ Some item
  pub is : b ≡ f item

pub image : {A B : Type 0} (f : A → B) (xs : List A) (i : ℕ) (b : B) → slice_get (map f xs) i ≡ Some b → IsImage f xs i b
image f [] i b e = absurd cc
image f (x ∷ xs) zero b e = record { item = x; there = refl; is = cc }
image f (x ∷ xs) (suc i) b e = let k = image f xs i b e in record { item = k.item; there = k.there; is = k.is }

module _ {K P : Type 0} (kem : Ghosts K P) (cards : List Card) (IsSuch : ℕ → CardFacts → Type 0) (IsCard : ℕ → Card → Type 0) where
  none-is : ((i : ℕ) (card : Card) → IsCard i card → IsSuch i (facts_of kem card)) → NoItem (map (facts_of kem) cards) IsSuch
      → NoneIs cards IsCard
  none-is told none i card e s = none i (facts_of kem card) (get-map (facts_of kem) cards i card e) (told i card s)

  first-is : ((i : ℕ) (card : Card) → IsSuch i (facts_of kem card) → IsCard i card)
      → ((i : ℕ) (card : Card) → IsCard i card → IsSuch i (facts_of kem card))
      → (index : ℕ) (card : Card) → slice_get cards index ≡ Some card → IsFirstItem (map (facts_of kem) cards) IsSuch index
      → IsFirstCard cards IsCard index card
  first-is holds told index card e k = record {
    there = e;
    such = holds index card (subst (λ z. IsSuch index z)
        (get-one (map (facts_of kem) cards) index k.item (facts_of kem card) k.there (get-map (facts_of kem) cards index card e)) k.such);
    first = λ i other l g s. k.first i (facts_of kem other) l (get-map (facts_of kem) cards i other g) (told i other s);
  }

module _ {K P : Type 0} (kem : Ghosts K P) (rule : History → List Id) (M : Member) (cards : List Card) where
  F : Card → CardFacts
  F = facts_of kem

  known-holds : (i : ℕ) (card : Card) → IsKnown (ids_named (known M)) (map (facts_of kem) cards) i (facts_of kem card)
      → IsThere kem rule M cards i card
  known-holds i card (inl k) = inl k
  known-holds i card (inr k) = let m = image (facts_of kem) cards k.0 k.1 k.3 in
      inr (k.0, m.item, k.2, m.there, sym (ap (λ (f : CardFacts). f.id.0.0) m.is) ∙ k.4)

  known-told : (i : ℕ) (card : Card) → IsThere kem rule M cards i card
      → IsKnown (ids_named (known M)) (map (facts_of kem) cards) i (facts_of kem card)
  known-told i card (inl k) = inl k
  known-told i card (inr k) = inr (k.0, facts_of kem k.1, k.2, get-map (facts_of kem) cards k.0 k.1 k.3, k.4)

  pub no-fault : NoItem (map (facts_of kem) cards) IsFaulty → NoneIs cards (HasFault kem rule M)
  no-fault n = none-is kem cards IsFaulty (HasFault kem rule M) (λ i card s. s) n

  pub no-own : NoItem (map (facts_of kem) cards) (IsOf (own_id kem M)) → NoneIs cards (IsOwn kem rule M)
  no-own n = none-is kem cards (IsOf (own_id kem M)) (IsOwn kem rule M) (λ i card s. s) n

  pub no-known : NoItem (map (facts_of kem) cards) (IsKnown (ids_named (known M)) (map (facts_of kem) cards))
      → NoneIs cards (IsThere kem rule M cards)
  no-known n = none-is kem cards (IsKnown (ids_named (known M)) (map (facts_of kem) cards)) (IsThere kem rule M cards) known-told n

  pub no-other : NoItem (map (facts_of kem) cards) (IsOfOther (own_id kem M)) → NoneIs cards (IsOthers kem rule M)
  no-other n = none-is kem cards (IsOfOther (own_id kem M)) (IsOthers kem rule M) (λ i card s. s) n

  module _ (index : ℕ) (facts : CardFacts) (e : slice_get (map (facts_of kem) cards) index ≡ Some facts) where
    at : IsImage (facts_of kem) cards index facts
    at = image (facts_of kem) cards index facts e

    pub by-fault : (place : ℕ) → facts.fault ≡ Some place → IsFirstItem (map (facts_of kem) cards) IsFaulty index
        → IsFirst (on_cards kem rule M cards) (refusals.NotCard (index + 1) place)
    by-fault place f k = let m = at in inl (
      record { number = index + 1; place = place },
      record {
        index = index;
        card = m.item;
        is_first = first-is kem cards IsFaulty (HasFault kem rule M) (λ i card s. s) (λ i card s. s) index m.item m.there k;
        number = refl;
        place = ap (λ (z : CardFacts). z.fault) (sym m.is) ∙ f;
      },
      refl,
    )

    pub by-known : NoneIs cards (HasFault kem rule M) → NoneIs cards (IsOwn kem rule M)
        → IsFirstItem (map (facts_of kem) cards) (IsKnown (ids_named (known M)) (map (facts_of kem) cards)) index
        → IsFirst (on_cards kem rule M cards) (refusals.AlreadyMember facts.id)
    by-known f o k = let m = at in inr (
      f,
      inr (
        o,
        inl (
          facts.id,
          record {
            index = index;
            card = m.item;
            is_first = first-is kem cards (IsKnown (ids_named (known M)) (map (facts_of kem) cards)) (IsThere kem rule M cards)
                known-holds known-told index m.item m.there k;
            has_id = ap (λ (z : CardFacts). z.id.0.0) m.is;
          },
          refl,
        ),
      ),
    )

    pub by-other : NoneIs cards (HasFault kem rule M) → NoneIs cards (IsOwn kem rule M) → NoneIs cards (IsThere kem rule M cards)
        → IsFirstItem (map (facts_of kem) cards) (IsOfOther (own_id kem M)) index
        → IsFirst (on_cards kem rule M cards) (refusals.WrongInviter facts.id)
    by-other f o t k = let m = at in inr (
      f,
      inr (
        o,
        inr (
          t,
          inl (
            facts.id,
            record {
              index = index;
              card = m.item;
              is_first = first-is kem cards (IsOfOther (own_id kem M)) (IsOthers kem rule M) (λ i card s. s) (λ i card s. s)
                  index m.item m.there k;
              has_id = ap (λ (z : CardFacts). z.id.0.0) m.is;
            },
            refl,
          ),
        ),
      ),
    )

  pub by-own : (index : ℕ) → NoneIs cards (HasFault kem rule M) → IsFirstItem (map (facts_of kem) cards) (IsOf (own_id kem M)) index
      → IsFirst (on_cards kem rule M cards) refusals.SelfTarget
  by-own index f k = let m = image (facts_of kem) cards index k.item k.there in
      inr (f, inl (λ none. none index m.item m.there (ap (λ (z : CardFacts). z.id.0.0) (sym m.is) ∙ k.such), refl))
