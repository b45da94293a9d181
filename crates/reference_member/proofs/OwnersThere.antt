-- An owner of a member's log, by the cards of its history.
use Rattle.std.proofs.Common.{◌≡◌, true, List, [], ◌∷◌, Option, None, IsSome, refl, ◌∙◌, ap}
use Rattle.std.specs.Option.{option_map_or}
use Rattle.std.specs.Str.{bytes_eq}
use Rattle.kem_trait.specs.declared.kem.Kem.{Ghosts}
use Rattle.group_fields.specs.Cards.{card_id}
use Rattle.group_fields.specs.declared.card.Card.{Card}
use Rattle.group_model.specs.Sets.{Bytes, Id}
use Rattle.group_model.specs.Messages.{History}
use Rattle.group_model.specs.Membership.{IsMembershipRule}
use Rattle.group_model.specs.Settings.{Owner}
use Rattle.group_model.proofs.ListFacts.{no_is, test, yes_is}
use Rattle.group_keys.specs.Primitives.{primitives_of}
use Rattle.group_parts.proofs.Tested as tested
use Rattle.causal_history.specs.Rows.{cards_of}
use Rattle.causal_cast.specs.Judging.{inviter_by, inviter_in}
use Rattle.reference_member.specs.Members.{HaveOneEach, IsOwner, Member, own_id, own_pair, public_key_by}
use Rattle.reference_member.proofs.OwnerForms.{first-of, in-map, inviter-first, owner_with}

module _ {K P : Type 0} (kem : Ghosts K P) where
  -- an inviter by the cards is that of a first card, whose key is a public key
  encapsulates-in : (cards : List Card) (y : Id) (seed : Bytes) → IsSome (inviter_by kem.is_public cards y)
      → IsSome ((primitives_of kem).encapsulate (public_key_by cards y) seed)
  unfolding primitives_of
  encapsulates-in [] y seed some = absurd cc
  encapsulates-in (c ∷ cards) y seed some = elim (test (bytes_eq (card_id c) y)) [
    | yes_is e ↦ rw e (tested.encapsulates kem c.kem_public seed (public c (rw e at some)))
    | no_is e ↦ rw e (encapsulates-in cards y seed (rw e at some))
  ]
    where
      public : (card : Card) → IsSome (inviter_in kem.is_public card) → kem.is_public card.kem_public ≡ true
      public card s = elim (test (kem.is_public card.kem_public)) [
        | yes_is e ↦ e
        | no_is e ↦ let none = rw e at s in absurd cc
      ]

  pub owner-there : (rule : History → List Id) (M : Member) → IsMembershipRule rule → HaveOneEach (cards_of M.rows)
      → (O : Owner) × IsOwner kem rule M O
  owner-there rule M is_rule one = (
    owner_with (primitives_of kem) rule (own_id kem M) (own_pair kem M) (inviter_by kem.is_public (cards_of M.rows))
        (public_key_by (cards_of M.rows)) is_rule (encapsulates-in (cards_of M.rows)),
    record {
      primitives = refl;
      rule_is = refl;
      id = refl;
      card = refl;
      inviters = λ card i.
          let f = first-of (cards_of M.rows) (card_id card) (in-map card_id i) in
          inviter-first kem (λ y. None) (λ y. []) (cards_of M.rows) (card_id card) f.card f.first
          ∙ ap (inviter_in kem.is_public) (one f.card card f.there_is i f.own);
      keys = λ card i.
          let f = first-of (cards_of M.rows) (card_id card) (in-map card_id i) in
          ap (λ (o : Option Card). option_map_or (λ (c : Card). c.kem_public) o []) f.first
          ∙ ap (λ (c : Card). c.kem_public) (one f.card card f.there_is i f.own);
    },
  )
