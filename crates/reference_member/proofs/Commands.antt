-- What a command makes may be the next entry of the member's log.
use Rattle.std.proofs.Common.{◌≡◌, ◌≢◌, ◌+◌, ℕ, zero, suc, true, false, nat_eq, List, [], ◌∷◌, ◌++◌, map, Option, Some, None, IsSome, slice_get, refl, sym, ◌∙◌, ap, subst, inl, inr}
use Rattle.kem_trait.specs.declared.kem.Kem.{Ghosts}
use Rattle.group_fields.specs.Cards.{card_id}
use Rattle.group_fields.specs.declared.card.Card.{Card}
use Rattle.group_fields.specs.declared.header.Kind.{Kind as HeaderKind}
use Rattle.group_fields.specs.declared.header.Kind.TheVariants as kinds
use Rattle.group_fields.specs.declared.header.Target.{Target}
use Rattle.group_fields.specs.declared.header.Target.TheVariants as targets
use Rattle.group_fields.specs.declared.ids.Digest.{Digest}
use Rattle.group_model.specs.Sets.{Bytes, Id, In, here, there}
use Rattle.group_model.specs.Messages.{History, IsHistory}
use Rattle.group_model.specs.Membership.{IsMembershipRule, named_by}
use Rattle.group_model.specs.Validity.{Answers, IsInvited, MayFollow, MeetsKind, count_of}
use Rattle.group_model.specs.Packets.{Given}
use Rattle.group_model.specs.Settings.{Owner}
use Rattle.group_model.specs.Logs.{Made, hist}
use Rattle.group_model.specs.Conduct.{Follows, waiting}
use Rattle.group_model.proofs.ListFacts.{In-cases, In-nothing, In-right, no_is, test, yes_is}
use Rattle.group_model.proofs.RemoveWins.{Named-ids_named}
use Rattle.group_keys.specs.Primitives.{primitives_of}
use Rattle.group_messages.specs.Messages.{ids_of, kind_by, kind_of, message_of}
use Rattle.causal_history.specs.Rows.{cards_of}
use Rattle.causal_cast.specs.Judging.{inviter_in}
use Rattle.member_identity.specs.Identity.{pair_words, secret_from}
use Rattle.member_view.specs.Causes.{GivesNone}
use Rattle.wire_codec.specs.Packets.{id_of}
use Rattle.reference_member.specs.Members.{IsIn, Member, known, own_card, own_id, own_pair}
use Rattle.reference_member.specs.Messages.{AreFounders, IsByCommand, IsNext, MadeMessage, as_packet}
use Rattle.reference_member.specs.Refusals.{HasFault, IsOthers, IsOut, member_id, on_input}
use Rattle.reference_member.specs.Steps as inputs
use Rattle.reference_member.specs.Steps.{Input}
use Rattle.reference_member.proofs.Deciding.{in-or-not, same-or-not}
use Rattle.reference_member.proofs.Histories.{map-map}
use Rattle.reference_member.proofs.Makes.{goes-on, makes, owner}
use Rattle.reference_member.proofs.OwnerForms.{Encapsulates, SaysOf, from-map, in-map, owner-form}
use Rattle.reference_member.proofs.RowsNamed.{IsNamed}
use Rattle.reference_member.proofs.States.{Base, Conducts, Enters, Owns}

in-get : {A : Type 0} {x : A} {xs : List A} → In x xs → (i : ℕ) × (slice_get xs i ≡ Some x)
in-get here = (zero, refl)
in-get (there i) = let r = in-get i in (suc r.0, r.1)

nobody-in : (ids : List Id) → ((i : Id) → In i ids → ⊥) → ids ≡ []
nobody-in [] f = refl
nobody-in (i ∷ ids) f = absurd (f i here)

pub follows-settled : (o : Option Id) (M : Member) (t : Given) {K P : Type 0} (kem : Ghosts K P) (made : MadeMessage) → o ≡ None
    → ((i : Id) → Answers (kind_of made.header) i → ⊥) → Follows o (Made (as_packet kem M made) t)
follows-settled None M t kem made e f = f
follows-settled (Some i) M t kem made e f = absurd cc

-- the kind of a message that is next
pub next-kind : (made : MadeMessage) (kind : HeaderKind) (target : Target) → made.header.kind ≡ kind → made.header.target ≡ target
    → kind_of made.header ≡ kind_by kind target
next-kind made kind target e d = rw (e, d) refl

-- the next message makes a history with those before it
pub next-history : {K P : Type 0} (kem : Ghosts K P) (rule : History → List Id) (M : Member) (t : Given) (cards : List Card)
    (kind : HeaderKind) (target : Target) (made : MadeMessage) → IsNext kem rule M t cards kind target made → IsHistory (known M)
    → IsHistory (message_of made.header ∷ known M)
next-history kem rule M t cards kind target made next old = (
  λ i k. let p = next.predecessors.only i k in record { by = p.0; there_is = p.1.there_is; has_id = p.2 },
  next.new,
  old,
)

module _ {K P : Type 0} (kem : Ghosts K P) (rule : History → List Id) (M : Member) where
  -- a member that is not out is one
  pub member-in : (IsOut kem rule M → ⊥) → M.rows ≢ [] → IsIn kem rule M
  member-in not_out joined = elim (in-or-not (own_id kem M) (rule (known M))) [
    | inl i ↦ i
    | inr n ↦ absurd (not_out (record { joined = joined; out = n }))
  ]

  -- a card that is not refused invites by this member
  invites : (index : ℕ) (card : Card) → (HasFault kem rule M index card → ⊥) → (IsOthers kem rule M index card → ⊥)
      → inviter_in kem.is_public card ≡ Some (own_id kem M)
  invites index card no_fault no_other = elim (test (kem.is_public card.kem_public)) [
    | yes_is e ↦ rw e (ap (λ (z : Id). Some z) by_this)
    | no_is e ↦ absurd (no_fault (faulty e))
  ]
    where
      by_this : card.inviter.0.0 ≡ own_id kem M
      by_this = elim (same-or-not card.inviter.0.0 (own_id kem M)) [ inl e ↦ e | inr n ↦ absurd (no_other n) ]

      faulty : kem.is_public card.kem_public ≡ false → HasFault kem rule M index card
      faulty e = elim (test (nat_eq card.set kem.SET)) [
        | yes_is d ↦ (91, rw (d, e) refl)
        | no_is d ↦ (2, rw d refl)
      ]

  -- the key in the own card is a public key
  own-public : secret_from kem M.random ≡ Some M.secret → kem.is_public (own_card kem M).kem_public ≡ true
  unfolding secret_from
  own-public e = kem.public_is_public M.secret (kem.made_is_tested (pair_words M.random) M.secret e)

  module _ (inviter : Id → Option Id) (public_key : Id → Bytes) (is_rule : IsMembershipRule rule)
      (encapsulates : Encapsulates (primitives_of kem) inviter public_key) (base : Base kem rule M)
      (conducts : Conducts kem rule M (owner kem rule M inviter public_key is_rule encapsulates)) (t : Given)
      (made : MadeMessage) where
    abbrev O : Owner
    O = owner kem rule M inviter public_key is_rule encapsulates

    none-waits : (IsOut kem rule M → ⊥) → waiting M.log ≡ None
    none-waits not_out = elim conducts.settled [ inl e ↦ e | inr out ↦ absurd (not_out out) ]

    module _ (cards : List Card) (kind : HeaderKind) (target : Target) (next : IsNext kem rule M t cards kind target made)
        (says : SaysOf kem inviter public_key (cards_of M.rows ++ cards))
        (names : map card_id cards ≡ named_by (kind_by kind target))
        (no_answer : (i : Id) → Answers (kind_by kind target) i → ⊥) where
      kind-is : kind_of made.header ≡ kind_by kind target
      kind-is = next-kind made kind target next.kind_is next.target_is

      names-by : map card_id cards ≡ named_by (kind_of made.header)
      names-by = names ∙ ap named_by (sym kind-is)

      answers-none : (i : Id) → Answers (kind_of made.header) i → ⊥
      answers-none i a = no_answer i (subst (λ k. Answers k i) kind-is a)

      enters : waiting M.log ≡ None → MayFollow rule inviter (hist M.log) (message_of made.header) → Enters kem rule M O t made
      enters none valid = record {
        makes = makes kem rule M inviter public_key is_rule encapsulates base.agrees conducts.lawful t cards kind target made next
            base.named names-by says valid (λ i e. absurd (answers-none i (subst (λ k. Answers k i) (sym e) refl)));
        turn = follows-settled (waiting M.log) M t kem made none answers-none;
      }

      command : (IsOut kem rule M → ⊥) → M.rows ≢ [] → MeetsKind rule inviter (known M) (own_id kem M) (kind_by kind target)
          → Enters kem rule M O t made
      command not_out joined suits =
          let none = none-waits not_out in
          enters none (goes-on kem rule M inviter public_key is_rule encapsulates base.agrees conducts.lawful t cards kind target made next
          conducts.at_once (follows-settled (waiting M.log) M t kem made none answers-none) (member-in not_out joined)
          (subst (λ k. MeetsKind rule inviter (known M) (own_id kem M) k) (sym kind-is) suits))

    creates : (others cards : List Card) → GivesNone (on_input kem rule M (inputs.Create others))
        → AreFounders (own_card kem M) others cards → IsNext kem rule M t cards kinds.Create (targets.Members (map id_of cards)) made
        → SaysOf kem inviter public_key (cards_of M.rows ++ cards) → Enters kem rule M O t made
    creates others cards g founders next says =
        let empty : M.rows ≡ [] = g.1.0 in
        let none : hist M.log ≡ [] = ap hist (base.fresh empty) in
        let nothing : known M ≡ [] = sym base.agrees ∙ none in
        let ids : ids_of (map id_of cards) ≡ map card_id cards = map-map (λ (id : Digest). id.0) id_of cards in
        enters cards kinds.Create (targets.Members (map id_of cards)) next says (sym ids) (λ i a. a)
        (ap waiting (base.fresh empty))
        (subst (λ h. MayFollow rule inviter h (message_of made.header)) (sym none) (record {
          members = ids_of (map id_of cards);
          creates = next-kind made kinds.Create (targets.Members (map id_of cards)) next.kind_is next.target_is;
          first = nobody-in (ids_of made.header.predecessors)
              (λ i k. let p = next.predecessors.only i k in In-nothing (subst (λ h. In p.0 h) nothing p.1.there_is));
          number = next.seq ∙ ap (λ h. count_of (own_id kem M) h + 1) nothing;
          among = subst (λ z. In z (ids_of (map id_of cards))) (sym next.sender)
              (subst (λ z. In (own_id kem M) z) (sym ids) (in-map card_id ((founders.whose (own_card kem M)).1 here)));
          invited = λ y i. let c = from-map card_id cards y (subst (λ z. In y z) ids i) in
              subst (λ z. IsInvited inviter made.header.sender.0.0 z) (sym c.2)
              (subst (λ s. IsInvited inviter s (card_id c.0)) (sym next.sender) (of-card c.0 c.1));
        }))
      where
        by-card : (card : Card) → In card cards → inviter (card_id card) ≡ inviter_in kem.is_public card
        by-card card i = says.inviters card (In-right (cards_of M.rows) i)

        of-card : (card : Card) → In card cards → IsInvited inviter (own_id kem M) (card_id card)
        of-card card i = elim (In-cases ((founders.whose card).0 i)) [
          | inl e ↦ (
            subst IsSome (sym (by-card card i)) (subst (λ (z : Card). IsSome (inviter_in kem.is_public z)) (sym e)
                (rw (own-public base.secret) refl)),
            λ n. absurd (n (ap card_id e)),
          )
          | inr j ↦ (
              let at = in-get j in
              let by : inviter (card_id card) ≡ Some (own_id kem M) =
              by-card card i ∙ invites at.0 card (λ f. g.1.1.0 at.0 card at.1 f) (λ f. g.1.1.1.1.1.0 at.0 card at.1 f) in
              (subst IsSome (sym by) refl, λ n. by))
        ]

    -- each command
    pub commanded : (input : Input) → GivesNone (on_input kem rule M input) → IsByCommand kem rule M t input made
        → SaysOf kem inviter public_key (cards_of M.rows ++ made.carried.cards) → Enters kem rule M O t made
    commanded (inputs.Init v height) g by says = absurd by
    commanded (inputs.Create others) g by says =
        creates others by.0 g by.1 by.2 (subst (λ c. SaysOf kem inviter public_key (cards_of M.rows ++ c)) by.2.cards_are says)
    commanded (inputs.Add card) g by says =
        let own = subst (λ c. SaysOf kem inviter public_key (cards_of M.rows ++ c)) by.cards_are says in
        command (card ∷ []) kinds.Add (targets.Member (member_id (card_id card))) by own refl (λ i a. a) g.0 g.1.0 (
          λ n. g.1.1.1.1.0 0 card refl (inl (Named-ids_named (known M) (card_id card) n)),
          own.inviters card (In-right (cards_of M.rows) here)
              ∙ invites 0 card (λ f. g.1.1.0 0 card refl f) (λ f. g.1.1.1.1.1.0 0 card refl f),
          g.1.1.1.1.1.1.0,
        )
    commanded (inputs.Remove target) g by says =
        command [] kinds.Remove (targets.Member (member_id target)) by
        (subst (λ c. SaysOf kem inviter public_key (cards_of M.rows ++ c)) by.cards_are says) refl (λ i a. a) g.0 g.1.0 (g.1.1.1.0, g.1.1.0)
    commanded inputs.Update g by says =
        command [] kinds.Update targets.Nothing by
        (subst (λ c. SaysOf kem inviter public_key (cards_of M.rows ++ c)) by.cards_are says) refl (λ i a. a) g.0 g.1.0 tt
    commanded (inputs.Send text) g by says =
        command [] kinds.Text targets.Nothing by
        (subst (λ c. SaysOf kem inviter public_key (cards_of M.rows ++ c)) by.cards_are says) refl (λ i a. a) g.0 g.1.0 g.1.1.1.0
    commanded (inputs.Take packet) g by says = absurd by

  -- the row of a command has the cards of whom it names
  pub command-names : (t : Given) (input : Input) (made : MadeMessage) → IsByCommand kem rule M t input made
      → IsNamed (record { header = made.header; cards = made.carried.cards })
  command-names t (inputs.Init v height) made by = absurd by
  command-names t (inputs.Create others) made by =
      ap (map card_id) by.2.cards_are ∙ sym (map-map (λ (id : Digest). id.0) id_of by.0)
      ∙ ap named_by (sym (next-kind made kinds.Create (targets.Members (map id_of by.0)) by.2.kind_is by.2.target_is))
  command-names t (inputs.Add card) made by =
      ap (map card_id) by.cards_are
      ∙ ap named_by (sym (next-kind made kinds.Add (targets.Member (member_id (card_id card))) by.kind_is by.target_is))
  command-names t (inputs.Remove target) made by =
      ap (map card_id) by.cards_are
      ∙ ap named_by (sym (next-kind made kinds.Remove (targets.Member (member_id target)) by.kind_is by.target_is))
  command-names t inputs.Update made by =
      ap (map card_id) by.cards_are ∙ ap named_by (sym (next-kind made kinds.Update targets.Nothing by.kind_is by.target_is))
  command-names t (inputs.Send text) made by =
      ap (map card_id) by.cards_are ∙ ap named_by (sym (next-kind made kinds.Text targets.Nothing by.kind_is by.target_is))
  command-names t (inputs.Take packet) made by = absurd by

  -- so it is for each owner
  pub command-enters : (t : Given) (made : MadeMessage) (input : Input) → GivesNone (on_input kem rule M input)
      → IsByCommand kem rule M t input made → Base kem rule M → (O : Owner)
      → Owns kem rule M (cards_of M.rows ++ made.carried.cards) O → Conducts kem rule M O → Enters kem rule M O t made
  command-enters t made input g by base O own conducts =
      owner-form (primitives_of kem) rule (own_id kem M) (own_pair kem M)
      (λ (o : Owner). SaysOf kem o.inviter o.public_key (cards_of M.rows ++ made.carried.cards) → Conducts kem rule M o
      → Enters kem rule M o t made)
      (λ inviter public_key is_rule encapsulates says c.
      commanded inviter public_key is_rule encapsulates base c t made input g by says)
      O own.primitives own.rule_is own.id own.card own.says conducts

  pub command-history : (t : Given) (input : Input) (made : MadeMessage) → IsByCommand kem rule M t input made → IsHistory (known M)
      → IsHistory (message_of made.header ∷ known M)
  command-history t (inputs.Init v height) made by old = absurd by
  command-history t (inputs.Create others) made by old =
      next-history kem rule M t by.0 kinds.Create (targets.Members (map id_of by.0)) made by.2 old
  command-history t (inputs.Add card) made by old =
      next-history kem rule M t (card ∷ []) kinds.Add (targets.Member (member_id (card_id card))) made by old
  command-history t (inputs.Remove target) made by old =
      next-history kem rule M t [] kinds.Remove (targets.Member (member_id target)) made by old
  command-history t inputs.Update made by old = next-history kem rule M t [] kinds.Update targets.Nothing made by old
  command-history t (inputs.Send text) made by old = next-history kem rule M t [] kinds.Text targets.Nothing made by old
  command-history t (inputs.Take packet) made by old = absurd by
