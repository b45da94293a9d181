-- Steps have one member and one list of messages.
use Rattle.std.proofs.Common.{◌≡◌, List, [], ◌∷◌, map, Option, Some, None, refl, sym, ◌∙◌, ap, subst, inl, inr}
use Rattle.kem_trait.specs.declared.kem.Kem.{Ghosts}
use Rattle.group_fields.specs.declared.card.Card.{Card}
use Rattle.group_fields.specs.declared.header.Kind.TheVariants as kinds
use Rattle.group_fields.specs.declared.header.Target.TheVariants as targets
use Rattle.group_model.specs.Sets.{Bytes, Id}
use Rattle.group_model.specs.Messages.{History, IsHistory}
use Rattle.group_model.specs.Membership.{IsMembershipRule}
use Rattle.group_model.specs.Validity.{NeedsAnswer}
use Rattle.group_model.specs.Packets.{Given}
use Rattle.group_model.proofs.ListFacts.{some_same}
use Rattle.group_messages.specs.Messages.{message_of}
use Rattle.group_fields.specs.Cards.{card_id}
use Rattle.member_view.specs.Causes.{GivesNone}
use Rattle.wire_codec.specs.Packets.{Packet as ReadPacket, id_of}
use Rattle.wire_codec.proofs.Joins.{one_packet}
use Rattle.reference_member.specs.Members.{Member, known, own_card, own_id}
use Rattle.reference_member.specs.Messages.{IsByCommand, IsNext, MadeMessage, answer_kind}
use Rattle.reference_member.specs.Refusals.{member_id, on_input, refusals_of}
use Rattle.reference_member.specs.Steps as inputs
use Rattle.reference_member.specs.Steps.{Input, Step}
use Rattle.reference_member.specs.Accepted.{Accepts, Answers, Begins, BeginsBy, Commands, IsRunOf, Moves, Takes, given_by, known_before, part_opens, with_made, with_message, with_taken}
use Rattle.reference_member.proofs.Answering.{answer-target}
use Rattle.reference_member.proofs.Deciding.{answer-or-not}
use Rattle.reference_member.proofs.Lawful.{outcome, ready-first, run-sound}
use Rattle.reference_member.proofs.OneNext.{founders-one, next-one}
use Rattle.reference_member.proofs.States.{Sound}

module _ {K P : Type 0} (kem : Ghosts K P) (rule : History → List Id) (is_rule : IsMembershipRule rule) where
  -- one message, and one member after it
  abbrev Same : Option MadeMessage → Option MadeMessage → Member → Member → Type 0
  Same made others after now = (made ≡ others) × (after ≡ now)

  -- ---- the first step

  begun-one : (inviter : Id) (height : _) (random : Bytes) (a b : Member) → Begins kem rule inviter height random a
      → Begins kem rule inviter height random b → a ≡ b
  begun-one inviter height random a b x y =
      let same : x.secret ≡ y.secret = some_same (sym x.usable ∙ y.usable) in
      x.is ∙ ap (λ (z : Bytes). let M : Member = record {
        inviter = inviter;
        height = height;
        random = random;
        secret = z;
        rows = [];
        log = [];
      } in M) same ∙ sym y.is

  begins-one : (input : Input) (random : Bytes) (made others : Option MadeMessage) (a b : Member)
      → BeginsBy kem rule input random made a → BeginsBy kem rule input random others b → Same made others a b
  begins-one (inputs.Init inviter height) random made others a b x y =
      (x.1 ∙ sym y.1, begun-one inviter height random a b x.0 y.0)
  begins-one (inputs.Create cards) random made others a b x y = absurd x
  begins-one (inputs.Add card) random made others a b x y = absurd x
  begins-one (inputs.Remove target) random made others a b x y = absurd x
  begins-one inputs.Update random made others a b x y = absurd x
  begins-one (inputs.Send text) random made others a b x y = absurd x
  begins-one (inputs.Take packet) random made others a b x y = absurd x

  -- ---- commands

  module _ (M : Member) (t : Given) (old : IsHistory (known M)) where
    by-command-one : (input : Input) (a b : MadeMessage) → IsByCommand kem rule M t input a → IsByCommand kem rule M t input b → a ≡ b
    by-command-one (inputs.Init inviter height) a b x y = absurd x
    by-command-one (inputs.Create others) a b x y =
        let same : y.0 ≡ x.0 = founders-one (own_card kem M) others y.0 x.0 y.1 x.1 in
        next-one kem rule M t is_rule old x.0 kinds.Create (targets.Members (map id_of x.0)) a b x.2
        (subst (λ (c : List Card). IsNext kem rule M t c kinds.Create (targets.Members (map id_of c)) b) same y.2)
    by-command-one (inputs.Add card) a b x y =
        next-one kem rule M t is_rule old (card ∷ []) kinds.Add (targets.Member (member_id (card_id card))) a b x y
    by-command-one (inputs.Remove target) a b x y =
        next-one kem rule M t is_rule old [] kinds.Remove (targets.Member (member_id target)) a b x y
    by-command-one inputs.Update a b x y = next-one kem rule M t is_rule old [] kinds.Update targets.Nothing a b x y
    by-command-one (inputs.Send text) a b x y = next-one kem rule M t is_rule old [] kinds.Text targets.Nothing a b x y
    by-command-one (inputs.Take packet) a b x y = absurd x

    commands-one : (input : Input) (made others : Option MadeMessage) (a b : Member) → Commands kem rule t input M made a
        → Commands kem rule t input M others b → Same made others a b
    commands-one input made others a b x y =
        let same = by-command-one input x.message y.message x.by_command y.by_command in
        (x.made_is ∙ ap (λ (z : MadeMessage). Some z) same ∙ sym y.made_is, x.after_is ∙ ap (λ z. with_made kem t z M) same ∙ sym y.after_is)

  -- ---- packets

  -- what a packet leaves
  record Leaves (t : Given) (packet : ReadPacket) (M : Member) (made : Option MadeMessage) (after : Member) : Type 0 where
    answered : NeedsAnswer rule (own_id kem M) (known_before kem packet M) (message_of packet.header)
        → (answer : MadeMessage) × (made ≡ Some answer) × Answers kem rule t packet M answer
        × (after ≡ with_made kem t answer (with_taken kem packet M))
    unanswered : (NeedsAnswer rule (own_id kem M) (known_before kem packet M) (message_of packet.header) → ⊥)
        → (made ≡ None) × (after ≡ with_taken kem packet M)

  takes-one : (M : Member) (t : Given) (bytes : Bytes) (made others : Option MadeMessage) (a b : Member) → Sound kem rule M
      → GivesNone (on_input kem rule M (inputs.Take bytes)) → Takes kem rule t bytes M made a → Takes kem rule t bytes M others b
      → Same made others a b
  takes-one M t bytes made others a b sound g x y =
      let packet = x.packet in
      let m = message_of packet.header in
      let o = outcome kem rule M packet bytes x.is_read sound M.rows refl (ready-first kem rule M bytes packet x.is_read g.0) in
      let old : IsHistory (known (with_taken kem packet M)) =
      subst (λ (z : Member). IsHistory (known z)) (sym o.is) o.takings.base.history in
      let z : Leaves t packet M others b = subst (λ q. Leaves t q M others b) (one_packet bytes y.packet packet y.is_read x.is_read)
      (record { answered = y.answered; unanswered = y.unanswered }) in
      elim (answer-or-not rule (own_id kem M) (known_before kem packet M) m) [
        | inl needs ↦ (
            let p = x.answered needs in
            let q = z.answered needs in
            let same : p.0 ≡ q.0 = answers-one packet old p.0 q.0 p.2 q.2 in
            (p.1 ∙ ap (λ (w : MadeMessage). Some w) same ∙ sym q.1, p.3 ∙ ap (λ w. with_made kem t w (with_taken kem packet M)) same ∙ sym q.3))
        | inr none ↦ (
            let p = x.unanswered none in
            let q = z.unanswered none in
            (p.0 ∙ sym q.0, p.1 ∙ sym q.1))
      ]
    where
      answers-one : (packet : ReadPacket) → IsHistory (known (with_taken kem packet M)) → (p q : MadeMessage)
          → Answers kem rule t packet M p → Answers kem rule t packet M q → p ≡ q
      answers-one packet old p q v w =
          let kind = answer_kind (own_id kem M) (message_of packet.header).kind in
          next-one kem rule (with_taken kem packet M) t is_rule old [] kind
          (answer-target (message_of packet.header) kind (part_opens kem packet M)) p q v.is_next w.is_next

  -- ---- runs

  moves-one : (M : Member) (t : Given) (input : Input) (made others : Option MadeMessage) (a b : Member) → Sound kem rule M
      → GivesNone (on_input kem rule M input) → Moves kem rule t input M made a → Moves kem rule t input M others b
      → Same made others a b
  moves-one M t (inputs.Init inviter height) made others a b s g x y = absurd x
  moves-one M t (inputs.Create cards) made others a b s g x y =
      commands-one M t s.base.history (inputs.Create cards) made others a b x y
  moves-one M t (inputs.Add card) made others a b s g x y = commands-one M t s.base.history (inputs.Add card) made others a b x y
  moves-one M t (inputs.Remove target) made others a b s g x y =
      commands-one M t s.base.history (inputs.Remove target) made others a b x y
  moves-one M t inputs.Update made others a b s g x y = commands-one M t s.base.history inputs.Update made others a b x y
  moves-one M t (inputs.Send text) made others a b s g x y =
      commands-one M t s.base.history (inputs.Send text) made others a b x y
  moves-one M t (inputs.Take packet) made others a b s g x y = takes-one M t packet made others a b s g x y

  step-one : (step : Step) (M : Option Member) (made others : Option MadeMessage) (a b : Member)
      → ((B : Member) → M ≡ Some B → Sound kem rule B) → Accepts kem rule M step made a → Accepts kem rule M step others b
      → Same made others a b
  unfolding refusals_of
  step-one step None made others a b sound x y = begins-one step.input step.random made others a b x.becomes y.becomes
  step-one step (Some B) made others a b sound x y =
      moves-one B (given_by step) step.input made others a b (sound B refl) x.refused_by_none x.becomes y.becomes

  pub one-run : (steps : List Step) (M N : Option Member) (made others : List MadeMessage) → IsRunOf kem rule steps M made
      → IsRunOf kem rule steps N others → (M ≡ N) × (made ≡ others)
  one-run [] M N made others x y = (x.0 ∙ sym y.0, x.1 ∙ sym y.1)
  one-run (step ∷ steps) M N made others (b, older, message, after, run, accepts, is, made_is)
      (b', older', message', after', run', accepts', is', made_is') =
      let rest = one-run steps b b' older older' run run' in
      let s = step-one step b message message' after after'
      (λ B e. run-sound kem rule steps B older (subst (λ z. IsRunOf kem rule steps z older) e run)) accepts
      (subst (λ z. Accepts kem rule z step message' after') (sym rest.0) accepts') in (
        is ∙ ap (λ (z : Member). Some z) s.1 ∙ sym is',
        made_is ∙ ap (λ z. with_message z older) s.0 ∙ ap (λ z. with_message message' z) rest.1 ∙ sym made_is',
      )
