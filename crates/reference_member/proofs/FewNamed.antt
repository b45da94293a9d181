-- The history of a member names at most 32 ids.
use Rattle.std.proofs.Common.{◌≡◌, ◌+◌, ◌≤◌, List, [], ◌∷◌, map, length, Option, Some, None, refl, sym, ◌∙◌, ap, subst, inl, inr, arith}
use Rattle.std.specs.Prelude.{bytes_eq}
use Rattle.std.proofs.lemmas.List.{length-append, length-map}
use Rattle.kem_trait.specs.declared.kem.Kem.{Ghosts}
use Rattle.group_fields.specs.Cards.{card_id}
use Rattle.group_fields.specs.declared.card.Card.{Card}
use Rattle.group_fields.specs.declared.ids.Digest.{Digest}
use Rattle.group_fields.specs.declared.header.Kind.{Kind as HeaderKind}
use Rattle.group_fields.specs.declared.header.Kind.TheVariants as kinds
use Rattle.group_fields.specs.declared.header.Target.{Target}
use Rattle.group_fields.specs.declared.header.Target.TheVariants as targets
use Rattle.group_model.specs.Sets.{Bytes, Id, In, has}
use Rattle.group_model.specs.Messages.{Kind, Create, Update, Remove, Add, Ack, AddAck, Text, Message, History, IsHistory}
use Rattle.group_model.specs.Membership.{ids_named, joined, named_by, with_id}
use Rattle.group_model.specs.Packets.{Given}
use Rattle.group_model.proofs.ListFacts.{test, yes_is, no_is}
use Rattle.group_messages.specs.Messages.{ids_of, kind_by, kind_of, message_of}
use Rattle.group_messages.proofs.HeaderFacts.{ascending-distinct, named-few}
use Rattle.causal_history.specs.Rows.{Row, history_of}
use Rattle.causal_history.proofs.RowFacts.{history-none, history-push}
use Rattle.member_view.specs.Causes.{GivesNone, IsFirst}
use Rattle.member_view.proofs.KindLaws.{distinct-length}
use Rattle.wire_codec.specs.Packets.{IsPacket, Packet as ReadPacket, WelcomeRows, id_of}
use Rattle.wire_codec.proofs.Joins.{in_order}
use Rattle.causal_cast.specs.Judging.{Judging}
use Rattle.causal_cast.specs.Verdicts.{from_rules}
use Rattle.causal_cast.specs.declared.verdict.Verdict.TheVariants as answers
use Rattle.causal_cast.proofs.ReadyFacts.{ready-may_be_taken}
use Rattle.welcome_history.specs.Joining.{judging as judging_rows, on_history}
use Rattle.welcome_history.specs.Welcomes.{rows_of}
use Rattle.reference_member.specs.Members.{Member, joining, judging, known, own_card, own_id}
use Rattle.reference_member.specs.Messages.{AreFounders, IsByCommand, IsNext, MadeMessage, answer_kind}
use Rattle.reference_member.specs.Refusals.{on_input, refusals_of, verdicts_over}
use Rattle.reference_member.specs.Steps as inputs
use Rattle.reference_member.specs.Steps.{Input, Step}
use Rattle.reference_member.specs.Accepted.{Accepts, BeginsBy, Commands, IsRunOf, Moves, Takes, given_by, known_before, row_of_packet, rows_before, with_made, with_taken, with_taken_over}
use Rattle.reference_member.proofs.Deciding.{answer-or-not}
use Rattle.reference_member.proofs.Histories.{map-map}
use Rattle.reference_member.proofs.Lawful.{begins, moves, ready-first}
use Rattle.reference_member.proofs.OwnerForms.{from-map, in-map}
use Rattle.reference_member.proofs.Packets.{add-hands_on, create-alone}
use Rattle.reference_member.proofs.Runs.{run-holds}
use Rattle.reference_member.proofs.States.{Sound}
use Rattle.reference_member.proofs.Welcomed.{First, adding, creating, invited, welcome-holds}

with-more : (ids : List Id) (i : Id) → length (with_id ids i) ≤ length ids + 1
with-more ids i = elim (test (has ids i)) [
  | yes_is e ↦ rw e (omega arith)
  | no_is e ↦ rw e (simp length-append (omega arith))
]

joined-more : (ids xs : List Id) → length (joined ids xs) ≤ length ids + length xs
joined-more ids [] = omega arith
joined-more ids (i ∷ xs) =
    let rest = joined-more (with_id ids i) xs in
    let one = with-more ids i in
    omega arith

-- what is ready by the rules is within the limits
rules-limit : (J : Judging) (packet : ReadPacket) → IsFirst (from_rules J packet) answers.Ready
    → length (ids_named (message_of packet.header ∷ history_of J.rows)) ≤ 32
rules-limit J packet (inl n) = absurd (let d : answers.Ready ≡ answers.Stranger = n.1 in cc)
rules-limit J packet (inr (named, inl n)) = absurd (let d : answers.Ready ≡ answers.NotMember = n.1 in cc)
rules-limit J packet (inr (named, inr (member, inl n))) = absurd (let d : answers.Ready ≡ answers.Forked n.0 = n.2 in cc)
rules-limit J packet (inr (named, inr (member, inr (alone, inl n)))) = absurd (let d : answers.Ready ≡ answers.BadOrder = n.1 in cc)
rules-limit J packet (inr (named, inr (member, inr (alone, inr (order, inl n))))) =
    absurd (let d : answers.Ready ≡ answers.BadKind = n.1 in cc)
rules-limit J packet (inr (named, inr (member, inr (alone, inr (order, inr (kind, inl n)))))) =
    absurd (let d : answers.Ready ≡ answers.HistoryFull (length (history_of J.rows)) = n.1 in cc)
rules-limit J packet (inr (named, inr (member, inr (alone, inr (order, inr (kind, inr (limits, rest))))))) = limits.ids

-- an answer names nobody
answer-names : (me : Id) (k : Kind) (target : Target) → named_by (kind_by (answer_kind me k) target) ≡ []
answer-names me (Create members) target = refl
answer-names me Update target = refl
answer-names me (Remove y) target = refl
answer-names me (Add y) target = elim (test (bytes_eq y me)) [ yes_is e ↦ rw e refl | no_is e ↦ rw e refl ]
answer-names me (Ack o took) target = refl
answer-names me (AddAck o) target = refl
answer-names me Text target = refl

module _ {K P : Type 0} (kem : Ghosts K P) (rule : History → List Id) where
  abbrev pub Few : Member → Type 0
  Few M = length (ids_named (known M)) ≤ 32

  kind-is : (M : Member) (t : Given) (cards : List Card) (kind : HeaderKind) (target : Target) (made : MadeMessage)
      → IsNext kem rule M t cards kind target made → kind_of made.header ≡ kind_by kind target
  kind-is M t cards kind target made next =
      ap (λ k. kind_by k made.header.target) next.kind_is ∙ ap (kind_by kind) next.target_is

  few-made : (t : Given) (made : MadeMessage) (M : Member)
      → length (joined (ids_named (known M)) (named_by (kind_of made.header))) ≤ 32 → Few (with_made kem t made M)
  unfolding with_made
  few-made t made M l = subst (λ (h : History). length (ids_named h) ≤ 32)
      (sym (history-push M.rows (record { header = made.header; cards = made.carried.cards }))) l

  few-quiet : (t : Given) (made : MadeMessage) (M : Member) → named_by (kind_of made.header) ≡ [] → Few M
      → Few (with_made kem t made M)
  few-quiet t made M none few =
      few-made t made M (subst (λ xs. length (joined (ids_named (known M)) xs) ≤ 32) (sym none) few)

  -- ---- commands

  founders-few : (own : Card) (others cards : List Card) → AreFounders own others cards → length others ≤ 31
      → length (map card_id cards) ≤ 32
  founders-few own others cards f few =
      let l = distinct-length (map card_id cards) (map card_id (own ∷ others)) (ascending-distinct (map card_id cards) f.ascending)
      (λ y i. (let c = from-map card_id cards y i in
      subst (λ z. In z (map card_id (own ∷ others))) (sym c.2) (in-map card_id ((f.whose c.0).0 c.1)))) in
      let n = length-map (own ∷ others) card_id in
      omega arith

  commanded : (t : Given) (input : Input) (M : Member) (made : Option MadeMessage) (after : Member)
      → GivesNone (on_input kem rule M input) → Commands kem rule t input M made after → Few M → Few after
  commanded t input M made after g c few = subst Few (sym c.after_is) (few-made t c.message M (by input g c.by_command))
    where
      named : (xs : List Id) → named_by (kind_of c.message.header) ≡ xs → length (joined (ids_named (known M)) xs) ≤ 32
          → length (joined (ids_named (known M)) (named_by (kind_of c.message.header))) ≤ 32
      named xs e l = subst (λ z. length (joined (ids_named (known M)) z) ≤ 32) (sym e) l

      by : (i : Input) → GivesNone (on_input kem rule M i) → IsByCommand kem rule M t i c.message
          → length (joined (ids_named (known M)) (named_by (kind_of c.message.header))) ≤ 32
      by (inputs.Init inviter height) g b = absurd b
      by (inputs.Create others) g b =
          let cards = b.0 in
          let empty : M.rows ≡ [] = g.1.0 in
          let nothing : known M ≡ [] = ap history_of empty ∙ history-none in
          let ids : ids_of (map id_of cards) ≡ map card_id cards = map-map (λ (id : Digest). id.0) id_of cards in
          let few_ids = founders-few (own_card kem M) others cards b.1 g.1.1.1.1.1.1.0 in
          let more = joined-more [] (map card_id cards) in
          named (map card_id cards)
          (ap named_by (kind-is M t cards kinds.Create (targets.Members (map id_of cards)) c.message b.2) ∙ ids)
          (subst (λ (h : History). length (joined (ids_named h) (map card_id cards)) ≤ 32) (sym nothing) (omega arith))
      by (inputs.Add card) g b =
          let one = with-more (ids_named (known M)) (card_id card) in
          let room = g.1.1.1.1.1.1.0 in
          named (card_id card ∷ [])
          (ap named_by (kind-is M t (card ∷ []) kinds.Add (targets.Member (record { 0 = record { 0 = card_id card } })) c.message b)) (omega arith)
      by (inputs.Remove target) g b =
          named [] (ap named_by (kind-is M t [] kinds.Remove (targets.Member (record { 0 = record { 0 = target } })) c.message b)) few
      by inputs.Update g b = named [] (ap named_by (kind-is M t [] kinds.Update targets.Nothing c.message b)) few
      by (inputs.Send text) g b = named [] (ap named_by (kind-is M t [] kinds.Text targets.Nothing c.message b)) few
      by (inputs.Take packet) g b = absurd b

  -- ---- packets

  module _ (packet : ReadPacket) (M : Member) where
    abbrev m : Message
    m = message_of packet.header

    known-taken : known (with_taken kem packet M) ≡ m ∷ known_before kem packet M
    unfolding with_taken
    known-taken = over M.rows packet.history refl
      where
        over : (rows : List Row) (handed_on : Option WelcomeRows) → M.rows ≡ rows
            → known (with_taken_over kem rows handed_on packet M) ≡ m ∷ history_of (rows_before kem rows handed_on)
        over [] None is = history-push [] (row_of_packet kem packet)
        over [] (Some welcome) is = history-push (rows_of welcome) (row_of_packet kem packet)
        over (row ∷ rows) handed_on is =
            history-push M.rows (row_of_packet kem packet) ∙ ap (λ (z : List Row). m ∷ history_of z) is

    module _ (bytes : Bytes) (is_read : IsPacket packet bytes) (history : IsHistory (known M)) where
      named-one : length (joined [] (named_by m.kind)) ≤ 32
      named-one =
          let few = (named-few packet.header.kind packet.header.target (in_order packet bytes is_read).header.target).few in
          let more = joined-more [] (named_by m.kind) in
          omega arith

      limit : (rows : List Row) → M.rows ≡ rows → IsFirst (verdicts_over kem rule M rows packet) answers.Ready
          → length (ids_named (m ∷ history_of (rows_before kem rows packet.history))) ≤ 32
      limit (row ∷ rows) is first =
          subst (λ (z : List Row). length (ids_named (m ∷ history_of z)) ≤ 32) is
          (ready-may_be_taken (judging kem rule M) packet history first).limits.ids
      limit [] is first = by (invited (joining kem rule M) packet first).first
        where
          by : First (joining kem rule M) packet → length (ids_named (m ∷ history_of (rows_before kem [] packet.history))) ≤ 32
          by (creating members create suits) =
              subst (λ (o : Option WelcomeRows). length (ids_named (m ∷ history_of (rows_before kem [] o))) ≤ 32)
              (sym (create-alone packet bytes members is_read create))
              (subst (λ (h : History). length (ids_named (m ∷ h)) ≤ 32) (sym history-none) named-one)
          by (adding y add over) =
              let handed = add-hands_on packet bytes y is_read add in
              let holds = welcome-holds (joining kem rule M) packet handed.0
              (subst (λ o. IsFirst (on_history (joining kem rule M) packet o) answers.Ready) handed.1 over) in
              subst (λ (o : Option WelcomeRows). length (ids_named (m ∷ history_of (rows_before kem [] o))) ≤ 32) (sym handed.1)
              (rules-limit (judging_rows (joining kem rule M) (rows_of handed.0)) packet holds.rows.others)

      few-taken : IsFirst (verdicts_over kem rule M M.rows packet) answers.Ready → Few (with_taken kem packet M)
      few-taken first = subst (λ (h : History). length (ids_named h) ≤ 32) (sym known-taken) (limit M.rows refl first)

  taken : (t : Given) (bytes : Bytes) (M : Member) (made : Option MadeMessage) (after : Member)
      → GivesNone (on_input kem rule M (inputs.Take bytes)) → Takes kem rule t bytes M made after → IsHistory (known M) → Few after
  taken t bytes M made after g k history =
      let packet = k.packet in
      let m = message_of packet.header in
      let few = few-taken packet M bytes k.is_read history (ready-first kem rule M bytes packet k.is_read g.0) in
      elim (answer-or-not rule (own_id kem M) (known_before kem packet M) m) [
        | inl needs ↦ (
            let a = k.answered needs in
            subst Few (sym a.3) (few-quiet t a.0 (with_taken kem packet M)
            (ap named_by (kind-is (with_taken kem packet M) t [] (answer_kind (own_id kem M) m.kind) _ a.0 a.2.is_next)
            ∙ answer-names (own_id kem M) m.kind _) few))
        | inr none ↦ subst Few (sym (k.unanswered none).1) few
      ]

  -- ---- runs

  began : (step : Step) (made : Option MadeMessage) (after : Member) → Accepts kem rule None step made after → Few after
  began step made after accepts = by step.input accepts.becomes
    where
      by : (input : Input) → BeginsBy kem rule input step.random made after → Few after
      by (inputs.Init inviter height) b = subst Few (sym b.0.is)
          (subst (λ (h : History). length (ids_named h) ≤ 32) (sym history-none) (omega arith))
      by (inputs.Create cards) b = absurd b
      by (inputs.Add card) b = absurd b
      by (inputs.Remove target) b = absurd b
      by inputs.Update b = absurd b
      by (inputs.Send text) b = absurd b
      by (inputs.Take packet) b = absurd b

  moved : (step : Step) (before : Member) (made : Option MadeMessage) (after : Member)
      → Accepts kem rule (Some before) step made after → IsHistory (known before) → Few before → Few after
  unfolding refusals_of
  moved step before made after accepts history few = by step.input accepts.refused_by_none accepts.becomes
    where
      by : (input : Input) → GivesNone (on_input kem rule before input) → Moves kem rule (given_by step) input before made after
          → Few after
      by (inputs.Init inviter height) g m = absurd m
      by (inputs.Create cards) g m = commanded (given_by step) (inputs.Create cards) before made after g m few
      by (inputs.Add card) g m = commanded (given_by step) (inputs.Add card) before made after g m few
      by (inputs.Remove target) g m = commanded (given_by step) (inputs.Remove target) before made after g m few
      by inputs.Update g m = commanded (given_by step) inputs.Update before made after g m few
      by (inputs.Send text) g m = commanded (given_by step) (inputs.Send text) before made after g m few
      by (inputs.Take packet) g m = taken (given_by step) packet before made after g m history

  abbrev IsFewAndSound : Member → Type 0
  IsFewAndSound M = Sound kem rule M × Few M

  pub run-few : (steps : List Step) (M : Member) (made : List MadeMessage) → IsRunOf kem rule steps (Some M) made → Few M
  run-few steps M made run = (run-holds kem rule IsFewAndSound
      (λ step made after accepts. (begins kem rule step made after accepts, began step made after accepts))
      (λ step before made after accepts both.
      (moves kem rule step before made after accepts both.0, moved step before made after accepts both.0.base.history both.1))
      steps M made run).1
