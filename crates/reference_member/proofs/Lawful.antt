-- The log of a member after its steps is lawful, and the member answers at once.
use Rattle.std.proofs.Common.{◌≡◌, ◌≢◌, ◌⊎◌, List, [], ◌∷◌, ◌++◌, Option, Some, None, refl, sym, ◌∙◌, ap, subst, inl, inr}
use Rattle.kem_trait.specs.declared.kem.Kem.{Ghosts}
use Rattle.group_model.specs.Sets.{Bytes, Id}
use Rattle.group_model.specs.Messages.{Add, History, IsHistory}
use Rattle.group_model.specs.Membership.{Names}
use Rattle.group_model.specs.Validity.{NeedsAnswer}
use Rattle.group_model.specs.Packets.{Given}
use Rattle.group_model.specs.Logs.{Joined, LogEntry, Took}
use Rattle.group_model.proofs.ListFacts.{In-nothing}
use Rattle.group_messages.specs.Messages.{message_of}
use Rattle.group_packets.specs.Packets.{packet_of}
use Rattle.causal_history.specs.Rows.{Row, history_of}
use Rattle.causal_history.proofs.RowFacts.{history-none}
use Rattle.member_view.specs.Causes.{GivesNone, IsFirst}
use Rattle.wire_codec.specs.Packets.{IsPacket, Packet as ReadPacket, WelcomeRows}
use Rattle.wire_codec.proofs.Joins.{one_packet}
use Rattle.causal_cast.specs.declared.verdict.Verdict.TheVariants as answers
use Rattle.welcome_history.specs.Joining.{on_history}
use Rattle.welcome_history.specs.Welcomes.{rows_of}
use Rattle.reference_member.specs.Members.{Member, joining, known, own_id}
use Rattle.reference_member.specs.Messages.{IsNext, MadeMessage, answer_kind}
use Rattle.reference_member.specs.Refusals.{IsVerdict, on_input, refusals_of, verdicts_over}
use Rattle.reference_member.specs.Steps as inputs
use Rattle.reference_member.specs.Steps.{Input, Step}
use Rattle.reference_member.specs.Accepted.{Accepts, Begins, BeginsBy, Commands, IsRunOf, Moves, Takes, given_by, known_before, part_opens, row_of_packet, rows_before, with_made, with_taken, with_taken_over}
use Rattle.reference_member.proofs.Answering.{answer-target}
use Rattle.reference_member.proofs.Commands.{command-enters, command-history, command-names}
use Rattle.reference_member.proofs.Deciding.{answer-or-not}
use Rattle.reference_member.proofs.Entered.{Takings, sound-answered, sound-taken, with_entry}
use Rattle.reference_member.proofs.Joined.{join-takings}
use Rattle.reference_member.proofs.Packets.{add-hands_on, create-alone}
use Rattle.reference_member.proofs.Runs.{run-holds}
use Rattle.reference_member.proofs.States.{Sound, base-made, conducts-made, owner-made, owns-made}
use Rattle.reference_member.proofs.Taken.{create-takings, ready-takings}
use Rattle.reference_member.proofs.Welcomed.{IsInvited, adding, creating, invited, welcome-holds}

module _ {K P : Type 0} (kem : Ghosts K P) (rule : History → List Id) where
  -- ---- the first step

  begun : (inviter : Id) (height : _) (random : Bytes) (after : Member) → Begins kem rule inviter height random after → Sound kem rule after
  begun inviter height random after b = subst (Sound kem rule) (sym b.is) (record {
    base = record {
      agrees = sym history-none;
      fresh = λ e. refl;
      named = λ row i. absurd (In-nothing i);
      secret = b.usable;
      history = subst IsHistory (sym history-none) tt;
    };
    conducts = λ O is. record { lawful = tt; at_once = tt; settled = inl refl };
  })

  -- ---- commands

  commanded : (t : Given) (input : Input) (M : Member) (made : Option MadeMessage) (after : Member)
      → GivesNone (on_input kem rule M input) → Commands kem rule t input M made after → Sound kem rule M → Sound kem rule after
  commanded t input M made after g c sound = subst (Sound kem rule) (sym c.after_is) (record {
    base = base-made kem rule M t c.message sound.base
        (command-history kem rule M t input c.message c.by_command sound.base.history) (command-names kem rule M t input c.message c.by_command);
    conducts = λ O is.
        let before = sound.conducts O (owner-made kem rule M t c.message O is) in
        conducts-made kem rule M t c.message O before.lawful before.at_once
        (command-enters kem rule M t c.message input g c.by_command sound.base O (owns-made kem rule M t c.message O is) before);
  })

  -- ---- packets

  module _ (M : Member) (packet : ReadPacket) where
    -- how a packet is taken
    pub record Outcome : Type 0 where
      pub rows : List Row
      pub entry : LogEntry
      pub older : History
      pub is : with_taken kem packet M ≡ with_entry rows entry M
      pub before : known_before kem packet M ≡ older
      pub takings : Takings kem rule M packet rows entry older

    abbrev rows-took : List Row
    rows-took = M.rows ++ row_of_packet kem packet ∷ []

    took-is : (M.rows ≢ []) ⊎ (packet.history ≡ None)
        → with_taken kem packet M ≡ with_entry rows-took (Took (packet_of kem packet)) M
    unfolding with_taken
    took-is alone = over M.rows packet.history refl refl
      where
        over : (rows : List Row) (handed_on : Option WelcomeRows) → M.rows ≡ rows → packet.history ≡ handed_on
            → with_taken_over kem rows handed_on packet M ≡ with_entry rows-took (Took (packet_of kem packet)) M
        over [] None none same =
            ap (λ (z : List Row). with_entry (z ++ row_of_packet kem packet ∷ []) (Took (packet_of kem packet)) M) (sym none)
        over [] (Some welcome) none same = elim alone [
          | inl some ↦ absurd (some none)
          | inr nothing ↦ (let e : None ≡ Some welcome = sym nothing ∙ same in absurd cc)
        ]
        over (row ∷ rows) handed_on some same = refl

    took-before : (M.rows ≢ []) ⊎ (packet.history ≡ None) → known_before kem packet M ≡ known M
    took-before alone = over M.rows packet.history refl refl
      where
        over : (rows : List Row) (handed_on : Option WelcomeRows) → M.rows ≡ rows → packet.history ≡ handed_on
            → history_of (rows_before kem rows handed_on) ≡ known M
        over [] None none same = ap history_of (sym none)
        over [] (Some welcome) none same = elim alone [
          | inl some ↦ absurd (some none)
          | inr nothing ↦ (let e : None ≡ Some welcome = sym nothing ∙ same in absurd cc)
        ]
        over (row ∷ rows) handed_on some same = ap history_of (sym some)

    abbrev rows-joined : WelcomeRows → List Row
    rows-joined welcome = rows_of welcome ++ row_of_packet kem packet ∷ []

    joined-is : (welcome : WelcomeRows) → M.rows ≡ [] → packet.history ≡ Some welcome
        → with_taken kem packet M ≡ with_entry (rows-joined welcome) (Joined (packet_of kem packet)) M
    unfolding with_taken
    joined-is welcome empty handed =
        ap (λ (z : List Row). with_taken_over kem z packet.history packet M) empty
        ∙ ap (λ (z : Option WelcomeRows). with_taken_over kem [] z packet M) handed

    joined-before : (welcome : WelcomeRows) → M.rows ≡ [] → packet.history ≡ Some welcome
        → known_before kem packet M ≡ history_of (rows_of welcome)
    joined-before welcome empty handed =
        ap (λ (z : List Row). history_of (rows_before kem z packet.history)) empty
        ∙ ap (λ (z : Option WelcomeRows). history_of (rows_before kem [] z)) handed

    module _ (bytes : Bytes) (is_read : IsPacket packet bytes) (sound : Sound kem rule M) where
      pub outcome : (rows : List Row) → M.rows ≡ rows → IsFirst (verdicts_over kem rule M rows packet) answers.Ready → Outcome
      outcome (row ∷ rows) is first =
          let joined : M.rows ≢ [] = λ e. (let none : row ∷ rows ≡ [] = sym is ∙ e in absurd cc) in
          record {
            rows = rows-took;
            entry = Took (packet_of kem packet);
            older = known M;
            is = took-is (inl joined);
            before = took-before (inl joined);
            takings = ready-takings kem rule M packet bytes is_read sound.base first;
          }
      outcome [] is first = by (invited (joining kem rule M) packet first)
        where
          by : IsInvited (joining kem rule M) packet → Outcome
          by i = elim i.first [
            | creating members create suits ↦ (
                let alone = create-alone packet bytes members is_read create in
                record {
                  rows = rows-took;
                  entry = Took (packet_of kem packet);
                  older = known M;
                  is = took-is (inr alone);
                  before = took-before (inr alone);
                  takings = create-takings kem rule M packet bytes is_read sound.base members create is i.invitation.other
                      i.invitation.names suits.0 suits.1;
                })
            | adding y add over ↦ (
                let handed = add-hands_on packet bytes y is_read add in
                let me : y ≡ own_id kem M = subst (λ k. Names k (own_id kem M)) add i.invitation.names in
                let holds = welcome-holds (joining kem rule M) packet handed.0
                (subst (λ o. IsFirst (on_history (joining kem rule M) packet o) answers.Ready) handed.1 over) in
                record {
                  rows = rows-joined handed.0;
                  entry = Joined (packet_of kem packet);
                  older = history_of (rows_of handed.0);
                  is = joined-is handed.0 is handed.1;
                  before = joined-before handed.0 is handed.1;
                  takings = join-takings kem rule M packet bytes is_read sound.base is handed.0 handed.1 (add ∙ ap Add me) first
                      i.invitation holds;
                })
          ]

  -- the packet that is ready is the one that is read
  pub ready-first : (M : Member) (bytes : Bytes) (packet : ReadPacket) → IsPacket packet bytes → IsVerdict kem rule M bytes answers.Ready
      → IsFirst (verdicts_over kem rule M M.rows packet) answers.Ready
  ready-first M bytes packet is_read (inl n) = absurd (let e : answers.Ready ≡ answers.Malformed n.0 = n.2 in cc)
  ready-first M bytes packet is_read (inr v) =
      subst (λ q. IsFirst (verdicts_over kem rule M M.rows q) answers.Ready) (one_packet bytes v.0 packet v.1 is_read) v.2

  taken : (t : Given) (bytes : Bytes) (M : Member) (made : Option MadeMessage) (after : Member)
      → GivesNone (on_input kem rule M (inputs.Take bytes)) → Takes kem rule t bytes M made after → Sound kem rule M → Sound kem rule after
  taken t bytes M made after g k sound =
      let packet = k.packet in
      let m = message_of packet.header in
      let o = outcome M packet bytes k.is_read sound M.rows refl (ready-first M bytes packet k.is_read g.0) in
      elim (answer-or-not rule (own_id kem M) (known_before kem packet M) m) [
        | inl needs ↦ (
            let a = k.answered needs in
            subst (Sound kem rule) (sym a.3) (subst (λ z. Sound kem rule (with_made kem t a.0 z)) (sym o.is)
            (sound-answered kem rule M packet o.rows o.entry o.older sound o.takings t a.0
            (subst (λ h. NeedsAnswer rule (own_id kem M) h m) o.before needs)
            (subst (λ z. IsNext kem rule z t [] (answer_kind (own_id kem M) m.kind)
            (answer-target m (answer_kind (own_id kem M) m.kind) (part_opens kem packet M)) a.0) o.is a.2.is_next))))
        | inr none ↦ subst (Sound kem rule) (sym (k.unanswered none).1) (subst (Sound kem rule) (sym o.is)
            (sound-taken kem rule M packet o.rows o.entry o.older sound o.takings
            (λ n. none (subst (λ h. NeedsAnswer rule (own_id kem M) h m) (sym o.before) n))))
      ]

  -- ---- runs

  pub begins : (step : Step) (made : Option MadeMessage) (after : Member) → Accepts kem rule None step made after → Sound kem rule after
  begins step made after accepts = by step.input accepts.becomes
    where
      by : (input : Input) → BeginsBy kem rule input step.random made after → Sound kem rule after
      by (inputs.Init inviter height) b = begun inviter height step.random after b.0
      by (inputs.Create cards) b = absurd b
      by (inputs.Add card) b = absurd b
      by (inputs.Remove target) b = absurd b
      by inputs.Update b = absurd b
      by (inputs.Send text) b = absurd b
      by (inputs.Take packet) b = absurd b

  pub moves : (step : Step) (before : Member) (made : Option MadeMessage) (after : Member)
      → Accepts kem rule (Some before) step made after → Sound kem rule before → Sound kem rule after
  unfolding refusals_of
  moves step before made after accepts sound = by step.input accepts.refused_by_none accepts.becomes
    where
      by : (input : Input) → GivesNone (on_input kem rule before input) → Moves kem rule (given_by step) input before made after
          → Sound kem rule after
      by (inputs.Init inviter height) g m = absurd m
      by (inputs.Create cards) g m = commanded (given_by step) (inputs.Create cards) before made after g m sound
      by (inputs.Add card) g m = commanded (given_by step) (inputs.Add card) before made after g m sound
      by (inputs.Remove target) g m = commanded (given_by step) (inputs.Remove target) before made after g m sound
      by inputs.Update g m = commanded (given_by step) inputs.Update before made after g m sound
      by (inputs.Send text) g m = commanded (given_by step) (inputs.Send text) before made after g m sound
      by (inputs.Take packet) g m = taken (given_by step) packet before made after g m sound

  pub run-sound : (steps : List Step) (M : Member) (made : List MadeMessage) → IsRunOf kem rule steps (Some M) made → Sound kem rule M
  run-sound = run-holds kem rule (Sound kem rule) begins moves
