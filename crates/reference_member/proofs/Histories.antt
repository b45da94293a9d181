-- The history of a member is that of its log.
use Rattle.std.proofs.Common.{◌≡◌, inl, inr, List, [], ◌∷◌, ◌++◌, map, reverse, Option, Some, None, refl, sym, ◌∙◌, ap, subst}
use Rattle.std.proofs.lemmas.List.{reverse-append}
use Rattle.kem_trait.specs.declared.kem.Kem.{Ghosts}
use Rattle.group_fields.specs.declared.header.Header.{Header}
use Rattle.group_model.specs.Sets.{Id}
use Rattle.group_model.specs.Messages.{History}
use Rattle.group_model.specs.Packets.{Given}
use Rattle.group_model.specs.Logs.{hist}
use Rattle.group_messages.specs.Messages.{message_of}
use Rattle.group_packets.specs.Packets as packet_words
use Rattle.causal_history.specs.Rows.{Row, history_of}
use Rattle.causal_history.proofs.RowFacts.{history-none, history-push}
use Rattle.wire_codec.specs.Packets.{Packet as ReadPacket, WelcomeRows}
use Rattle.welcome_history.specs.Welcomes.{row_of, rows_of}
use Rattle.reference_member.specs.Members.{Member, known, own_id}
use Rattle.reference_member.specs.Messages.{MadeMessage}
use Rattle.reference_member.specs.Steps as inputs
use Rattle.reference_member.specs.Steps.{Input, Step}
use Rattle.reference_member.specs.Accepted.{Accepts, BeginsBy, Commands, IsRunOf, Moves, given_by, known_before, row_of_packet, with_made, with_taken, with_taken_over}
use Rattle.reference_member.proofs.Deciding.{answer-or-not}
use Rattle.reference_member.proofs.Runs.{run-holds}

-- ---- rows and headers

map-append : {A B : Type 0} (f : A → B) (xs ys : List A) → map f (xs ++ ys) ≡ map f xs ++ map f ys
map-append f [] ys = refl
map-append f (x ∷ xs) ys = ap (λ z. f x ∷ z) (map-append f xs ys)

map-reverse : {A B : Type 0} (f : A → B) (xs : List A) → map f (reverse xs) ≡ reverse (map f xs)
map-reverse f [] = refl
map-reverse f (x ∷ xs) =
    ap (map f) (reverse-append (x ∷ []) xs) ∙ map-append f (reverse xs) (x ∷ [])
    ∙ ap (λ z. z ++ f x ∷ []) (map-reverse f xs) ∙ sym (reverse-append (f x ∷ []) (map f xs))

pub map-map : {A B C : Type 0} (f : B → C) (g : A → B) (xs : List A) → map f (map g xs) ≡ map (λ x. f (g x)) xs
map-map f g [] = refl
map-map f g (x ∷ xs) = ap (λ z. f (g x) ∷ z) (map-map f g xs)

-- the history of rows is that of their headers
pub history-headers : (rows : List Row) → history_of rows ≡ map message_of (reverse (map (λ (row : Row). row.header) rows))
unfolding history_of
history-headers rows =
    sym (map-map message_of (λ (row : Row). row.header) (reverse rows))
    ∙ ap (map message_of) (map-reverse (λ (row : Row). row.header) rows)

pub history-welcome : (welcome : WelcomeRows) → history_of (rows_of welcome) ≡ packet_words.rows_of (Some welcome)
history-welcome welcome =
    history-headers (rows_of welcome)
    ∙ ap (λ z. map message_of (reverse z)) (headers welcome.rows)
  where
    headers : (rows : List Header) → map (λ (row : Row). row.header) (map (row_of welcome.cards) rows) ≡ rows
    headers [] = refl
    headers (header ∷ rows) = ap (λ z. header ∷ z) (headers rows)

module _ {K P : Type 0} (kem : Ghosts K P) where
  pub made-history : (t : Given) (made : MadeMessage) (M : Member) → hist M.log ≡ known M
      → hist (with_made kem t made M).log ≡ known (with_made kem t made M)
  unfolding with_made
  made-history t made M e =
      ap (λ h. message_of made.header ∷ h) e
      ∙ sym (history-push M.rows (record { header = made.header; cards = made.carried.cards }))

  pub taken-history : (packet : ReadPacket) (M : Member) → hist M.log ≡ known M
      → hist (with_taken kem packet M).log ≡ known (with_taken kem packet M)
  unfolding with_taken
  taken-history packet M e = over M.rows packet.history refl refl
    where
      over : (rows : List Row) (handed_on : Option WelcomeRows) → M.rows ≡ rows → packet.history ≡ handed_on
          → hist (with_taken_over kem rows handed_on packet M).log ≡ known (with_taken_over kem rows handed_on packet M)
      over [] None none is =
          ap (λ h. message_of packet.header ∷ h) (e ∙ ap history_of none)
          ∙ sym (history-push [] (row_of_packet kem packet))
      over [] (Some welcome) none is =
          ap (λ h. message_of packet.header ∷ h) (ap packet_words.rows_of is ∙ sym (history-welcome welcome))
          ∙ sym (history-push (rows_of welcome) (row_of_packet kem packet))
      over (row ∷ rows) handed_on some is =
          ap (λ h. message_of packet.header ∷ h) e ∙ sym (history-push M.rows (row_of_packet kem packet))

module _ {K P : Type 0} (kem : Ghosts K P) (rule : History → List Id) where
  abbrev Agrees : Member → Type 0
  Agrees M = hist M.log ≡ known M

  begun : (step : Step) (made : Option MadeMessage) (after : Member) → Accepts kem rule None step made after → Agrees after
  begun step made after accepts = by step.input accepts.becomes
    where
      by : (input : Input) → BeginsBy kem rule input step.random made after → Agrees after
      by (inputs.Init inviter height) b = subst Agrees (sym b.0.is) (sym history-none)
      by (inputs.Create cards) b = absurd b
      by (inputs.Add card) b = absurd b
      by (inputs.Remove target) b = absurd b
      by inputs.Update b = absurd b
      by (inputs.Send text) b = absurd b
      by (inputs.Take packet) b = absurd b

  moved : (step : Step) (before : Member) (made : Option MadeMessage) (after : Member)
      → Accepts kem rule (Some before) step made after → Agrees before → Agrees after
  moved step before made after accepts e = by step.input accepts.becomes
    where
      t : Given
      t = given_by step

      command : (input : Input) → Commands kem rule t input before made after → Agrees after
      command input c = subst Agrees (sym c.after_is) (made-history kem t c.message before e)

      by : (input : Input) → Moves kem rule t input before made after → Agrees after
      by (inputs.Init inviter height) m = absurd m
      by (inputs.Create cards) m = command (inputs.Create cards) m
      by (inputs.Add card) m = command (inputs.Add card) m
      by (inputs.Remove target) m = command (inputs.Remove target) m
      by inputs.Update m = command inputs.Update m
      by (inputs.Send text) m = command (inputs.Send text) m
      by (inputs.Take packet) m =
          elim (answer-or-not rule (own_id kem before) (known_before kem m.packet before) (message_of m.packet.header)) [
            | inl needs ↦ (let a = m.answered needs in
                subst Agrees (sym a.3) (made-history kem t a.0 (with_taken kem m.packet before)
                (taken-history kem m.packet before e)))
            | inr none ↦ subst Agrees (sym (m.unanswered none).1) (taken-history kem m.packet before e)
          ]

  pub run-history : (steps : List Step) (M : Member) (made : List MadeMessage) → IsRunOf kem rule steps (Some M) made
      → hist M.log ≡ known M
  run-history = run-holds kem rule Agrees begun moved
