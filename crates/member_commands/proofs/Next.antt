-- What was done for a command is the member's next message, and the history and the book with it.
use Rattle.std.proofs.Common.{◌≡◌, ℕ, List, [], ◌∷◌, ◌++◌, Option, Some, refl, sym, ◌∙◌, ap, subst, inl, inr}
use Rattle.kem_trait.specs.declared.kem.Kem.{Ghosts}
use Rattle.group_fields.specs.Layouts.{Spells}
use Rattle.group_fields.specs.declared.header.Header.{Header}
use Rattle.group_fields.specs.declared.header.Kind.{Kind as HeaderKind}
use Rattle.group_fields.specs.declared.header.Kind.TheVariants as kinds
use Rattle.group_fields.specs.declared.header.Target.{Target}
use Rattle.group_model.specs.Sets.{Bytes, Id, In}
use Rattle.group_model.specs.Messages.{History, Message}
use Rattle.group_model.specs.KeyTerms.{seed_of}
use Rattle.group_model.specs.LawfulLogs.{MakesPacket}
use Rattle.group_model.specs.Logs.{Made, hist}
use Rattle.group_model.specs.Marks.{IsPlace}
use Rattle.group_model.specs.Membership.{AreAddressees, IsMembershipRule, ids_named}
use Rattle.group_model.specs.Packets.{Given}
use Rattle.group_model.specs.Packets as model
use Rattle.group_model.specs.Settings.{Owner}
use Rattle.group_model.proofs.Ascending.{addressees-same}
use Rattle.group_model.proofs.ListFacts.{In-either, In-nothing}
use Rattle.group_messages.specs.Messages.{message_of}
use Rattle.causal_history.specs.Rows.{Row, cards_of}
use Rattle.causal_history.proofs.ListMore.{get-below}
use Rattle.causal_history.proofs.RowFacts.{history-push}
use Rattle.wire_codec.specs.Packets as packets
use Rattle.wire_codec.specs.Packets.{Body}
use Rattle.member_view.specs.Causes.{GivesNone}
use Rattle.member_book.specs.Books.{BookState, sealed_to}
use Rattle.member_book.specs.BooksAfter.{book_after}
use Rattle.member_book.specs.Calls.{SendsEach, sends_each}
use Rattle.member_book.specs.Laws.{EntryKeeps, LogKeeps, book_of}
use Rattle.member_book.specs.Standing.{BookStands, PartsSame, SendsSame}
use Rattle.secret_book.specs.HeldBooks.{HeldBook}
use Rattle.book_standing.specs.Standing.{HeldStands}
use Rattle.body_parts.specs.Receivers.{AreReceivers, ids_to}
use Rattle.body_parts.proofs.Gathered.{addressed}
use Rattle.book_steps.specs.Entries.{MakesEntry}
use Rattle.reference_member.specs.Accepted.{with_made}
use Rattle.reference_member.specs.Members.{IsOwner, Member, known, own_id}
use Rattle.reference_member.specs.Messages.{IsByCommand, IsNext, MadeMessage, as_packet}
use Rattle.reference_member.specs.Refusals.{on_input, refusals_of}
use Rattle.reference_member.specs.Steps as inputs
use Rattle.reference_member.specs.Steps.{Input}
use Rattle.reference_member.proofs.Commands.{command-enters}
use Rattle.reference_member.proofs.Lawful.{run-sound}
use Rattle.reference_member.proofs.States.{Conducts, Owns, Sound, owns}
use Rattle.next_messages.specs.Bodies.{HasNextBody, IsBookOf}
use Rattle.next_messages.proofs.Addressed.{addressed-placed, maker-left_out}
use Rattle.next_messages.proofs.Seeded.{seeded-body}
use Rattle.member_commands.specs.Commands.{AsksFor, IsPlain, MayMake, given_to}
use Rattle.member_commands.specs.Making.{AreDone, IsMadeBy, closed, plain_row}
use Rattle.member_commands.proofs.Plain.{is-seeded, names-same, sends-seed}

pub nothing-behind : {A : Type 0} (xs : List A) → xs ++ [] ≡ xs
nothing-behind [] = refl
nothing-behind (x ∷ xs) = ap (λ z. x ∷ z) (nothing-behind xs)

pub in-front : {A : Type 0} {x : A} (xs : List A) → In x (xs ++ []) → In x xs
in-front xs i = elim (In-either xs i) [ inl j ↦ j | inr j ↦ absurd (In-nothing j) ]

pub none-refused : {K P : Type 0} (kem : Ghosts K P) (rule : History → List Id) (M : Member) (input : Input)
    → GivesNone (refusals_of kem rule (Some M) input) → GivesNone (on_input kem rule M input)
unfolding refusals_of
none-refused kem rule M input g = g

module _ {K P : Type 0} (kem : Ghosts K P) (rule : History → List Id) (is_rule : IsMembershipRule rule) (log_keeps : LogKeeps)
    (entry_keeps : EntryKeeps) (sends_each_part : SendsEach) (sends_same : SendsSame) (parts_same : PartsSame) where
  module _ (M : Member) (O : Owner) (t : Given) (place : ℕ) (kind : HeaderKind) (target : Target) (header : Header) (body : Bytes)
      (before sealed after : HeldBook) (learned : Option Bytes)
      (done : AreDone kem rule M.rows t.random (own_id kem M) place kind target header body before sealed after learned)
      (owner : IsOwner kem rule M O) (sound : Sound kem rule M)
      (stands : HeldStands kem O (ids_named (known M)) before (book_of O M.log)) where
    abbrev ids : List Id
    ids = ids_named (known M)

    abbrev state : BookState
    state = book_of O M.log

    abbrev last : Header
    last = closed header body

    abbrev m : Message
    m = message_of last

    abbrev to : List Id
    to = ids_to done.made.sealed.made.to

    conducts : Conducts kem rule M O
    conducts = sound.conducts O owner

    plain : IsPlain header.kind
    plain = subst IsPlain (sym done.begun.kind_is) done.plain

    names : ids_named (m ∷ known M) ≡ ids
    names = names-same last (known M) plain

    book-stands : BookStands O M.log state
    book-stands = log_keeps O M.log conducts.lawful

    book : IsBookOf kem M (cards_of M.rows ++ []) O state
    book = record {
      primitives = owner.primitives;
      id = owner.id;
      card = owner.card;
      keys = λ card i. owner.keys card (in-front (cards_of M.rows) i);
      stands = book-stands;
    }

    -- ---- the message

    carried : (carried : Body) × HasNextBody kem rule M t [] last to carried body
    carried = seeded-body kem rule M t sends_same parts_same done.kept [] O state book last
        (sends-seed header.kind header.target plain) done.made.bits before sealed body stands place
        (get-below ids place (own_id kem M) done.own)
        (maker-left_out rule M.rows header done.made.bits done.made.due (is-seeded header.kind header.target plain) place
        (subst (λ z. IsPlace z place header.sender.0.0) (sym names)
        (subst (λ z. IsPlace ids place z) (sym done.begun.sender) done.own)))
        done.made.sealed

    abbrev next : MadeMessage
    next = record { header = last; carried = carried.0; body = body }

    to_whom : AreAddressees rule (m ∷ known M) m to
    to_whom = addressed rule (m ∷ known M) m (ids_named (m ∷ known M)) done.made.bits done.made.sealed.made.to
        (subst (λ z. AreReceivers z done.made.bits done.made.sealed.made.to) (sym names) done.made.sealed.made.receivers)
        (done.made.due.crowd last.body done.new) (addressed-placed rule is_rule (known M) m)

    is-next : IsNext kem rule M t [] kind target next
    is-next = record {
      set = done.begun.set;
      group = done.begun.group;
      sender = done.begun.sender;
      seq = done.begun.seq;
      kind_is = done.begun.kind_is;
      target_is = done.begun.target_is;
      predecessors = done.begun.predecessors;
      digest = refl;
      spelled = subst (λ z. Spells (packets.body kem.SET kind z) body carried.0) done.begun.target_is
          (subst (λ z. Spells (packets.body kem.SET z header.target) body carried.0) done.begun.kind_is carried.1.spelled);
      cards_are = carried.1.cards_are;
      addressees = to;
      to_whom = to_whom;
      parts = carried.1.parts;
      written = carried.1.written;
      handed_on = carried.1.handed_on;
      text = carried.1.text;
      new = done.new;
    }

    by-command : (input : Input) → AsksFor input kind target → IsByCommand kem rule M t input next
    by-command (inputs.Init inviter height) asks = absurd asks
    by-command (inputs.Create cards) asks = absurd asks
    by-command (inputs.Add card) asks = absurd asks
    by-command (inputs.Remove y) asks =
        subst (λ z. IsNext kem rule M t [] kinds.Remove z next) asks.1
        (subst (λ z. IsNext kem rule M t [] z target next) asks.0 is-next)
    by-command inputs.Update asks =
        subst (λ z. IsNext kem rule M t [] kinds.Update z next) asks.1
        (subst (λ z. IsNext kem rule M t [] z target next) asks.0 is-next)
    by-command (inputs.Send text) asks = absurd asks
    by-command (inputs.Take packet) asks = absurd asks

    -- ---- the book

    owns-next : Owns kem rule M (cards_of M.rows ++ next.carried.cards) O
    owns-next = subst (λ z. Owns kem rule M z O)
        (sym (ap (λ z. cards_of M.rows ++ z) carried.1.cards_are ∙ nothing-behind (cards_of M.rows))) (owns kem rule M O owner)

    module _ (input : Input) (asks : AsksFor input kind target) (none : GivesNone (refusals_of kem rule (Some M) input)) where
      abbrev p : model.Packet
      p = as_packet kem M next

      makes : MakesPacket O M.log p t
      makes = (command-enters kem rule M t next input (none-refused kem rule M input none) (by-command input asks) sound.base O
          owns-next conducts).makes

      to-same : makes.addressees ≡ to
      to-same = addressees-same O.rule (m ∷ hist M.log) m makes.addressees to makes.to_whom
          (subst (λ r. AreAddressees r (m ∷ hist M.log) m to) (sym owner.rule_is)
          (subst (λ h. AreAddressees rule (m ∷ h) m to) (sym sound.base.agrees) to_whom))

      -- with the parts sealed
      sent : HeldStands kem O ids sealed (sealed_to O.primitives t p.parts state)
      sent = subst (λ z. HeldStands kem O ids sealed z)
          (sym (sends_each_part O M.log p t state makes ∙ ap (λ z. sends_each O t.random z state) to-same))
          (done.made.sealed.made.made.sends O ids state t.random stands done.made.sealed.made.receivers.placed
          done.made.sealed.drawn_from).stands

      entry : MakesEntry kem O (known M) (Made p t) state learned after
      entry = done.taken O state p t owner.rule_is (subst (λ z. IsPlace ids place z) (sym owner.id) done.own) sent refl
          (ap (λ z. seed_of z t.random) owner.primitives)

      pub made-by : IsMadeBy kem rule M O t input last body (M.rows ++ plain_row last ∷ []) after learned
      unfolding with_made
      made-by = record {
        next = next;
        header_is = refl;
        body_is = refl;
        by_command = by-command input asks;
        rows_are = ap (λ z. M.rows ++ record { header = last; cards = z } ∷ []) (sym carried.1.cards_are);
        stands = subst (λ h. HeldStands kem O (ids_named h) after (book_of O (Made p t ∷ M.log)))
            (sym (history-push M.rows (record { header = last; cards = carried.0.cards })))
            (subst (λ h. HeldStands kem O (ids_named (m ∷ known M)) after (book_after O h (Made p t) state))
            (sym sound.base.agrees) entry.stands);
        learns = entry.learned ∙ (entry_keeps O M.log (Made p t) state conducts.lawful makes book-stands).1;
      }

  -- for the rows and the id that the member has
  pub commands-make : (rows : List Row) (random : Bytes) (me : Id) (place : ℕ) (kind : HeaderKind) (target : Target) (header : Header)
      (body : Bytes) (before sealed after : HeldBook) (learned : Option Bytes)
      → AreDone kem rule rows random me place kind target header body before sealed after learned
      → (input : Input) (M : Member) (O : Owner) → AsksFor input kind target → MayMake kem rule me rows before input M O
      → IsMadeBy kem rule M O (given_to input random) input (closed header body) body (rows ++ plain_row (closed header body) ∷ []) after
      learned
  commands-make rows random me place kind target header body before sealed after learned done input M O asks may =
      let own = subst (λ i. AreDone kem rule M.rows random i place kind target header body before sealed after learned) (sym may.id)
      (subst (λ z. AreDone kem rule z random me place kind target header body before sealed after learned) (sym may.rows_are) done) in
      subst (λ z. IsMadeBy kem rule M O (given_to input random) input (closed header body) body (z ++ plain_row (closed header body) ∷ [])
      after learned) may.rows_are
      (made-by M O (given_to input random) place kind target header body before sealed after learned own may.owner
      (run-sound kem rule may.steps M may.made may.run) may.stands input asks may.refused_by_none)
