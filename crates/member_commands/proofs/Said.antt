-- What was done for a text is the member's next message, and the history and the book with it.
use Rattle.std.proofs.Common.{◌≡◌, ℕ, List, [], ◌∷◌, ◌++◌, ◌<◌, length, Some, refl, sym, ◌∙◌, ap, subst}
use Rattle.std.proofs.lemmas.Option.{get_or_from_slice_get}
use Rattle.kem_trait.specs.declared.kem.Kem.{Ghosts}
use Rattle.group_fields.specs.Layouts.{Spells}
use Rattle.group_fields.specs.declared.header.Header.{Header}
use Rattle.group_fields.specs.declared.header.Kind.{Kind as HeaderKind}
use Rattle.group_fields.specs.declared.header.Kind.TheVariants as kinds
use Rattle.group_fields.specs.declared.header.Target.TheVariants as targets
use Rattle.group_model.specs.Sets.{Bytes, Id}
use Rattle.group_model.specs.Messages.{History, Message, Text}
use Rattle.group_model.specs.LawfulLogs.{MakesPacket}
use Rattle.group_model.specs.Logs.{Made, hist}
use Rattle.group_model.specs.Marks.{IsPlace}
use Rattle.group_model.specs.Membership.{AreAddressees, IsAddressee, ids_named}
use Rattle.group_model.specs.Packets.{Given}
use Rattle.group_model.specs.Packets as model
use Rattle.group_model.specs.Settings.{Owner}
use Rattle.group_model.specs.Validity.{HasStepped}
use Rattle.group_model.proofs.ListFacts.{In-nothing}
use Rattle.group_messages.specs.Messages.{kind_by, message_of}
use Rattle.causal_history.specs.Rows.{Row, cards_of, history_of}
use Rattle.causal_history.proofs.ListMore.{get-below}
use Rattle.causal_history.proofs.RowFacts.{history-push}
use Rattle.wire_codec.specs.Packets as packets
use Rattle.wire_codec.specs.Packets.{Body}
use Rattle.member_view.specs.Causes.{GivesNone}
use Rattle.member_book.specs.Books.{BookState}
use Rattle.member_book.specs.Books as books
use Rattle.member_book.specs.BooksAfter.{book_after}
use Rattle.member_book.specs.Laws.{EntryKeeps, LogKeeps, OwnKnown, book_of}
use Rattle.member_book.specs.Places.{id_at}
use Rattle.member_book.specs.Standing.{BookStands}
use Rattle.secret_book.specs.HeldBooks.{HeldBook}
use Rattle.book_standing.specs.Standing.{CallsStand, HeldStands}
use Rattle.book_steps.specs.Entries.{HasText}
use Rattle.book_steps.specs.TextEntries.{TextsSaid}
use Rattle.reference_member.specs.Accepted.{with_made}
use Rattle.reference_member.specs.Members.{IsOwner, Member, known, own_id}
use Rattle.reference_member.specs.Messages.{IsNext, MadeMessage, as_packet}
use Rattle.reference_member.specs.Refusals.{refusals_of}
use Rattle.reference_member.specs.Steps.{Send}
use Rattle.reference_member.proofs.Commands.{command-enters}
use Rattle.reference_member.proofs.Lawful.{run-sound}
use Rattle.reference_member.proofs.States.{Conducts, Owns, Sound, owns}
use Rattle.next_messages.specs.Bodies.{HasNextBody, IsBookOf}
use Rattle.next_messages.proofs.Answered.{text-body}
use Rattle.member_commands.specs.Commands.{MayMake, given_to}
use Rattle.member_commands.specs.Making.{closed, plain_row}
use Rattle.member_commands.specs.Saying.{IsSaid, IsSaidBy}
use Rattle.member_commands.proofs.Next.{in-front, none-refused, nothing-behind}

-- it sends nobody a part
to-nobody : (rule : History → List Id) (h : History) (m : Message) → m.kind ≡ Text → AreAddressees rule h m []
to-nobody rule h m is = record {
  ascending = tt;
  all = λ z a. absurd (subst (λ k. IsAddressee rule h m k z) is a);
  only = λ z i. absurd (In-nothing i);
}

no-parts : {A : Type 0} (parts : List A) → (let none : List A = [] in Some none) ≡ Some parts → parts ≡ []
no-parts parts e = cc

module _ {K P : Type 0} (kem : Ghosts K P) (rule : History → List Id) (log_keeps : LogKeeps) (entry_keeps : EntryKeeps)
    (texts_said : TextsSaid kem)
    (calls_stand : (O : Owner) (ids : List Id) (p : ℕ) (b : HeldBook) (state : BookState) → HeldStands kem O ids b state
    → p < length ids → CallsStand kem O ids p b state) where
  module _ (M : Member) (O : Owner) (random text : Bytes) (place : ℕ) (header : Header) (body : Bytes) (before after : HeldBook)
      (done : IsSaid kem M.rows random (own_id kem M) place text header body before after)
      (owner : IsOwner kem rule M O) (sound : Sound kem rule M)
      (stands : HeldStands kem O (ids_named (known M)) before (book_of O M.log))
      (none : GivesNone (refusals_of kem rule (Some M) (Send text))) where
    abbrev ids : List Id
    ids = ids_named (known M)

    abbrev state : BookState
    state = book_of O M.log

    abbrev last : Header
    last = closed header body

    abbrev m : Message
    m = message_of last

    abbrev t : Given
    t = given_to (Send text) random

    conducts : Conducts kem rule M O
    conducts = sound.conducts O owner

    book-stands : BookStands O M.log state
    book-stands = log_keeps O M.log conducts.lawful

    book : IsBookOf kem M (cards_of M.rows ++ []) O state
    book = record {
      primitives = owner.primitives;
      id = owner.id;
      card = owner.card;
      keys = λ card i. owner.keys card (in-front (cards_of M.rows) i);
      stands = book-stands;
    }

    own : IsPlace ids place O.id
    own = subst (λ z. IsPlace ids place z) (sym owner.id) done.own

    own-at : id_at ids place ≡ O.id
    own-at = get_or_from_slice_get ids place O.id [] own

    calls : CallsStand kem O ids place before state
    calls = calls_stand O ids place before state stands (get-below ids place O.id own)

    is-text : m.kind ≡ Text
    is-text = ap (λ (k : HeaderKind). kind_by k header.target) done.begun.kind_is

    -- ---- the message

    carried : (carried : Body) × HasNextBody kem rule M t [] last [] carried body
    carried = text-body kem rule M t O state (cards_of M.rows ++ []) book ids place before calls own-at last done.begun.kind_is body
        done.sealed

    abbrev next : MadeMessage
    next = record { header = last; carried = carried.0; body = body }

    is-next : IsNext kem rule M t [] kinds.Text targets.Nothing next
    is-next = record {
      set = done.begun.set;
      group = done.begun.group;
      sender = done.begun.sender;
      seq = done.begun.seq;
      kind_is = done.begun.kind_is;
      target_is = done.begun.target_is;
      predecessors = done.begun.predecessors;
      digest = refl;
      spelled = subst (λ z. Spells (packets.body kem.SET kinds.Text z) body carried.0) done.begun.target_is
          (subst (λ z. Spells (packets.body kem.SET z header.target) body carried.0) done.begun.kind_is carried.1.spelled);
      cards_are = carried.1.cards_are;
      addressees = [];
      to_whom = to-nobody rule (m ∷ known M) m is-text;
      parts = carried.1.parts;
      written = carried.1.written;
      handed_on = carried.1.handed_on;
      text = carried.1.text;
      new = done.new;
    }

    -- ---- the book

    owns-next : Owns kem rule M (cards_of M.rows ++ next.carried.cards) O
    owns-next = subst (λ z. Owns kem rule M z O)
        (sym (ap (λ z. cards_of M.rows ++ z) carried.1.cards_are ∙ nothing-behind (cards_of M.rows))) (owns kem rule M O owner)

    abbrev p : model.Packet
    p = as_packet kem M next

    makes : MakesPacket O M.log p t
    makes = (command-enters kem rule M t next (Send text) (none-refused kem rule M (Send text) none) is-next sound.base O
        owns-next conducts).makes

    entry : HasText kem O (known M) (Made p t) state (Some text) after
    entry = texts_said O (known M) p t place state after is-text (done.begun.sender ∙ sym owner.id) (no-parts p.parts carried.1.parts) own
        (subst (λ z. HeldStands kem O ids z (books.chained O.primitives (id_at ids place) state)) (sym done.moved) calls.chains)

    pub said-by : IsSaidBy kem rule M O random text last body (M.rows ++ plain_row last ∷ []) after
    unfolding with_made
    said-by = record {
      is = record {
        next = next;
        header_is = refl;
        body_is = refl;
        by_command = is-next;
        rows_are = ap (λ z. M.rows ++ record { header = last; cards = z } ∷ []) (sym carried.1.cards_are);
        stands = subst (λ h. HeldStands kem O (ids_named h) after (book_of O (Made p t ∷ M.log)))
            (sym (history-push M.rows (record { header = last; cards = carried.0.cards })))
            (subst (λ h. HeldStands kem O (ids_named (m ∷ known M)) after (book_after O h (Made p t) state))
            (sym sound.base.agrees) entry.stands);
        learns = sym entry.no_secret ∙ (entry_keeps O M.log (Made p t) state conducts.lawful makes book-stands).1;
      };
      says = sym entry.reads;
    }

  -- for the rows and the id that the member has
  pub texts-make : (rows : List Row) (random me : Bytes) (place : ℕ) (text : Bytes) (header : Header)
      (body : Bytes) (before after : HeldBook) → IsSaid kem rows random me place text header body before after → (M : Member)
      (O : Owner) → MayMake kem rule me rows before (Send text) M O
      → IsSaidBy kem rule M O random text (closed header body) body (rows ++ plain_row (closed header body) ∷ []) after
  texts-make rows random me place text header body before after done M O may =
      let own = subst (λ i. IsSaid kem M.rows random i place text header body before after) (sym may.id)
      (subst (λ z. IsSaid kem z random me place text header body before after) (sym may.rows_are) done) in
      subst (λ z. IsSaidBy kem rule M O random text (closed header body) body (z ++ plain_row (closed header body) ∷ []) after)
      may.rows_are
      (said-by M O random text place header body before after own may.owner (run-sound kem rule may.steps M may.made may.run) may.stands
      may.refused_by_none)

-- who is refused no text has stepped, and so its chain is known
module _ {K P : Type 0} (kem : Ghosts K P) (rule : History → List Id) (log_keeps : LogKeeps) (own_known : OwnKnown)
    (calls_stand : (O : Owner) (ids : List Id) (p : ℕ) (b : HeldBook) (state : BookState) → HeldStands kem O ids b state
    → p < length ids → CallsStand kem O ids p b state) where
  has-stepped : (M : Member) (text : Bytes) → GivesNone (refusals_of kem rule (Some M) (Send text)) → HasStepped (known M) (own_id kem M)
  has-stepped M text none = (none-refused kem rule M (Send text) none).1.1.1.0

  pub chain-there : (rows : List Row) (me : Id) (place : ℕ) (book : HeldBook) (text : Bytes) (M : Member) (O : Owner)
      → IsPlace (ids_named (history_of rows)) place me → MayMake kem rule me rows book (Send text) M O
      → (key : Bytes) × (book.chain place ≡ Some key)
  chain-there rows me place book text M O at may =
      let sound = run-sound kem rule may.steps M may.made may.run in
      let lawful = (sound.conducts O may.owner).lawful in
      let own : IsPlace (ids_named (known M)) place O.id = subst (λ z. IsPlace (ids_named (known M)) place z) (sym may.id ∙ sym may.owner.id)
      (subst (λ z. IsPlace (ids_named (history_of z)) place me) (sym may.rows_are) at) in
      let stepped : HasStepped (hist M.log) O.id = subst (λ h. HasStepped h O.id) (sym sound.base.agrees)
      (subst (λ z. HasStepped (known M) z) (sym may.owner.id) (has-stepped M text may.refused_by_none)) in
      let key = (own_known O M.log lawful).1 stepped in
      let calls = calls_stand O (ids_named (known M)) place book (book_of O M.log) may.stands
      (get-below (ids_named (known M)) place O.id own) in (
        key.0,
        calls.chain ∙ ap (book_of O M.log).chain (get_or_from_slice_get (ids_named (known M)) place O.id [] own)
            ∙ (log_keeps O M.log lawful).chains O.id ∙ key.1,
      )
