-- An add that is ready may be the first entry of the log of who joins by it.
use Rattle.std.proofs.Common.{◌≡◌, true, List, [], ◌∷◌, ◌++◌, Option, Some, None, refl, sym, ◌∙◌, ap, subst}
use Rattle.std.specs.Prelude.{is_some}
use Rattle.kem_trait.specs.declared.kem.Kem.{Ghosts}
use Rattle.group_model.specs.Sets.{Bytes, Id, In}
use Rattle.group_model.specs.Messages.{Add, AreHeads, History, IsHistory, Message}
use Rattle.group_model.specs.Membership.{IsMembershipRule, IsSeeded, Named, Names, named_by}
use Rattle.group_model.specs.Validity.{AllValid, AreUnforked, IsUnforked, MayFollow}
use Rattle.group_model.specs.Primitives.{KeyPair, Primitives}
use Rattle.group_model.specs.KeyTerms.{welcome_word}
use Rattle.group_model.specs.Packets.{Packet}
use Rattle.group_model.specs.Settings.{Owner}
use Rattle.group_model.specs.Logs.{Joined, Log}
use Rattle.group_model.specs.LawfulLogs.{JoinsByPacket}
use Rattle.group_model.specs.Knowledge.{answer_by, answer_known, handed_by, known as ratchet_known, or_else, payload, prior_of}
use Rattle.group_model.specs.Conduct.{Follows, asks, waiting}
use Rattle.group_model.proofs.ListFacts.{In-nothing, In-left, In-right, equal_id}
use Rattle.group_model.proofs.Knowing.{answer-own}
use Rattle.group_model.proofs.RemoveWins.{In-Names, Names-In, Named-ids_named}
use Rattle.group_keys.specs.Primitives.{primitives_of}
use Rattle.group_messages.specs.Messages.{kind_of, message_of}
use Rattle.group_packets.specs.Packets as packet_words
use Rattle.group_packets.specs.Packets.{packet_of}
use Rattle.causal_history.specs.Rows.{Row, cards_of, history_of, row_message}
use Rattle.causal_history.proofs.RowFacts.{history-push}
use Rattle.member_view.specs.Causes.{IsFirst}
use Rattle.wire_codec.specs.Packets.{IsPacket, Packet as ReadPacket, WelcomeRows}
use Rattle.causal_cast.specs.Judging.{inviter_by}
use Rattle.causal_cast.specs.declared.verdict.Verdict.TheVariants as answers
use Rattle.welcome_history.specs.Joining.{IsInvitation, first_verdicts, judging as judging_over}
use Rattle.welcome_history.specs.Welcomes.{row_of, rows_of}
use Rattle.welcome_history.proofs.ReadyRows.{ready-readable}
use Rattle.reference_member.specs.Members.{Member, joining, known, own_id, own_pair}
use Rattle.reference_member.specs.Accepted.{row_of_packet}
use Rattle.reference_member.proofs.Entered.{Entered, Takings, with_entry}
use Rattle.reference_member.proofs.Histories.{history-welcome}
use Rattle.reference_member.proofs.Makes.{owner}
use Rattle.reference_member.proofs.OwnerForms.{Encapsulates, SaysOf, fewer-said, first-of, from-map, inviter-first, inviter-said}
use Rattle.reference_member.proofs.Packets.{packet-named}
use Rattle.reference_member.proofs.RowsNamed.{AreNamed, IsNamed, cards-more, cards-of-row, in-history, named-more, row-of as row-with}
use Rattle.reference_member.proofs.States.{Base, no-rows}
use Rattle.reference_member.proofs.Taken.{some-of}
use Rattle.reference_member.proofs.Welcomed.{WelcomeHolds, add-follows, all_valid-moved, ids-of-cards, in-cards_for, may_follow-moved}

-- ---- what the answer takes

joined-answer : (K : Primitives) (me : Id) (b : Bytes) (prior : Option Bytes)
    → (v : Bytes) × (answer_by K (Add me) me None (or_else (handed_by me (Add me) (Some b)) prior) None ≡ Some v)
joined-answer K me b prior = rw (equal_id me me refl) (K.out b welcome_word, refl)

joined-known : (K : Primitives) (card : KeyPair) (me : Id) (p : Packet) (l : Log) → is_some (payload K card me l p) ≡ true
    → p.header.kind ≡ Add me → (v : Bytes) × (answer_known K card me (Joined p ∷ l) p.header.id me None ≡ Some v)
joined-known K card me p l opens adds =
    let s = some-of (payload K card me l p) opens in
    let prior : Option Bytes = prior_of (Joined p) (ratchet_known K card me l p.header.sender) p.header.sender in
    let r = subst (λ k. (v : Bytes) × (answer_by K k me None (or_else (handed_by me k (payload K card me l p)) prior) None ≡ Some v)) (sym adds)
    (subst (λ (z : Option Bytes). (v : Bytes) × (answer_by K (Add me) me None (or_else (handed_by me (Add me) z) prior) None ≡ Some v)) (sym s.1)
    (joined-answer K me s.0 prior)) in
    (r.0, answer-own K card me (Joined p) l p.header.id me None refl ∙ r.1)

module _ {K P : Type 0} (kem : Ghosts K P) (rule : History → List Id) (M : Member) (packet : ReadPacket) (bytes : Bytes)
    (is_read : IsPacket packet bytes) (base : Base kem rule M) (empty : M.rows ≡ []) (welcome : WelcomeRows)
    (handed : packet.history ≡ Some welcome) (adds : (message_of packet.header).kind ≡ Add (own_id kem M))
    (first : IsFirst (first_verdicts (joining kem rule M) packet) answers.Ready)
    (invitation : IsInvitation (joining kem rule M) packet) (holds : WelcomeHolds (joining kem rule M) packet welcome) where
  abbrev m : Message
  m = message_of packet.header

  abbrev p : Packet
  p = packet_of kem packet

  abbrev older : History
  older = history_of (rows_of welcome)

  abbrev rows-now : List Row
  rows-now = rows_of welcome ++ row_of_packet kem packet ∷ []

  abbrev now : Member
  now = with_entry rows-now (Joined p) M

  known-now : known now ≡ m ∷ older
  known-now = history-push (rows_of welcome) (row_of_packet kem packet)

  rows-are : p.rows ≡ older
  rows-are = ap packet_words.rows_of handed ∙ sym (history-welcome welcome)

  cards-now : cards_of rows-now ≡ cards_of (rows_of welcome) ++ packet.cards
  cards-now = cards-more (rows_of welcome) (row_of_packet kem packet)

  rows-named : AreNamed (rows_of welcome)
  rows-named row i =
      let r = from-map (row_of welcome.cards) welcome.rows row i in
      subst IsNamed (sym r.2)
      (ids-of-cards welcome.cards (named_by (kind_of r.0)) (λ x j. (holds.cards.named x).1
      (Named-ids_named older x (record {
        by = row_message row;
        there_is = in-history (rows_of welcome) row i;
        names = subst (λ (z : Row). Names (kind_of z.header) x) (sym r.2) (In-Names (kind_of r.0) x j);
      }))))

  history : IsHistory (m ∷ older)
  history = (
    λ i k. let q = holds.rows.end.heads.only i k in record { by = q.0; there_is = q.1.there_is; has_id = q.2 },
    holds.rows.end.fresh,
    (ready-readable (joining kem rule M) packet welcome (own_id kem M) adds handed first).history,
  )

  base-now : Base kem rule now
  base-now = record {
    agrees = ap (λ h. m ∷ h) rows-are ∙ sym known-now;
    fresh = λ e. absurd (no-rows (rows_of welcome) (row_of_packet kem packet) e);
    named = named-more (rows_of welcome) (row_of_packet kem packet) rows-named (packet-named kem packet bytes is_read);
    secret = base.secret;
    history = subst IsHistory (sym known-now) history;
  }

  module _ (inviter : Id → Option Id) (public_key : Id → Bytes) (is_rule : IsMembershipRule rule)
      (encapsulates : Encapsulates (primitives_of kem) inviter public_key)
      (says : SaysOf kem inviter public_key (cards_of rows-now)) where
    abbrev O : Owner
    O = owner kem rule M inviter public_key is_rule encapsulates

    said : (y : Id) → In y (named_by m.kind) → inviter_by kem.is_public packet.cards y ≡ inviter y
    said y i =
        inviter-said kem inviter public_key packet.cards
        (fewer-said kem inviter public_key (cards_of rows-now) packet.cards
        (λ card j. subst (λ z. In card z) (sym cards-now) (In-right (cards_of (rows_of welcome)) j)) says)
        y (subst (λ z. In y z) (sym (packet-named kem packet bytes is_read)) i)

    -- of whom the rows name the owner says what the first card in the welcome says
    said-rows : (y : Id) → Named older y → inviter_by kem.is_public welcome.cards y ≡ inviter y
    said-rows y n =
        let r = row-with (rows_of welcome) n.by n.there_is in
        let h = from-map (row_of welcome.cards) welcome.rows r.0 r.1 in
        let k = first-of welcome.cards y ((holds.cards.named y).1 (Named-ids_named older y n)) in
        let names : In y (named_by (kind_of h.0)) = Names-In (kind_of h.0) y
        (subst (λ (z : Row). Names (kind_of z.header) y) h.2 (subst (λ (z : Message). Names z.kind y) r.2 n.names)) in
        let there_is : In k.card r.0.cards = subst (λ (z : Row). In k.card z.cards) (sym h.2)
        (in-cards_for welcome.cards (named_by (kind_of h.0)) y k.card names k.first) in
        let among : In k.card (cards_of rows-now) = subst (λ z. In k.card z) (sym cards-now)
        (In-left packet.cards (cards-of-row (rows_of welcome) r.0 r.1 k.card there_is)) in
        inviter-first kem inviter public_key welcome.cards y k.card k.first ∙ sym (says.inviters k.card among) ∙ ap inviter k.own

    joins : JoinsByPacket O M.log p
    joins =
        let heads : AreHeads older m.predecessors = holds.rows.end.heads in
        let over = add-follows (judging_over (joining kem rule M) (rows_of welcome)) packet holds.rows.others in
        record {
          fresh = base.fresh empty;
          other = invitation.other;
          adds = adds;
          heads = subst (λ h. AreHeads h m.predecessors) (sym rows-are) heads;
          history = subst (λ h. IsHistory (m ∷ h)) (sym rows-are) history;
          all_valid = subst (AllValid rule inviter) (sym rows-are)
              (all_valid-moved rule (inviter_by kem.is_public welcome.cards) inviter older (λ y n. sym (said-rows y n)) holds.rows.valid);
          valid = subst (λ h. MayFollow rule inviter h m) (sym rows-are)
              (may_follow-moved rule (inviter_by kem.is_public packet.cards) inviter older m
              (λ y n. sym (said y (Names-In m.kind y n))) over.valid);
          unforked = subst (λ h. IsUnforked h m) (sym rows-are) (over.unforked holds.rows.end.fresh);
          rows_unforked = subst AreUnforked (sym rows-are) holds.rows.unforked;
        }

    entered : Entered kem rule M packet rows-now (Joined p) older O
    entered = record {
      may = joins;
      turn = subst (λ o. Follows o (Joined p)) (sym (ap waiting (base.fresh empty))) tt;
      waits = sym (ap (λ k. asks k m.id) adds);
      other = invitation.other;
      new = holds.rows.end.fresh;
      takes = λ opens which. joined-known (primitives_of kem) (own_pair kem M) (own_id kem M) p M.log opens adds;
      seen = λ opens seeded. absurd (subst IsSeeded adds seeded);
    }

  pub join-takings : Takings kem rule M packet rows-now (Joined p) older
  join-takings = record {
    base = base-now;
    is = known-now;
    more = λ card i. absurd (In-nothing (subst (λ z. In card (cards_of z)) empty i));
    entered = λ inviter public_key is_rule encapsulates says conducts. entered inviter public_key is_rule encapsulates says;
  }
