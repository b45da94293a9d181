-- The next message of a member is one that its log may have next.
use Rattle.std.proofs.Common.{◌≡◌, ◌+◌, List, [], ◌∷◌, ◌++◌, map, reverse, Option, Some, None, true, refl, sym, ◌∙◌, ap, subst, inl, inr}
use Rattle.std.specs.Option.{option_and_then}
use Rattle.kem_trait.specs.declared.kem.Kem.{Ghosts}
use Rattle.group_fields.specs.Cards.{card_id}
use Rattle.group_fields.specs.declared.card.Card.{Card}
use Rattle.group_fields.specs.declared.header.Kind.{Kind as HeaderKind}
use Rattle.group_fields.specs.declared.header.Target.{Target}
use Rattle.group_model.specs.Sets.{Bytes, Id, In, here, there}
use Rattle.group_model.specs.Messages.{Add, Ack, Text, Message, History, IsHistory, Stands, AreHeads}
use Rattle.group_model.specs.Membership.{AreAddressees, IsMembershipRule, Named, Names, named_by}
use Rattle.group_model.specs.Validity.{MayFollow, MeetsKind, count_of}
use Rattle.group_model.specs.Pairing.{Part}
use Rattle.group_model.specs.Packets.{Given}
use Rattle.group_model.specs.Settings.{Owner}
use Rattle.group_model.specs.Logs.{Made, hist}
use Rattle.group_model.specs.LawfulLogs.{IsLawfulLog, MakesPacket}
use Rattle.group_model.specs.Knowledge.{answer_known, chain_known, text_sealed}
use Rattle.group_model.specs.Parts.{part_sent, part_with, parts_of, payload_sent}
use Rattle.group_model.specs.Conduct.{AnswersAtOnce, Follows, waiting}
use Rattle.group_model.proofs.ListFacts.{In-cases, In-left, In-right}
use Rattle.group_model.proofs.LogLaws.{log_kept}
use Rattle.group_model.proofs.RemoveWins.{Names-In}
use Rattle.group_model.proofs.Conduct.{made_is_valid}
use Rattle.group_keys.specs.Primitives.{primitives_of}
use Rattle.group_messages.specs.Messages.{message_of}
use Rattle.group_packets.specs.Packets as packet_words
use Rattle.group_packets.specs.Packets.{addressed_of, sealed_of}
use Rattle.causal_history.specs.Rows.{cards_of}
use Rattle.causal_cast.proofs.Begun.{begun-with, follows}
use Rattle.reference_member.specs.Members.{Member, known, own_id, own_pair, public_key_by}
use Rattle.reference_member.specs.Messages.{CarriesText, HandsOn, IsNext, MadeMessage, as_packet}
use Rattle.reference_member.proofs.Histories.{history-headers}
use Rattle.reference_member.proofs.OwnerForms.{Encapsulates, SaysOf, key-said, owner_with}
use Rattle.reference_member.proofs.RowsNamed.{AreNamed, addressee-named, named-card}

-- parts by keys that are the same
parts-same : (f g : Id → Option Part) (ids : List Id) → ((y : Id) → In y ids → f y ≡ g y) → parts_of f ids ≡ parts_of g ids
parts-same f g [] same = refl
parts-same f g (y ∷ ids) same = rw (same y here, parts-same f g ids (λ z i. same z (there i))) refl

map-both : {A B : Type 0} (f : A → B) (xs ys : List A) → map f (xs ++ ys) ≡ map f xs ++ map f ys
map-both f [] ys = refl
map-both f (x ∷ xs) ys = ap (λ z. f x ∷ z) (map-both f xs ys)

module _ {K P : Type 0} (kem : Ghosts K P) (rule : History → List Id) (M : Member) (inviter : Id → Option Id)
    (public_key : Id → Bytes) (is_rule : IsMembershipRule rule)
    (encapsulates : Encapsulates (primitives_of kem) inviter public_key) where
  abbrev pub owner : Owner
  owner = owner_with (primitives_of kem) rule (own_id kem M) (own_pair kem M) inviter public_key is_rule encapsulates

  module _ (agrees : hist M.log ≡ known M) (lawful : IsLawfulLog owner M.log) (t : Given) (cards : List Card)
      (kind : HeaderKind) (target : Target) (made : MadeMessage) (next : IsNext kem rule M t cards kind target made) where
    abbrev m : Message
    m = message_of made.header

    history : IsHistory (m ∷ hist M.log)
    history = (
      λ i k. let p = next.predecessors.only i k in
          subst (λ h. Stands h i) (sym agrees) (record { by = p.0; there_is = p.1.there_is; has_id = p.2 }),
      λ s. next.new (subst (λ h. Stands h m.id) agrees s),
      (log_kept owner M.log lawful).history,
    )

    heads : AreHeads (hist M.log) m.predecessors
    heads = subst (λ h. AreHeads h m.predecessors) (sym agrees) next.predecessors

    rows : (y : Id) → m.kind ≡ Add y → packet_words.rows_of made.carried.history ≡ hist M.log
    rows y e =
        let on = subst (λ k. HandsOn kem rule M t k made.carried.history) e next.handed_on in
        ap packet_words.rows_of on.1 ∙ ap (λ z. map message_of (reverse z)) on.2.headers
        ∙ sym (history-headers M.rows) ∙ sym agrees

    text : m.kind ≡ Text → text_sealed (primitives_of kem)
        (chain_known (primitives_of kem) (own_pair kem M) (own_id kem M) M.log (own_id kem M)) t.text
        ≡ Some (sealed_of made.carried.text)
    text e =
        let c = subst (λ k. CarriesText kem rule M t k made.carried.text) e next.text in
        c.2.is ∙ ap (λ o. Some (sealed_of o)) (sym c.1)

    module _ (named : AreNamed M.rows) (names : map card_id cards ≡ named_by m.kind)
        (says : SaysOf kem inviter public_key (cards_of M.rows ++ cards)) where
      has-card : (y : Id) → Named (m ∷ known M) y → In y (map card_id (cards_of M.rows ++ cards))
      has-card y n =
          subst (λ z. In y z) (sym (map-both card_id (cards_of M.rows) cards)) (elim (In-cases n.there_is) [
            | inl e ↦ In-right (map card_id (cards_of M.rows)) (subst (λ z. In y z) (sym names)
                (Names-in e n.names))
            | inr i ↦ In-left (map card_id cards)
                (named-card M.rows named y (record { by = n.by; there_is = i; names = n.names }))
          ])
        where
          Names-in : {a : Message} → a ≡ m → Names a.kind y → In y (named_by m.kind)
          Names-in e k = Names-In m.kind y
              (subst (λ (z : Message). Names z.kind y) e k)

      -- each part is to the key of the addressee's card
      parts : parts_of (part_sent (primitives_of kem) (own_pair kem M) (own_id kem M) public_key M.log t m.kind) next.addressees
          ≡ Some (map (addressed_of kem) made.carried.parts)
      parts =
          sym (parts-same
          (part_sent (primitives_of kem) (own_pair kem M) (own_id kem M) (public_key_by (cards_of M.rows ++ cards)) M.log t m.kind)
          (part_sent (primitives_of kem) (own_pair kem M) (own_id kem M) public_key M.log t m.kind) next.addressees
          (λ y i. ap (λ (z : Bytes). option_and_then
          (λ (v : Bytes). part_with (primitives_of kem) (own_pair kem M) (own_id kem M) z M.log t y v)
          (payload_sent (primitives_of kem) (own_pair kem M) (own_id kem M) M.log t m.kind))
          (key-said kem inviter public_key (cards_of M.rows ++ cards) says y
          (has-card y (addressee-named rule is_rule m (known M) m.kind refl y (next.to_whom.only y i))))))
          ∙ next.parts

      pub makes : MayFollow rule inviter (hist M.log) m
          → ((i : Id) → m.kind ≡ Ack i true → (v : Bytes)
          × (answer_known (primitives_of kem) (own_pair kem M) (own_id kem M) M.log i (own_id kem M) None ≡ Some v))
          → MakesPacket owner M.log (as_packet kem M made) t
      makes valid took = record {
        sender = next.sender;
        history = history;
        heads = heads;
        valid = valid;
        rows = rows;
        addressees = next.addressees;
        to_whom = subst (λ h. AreAddressees rule (m ∷ h) m next.addressees) (sym agrees) next.to_whom;
        parts = parts;
        took = took;
        text = text;
      }

    -- what answers at once, and suits its kind, is valid
    pub goes-on : AnswersAtOnce M.log → Follows (waiting M.log) (Made (as_packet kem M made) t) → In (own_id kem M) (rule (known M))
        → MeetsKind rule inviter (known M) (own_id kem M) m.kind → MayFollow rule inviter (hist M.log) m
    goes-on at_once turn member suits =
        let inside : In (own_id kem M) (rule (hist M.log)) = subst (λ h. In (own_id kem M) (rule h)) (sym agrees) member in
        follows rule inviter (hist M.log) m (begun-with (hist M.log) (is_rule.named (hist M.log) (own_id kem M) inside).there_is)
        (made_is_valid owner M.log (as_packet kem M made) t lawful at_once turn (record {
          sender = next.sender;
          member = inside;
          number = subst (λ h. m.seq ≡ count_of (own_id kem M) h + 1) (sym agrees) next.seq;
          suits = subst (λ h. MeetsKind rule inviter h (own_id kem M) m.kind) (sym agrees) suits;
          heads = heads;
        }))
