-- The answer to what was taken may be the next entry of the member's log.
use Rattle.std.proofs.Common.{◌≡◌, ◌≢◌, ◌⊎◌, Bool, true, List, [], ◌∷◌, ◌++◌, map, Option, Some, None, refl, sym, ◌∙◌, ap, subst, inl, inr}
use Rattle.std.specs.Str.{bytes_eq}
use Rattle.std.proofs.lemmas.Slice.Eq.{bytes_eq-Decides}
use Rattle.kem_trait.specs.declared.kem.Kem.{Ghosts}
use Rattle.group_fields.specs.Cards.{card_id}
use Rattle.group_fields.specs.declared.header.Kind.{Kind as HeaderKind}
use Rattle.group_fields.specs.declared.header.Target.{Target}
use Rattle.group_fields.specs.declared.header.Target.TheVariants as targets
use Rattle.group_model.specs.Sets.{Bytes, Id, In}
use Rattle.group_model.specs.Messages.{Kind, Create, Update, Remove, Add, Ack, AddAck, Text, Message, History, Stands}
use Rattle.group_model.specs.Membership.{InView, IsMembershipRule, IsSeeded, named_by}
use Rattle.group_model.specs.Validity.{Answers as AnswersTo, IsOperation, MeetsKind, NeedsAnswer}
use Rattle.group_model.specs.Packets.{Given}
use Rattle.group_model.specs.Logs.{Made, hist}
use Rattle.group_model.specs.LawfulLogs.{IsLawfulLog}
use Rattle.group_model.specs.Knowledge.{answer_known}
use Rattle.group_model.specs.Conduct.{AnswersAtOnce, Follows, waiting}
use Rattle.group_model.proofs.ListFacts.{In-cases, no_is, test, yes_is}
use Rattle.group_keys.specs.Primitives.{primitives_of}
use Rattle.group_messages.specs.Messages.{kind_by, kind_of}
use Rattle.causal_history.specs.Rows.{cards_of}
use Rattle.reference_member.specs.Members.{Member, known, own_id, own_pair}
use Rattle.reference_member.specs.Messages.{IsNext, MadeMessage, answer_kind, answer_took, as_packet}
use Rattle.reference_member.proofs.Commands.{next-kind}
use Rattle.reference_member.proofs.Makes.{goes-on, makes, owner}
use Rattle.reference_member.proofs.OwnerForms.{Encapsulates, SaysOf}
use Rattle.reference_member.proofs.RowsNamed.{AreNamed}
use Rattle.reference_member.proofs.States.{Enters}

-- an answer where one waits
pub follows-waiting : (o : Option Id) (M : Member) (t : Given) {K P : Type 0} (kem : Ghosts K P) (made : MadeMessage) (i : Id) → o ≡ Some i
    → AnswersTo (kind_of made.header) i → Follows o (Made (as_packet kem M made) t)
follows-waiting None M t kem made i e a = absurd cc
follows-waiting (Some j) M t kem made i e a = let same : i ≡ j = cc in subst (λ z. AnswersTo (kind_of made.header) z) same a

-- the target of an answer to this message
abbrev pub answer-target : Message → HeaderKind → Bool → Target
answer-target m kind opens = targets.Answer (record { 0 = record { 0 = m.id } }) (answer_took kind opens)

-- The member M took the message m, which came after the older ones. Whether its part opened is `opens`.
module _ {K P : Type 0} (kem : Ghosts K P) (rule : History → List Id) (M : Member) (m : Message) (older : History) (opens : Bool) where
  -- the kind of the answer to a message of a kind
  abbrev pub answered : Kind → Kind
  answered k = kind_by (answer_kind (own_id kem M) k) (answer-target m (answer_kind (own_id kem M) k) opens)

  -- what an ack that takes needs to know
  abbrev pub TakesSecret : Type 0
  TakesSecret = opens ≡ true → (IsSeeded m.kind ⊎ (m.kind ≡ Add (own_id kem M)))
      → (v : Bytes) × (answer_known (primitives_of kem) (own_pair kem M) (own_id kem M) M.log m.id (own_id kem M) None ≡ Some v)

  -- an operation whose part opens was for the member
  abbrev pub WasSeen : Type 0
  WasSeen = opens ≡ true → IsSeeded m.kind → InView rule (known M) m (own_id kem M) × (own_id kem M ≢ m.sender)

  -- what the kind of an answer has to be
  record Suits (inviter : Id → Option Id) (k : Kind) : Type 0 where
    meets : MeetsKind rule inviter (known M) (own_id kem M) k
    answers : AnswersTo k m.id
    took : (i : Id) → k ≡ Ack i true
        → (v : Bytes) × (answer_known (primitives_of kem) (own_pair kem M) (own_id kem M) M.log i (own_id kem M) None ≡ Some v)

  module _ (inviter : Id → Option Id) (is : known M ≡ m ∷ older) (new : Stands older m.id → ⊥) (takes : TakesSecret) (seen : WasSeen) where
    -- the message alone has its id
    the-one : (o : Message) → In o (known M) → o.id ≡ m.id → m ≡ o
    the-one o i e = elim (In-cases (subst (λ h. In o h) is i)) [
      | inl d ↦ sym d
      | inr j ↦ absurd (new (record { by = o; there_is = j; has_id = e }))
    ]

    took-by : (IsSeeded m.kind ⊎ (m.kind ≡ Add (own_id kem M))) → (i : Id) → Ack m.id opens ≡ Ack i true
        → (v : Bytes) × (answer_known (primitives_of kem) (own_pair kem M) (own_id kem M) M.log i (own_id kem M) None ≡ Some v)
    took-by which i e =
        let yes : opens ≡ true = cc in
        let same : m.id ≡ i = cc in
        subst (λ z. (v : Bytes) × (answer_known (primitives_of kem) (own_pair kem M) (own_id kem M) M.log z (own_id kem M) None ≡ Some v))
        same (takes yes which)

    seeded : IsSeeded m.kind → Suits inviter (Ack m.id opens)
    seeded s = record {
      meets = λ o i e. subst (λ (z : Message). (IsSeeded z.kind × (opens ≡ true → InView rule (known M) z (own_id kem M)
          × (own_id kem M ≢ z.sender))) ⊎ (z.kind ≡ Add (own_id kem M))) (the-one o i e) (inl (s, λ yes. seen yes s));
      answers = refl;
      took = took-by (inl s);
    }

    added : m.kind ≡ Add (own_id kem M) → Suits inviter (Ack m.id opens)
    added s = record {
      meets = λ o i e. subst (λ (z : Message). (IsSeeded z.kind × (opens ≡ true → InView rule (known M) z (own_id kem M)
          × (own_id kem M ≢ z.sender))) ⊎ (z.kind ≡ Add (own_id kem M))) (the-one o i e) (inr s);
      answers = refl;
      took = took-by (inr s);
    }

    other-added : (y : Id) → m.kind ≡ Add y → y ≢ own_id kem M → Suits inviter (AddAck m.id)
    other-added y s n = record {
      meets = λ o i e. subst (λ (z : Message). (x : Id) × (z.kind ≡ Add x) × (x ≢ own_id kem M)) (the-one o i e) (y, s, n);
      answers = refl;
      took = λ i e. absurd cc;
    }

    suits : (k : Kind) → m.kind ≡ k → IsOperation k → Suits inviter (answered k)
    suits (Create members) e op = seeded (subst IsSeeded (sym e) tt)
    suits Update e op = seeded (subst IsSeeded (sym e) tt)
    suits (Remove y) e op = seeded (subst IsSeeded (sym e) tt)
    suits (Add y) e op = elim (test (bytes_eq y (own_id kem M))) [
      | yes_is d ↦ rw d (added (e ∙ ap Add ((bytes_eq-Decides y (own_id kem M)).0 d)))
      | no_is d ↦ rw d (other-added y e (λ same. let yes = (bytes_eq-Decides y (own_id kem M)).1 same in cc))
    ]
    suits (Ack o took) e op = absurd op
    suits (AddAck o) e op = absurd op
    suits Text e op = absurd op

  -- an answer names nobody
  answer-names : (k : Kind) → named_by (answered k) ≡ []
  answer-names (Create members) = refl
  answer-names Update = refl
  answer-names (Remove y) = refl
  answer-names (Add y) = elim (test (bytes_eq y (own_id kem M))) [ yes_is d ↦ rw d refl | no_is d ↦ rw d refl ]
  answer-names (Ack o took) = refl
  answer-names (AddAck o) = refl
  answer-names Text = refl

  module _ (t : Given) (answer : MadeMessage) (next : IsNext kem rule M t [] (answer_kind (own_id kem M) m.kind)
      (answer-target m (answer_kind (own_id kem M) m.kind) opens) answer) where
    kind-is : kind_of answer.header ≡ answered m.kind
    kind-is = next-kind answer (answer_kind (own_id kem M) m.kind) (answer-target m (answer_kind (own_id kem M) m.kind) opens)
        next.kind_is next.target_is

    -- the row of an answer has no cards
    pub answer-named : map card_id answer.carried.cards ≡ named_by (kind_of answer.header)
    answer-named = ap (map card_id) next.cards_are ∙ sym (answer-names m.kind) ∙ ap named_by (sym kind-is)

    module _ (inviter : Id → Option Id) (public_key : Id → Bytes) (is_rule : IsMembershipRule rule)
        (encapsulates : Encapsulates (primitives_of kem) inviter public_key) (agrees : hist M.log ≡ known M)
        (named : AreNamed M.rows) (is : known M ≡ m ∷ older) (new : Stands older m.id → ⊥)
        (lawful : IsLawfulLog (owner kem rule M inviter public_key is_rule encapsulates) M.log) (at_once : AnswersAtOnce M.log)
        (waits : waiting M.log ≡ Some m.id) (takes : TakesSecret) (seen : WasSeen) (needs : NeedsAnswer rule (own_id kem M) older m)
        (says : SaysOf kem inviter public_key (cards_of M.rows ++ answer.carried.cards)) where
      pub answer-enters : Enters kem rule M (owner kem rule M inviter public_key is_rule encapsulates) t answer
      answer-enters =
          let kind = answer_kind (own_id kem M) m.kind in
          let target = answer-target m kind opens in
          let s = subst (λ k. Suits inviter k) (sym kind-is) (suits inviter is new takes seen m.kind refl needs.operation) in
          let turn = follows-waiting (waiting M.log) M t kem answer m.id waits s.answers in
          let member : In (own_id kem M) (rule (known M)) = subst (λ h. In (own_id kem M) (rule h)) (sym is) needs.member in
          record {
            makes = makes kem rule M inviter public_key is_rule encapsulates agrees lawful t [] kind target answer next named
                (sym (answer-names m.kind) ∙ ap named_by (sym kind-is))
                (subst (λ c. SaysOf kem inviter public_key (cards_of M.rows ++ c)) next.cards_are says)
                (goes-on kem rule M inviter public_key is_rule encapsulates agrees lawful t [] kind target answer next at_once turn member s.meets)
                s.took;
            turn = turn;
          }
