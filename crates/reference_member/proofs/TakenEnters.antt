-- A member that took a packet which nothing refuses, before it answers.
use Rattle.std.proofs.Common.{◌≡◌, ◌≢◌, ◌⊎◌, inl, inr, true, List, ◌∷◌, Some, refl, sym, ◌∙◌, ap, subst}
use Rattle.kem_trait.specs.declared.kem.Kem.{Ghosts}
use Rattle.group_model.specs.Sets.{Bytes, Id, In, here}
use Rattle.group_model.specs.Messages.{Kind, Create, Update, Remove, Add, Ack, AddAck, Text, Message, History, IsHistory}
use Rattle.group_model.specs.Membership.{IsSeeded, InView}
use Rattle.group_model.specs.Validity.{Answers as AnswersTo}
use Rattle.group_model.specs.Settings.{Owner}
use Rattle.group_model.specs.Logs.{hist}
use Rattle.group_model.specs.LawfulLogs.{IsLawfulLog}
use Rattle.group_model.proofs.ListFacts.{In-cases}
use Rattle.group_model.proofs.Conduct.{answers-stand}
use Rattle.group_model.proofs.LogLaws.{Kept, log_kept}
use Rattle.group_messages.specs.Messages.{message_of}
use Rattle.member_book.specs.Standing.{MayStill}
use Rattle.wire_codec.specs.Packets.{IsPacket, Packet as ReadPacket}
use Rattle.causal_cast.specs.declared.verdict.Verdict.TheVariants as answers
use Rattle.reference_member.specs.Members.{IsOwner, Member, known, own_id}
use Rattle.reference_member.specs.Messages.{MadeMessage}
use Rattle.reference_member.specs.Refusals.{IsVerdict}
use Rattle.reference_member.specs.Steps.{Step}
use Rattle.reference_member.specs.Accepted.{IsRunOf, part_opens}
use Rattle.reference_member.specs.Entering.{EntersTaken}
use Rattle.reference_member.proofs.Entered.{Entered, before, by-owner, with_entry}
use Rattle.reference_member.proofs.Lawful.{Outcome, outcome, ready-first, run-sound}
use Rattle.reference_member.proofs.States.{Sound}

-- what an ack may take is no answer itself
no-answer : (k : Kind) (y i : Id) → (IsSeeded k ⊎ (k ≡ Add y)) → AnswersTo k i → ⊥
no-answer (Create members) y i which a = a
no-answer Update y i which a = a
no-answer (Remove z) y i which a = a
no-answer (Add z) y i which a = a
no-answer (Ack o took) y i (inl s) a = absurd s
no-answer (Ack o took) y i (inr e) a = absurd cc
no-answer (AddAck o) y i (inl s) a = absurd s
no-answer (AddAck o) y i (inr e) a = absurd cc
no-answer Text y i which a = a

module _ {K P : Type 0} (kem : Ghosts K P) (rule : History → List Id) (M : Member) (packet : ReadPacket) (sound : Sound kem rule M)
    (o : Outcome kem rule M packet) where
  abbrev m : Message
  m = message_of packet.header

  abbrev entered : Member
  entered = with_entry o.rows o.entry M

  newest : known entered ≡ m ∷ o.older
  newest = o.takings.is

  module _ (O : Owner) (is : IsOwner kem rule entered O) where
    x : Entered kem rule M packet o.rows o.entry o.older O
    x = by-owner kem rule M packet o.rows o.entry o.older sound o.takings O is

    lawful-before : IsLawfulLog O M.log
    lawful-before = (sound.conducts O (before kem rule M packet o.rows o.entry o.older sound o.takings O is)).lawful

    -- the newest message is that of the entry
    hist-is : hist entered.log ≡ m ∷ o.older
    hist-is = o.takings.base.agrees ∙ newest

    kept : Kept O (m ∷ o.older)
    kept = subst (Kept O) hist-is (log_kept O entered.log (x.may, lawful-before))

    kept-older : Kept O o.older
    kept-older = record { history = kept.history.2; valid = kept.valid.1; unforked = kept.unforked.1 }

    -- nobody acknowledged it
    none-yet : (a : Message) → In a o.older → AnswersTo a.kind m.id → ⊥
    none-yet a i n = kept.history.1 ((answers-stand O o.older kept-older).stands_too a m.id i n)

    may-take : part_opens kem packet M ≡ true → (IsSeeded m.kind ⊎ (m.kind ≡ Add (own_id kem M)))
        → MayStill O.rule (hist entered.log) m.id O.id
    may-take opens which = record {
      operation = m;
      there_is = subst (λ h. In m h) (sym hist-is) here;
      has_id = refl;
      suits = elim which [
        | inl s ↦ (let v = x.seen opens s in
            inl (
              s,
              subst (λ (h : History). InView O.rule h m O.id) (sym o.takings.base.agrees)
                  (subst (λ (r : History → List Id). InView r (known entered) m O.id) (sym is.rule_is)
                  (subst (λ (y : Id). InView rule (known entered) m y) (sym is.id) v.0)),
              subst (λ (y : Id). y ≢ m.sender) (sym is.id) v.1,
            ))
        | inr e ↦ inr (e ∙ ap Add (sym is.id))
      ];
      unacked = λ a took i s k. elim (In-cases (subst (λ h. In a h) hist-is i)) [
        | inl same ↦ no-answer m.kind (own_id kem M) m.id which
            (subst (λ (z : Kind). AnswersTo z m.id) (sym k ∙ ap (λ (z : Message). z.kind) same) refl)
        | inr older ↦ none-yet a older (subst (λ (z : Kind). AnswersTo z m.id) (sym k) refl)
      ];
    }

  pub enters : EntersTaken kem rule M packet
  enters = record {
    agrees = subst (λ (N : Member). hist N.log ≡ known N) (sym o.is) o.takings.base.agrees;
    newest = ap known o.is ∙ newest ∙ ap (λ h. m ∷ h) (sym o.before);
    history = subst (λ (N : Member). IsHistory (known N)) (sym o.is) o.takings.base.history;
    owners = λ O is.
        let own = subst (λ (N : Member). IsOwner kem rule N O) o.is is in
        record {
          before = before kem rule M packet o.rows o.entry o.older sound o.takings O own;
          entry = o.entry;
          log = ap (λ (N : Member). N.log) o.is;
          may = (x O own).may;
          lawful = subst (λ (N : Member). IsLawfulLog O N.log) (sym o.is) ((x O own).may, lawful-before O own);
          acks = λ opens which. subst (λ (N : Member). MayStill O.rule (hist N.log) m.id O.id) (sym o.is) (may-take O own opens which);
        };
  }

pub ready-enters : {K P : Type 0} (kem : Ghosts K P) (rule : History → List Id) (steps : List Step) (M : Member) (made : List MadeMessage)
    (bytes : Bytes) (packet : ReadPacket) → IsRunOf kem rule steps (Some M) made → IsPacket packet bytes
    → IsVerdict kem rule M bytes answers.Ready → EntersTaken kem rule M packet
ready-enters kem rule steps M made bytes packet run is_read ready =
    let sound = run-sound kem rule steps M made run in
    enters kem rule M packet sound
    (outcome kem rule M packet bytes is_read sound M.rows refl (ready-first kem rule M bytes packet is_read ready))
