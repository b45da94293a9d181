-- The laws of lawful logs, applied to the logs of both examples.
use Rattle.std.proofs.Common.{◌≡◌, ◌≢◌, ◌+◌, Bool, true, false, cond, inl, inr, ◌∷◌, Option, Some, None, refl, sym, ◌∙◌, ap, subst}
use Rattle.std.specs.Str.{bytes_eq}
use Rattle.group_model.specs.Sets.{Bytes, Id, In, here, there}
use Rattle.group_model.specs.Messages.{Create, Add, Text, Message, past}
use Rattle.group_model.specs.Membership.{IsAddressee}
use Rattle.group_model.specs.Validity.{MeetsKind, GoesOn, IsUnforked, count_of}
use Rattle.group_model.specs.Primitives.{Primitives}
use Rattle.group_model.specs.KeyTerms.{turned_known, chain_after}
use Rattle.group_model.specs.Settings.{Setting, card_of, Owner, owner_in}
use Rattle.group_model.specs.Packets.{Packet, Given, part_for}
use Rattle.group_model.specs.Logs.{LogEntry, Joined, Took, Made, header_of, Log, hist}
use Rattle.group_model.specs.Knowledge.{sent_part, heard_part, answer_by, motion_known, events, seed_known, forwarded, learnt_at, known, answer_known, chain_known}
use Rattle.group_model.specs.Parts.{part_sent}
use Rattle.group_model.specs.LawfulLogs.{MakesPacket, TakesPacket, JoinsByPacket, IsLawfulLog}
use Rattle.group_model.specs.Worlds.{Turns, log_of, Moment, now, once}
use Rattle.group_model.specs.LawfulWorlds.{IsLawful}
use Rattle.group_model.specs.Conduct.{waiting, Follows, AnswersAtOnce, MayMake}
use Rattle.group_model.specs.Agreement.{MadeBy, IsEntitled}
use Rattle.group_model.specs.Examples.{ada, cyd, update, handed, question, answer, history_of_ada, ThreeMembers, RowsOfAnOutsider}
use Rattle.group_model.specs.ExampleLaws.{before_answer, QuestionMade, QuestionTaken, LogsOfThreeMembers, LogsOfAnOutsider}
use Rattle.group_model.proofs.Pasts.{past-all, heads-lead_back}
use Rattle.group_model.proofs.Valids.{valid-from}
use Rattle.group_model.proofs.Unforked.{all_seen}
use Rattle.group_model.proofs.Senders.{number_once, answered_once, named_once}
use Rattle.group_model.proofs.Parts.{gives, gives_none, present, part_for-made}
use Rattle.group_model.proofs.Knowing.{events-joined, events-took, events-made, events-none, known-none, known-own, known-apart, answer-own, answer-apart, chain-own, chain-apart}
use Rattle.group_model.proofs.LogLaws.{Kept}
use Rattle.group_model.proofs.Worlds.{apart, own, log_case, log-own, lawful_log, lawful_at}
use Rattle.group_model.proofs.Latest.{row_unseen}
use Rattle.group_model.proofs.Agreement.{as_entry, as_row, stood}
use Rattle.group_model.proofs.Conduct.{made_is_valid, own_ratchet_known}
use Rattle.group_model.proofs.TextsAlone.{texts_alone}
use Rattle.group_model.proofs.FormsApplied.{kept_by_ada}

-- what a member makes over a history is what it may make
may_make : (O : Owner) (l : Log) (p : Packet) (t : Given) → MakesPacket O l p t → p.header.kind ≡ Text → MayMake O l p.header
may_make O l p t k n = elim (valid-from O.rule O.inviter (hist l) p.header k.valid) [
  | inl o ↦ absurd (let f : Text ≡ Create o.members = sym n ∙ o.creates in cc)
  | inr v ↦ (
      let all : past (hist l) p.header.predecessors ≡ hist l = past-all (hist l) k.history.2 p.header.predecessors
      (λ a i. heads-lead_back (hist l) k.history.2 p.header.predecessors k.heads i) in
      let over : GoesOn O.rule O.inviter (hist l) p.header = subst (λ z. GoesOn O.rule O.inviter z p.header) all v in
      record {
        sender = k.sender;
        member = subst (λ z. In z (O.rule (hist l))) k.sender over.member;
        number = over.next ∙ ap (λ z. count_of z (hist l) + 1) k.sender;
        suits = subst (λ z. MeetsKind O.rule O.inviter (hist l) z p.header.kind) k.sender over.suits;
        heads = k.heads;
      })
]

-- a log that answers at once did so before each entry
once_at : {w v : Turns} {x : Id} {e : LogEntry} → Moment w x e v → AnswersAtOnce (log_of w x)
    → Follows (waiting (log_of v x)) e × AnswersAtOnce (log_of v x)
once_at (now {x = x} {w = w} {e = e}) a = subst (λ z. AnswersAtOnce z) (log-own x e w) a
once_at {x = x} (once {w = w} {u = u} m) a = elim (log_case u w x) [
  | apart n q ↦ once_at m (subst (λ z. AnswersAtOnce z) q a)
  | own n q ↦ once_at m (let b : AnswersAtOnce (u.entry ∷ log_of w x) = subst (λ z. AnswersAtOnce z) q a in b.1)
]

stays : (K : Primitives) (s : Id) (seed : Option Bytes) (input : Id → Option Bytes) (r : Option Bytes)
    → turned_known K (motion_known K Text s seed input) r ≡ r
stays K s seed input None = refl
stays K s seed input (Some r) = refl

module _ (G : Setting) (w : Turns) (law : IsLawful G w) (at_once : AnswersAtOnce (log_of w cyd)) (k : MadeBy w question) where
  abbrev older : Log
  older = log_of k.before cyd

  abbrev entry : LogEntry
  entry = Made k.packet k.given

  makes : MakesPacket (owner_in G cyd) older k.packet k.given
  makes = (lawful_at G law k.moment).0

  text : k.packet.header.kind ≡ Text
  text = ap (λ (z : Message). z.kind) k.is

  by_cyd : k.packet.header.sender ≡ cyd
  by_cyd = ap (λ (z : Message). z.sender) k.is

  not_ada : k.packet.header.sender ≢ ada
  not_ada e = let d : cyd ≡ ada = sym by_cyd ∙ e in cc

  not_update : k.packet.header.id ≢ update.id
  not_update e = let d : question.id ≡ update.id = sym (ap (λ (z : Message). z.id) k.is) ∙ e in cc

  may : MayMake (owner_in G cyd) older k.packet.header
  may = may_make (owner_in G cyd) older k.packet k.given makes text

  goes : GoesOn G.rule G.inviter (past (hist older) k.packet.header.predecessors) k.packet.header
  goes = let o = once_at k.moment at_once in
      made_is_valid (owner_in G cyd) older k.packet k.given (lawful_log G k.before (lawful_at G law k.moment).1 cyd) o.1 o.0 may

  sends_nothing : (y : Id) → part_for k.packet.parts y ≡ None
  sends_nothing y = elim (present (part_for k.packet.parts y)) [
    | gives_none d ↦ d
    | gives q d ↦ absurd (
        let i = (part_for-made (part_sent G.primitives (card_of G cyd) cyd G.public_key older k.given k.packet.header.kind)
        makes.addressees k.packet.parts makes.parts y q d).0 in
        subst (λ z. IsAddressee G.rule (k.packet.header ∷ hist older) k.packet.header z y) text (makes.to_whom.only y i))
  ]

  question_made : QuestionMade G w k
  question_made = record {
    may_make = subst (λ z. MayMake (owner_in G cyd) older z) k.is may;
    goes_on = subst (λ (z : Message). GoesOn G.rule G.inviter (past (hist older) z.predecessors) z) k.is goes;
    ratchet_of_sender = known-own G.primitives (card_of G cyd) cyd entry older cyd by_cyd
        ∙ ap (λ z. turned_known G.primitives (motion_known G.primitives z cyd (seed_known G.primitives (card_of G cyd) cyd entry older)
        (λ i. answer_known G.primitives (card_of G cyd) cyd older i cyd (forwarded G.primitives (card_of G cyd) cyd entry older)))
        (known G.primitives (card_of G cyd) cyd older cyd)) text
        ∙ stays G.primitives cyd (seed_known G.primitives (card_of G cyd) cyd entry older)
        (λ i. answer_known G.primitives (card_of G cyd) cyd older i cyd (forwarded G.primitives (card_of G cyd) cyd entry older))
        (known G.primitives (card_of G cyd) cyd older cyd);
    ratchet_of_others = known-apart G.primitives (card_of G cyd) cyd entry older ada not_ada;
    input_of_entry = λ s f. answer-own G.primitives (card_of G cyd) cyd entry older question.id s f (ap (λ (z : Message). z.id) k.is)
        ∙ ap (λ z. answer_by G.primitives z s (seed_known G.primitives (card_of G cyd) cyd entry older)
        (known G.primitives (card_of G cyd) cyd older k.packet.header.sender) f) text;
    input_of_others = λ s f. answer-apart G.primitives (card_of G cyd) cyd entry older update.id s f not_update;
    chain_of_sender = chain-own G.primitives (card_of G cyd) cyd entry older cyd by_cyd
        ∙ ap (λ z. chain_after G.primitives z (learnt_at G.primitives (card_of G cyd) cyd entry older)
        (chain_known G.primitives (card_of G cyd) cyd older cyd)) text;
    chain_of_others = chain-apart G.primitives (card_of G cyd) cyd entry older ada not_ada;
    events_made = λ y. events-made G.primitives (card_of G cyd) cyd y k.packet k.given older
        ∙ ap (λ z. sent_part G.primitives y k.given z (events G.primitives (card_of G cyd) cyd y older)) (sends_nothing y);
  }

both_same : {A : Type 0} (b : Bool) (a : A) → cond b a a ≡ a
both_same true a = refl
both_same false a = refl

-- a text that is taken
text_taken : (G : Setting) (w : Turns) → IsLawful G w → (p : Packet) (v : Turns) → Moment w ada (Took p) v → p.header ≡ question
    → QuestionTaken G w
text_taken G w law p v m d =
    let takes : TakesPacket (owner_in G ada) (log_of v ada) p = (lawful_at G law m).0.0 in
    let none : part_for p.parts ada ≡ None = elim (present (part_for p.parts ada)) [
      | gives_none n ↦ n
      | gives q n ↦ absurd (subst (λ z. IsAddressee G.rule (p.header ∷ hist (log_of v ada)) p.header z ada)
          (ap (λ (z : Message). z.kind) d) (takes.part_due q n))
    ] in
    record {
      packet = p;
      before = v;
      moment = m;
      is = d;
      unforked = subst (λ z. IsUnforked (hist (log_of v ada)) z) d takes.unforked;
      no_part = none;
      events_took = λ y. events-took G.primitives (card_of G ada) ada y p (log_of v ada)
          ∙ ap (λ z. cond (bytes_eq p.header.sender y) (heard_part G.primitives (card_of G ada) z (events G.primitives (card_of G ada) ada y (log_of v ada)))
          (events G.primitives (card_of G ada) ada y (log_of v ada))) none
          ∙ both_same (bytes_eq p.header.sender y) (events G.primitives (card_of G ada) ada y (log_of v ada));
    }

-- at ada the question is an entry that she took
entry_taken : (G : Setting) (w : Turns) → IsLawful G w → (e : LogEntry) (v : Turns) → Moment w ada e v → header_of e ≡ question → QuestionTaken G w
entry_taken G w law (Joined p) v m d =
    let joins : JoinsByPacket (owner_in G ada) (log_of v ada) p = (lawful_at G law m).0.0 in
    absurd (let f : Add ada ≡ Text = sym joins.adds ∙ ap (λ (z : Message). z.kind) d in cc)
entry_taken G w law (Took p) v m d = text_taken G w law p v m d
entry_taken G w law (Made p t) v m d =
    let made : MakesPacket (owner_in G ada) (log_of v ada) p t = (lawful_at G law m).0 in
    absurd (let f : ada ≡ cyd = sym made.sender ∙ ap (λ (z : Message). z.sender) d in cc)

question_taken : (G : Setting) (w : Turns) → IsLawful G w → IsEntitled G w ada question → QuestionTaken G w
question_taken G w law k = elim (stood G w ada k.there_is) [
  | as_row p v m j ↦ absurd (row_unseen G law m j k.in_view)
  | as_entry e v m d ↦ entry_taken G w law e v m d
]

pub logs_of_three_members : (e : ThreeMembers) → LogsOfThreeMembers e
logs_of_three_members e =
    let O : Owner = owner_in e.setting ada in
    let kept : Kept O history_of_ada = kept_by_ada e in
    let lawful : IsLawfulLog O (log_of e.world ada) = lawful_log e.setting e.world e.lawful ada in
    let made : MadeBy e.world question = e.ada_entitled_to_text.honest.made question here in
    record {
      lawful = λ x. lawful_log e.setting e.world e.lawful x;
      unforked = kept.unforked;
      older_in_past = λ a i d. all_seen O.rule O.inviter before_answer answer kept.valid.0 kept.valid.1 kept.unforked.1 kept.unforked.0 i d;
      numbered_once = λ a i d n. number_once history_of_ada kept.unforked i (there (there (there (there (there here))))) d n;
      answered_once = λ a i d n. answered_once O.rule O.inviter history_of_ada
          (record { history = kept.history; valid = kept.valid; unforked = kept.unforked }) i (there (there (there here))) d update.id n refl;
      named_once = named_once O.rule O.inviter history_of_ada
          (record { history = kept.history; valid = kept.valid; unforked = kept.unforked });
      own_ratchet = own_ratchet_known O (log_of e.world ada) lawful;
      no_text = λ text d. let f = texts_alone O (log_of e.world ada) handed text lawful
          (subst (λ z. In handed z) (sym e.of_ada) (there (there (there (there (there here)))))) d in cc;
      made = made;
      at_maker = question_made e.setting e.world e.lawful e.cyd_at_once made;
      at_taker = question_taken e.setting e.world e.lawful e.ada_entitled_to_text;
    }

pub logs_of_an_outsider : (e : RowsOfAnOutsider) → LogsOfAnOutsider e
logs_of_an_outsider e =
    let joins : JoinsByPacket (owner_in e.setting cyd) (log_of e.before cyd) e.welcome = (lawful_at e.setting e.lawful e.joined).0.0 in
    let G : Setting = e.setting in
    record {
      lawful = λ x. lawful_log e.setting e.world e.lawful x;
      fresh = joins.fresh;
      start = λ s. ap (λ z. known G.primitives (card_of G cyd) cyd z s) joins.fresh ∙ known-none G.primitives (card_of G cyd) cyd s;
      unforked = joins.unforked;
      rows_unforked = joins.rows_unforked;
      events_joined = λ y. events-joined G.primitives (card_of G cyd) cyd y e.welcome (log_of e.before cyd)
          ∙ ap (λ z. cond (bytes_eq e.welcome.header.sender y)
          (heard_part G.primitives (card_of G cyd) (part_for e.welcome.parts cyd) z) z)
          (ap (λ z. events G.primitives (card_of G cyd) cyd y z) joins.fresh ∙ events-none G.primitives (card_of G cyd) cyd y);
    }
