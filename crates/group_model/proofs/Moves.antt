-- How a message moves what is known, and the induction over a world.

use Rattle.std.proofs.Common.{◌≡◌, ◌≢◌, true, false, ◌⊎◌, inl, inr, [], ◌∷◌, Option, Some, None, refl, sym, ◌∙◌, subst, ap}
use Rattle.group_model.specs.Sets.{Id, In, here, there, Bytes}
use Rattle.group_model.specs.Messages.{Kind, Create, Update, Remove, Add, Ack, AddAck, Text, Message, History, past, IsHistory, with_past}
use Rattle.group_model.specs.Membership.{IsSeeded, InView, IsRecipient, IsForwardedTo}
use Rattle.group_model.specs.Validity.{IsOperation, Answers, AnswersOne, IsInTurn, MeetsKind}
use Rattle.group_model.specs.KeyTerms.{Term, bytes, seed_of}
use Rattle.group_model.specs.Packets.{Packet, part_for, Given}
use Rattle.group_model.specs.Logs.{LogEntry, Joined, Took, Made, packet_of, header_of, Log, hist}
use Rattle.group_model.specs.Settings.{Setting, card_of}
use Rattle.group_model.specs.Knowledge.{payload_in, or_else, answer_by, known_rows, motion_known}
use Rattle.group_model.specs.Worlds.{Turn, Turns, log_of, Moment, now, once}
use Rattle.group_model.specs.SharedSecrets.{ratchet, answer_term, answer_term_by, motion_of}
use Rattle.group_model.specs.LawfulWorlds.{WasMade, MayLeave, IsLawful}
use Rattle.group_model.proofs.InSetting.{events, payload, known, seed_known, answer_known, IsDue, Makes}
use Rattle.group_model.proofs.ListFacts.{In-nothing}
use Rattle.group_model.proofs.Pasts.{past-within, same-message, past-history}
use Rattle.group_model.proofs.Valids.{past-self, past-older, each-valid}
use Rattle.group_model.proofs.Views.{member_or_not, by_add, answer_of_add}
use Rattle.group_model.proofs.Worlds.{log-own, moment_now, Good, good, hist-more, lawful_at, header-stands, MadeIn, inside, named_once, rooted_at, each_at, inside_at}
use Rattle.group_model.proofs.Latest.{moment_on, at_head, before_it, when, joins_only, takes_only, WhenMade, distinct_at, row_unseen}
use Rattle.group_model.proofs.Agreement.{and_then, view_moved, Right, AllRight, SameMoment, one_moment, as_entry, as_row, stood, from_one, from_none, answer_of, sender_is, answer_term-at, motion_bytes}
use Rattle.group_model.proofs.Parts.{gives, gives_none, present, PartFor, only_due}
use Rattle.group_model.proofs.Steps.{moment_under, sender_sees, hist_under, lawful_under, MakerOf, maker_of, AllRight-at, own_known, cleaner, Cl, CM, cm_before, cm_of, cm_same, RowsClean, Pays, handed_now, makes_it, read_here, see_back, see_forth, past_there, to_maker, deep_hm, took_before, in_earlier, rc}

-- what the entry of an operation gives to its answers
answer_by-right : (G : Setting) (k : Kind) (s : Id) (seed prior forward : Option Bytes) (t : Given) (r : Term) → IsOperation k → (IsSeeded k → seed ≡ Some (seed_of G.primitives t.random)) → prior ≡ Some (bytes G.primitives r)
    → answer_by G.primitives k s seed prior forward ≡ Some (bytes G.primitives (answer_term_by G.primitives k t r s))
answer_by-right G (Create members) s seed prior forward t r o f e = rw (f tt) refl
answer_by-right G Update s seed prior forward t r o f e = rw (f tt) refl
answer_by-right G (Remove y) s seed prior forward t r o f e = rw (f tt) refl
answer_by-right G (Add y) s seed prior forward t r o f e = rw e refl
answer_by-right G (Ack i took) s seed prior forward t r o f e = absurd o
answer_by-right G (AddAck i) s seed prior forward t r o f e = absurd o
answer_by-right G Text s seed prior forward t r o f e = absurd o

answer_by-forward : (G : Setting) (k : Kind) (s : Id) (seed prior forward : Option Bytes) → IsSeeded k → seed ≡ None → answer_by G.primitives k s seed prior forward ≡ forward
answer_by-forward G (Create members) s seed prior forward o e = rw e refl
answer_by-forward G Update s seed prior forward o e = rw e refl
answer_by-forward G (Remove y) s seed prior forward o e = rw e refl
answer_by-forward G (Add y) s seed prior forward o e = absurd o
answer_by-forward G (Ack i took) s seed prior forward o e = absurd o
answer_by-forward G (AddAck i) s seed prior forward o e = absurd o
answer_by-forward G Text s seed prior forward o e = absurd o

seeded_operation : (k : Kind) → IsSeeded k → IsOperation k
seeded_operation (Create members) s = tt
seeded_operation Update s = tt
seeded_operation (Remove y) s = tt
seeded_operation (Add y) s = tt
seeded_operation (Ack i took) s = s
seeded_operation (AddAck i) s = s
seeded_operation Text s = s

module _ (G : Setting) where
  abbrev Law : Turns → Type 0
  Law = IsLawful G

  abbrev H : Turns → Id → History
  H w x = hist (log_of w x)

  -- the view of an entry's message, then and now
  pub view_at : {w b : Turns} {x : Id} {f : LogEntry} → Law w → Moment w x f b → InView G.rule (H w x) (header_of f) x → InView G.rule (H (and_then x f b) x) (header_of f) x
  view_at {w} {b} {x} {f} l m v = view_moved G (H w x) (H (and_then x f b) x) (good G w l x).history (good G (and_then x f b) (lawful_under G l m) x).history
      (record { same = λ y z i j g. (distinct_at G w l).same x x y z i (hist_under G l m x j) g })
      (record { same = λ y z i j g. (distinct_at G w l).same x x y z (hist_under G l m x i) j g })
      (header-stands G {e = f} l m) (header-stands G {e = f} (lawful_under G l m) now) v

  view_since : {w b : Turns} {x : Id} {f : LogEntry} → Law w → Moment w x f b → InView G.rule (H (and_then x f b) x) (header_of f) x → InView G.rule (H w x) (header_of f) x
  view_since {w} {b} {x} {f} l m v = view_moved G (H (and_then x f b) x) (H w x) (good G (and_then x f b) (lawful_under G l m) x).history (good G w l x).history
      (record { same = λ y z i j g. (distinct_at G w l).same x x y z (hist_under G l m x i) j g })
      (record { same = λ y z i j g. (distinct_at G w l).same x x y z i (hist_under G l m x j) g })
      (header-stands G {e = f} (lawful_under G l m) now) (header-stands G {e = f} l m) v

  -- the view of an older message over one more turn
  view_older : (u : Turn) (w : Turns) (x : Id) {o : Message} {y : Id} → Law (u ∷ w) → In o (H w x) → InView G.rule (H (u ∷ w) x) o y → InView G.rule (H w x) o y
  view_older u w x l i v = view_moved G (H (u ∷ w) x) (H w x) (good G (u ∷ w) l x).history (good G w l.2 x).history
      (record { same = λ y z j k g. (distinct_at G (u ∷ w) l).same x x y z j (hist-more G u w l x k) g })
      (record { same = λ y z j k g. (distinct_at G (u ∷ w) l).same x x y z (hist-more G u w l x j) k g })
      (hist-more G u w l x i) i v

  -- who sees an operation knows what its answers make of it
  answer_seen : (v : Turns) → Law v → AllRight G v → (x : Id) {o : Message} → In o (H v x) → InView G.rule (H v x) o x → IsOperation o.kind
      → (q : Packet) (r : Given) (b : Turns) → Moment v o.sender (Made q r) b → q.header ≡ o → CM G o.sender q r b → (s : Id) (forward : Option Bytes)
      → answer_known G x (log_of v x) o.id s forward ≡ Some (bytes G.primitives (answer_term_by G.primitives o.kind r (ratchet G.primitives b o.sender) s))
  answer_seen v l a x {o} i see op q r b n d cq s forward = elim (answer_of G v x o.id s forward) [
    | from_none g f ↦ elim (stood G v x i) [
      | as_entry e z m h ↦ absurd (f e z m (ap (λ (y : Message). y.id) h))
      | as_row p z m h ↦ absurd (row_unseen G l m h see)
    ]
    | from_one e z m g h ↦
        let same : header_of e ≡ o = same-message (H v x) (good G v l x).history (header-stands G {e = e} l m) i g in
        let mk : MakerOf G x e z = maker_of G x e z (lawful_at G l m).0 (subst (λ (y : Message). In y.sender G.members) (sym same) (inside_at G l n)) in
        let old : Moment v o.sender (Made (packet_of e) mk.given) mk.world = subst (λ y. Moment v y.sender (Made (packet_of e) mk.given) mk.world) same (moment_under m mk.moment) in
        let one : SameMoment G (packet_of e) q mk.given r mk.world b = one_moment G old n l (same ∙ sym d) in
        let ce : CM G (header_of e).sender (packet_of e) mk.given mk.world = cm_same G one (ap (λ (y : Message). y.sender) same) cq in
        let seen : InView G.rule (H (and_then x e z) x) (header_of e) x = view_at l m (subst (λ y. InView G.rule (H v x) y x) (sym same) see) in
        let right : Right G x e z = a.right x e z m in
        h ∙ answer_by-right G (header_of e).kind s (seed_known G x e (log_of z x)) _ forward mk.given (ratchet G.primitives mk.world (header_of e).sender) (subst (λ y. IsOperation y.kind) (sym same) op)
        (right.seed_is mk.given mk.world mk.moment ce seen) (right.before_is mk.given mk.world mk.moment ce seen)
        ∙ ap (λ (y : Message). Some (bytes G.primitives (answer_term_by G.primitives y.kind mk.given (ratchet G.primitives mk.world y.sender) s))) same
        ∙ ap (λ y. Some (bytes G.primitives (answer_term_by G.primitives o.kind y (ratchet G.primitives mk.world o.sender) s))) one.randoms
        ∙ ap (λ y. Some (bytes G.primitives (answer_term_by G.primitives o.kind r (ratchet G.primitives y o.sender) s))) one.worlds
  ]

  due_seeded : (s : Id) (lg : Log) (m : Message) (t : Given) (k : Kind) (x : Id) (b : Bytes) → IsSeeded k → IsDue G s lg m t k x b
      → IsRecipient G.rule (m ∷ hist lg) m x
  due_seeded s lg m t (Create members) x b o d = d.0
  due_seeded s lg m t Update x b o d = d.0
  due_seeded s lg m t (Remove y) x b o d = d.0
  due_seeded s lg m t (Add y) x b o d = absurd o
  due_seeded s lg m t (Ack i took) x b o d = absurd o
  due_seeded s lg m t (AddAck i) x b o d = absurd o
  due_seeded s lg m t Text x b o d = absurd o

  seeded_due : (s : Id) (lg : Log) (m : Message) (t : Given) (k : Kind) (x : Id) → IsSeeded k → IsRecipient G.rule (m ∷ hist lg) m x
      → IsDue G s lg m t k x (seed_of G.primitives t.random)
  seeded_due s lg m t (Create members) x o d = (d, refl)
  seeded_due s lg m t Update x o d = (d, refl)
  seeded_due s lg m t (Remove y) x o d = (d, refl)
  seeded_due s lg m t (Add y) x o d = absurd o
  seeded_due s lg m t (Ack i took) x o d = absurd o
  seeded_due s lg m t (AddAck i) x o d = absurd o
  seeded_due s lg m t Text x o d = absurd o

  -- who does not see an operation takes what is forwarded
  answer_unseen : (v : Turns) → Law v → (x : Id) {o : Message} → In o (H v x) → (InView G.rule (H v x) o x → ⊥) → IsSeeded o.kind → In o.sender G.members → (s : Id) (forward : Option Bytes)
      → answer_known G x (log_of v x) o.id s forward ≡ forward
  answer_unseen v l x {o} i unseen seeded ino s forward = elim (answer_of G v x o.id s forward) [
    | from_none g f ↦ g
    | from_one e z m g h ↦
        let same : header_of e ≡ o = same-message (H v x) (good G v l x).history (header-stands G {e = e} l m) i g in
        h ∙ answer_by-forward G (header_of e).kind s (seed_known G x e (log_of z x)) _ forward (subst (λ y. IsSeeded y.kind) (sym same) seeded)
        (none e z m same)
  ]
    where
      none : (e : LogEntry) (z : Turns) → Moment v x e z → header_of e ≡ o → seed_known G x e (log_of z x) ≡ None
      none (Joined p) z m same = refl
      none (Made p t) z m same = absurd (unseen (subst (λ y. InView G.rule (H v x) o y) (ap (λ (y : Message). y.sender) (sym same) ∙ sender_is G m l) (sender_sees G.rule G.is_rule G.inviter (H v x) (each_at G v l x) i)))
      none (Took p) z m same = elim (present (part_for p.parts x)) [
        | gives_none d ↦ ap (payload_in G.primitives (card_of G x) (events G x p.header.sender (log_of z x))) d
        | gives part d ↦
            let f : MayLeave G z x (Took p) = (lawful_at G l m).0 in
            let wm : WasMade z p = f.1.made (subst (λ (y : Message). In y.sender G.members) (sym same) ino) in
            let lf : Law (and_then x (Took p) z) = lawful_under G l m in
            let mk : Makes G p.header.sender (log_of wm.before p.header.sender) p wm.given = (lawful_at G lf.2 wm.moment).0 in
            let due : PartFor G p.header.sender (log_of wm.before p.header.sender) p wm.given x part = only_due G mk x part d in
            let rec' : IsRecipient G.rule (p.header ∷ H wm.before p.header.sender) p.header x = due_seeded p.header.sender (log_of wm.before p.header.sender) p.header wm.given p.header.kind x due.value (subst (λ y. IsSeeded y.kind) (sym same) seeded) due.due in
            let seen : InView G.rule (H (and_then x (Took p) z) x) p.header x = see_forth G x p (Took p) refl z lf wm.given wm.before wm.moment here (read_here G x p (Took p) refl z lf wm.given wm.before wm.moment) rec'.in_view in
            absurd (unseen (subst (λ y. InView G.rule (H v x) y x) same (view_since l m seen)))
      ]

  -- the motion that a message gives, from the seed and the answer
  motion_right : (k : Kind) (s : Id) (seed : Option Bytes) (answer : Id → Option Bytes) (t : Given) (term : Id → Term) → (IsSeeded k → seed ≡ Some (seed_of G.primitives t.random)) → ((i : Id) → k ≡ Ack i true → answer i ≡ Some (bytes G.primitives (term i)))
      → motion_known G.primitives k s seed answer ≡ Some (motion_bytes G.primitives (motion_of G.primitives k s t term))
  motion_right (Create members) s seed answer t term f g = rw (f tt) refl
  motion_right Update s seed answer t term f g = rw (f tt) refl
  motion_right (Remove y) s seed answer t term f g = rw (f tt) refl
  motion_right (Add y) s seed answer t term f g = refl
  motion_right (Ack i false) s seed answer t term f g = refl
  motion_right (Ack i true) s seed answer t term f g = rw (g i refl) refl
  motion_right (AddAck i) s seed answer t term f g = refl
  motion_right Text s seed answer t term f g = refl

  -- what a valid answer that took says of the operation
  record AnswerOf (h : History) (m : Message) (i : Id) : Type 0 where
    operation : Message
    there_is : In operation (past h m.predecessors)
    has_id : operation.id ≡ i
    either : (IsSeeded operation.kind × InView G.rule h operation m.sender × (m.sender ≢ operation.sender)) ⊎ (operation.kind ≡ Add m.sender)

  answer_valid : (h : History) → Good G h → {m : Message} {i : Id} → In m h → m.kind ≡ Ack i true → AnswerOf h m i
  answer_valid h g {m} {i} j e = elim (each-valid G.rule G.inviter h g.history g.valid j) [
    | inl o ↦ absurd (let f : Ack i true ≡ Create o.members = sym e ∙ o.creates in cc)
    | inr v ↦
        let one : AnswersOne (past h m.predecessors) m.sender i = subst (λ k. IsInTurn (past h m.predecessors) m.sender k) e v.in_turn in
        let suits : MeetsKind G.rule G.inviter (past h m.predecessors) m.sender (Ack i true) = subst (λ k. MeetsKind G.rule G.inviter (past h m.predecessors) m.sender k) e v.suits in
        record {
          operation = one.operation;
          there_is = one.waits.there_is;
          has_id = one.has_id;
          either = elim (suits one.operation one.waits.there_is one.has_id) [
            | inl s ↦ inl (
              s.0,
              view_moved G (past h m.predecessors) h (past-history h g.history m.predecessors) g.history
                  (record { same = λ a b x y q. same-message h g.history (past-within h m.predecessors x) y q }) (record { same = λ a b x y q. same-message h g.history x (past-within h m.predecessors y) q })
                  one.waits.there_is (past-within h m.predecessors one.waits.there_is) (s.1 refl).0,
              (s.1 refl).1,
            )
            | inr a ↦ inr a
          ];
        }
  ]

  in_older : (m : Message) (h : History) → IsHistory (m ∷ h) → {o : Message} {y : Id} → In o h → InView G.rule (m ∷ h) o y → InView G.rule h o y
  in_older m h g {o} {y} i v = subst (λ z. In y (G.rule (o ∷ z))) (past-older m h g i) v

  -- the term of an operation's answers, by its maker's moment
  term_of : (u : Turns) → Law u → {o : Message} {i : Id} (q : Packet) (r : Given) (b : Turns) → Moment u o.sender (Made q r) b → q.header ≡ o → o.id ≡ i → (s : Id)
      → answer_term_by G.primitives o.kind r (ratchet G.primitives b o.sender) s ≡ answer_term G.primitives u i s
  term_of u l {o} {i} q r b n d e s =
      ap (λ (z : Message). answer_term_by G.primitives z.kind r (ratchet G.primitives b o.sender) s) (sym d)
      ∙ sym (answer_term-at G n refl l s) ∙ ap (λ (z : Message). answer_term G.primitives u z.id s) d ∙ ap (λ z. answer_term G.primitives u z s) e

  answer_took : (x : Id) (p : Packet) (w : Turns) (l : Law (and_then x (Took p) w)) → AllRight G w → Pays G w x p → (t : Given) (u : Turns) → Moment w p.header.sender (Made p t) u
      → CM G p.header.sender p t u → InView G.rule (H (and_then x (Took p) w) x) p.header x → (i : Id) → p.header.kind ≡ Ack i true
      → answer_known G x (log_of w x) i p.header.sender (payload G x (log_of w x) p) ≡ Some (bytes G.primitives (answer_term G.primitives u i p.header.sender))
  answer_took x p w l right pay t u k cl see i ke =
      let here_it : In p.header (H (and_then x (Took p) w) x) = read_here G x p (Took p) refl w l t u k in
      let g : Good G (H (and_then x (Took p) w) x) = good G (and_then x (Took p) w) l x in
      let av : AnswerOf (H (and_then x (Took p) w) x) p.header i = answer_valid (H (and_then x (Took p) w) x) g here_it ke in
      let o : Message = av.operation in
      let lu : Law u = (lawful_at G l.2 k).1 in
      let ow : In o (H w x) = in_earlier G x p w l right pay t u k cl see av.there_is in
      let ou : In o (H u p.header.sender) = past_there G x p (Took p) refl w l t u k av.there_is in
      let clu : Cl G u p.header.sender = cm_before G l.2 k cl in
      let made : MadeIn G u o = clu.all o ou in
      let cmo : CM G o.sender made.packet made.given made.before = cm_of G lu clu made.moment (subst (λ z. In z (H u p.header.sender)) (sym made.is) ou) in
      let lm : Law (and_then p.header.sender (Made p t) u) = lawful_under G l.2 k in
      let m_hm : In p.header (H (and_then p.header.sender (Made p t) u) p.header.sender) = to_maker G x p (Took p) refl w l t u k p.header here in
      let see_hm : InView G.rule (H (and_then p.header.sender (Made p t) u) p.header.sender) p.header x = subst (λ z. InView G.rule (hist z) p.header x) (sym (log-own p.header.sender (Made p t) u))
      (see_back G x p (Took p) refl w l t u k here_it here see) in
      let term : answer_term_by G.primitives o.kind made.given (ratchet G.primitives made.before o.sender) p.header.sender ≡ answer_term G.primitives u i p.header.sender = term_of u lu made.packet made.given made.before made.moment made.is av.has_id p.header.sender in
      let fwd : Option Bytes = payload G x (log_of w x) p in
      let seen : InView G.rule (H w x) o x → IsOperation o.kind → answer_known G x (log_of w x) i p.header.sender fwd ≡ Some (bytes G.primitives (answer_term G.primitives u i p.header.sender)) =
      λ v op. ap (λ z. answer_known G x (log_of w x) z p.header.sender fwd) (sym av.has_id)
      ∙ answer_seen w l.2 right x ow v op made.packet made.given made.before (moment_on k made.moment) made.is cmo p.header.sender fwd ∙ ap (λ z. Some (bytes G.primitives z)) term in
      elim av.either [
        | inr adds ↦ seen (view_older (record { who = x; entry = Took p }) w x l ow (see_forth G x p (Took p) refl w l t u k (there ou) (hist-more G _ w l x ow)
            (subst (λ z. InView G.rule (hist z) o x) (log-own p.header.sender (Made p t) u)
            (answer_of_add G.rule G.is_rule G.inviter (H (and_then p.header.sender (Made p t) u) p.header.sender) (good G (and_then p.header.sender (Made p t) u) lm p.header.sender).history (named_once G (and_then p.header.sender (Made p t) u) lm p.header.sender cl)
            (rooted_at G (and_then p.header.sender (Made p t) u) lm p.header.sender) (each_at G (and_then p.header.sender (Made p t) u) lm p.header.sender)
            m_hm (deep_hm G p.header.sender p t u lm clu ou) adds (subst (λ z. Answers z o.id) (sym ke) (sym av.has_id)) see_hm)))) (subst IsOperation (sym adds) tt)
        | inl s ↦ elim (member_or_not G.rule (with_past (H w x) o) x) [
          | inl v ↦ seen v (seeded_operation o.kind s.0)
          | inr out ↦
              let not_sender : x ≢ o.sender = λ e. out (subst (λ z. InView G.rule (H w x) o z) (sym e) (sender_sees G.rule G.is_rule G.inviter (H w x) (each_at G w l.2 x) ow)) in
              let sees : InView G.rule (H u p.header.sender) o p.header.sender = in_older p.header (H u p.header.sender) (makes_it G x p (Took p) refl w l t u k).history ou
              (see_back G x p (Took p) refl w l t u k (hist-more G _ w l x ow) (there ou) s.1) in
              let value : Bytes = bytes G.primitives (answer_term G.primitives u i p.header.sender) in
              let maker : answer_known G p.header.sender (log_of u p.header.sender) i p.header.sender None ≡ Some value =
              ap (λ z. answer_known G p.header.sender (log_of u p.header.sender) z p.header.sender None) (sym av.has_id)
              ∙ answer_seen u lu (AllRight-at G right k) p.header.sender ou sees (seeded_operation o.kind s.0) made.packet made.given made.before made.moment made.is cmo p.header.sender None ∙ ap (λ z. Some (bytes G.primitives z)) term in
              let forward : IsForwardedTo G.rule (p.header ∷ H u p.header.sender) i p.header x = record {
                operation = o;
                there_is = there ou;
                has_id = av.has_id;
                seeded = s.0;
                in_view = see_back G x p (Took p) refl w l t u k here_it here see;
                no_recipient = λ r. out (view_older (record { who = x; entry = Took p }) w x l ow (see_forth G x p (Took p) refl w l t u k (there ou) (hist-more G _ w l x ow) r.in_view));
                not_its_sender = not_sender;
                other = λ e. l.0.0.other (sym e);
              } in
              ap (λ z. answer_known G x (log_of w x) z p.header.sender fwd) (sym av.has_id)
              ∙ answer_unseen w l.2 x ow out s.0 (inside G lu made) p.header.sender fwd
              ∙ pay.pays t u k (rc G x p w l right pay t u k cl see) clu value (subst (λ z. IsDue G p.header.sender (log_of u p.header.sender) p.header t z x value) (sym ke) (forward, maker))
        ]
      ]

  answer_made : (x : Id) (p : Packet) (t : Given) (w : Turns) (l : Law (and_then x (Made p t) w)) → AllRight G w → CM G x p t w → (i : Id) → p.header.kind ≡ Ack i true
      → answer_known G x (log_of w x) i p.header.sender None ≡ Some (bytes G.primitives (answer_term G.primitives w i p.header.sender))
  answer_made x p t w l right cl i ke =
      let here_it : In p.header (H (and_then x (Made p t) w) x) = header-stands G {e = Made p t} l now in
      let g : Good G (H (and_then x (Made p t) w) x) = good G (and_then x (Made p t) w) l x in
      let av : AnswerOf (H (and_then x (Made p t) w) x) p.header i = answer_valid (H (and_then x (Made p t) w) x) g here_it ke in
      let o : Message = av.operation in
      let ow : In o (H w x) = past-within (H w x) p.header.predecessors (subst (λ z. In o z) (past-self p.header (H w x) l.0.history)
      (subst (λ z. In o (past (hist z) p.header.predecessors)) (log-own x (Made p t) w) av.there_is)) in
      let clw : Cl G w x = cleaner G _ w l x cl in
      let made : MadeIn G w o = clw.all o ow in
      let cmo : CM G o.sender made.packet made.given made.before = cm_of G l.2 clw made.moment (subst (λ z. In z (H w x)) (sym made.is) ow) in
      let me : InView G.rule (H (and_then x (Made p t) w) x) p.header x = subst (λ z. InView G.rule (H (and_then x (Made p t) w) x) p.header z) l.0.sender (sender_sees G.rule G.is_rule G.inviter (H (and_then x (Made p t) w) x) (each_at G (and_then x (Made p t) w) l x) here_it) in
      let seen : InView G.rule (H (and_then x (Made p t) w) x) o x → IsOperation o.kind → answer_known G x (log_of w x) i p.header.sender None ≡ Some (bytes G.primitives (answer_term G.primitives w i p.header.sender)) =
      λ v op. ap (λ z. answer_known G x (log_of w x) z p.header.sender None) (sym av.has_id)
      ∙ answer_seen w l.2 right x ow (view_older (record { who = x; entry = Made p t }) w x l ow v) op made.packet made.given made.before made.moment made.is cmo p.header.sender None
      ∙ ap (λ z. Some (bytes G.primitives z)) (term_of w l.2 made.packet made.given made.before made.moment made.is av.has_id p.header.sender) in
      elim av.either [
        | inr adds ↦ seen (answer_of_add G.rule G.is_rule G.inviter (H (and_then x (Made p t) w) x) g.history (named_once G (and_then x (Made p t) w) l x cl) (rooted_at G (and_then x (Made p t) w) l x) (each_at G (and_then x (Made p t) w) l x)
            here_it av.there_is adds (subst (λ z. Answers z o.id) (sym ke) (sym av.has_id)) me) (subst IsOperation (sym adds) tt)
        | inl s ↦ seen (subst (λ z. InView G.rule (H (and_then x (Made p t) w) x) o z) l.0.sender s.1) (seeded_operation o.kind s.0)
      ]

  -- one more turn
  step : (x : Id) (e : LogEntry) (w : Turns) → Law (and_then x e w) → AllRight G w → Pays G w x (packet_of e) → Right G x e w
  step x (Took p) w l right pay =
      let under : (t : Given) (u : Turns) → Moment (and_then x (Took p) w) p.header.sender (Made p t) u → Moment w p.header.sender (Made p t) u = λ t u m. WhenMade takes_only m in
      let seed : (t : Given) (u : Turns) → Moment (and_then x (Took p) w) p.header.sender (Made p t) u → CM G p.header.sender p t u → InView G.rule (H (and_then x (Took p) w) x) p.header x → IsSeeded p.header.kind → payload G x (log_of w x) p ≡ Some (seed_of G.primitives t.random) =
      λ t u m cl see sd. pay.pays t u (under t u m) (rc G x p w l right pay t u (under t u m) cl see) (cm_before G l.2 (under t u m) cl) (seed_of G.primitives t.random) (seeded_due p.header.sender (log_of u p.header.sender) p.header t p.header.kind x sd (record {
        in_view = see_back G x p (Took p) refl w l t u (under t u m) (read_here G x p (Took p) refl w l t u (under t u m)) here see;
        other = λ d. l.0.0.other (sym d);
      })) in
      record {
        before_is = λ t u m cl see. took_before G x p w l right pay t u (under t u m) cl see;
        seed_is = seed;
        motion_is = λ t u m cl see. motion_right p.header.kind p.header.sender _ _ t (λ i. answer_term G.primitives u i p.header.sender) (seed t u m cl see) (λ i e. answer_took x p w l right pay t u (under t u m) cl see i e);
      }
  step x (Joined p) w l right pay = record {
    before_is = λ t u m cl see.
        let k : Moment w p.header.sender (Made p t) u = WhenMade joins_only m in
        let clu : Cl G u p.header.sender = cm_before G l.2 k cl in
        let rows : RowsClean G w x = record { rows = λ p0 v0 m0 a i. absurd (In-nothing (subst (λ z. In p0.header (hist z)) l.0.0.fresh (header-stands G l.2 m0))) } in
        let lu : Law u = (lawful_at G l.2 k).1 in
        let own' : known G p.header.sender (log_of u p.header.sender) p.header.sender ≡ Some (bytes G.primitives (ratchet G.primitives u p.header.sender)) = own_known G u lu (AllRight-at G right k) p.header.sender clu in
        ap (λ z. or_else z (known_rows p.rows p.header.sender)) (handed_now G w x p (H (and_then x (Joined p) w) x) l.2 pay rows t u k clu (by_add l.0.0.adds)
        (λ o i. past_there G x p (Joined p) refl w l t u k i) (see_back G x p (Joined p) refl w l t u k (read_here G x p (Joined p) refl w l t u k) here see) (bytes G.primitives (ratchet G.primitives u p.header.sender)) own');
    seed_is = λ t u m cl see sd. absurd (subst IsSeeded l.0.0.adds sd);
    motion_is = λ t u m cl see. motion_right p.header.kind p.header.sender _ _ t (λ i. answer_term G.primitives u i p.header.sender) (λ sd. absurd (subst IsSeeded l.0.0.adds sd))
        (λ i e. absurd (let f : Add x ≡ Ack i true = sym l.0.0.adds ∙ e in cc));
  }
  step x (Made p t) w l right pay =
      let mine : Moment (and_then x (Made p t) w) p.header.sender (Made p t) w = subst (λ z. Moment (and_then x (Made p t) w) z (Made p t) w) (sym l.0.sender) now in
      let same : (r : Given) (u : Turns) → Moment (and_then x (Made p t) w) p.header.sender (Made p r) u → SameMoment G p p t r w u = λ r u m. one_moment G mine m l refl in
      let mine_clean : (r : Given) (u : Turns) → Moment (and_then x (Made p t) w) p.header.sender (Made p r) u → CM G p.header.sender p r u → CM G x p t w =
      λ r u m cl. cm_same G (same r u m) (sym l.0.sender) cl in
      record {
        before_is = λ r u m cl see. subst (λ z. known G x (log_of w x) z ≡ Some (bytes G.primitives (ratchet G.primitives w z))) (sym l.0.sender) (own_known G w l.2 right x (cleaner G _ w l x (mine_clean r u m cl))) ∙ ap (λ z. Some (bytes G.primitives (ratchet G.primitives z p.header.sender))) (same r u m).worlds;
        seed_is = λ r u m cl see sd. ap (λ z. Some (seed_of G.primitives z.random)) (same r u m).randoms;
        motion_is = λ r u m cl see. motion_right p.header.kind p.header.sender _ _ r (λ i. answer_term G.primitives u i p.header.sender) (λ sd. ap (λ z. Some (seed_of G.primitives z.random)) (same r u m).randoms)
            (λ i e. answer_made x p t w l right (mine_clean r u m cl) i e ∙ ap (λ z. Some (bytes G.primitives (answer_term G.primitives z i p.header.sender))) (same r u m).worlds);
      }

  -- over a whole world
  pub record PaysAll (w : Turns) : Type 0 where
    pub each : (x : Id) (e : LogEntry) (v : Turns) → Moment w x e v → Pays G v x (packet_of e)

  pub all_right : (w : Turns) → Law w → PaysAll w → AllRight G w
  all_right [] l a = record { right = λ x e v m. elim m [ ] }
  all_right (u ∷ w) l a =
      let ih : AllRight G w = all_right w l.2 (record { each = λ x e v m. a.each x e v (once m) }) in
      record {
        right = λ x e v m. elim (when m) [
          | before_it k ↦ ih.right x e v k
          | at_head d g h ↦ subst (λ z. Right G z e v) d (subst (λ z. Right G u.who z v) g (subst (λ z. Right G u.who u.entry z) (sym h)
              (step u.who u.entry w l ih (a.each u.who u.entry w (moment_now u w)))))
        ];
      }
