-- The parts under way between two members of a world.
use Rattle.std.proofs.Common.{codes, ◌≡◌, ◌≢◌, true, false, ◌⊎◌, inl, inr, List, [], ◌∷◌, ◌++◌, Some, None, refl, sym, ◌∙◌, subst, ap}
use Rattle.std.specs.Option.{option_map}
use Rattle.group_model.specs.Sets.{Id, In, here, there, Bytes}
use Rattle.group_model.specs.Messages.{Kind, Create, Update, Remove, Add, Ack, AddAck, Text, Message, History, past, Stands, with_past}
use Rattle.group_model.specs.Membership.{Names, Named}
use Rattle.group_model.specs.Primitives.{KeyPair, Content, Primitives}
use Rattle.group_model.specs.Pairing.{Part, Draws, PairEvent, draws, content_of, IsTested, Sending, Sends, Joint, start, a_sends, b_sends, b_takes, a_takes}
use Rattle.group_model.specs.Settings.{card_of, Setting}
use Rattle.group_model.specs.Packets.{Packet, part_for, Given}
use Rattle.group_model.specs.Logs.{LogEntry, Joined, Took, Made, packet_of, header_of, Log, hist}
use Rattle.group_model.specs.Knowledge.{heard, heard_part, sent_part, with_opened, with_draws, payload_in}
use Rattle.group_model.specs.Worlds.{Turns, log_of, Moment, now, once}
use Rattle.group_model.specs.LawfulWorlds.{WasMade, MayLeave, IsLawful}
use Rattle.group_model.proofs.InSetting.{events, payload, part_with, IsDue, Makes}
use Rattle.group_model.proofs.ListFacts.{In-nothing, In-cases, In-head, other_id, equal_id}
use Rattle.group_model.proofs.Pasts.{past-within, past-apart, deps-stand}
use Rattle.group_model.proofs.Valids.{past-self}
use Rattle.group_model.proofs.Views.{same_or_not}
use Rattle.group_model.proofs.Worlds.{makes_all, own, apart, log_case, log-own, log-none, moment_now, Good, good, hist-more, lawful_at, hist-since, header-stands, MadeIn, MadeIn-since, clean_on, inside_at}
use Rattle.group_model.proofs.Latest.{moment_on, joins_only, WhenMade, past_forth, row_unnamed}
use Rattle.group_model.proofs.Agreement.{and_then, SameMoment, one_moment, as_entry, as_row, stood, sender_is}
use Rattle.group_model.proofs.Pairs.{opens_for_a}
use Rattle.group_model.proofs.Parts.{gives, gives_none, present, PartFor, only_due, each_due}
use Rattle.group_model.proofs.Steps.{Pays, past_here, RowsClean, Cl, entry_made, hist_under}
use Rattle.group_model.proofs.Knowing.{events-none as none_events, events-joined as joined_events, events-took as took_events, events-made as made_events}

-- the two members may be exchanged
pub flip : {K : Primitives} {a b : KeyPair} {ea eb : List PairEvent} {qa qb : List Sending} → Joint K a b ea eb qa qb → Joint K b a eb ea qb qa
flip (start p q) = start q p
flip (a_sends d v s k j) = b_sends d v s k (flip j)
flip (b_sends d v s k j) = a_sends d v s k (flip j)
flip (b_takes s j) = a_takes s (flip j)
flip (a_takes s j) = b_takes s (flip j)

-- the pairs of a send are tested
record Tested (K : Primitives) (d : Draws) : Type 0 where
  own : IsTested K d.own
  other : IsTested K d.other

draws-tested : (K : Primitives) (random : Bytes) (y : Id) (d : Draws) → draws K random y ≡ Some d → Tested K d
unfolding draws
draws-tested K random y d e = elim (present (K.make (K.derive random (codes "own") y))) [
  | gives_none p ↦ let n : None ≡ Some d = rw p at e in cc
  | gives a p ↦ elim (present (K.make (K.derive random (codes "other") y))) [
    | gives_none q ↦ let n : None ≡ Some d = rw q at (rw p at e) in cc
    | gives b q ↦
        let n : Some (record { own = a; other = b; encapsulation = K.derive random (codes "encap") y }) ≡ Some d = rw q at (rw p at e) in
        let k : record { own = a; other = b; encapsulation = K.derive random (codes "encap") y } ≡ d = cc in
        subst (λ z. Tested K z) k (record { own = K.made_pair _ a p; other = K.made_pair _ b q })
  ]
]

module _ (G : Setting) where
  abbrev Law : Turns → Type 0
  Law = IsLawful G

  abbrev H : Turns → Id → History
  H w x = hist (log_of w x)

  -- a part that is due has one payload
  due_one : (s : Id) (l : Log) (m : Message) (t : Given) (k : Kind) (x : Id) (b d : Bytes) → IsDue G s l m t k x b → IsDue G s l m t k x d → b ≡ d
  due_one s l m t k x b d p q = let e : Some b ≡ Some d = sym p.1 ∙ q.1 in cc

  -- who gets a part is named by the message or in its past
  due_named : (s : Id) (l : Log) (m : Message) (t : Given) (k : Kind) (x : Id) (b : Bytes) → m.kind ≡ k → IsDue G s l m t k x b → Named (with_past (m ∷ hist l) m) x
  due_named s l m t (Create members) x b e p = G.is_rule.named (with_past (m ∷ hist l) m) x p.0.in_view
  due_named s l m t Update x b e p = G.is_rule.named (with_past (m ∷ hist l) m) x p.0.in_view
  due_named s l m t (Remove y) x b e p = G.is_rule.named (with_past (m ∷ hist l) m) x p.0.in_view
  due_named s l m t (Add y) x b e p = record { by = m; there_is = here; names = subst (λ k. Names k x) (sym e) p.0 }
  due_named s l m t (Ack i true) x b e p = G.is_rule.named (with_past (m ∷ hist l) m) x p.0.in_view
  due_named s l m t (Ack i false) x b e p = absurd p.0
  due_named s l m t (AddAck i) x b e p = G.is_rule.named (with_past (m ∷ hist l) m) x p.0.in_view
  due_named s l m t Text x b e p = absurd p.0

  -- the sending that a packet of s with this log has for x
  record Posted (s x : Id) (l : Log) (p : Packet) (t : Given) (z : Sending) : Type 0 where
    value : Bytes
    due : IsDue G s l p.header t p.header.kind x value
    there_is : part_for p.parts x ≡ Some z.part
    d : Draws
    drawn : draws G.primitives t.random x ≡ Some d
    sent : Sends G.primitives (G.public_key x) (events G s x l) d value z

  record PostedPart (s x : Id) (l : Log) (p : Packet) (t : Given) (part : Part) : Type 0 where
    z : Sending
    posted : Posted s x l p t z
    is : z.part ≡ part

  posted_part : (s x : Id) (l : Log) (p : Packet) (t : Given) (part : Part) (v : Bytes) → IsDue G s l p.header t p.header.kind x v
      → part_for p.parts x ≡ Some part → part_with G s l t x v ≡ Some part → PostedPart s x l p t part
  posted_part s x l p t part v due there_is made = elim (present (draws G.primitives t.random x)) [
    | gives_none e ↦ let n : None ≡ Some part = rw e at made in cc
    | gives d e ↦
        let tested : Tested G.primitives d = draws-tested G.primitives t.random x d e in
        record {
          z = record { part = part; content = content_of (events G s x l) d v };
          is = refl;
          posted = record {
            value = v;
            due = due;
            there_is = there_is;
            d = d;
            drawn = e;
            sent = record { own_tested = tested.own; other_tested = tested.other; part = rw e at made; content = refl };
          };
        }
  ]

  -- the parts of s to x, of messages that are not in the history of x, oldest first
  data Unread (s x : Id) (h : History) : Log → List Sending → Type 0 where
    u_none : Unread s x h [] []
    u_joined : {l : Log} {q : List Sending} {p : Packet} → Unread s x h l q → Unread s x h (Joined p ∷ l) q
    u_took : {l : Log} {q : List Sending} {p : Packet} → Unread s x h l q → Unread s x h (Took p ∷ l) q
    u_read : {l : Log} {p : Packet} {t : Given} → Stands h p.header.id → Unread s x h (Made p t ∷ l) []
    u_no_part : {l : Log} {q : List Sending} {p : Packet} {t : Given} → (Stands h p.header.id → ⊥) → part_for p.parts x ≡ None → Unread s x h l q → Unread s x h (Made p t ∷ l) q
    u_part : {l : Log} {q : List Sending} {p : Packet} {t : Given} → (Stands h p.header.id → ⊥) → (z : Sending) → Posted s x l p t z
        → Unread s x h l q → Unread s x h (Made p t ∷ l) (q ++ z ∷ [])

  -- an entry of a log
  data Among : LogEntry → Log → Type 0 where
    first : {e : LogEntry} {l : Log} → Among e (e ∷ l)
    further : {e f : LogEntry} {l : Log} → Among e l → Among e (f ∷ l)

  -- the same histories as far as these messages go
  Unread-same : {s x : Id} {h k : History} {l : Log} {q : List Sending} → Unread s x h l q → ((p : Packet) (t : Given) → Among (Made p t) l → Stands h p.header.id → Stands k p.header.id)
      → ((p : Packet) (t : Given) → Among (Made p t) l → Stands k p.header.id → Stands h p.header.id) → Unread s x k l q
  Unread-same u_none f g = u_none
  Unread-same (u_joined u) f g = u_joined (Unread-same u (λ p t a. f p t (further a)) (λ p t a. g p t (further a)))
  Unread-same (u_took u) f g = u_took (Unread-same u (λ p t a. f p t (further a)) (λ p t a. g p t (further a)))
  Unread-same (u_read {p = p} {t = t} i) f g = u_read (f p t first i)
  Unread-same (u_no_part {p = p} {t = t} n d u) f g = u_no_part (λ i. n (g p t first i)) d (Unread-same u (λ p t a. f p t (further a)) (λ p t a. g p t (further a)))
  Unread-same (u_part {p = p} {t = t} n z k u) f g = u_part (λ i. n (g p t first i)) z k (Unread-same u (λ p t a. f p t (further a)) (λ p t a. g p t (further a)))

  -- nothing is under way where no message has a part
  Unread-empty : {s x : Id} {h : History} {l : Log} {q : List Sending} → Unread s x h l q → ((p : Packet) (t : Given) → Among (Made p t) l → part_for p.parts x ≡ None) → q ≡ []
  Unread-empty u_none f = refl
  Unread-empty (u_joined u) f = Unread-empty u (λ p t a. f p t (further a))
  Unread-empty (u_took u) f = Unread-empty u (λ p t a. f p t (further a))
  Unread-empty (u_read i) f = refl
  Unread-empty (u_no_part n d u) f = Unread-empty u (λ p t a. f p t (further a))
  Unread-empty (u_part {p = p} {t = t} n z k u) f = absurd (let e = sym (f p t first) ∙ k.there_is in cc)

  -- nor where each message is read
  Unread-read : {s x : Id} {h : History} {l : Log} {q : List Sending} → Unread s x h l q → ((p : Packet) (t : Given) → Among (Made p t) l → Stands h p.header.id) → q ≡ []
  Unread-read u_none f = refl
  Unread-read (u_joined u) f = Unread-read u (λ p t a. f p t (further a))
  Unread-read (u_took u) f = Unread-read u (λ p t a. f p t (further a))
  Unread-read (u_read i) f = refl
  Unread-read (u_no_part {p = p} {t = t} n d u) f = absurd (n (f p t first))
  Unread-read (u_part {p = p} {t = t} n z k u) f = absurd (n (f p t first))

  -- what is left after p was taken
  data Taken (s x : Id) (h : History) (l : Log) (q : List Sending) (p : Packet) (t : Given) (l1 : Log) : Type 0 where
    no_part_taken : part_for p.parts x ≡ None → Unread s x h l q → Taken s x h l q p t l1
    part_taken : (q' : List Sending) (z : Sending) → Posted s x l1 p t z → q ≡ z ∷ q'
        → Unread s x h l q' → Taken s x h l q p t l1

  taken_here : (s x : Id) (h h' : History) (l : Log) (p : Packet) (t : Given) (q : List Sending) → Unread s x h (Made p t ∷ l) q → (Stands h p.header.id → ⊥) → Stands h' p.header.id
      → ((q1 : List Sending) → Unread s x h l q1 → q1 ≡ []) → Taken s x h' (Made p t ∷ l) q p t l
  taken_here s x h h' l p t q (u_read i) fresh now' base = absurd (fresh i)
  taken_here s x h h' l p t q (u_no_part n d u) fresh now' base = no_part_taken d (subst (λ z. Unread s x h' (Made p t ∷ l) z) (sym (base q u)) (u_read now'))
  taken_here s x h h' l p t q (u_part {q = q0} n z k u) fresh now' base = part_taken [] z k (ap (λ y. y ++ z ∷ []) (base q0 u)) (u_read now')

  taken_over : (s x : Id) (h h' : History) (f : LogEntry) (l : Log) (q : List Sending) (p : Packet) (t : Given) (l1 : Log) → Unread s x h (f ∷ l) q → ((p' : Packet) (t' : Given) → f ≡ Made p' t' → Stands h' p'.header.id → ⊥)
      → ((i : Id) → Stands h i → Stands h' i) → ((q1 : List Sending) → Unread s x h l q1 → Taken s x h' l q1 p t l1) → Taken s x h' (f ∷ l) q p t l1
  taken_over s x h h' f l q p t l1 (u_joined u) new up go = elim (go q u) [
    | no_part_taken d u' ↦ no_part_taken d (u_joined u')
    | part_taken q' z k e u' ↦ part_taken q' z k e (u_joined u')
  ]
  taken_over s x h h' f l q p t l1 (u_took u) new up go = elim (go q u) [
    | no_part_taken d u' ↦ no_part_taken d (u_took u')
    | part_taken q' z k e u' ↦ part_taken q' z k e (u_took u')
  ]
  taken_over s x h h' f l q p t l1 (u_read {p = p'} {t = t'} i) new up go = absurd (new p' t' refl (up p'.header.id i))
  taken_over s x h h' f l q p t l1 (u_no_part {p = p'} {t = t'} n b u) new up go = elim (go q u) [
    | no_part_taken d u' ↦ no_part_taken d (u_no_part (new p' t' refl) b u')
    | part_taken q' z k e u' ↦ part_taken q' z k e (u_no_part (new p' t' refl) b u')
  ]
  taken_over s x h h' f l q p t l1 (u_part {q = q0} {p = p'} {t = t'} n z' k' u) new up go = elim (go q0 u) [
    | no_part_taken d u' ↦ no_part_taken d (u_part (new p' t' refl) z' k' u')
    | part_taken q' z k e u' ↦ part_taken (q' ++ z' ∷ []) z k (ap (λ y. y ++ z' ∷ []) e) (u_part (new p' t' refl) z' k' u')
  ]

  take : (s x : Id) (h h' : History) (p : Packet) (t : Given) {w v : Turns} {e : LogEntry} → Moment w s e v → e ≡ Made p t → Law w → (q : List Sending) → Unread s x h (log_of w s) q
      → (Stands h p.header.id → ⊥) → Stands h' p.header.id → ((i : Id) → Stands h i → Stands h' i) → ((q1 : List Sending) → Unread s x h (log_of v s) q1 → q1 ≡ [])
      → ((p' : Packet) (t' : Given) (v' : Turns) → Moment w s (Made p' t') v' → In p.header (H v' s) → Stands h' p'.header.id → ⊥) → Taken s x h' (log_of w s) q p t (log_of v s)
  take s x h h' p t (now {w = w} {e = e}) d l q u fresh now' up base new =
      let f : log_of (and_then s e w) s ≡ Made p t ∷ log_of w s = log-own s e w ∙ ap (λ z. z ∷ log_of w s) d in
      subst (λ z. Taken s x h' z q p t (log_of w s)) (sym f) (taken_here s x h h' (log_of w s) p t q (subst (λ z. Unread s x h z q) f u) fresh now' base)
  take s x h h' p t (once {e = e} {w = w} {v = v} {u = a} m) d l q u fresh now' up base new = elim (log_case a w s) [
    | apart n f ↦ subst (λ z. Taken s x h' z q p t (log_of v s)) (sym f) (take s x h h' p t m d l.2 q (subst (λ z. Unread s x h z q) f u) fresh now' up base (λ p' t' v' k. new p' t' v' (once k)))
    | own n f ↦ subst (λ z. Taken s x h' z q p t (log_of v s)) (sym f) (taken_over s x h h' a.entry (log_of w s) q p t (log_of v s) (subst (λ z. Unread s x h z q) f u)
        (λ p' t' g. new p' t' w (subst (λ z. Moment (a ∷ w) z (Made p' t') w) n (subst (λ z. Moment (a ∷ w) a.who z w) g (moment_now a w)))
        (subst (λ z. In (header_of z) (H w s)) d (header-stands G {e = e} l.2 m)))
        up (λ q1 u1. take s x h h' p t m d l.2 q1 u1 fresh now' up base (λ p' t' v' k. new p' t' v' (once k))))
  ]

  -- an entry of a log has its moment
  record Since (w : Turns) (y : Id) (e : LogEntry) : Type 0 where
    world : Turns
    moment : Moment w y e world

  among_since : (w : Turns) (y : Id) {e : LogEntry} → Among e (log_of w y) → Since w y e
  among_since [] y {e} a = absurd (nothing (subst (λ z. Among e z) (log-none y) a))
    where
      nothing : Among e [] → ⊥
      nothing a = elim a [ ]
  among_since (u ∷ w) y {e} a = elim (log_case u w y) [
    | apart n f ↦ further_one (among_since w y (subst (λ z. Among e z) f a))
    | own n f ↦ by (subst (λ z. Among e z) f a) n (λ b. further_one (among_since w y b))
  ]
    where
      further_one : Since w y e → Since (u ∷ w) y e
      further_one s = record { world = s.world; moment = once s.moment }

      at_front : {f : LogEntry} {l : Log} → Among e (f ∷ l) → (f ≡ e) ⊎ Among e l
      at_front first = inl refl
      at_front (further b) = inr b

      by : Among e (u.entry ∷ log_of w y) → u.who ≡ y → (Among e (log_of w y) → Since (u ∷ w) y e) → Since (u ∷ w) y e
      by b n k = elim (at_front b) [
        | inl d ↦ record { world = w; moment = subst (λ z. Moment (u ∷ w) z e w) n (subst (λ z. Moment (u ∷ w) u.who z w) d (moment_now u w)) }
        | inr j ↦ k j
      ]

  -- a message of a member that stands in a history was made
  made_here : (w : Turns) → Law w → (y : Id) → RowsClean G w y → {a : Message} → In a (H w y) → In a.sender G.members → MadeIn G w a
  made_here w l y rc {a} i ins = elim (stood G w y i) [
    | as_entry f b mf e ↦ subst (λ z. MadeIn G w z) e (entry_made G l mf (subst (λ (z : Message). In z.sender G.members) (sym e) ins))
    | as_row p0 v0 m0 j ↦ MadeIn-since G m0 (rc.rows p0 v0 m0 a j)
  ]

  RowsClean-back : {w v : Turns} {z y : Id} {e : LogEntry} → Moment w z e v → RowsClean G w y → RowsClean G v y
  RowsClean-back m rc = record { rows = λ p0 v0 m0 a i. rc.rows p0 v0 (moment_on m m0) a i }

  -- a message that is made now stands in no history before
  not_yet : (x : Id) (p : Packet) (t : Given) (w : Turns) → Law (and_then x (Made p t) w) → (y : Id) → RowsClean G w y → Stands (H w y) p.header.id → ⊥
  not_yet x p t w l y rc s =
      let here_it : In p.header (H (and_then x (Made p t) w) x) = header-stands G {e = Made p t} l now in
      let same : s.by ≡ p.header = l.1.same y x s.by p.header (hist-more G _ w l y s.there_is) here_it s.has_id in
      let ins : In s.by.sender G.members = subst (λ z. In z G.members) (sym (ap (λ (z : Message). z.sender) same ∙ l.0.sender)) l.3 in
      let made : MadeIn G w s.by = made_here w l.2 y rc s.there_is ins in
      let k : Moment w x (Made made.packet made.given) made.before = subst (λ z. Moment w z (Made made.packet made.given) made.before) (ap (λ (z : Message). z.sender) same ∙ l.0.sender) made.moment in
      l.0.history.1 (record { by = made.packet.header; there_is = header-stands G l.2 k; has_id = ap (λ (z : Message). z.id) (made.is ∙ same) })

  -- how two members stand to one another
  record PairOf (x y : Id) (lx ly : Log) : Type 0 where
    qx : List Sending
    qy : List Sending
    joint : Joint G.primitives (card_of G x) (card_of G y) (events G x y lx) (events G y x ly) qx qy
    to_y : Unread x y (hist ly) lx qx
    to_x : Unread y x (hist lx) ly qy

  PairOf-flip : {x y : Id} {lx ly : Log} → PairOf x y lx ly → PairOf y x ly lx
  PairOf-flip p = record { qx = p.qy; qy = p.qx; joint = flip p.joint; to_y = p.to_x; to_x = p.to_y }

  events-none : (x y : Id) → events G x y [] ≡ []
  events-none x y = none_events G.primitives (card_of G x) x y

  events-made : (x y : Id) (p : Packet) (t : Given) (l : Log) → events G x y (Made p t ∷ l) ≡ sent_part G.primitives y t (part_for p.parts y) (events G x y l)
  events-made x y p t l = made_events G.primitives (card_of G x) x y p t l

  events-took : (x y : Id) (p : Packet) (l : Log) → events G x y (Took p ∷ l) ≡ heard G.primitives (card_of G x) x y p (events G x y l)
  events-took x y p l = took_events G.primitives (card_of G x) x y p l

  events-joined : (x y : Id) (p : Packet) (l : Log) → events G x y (Joined p ∷ l) ≡ heard G.primitives (card_of G x) x y p (events G x y l)
  events-joined x y p l = joined_events G.primitives (card_of G x) x y p l

  heard-other : (x y : Id) (p : Packet) (es : List PairEvent) → p.header.sender ≢ y → heard G.primitives (card_of G x) x y p es ≡ es
  heard-other x y p es n = rw (other_id p.header.sender y n) refl

  heard-own : (x y : Id) (p : Packet) (es : List PairEvent) → p.header.sender ≡ y → heard G.primitives (card_of G x) x y p es ≡ heard_part G.primitives (card_of G x) (part_for p.parts x) es
  heard-own x y p es n = rw (equal_id p.header.sender y n) refl

  -- x makes a packet
  pair_made : (x y : Id) (p : Packet) (t : Given) (w : Turns) → Law (and_then x (Made p t) w) → x ≢ y → RowsClean G w y → PairOf x y (log_of w x) (log_of w y) → PairOf x y (Made p t ∷ log_of w x) (log_of w y)
  pair_made x y p t w l ne rc k =
      let mk : Makes G x (log_of w x) p t = l.0 in
      let to_x' : Unread y x (p.header ∷ H w x) (log_of w y) k.qy = Unread-same k.to_x
      (λ q r a s. record { by = s.by; there_is = there s.there_is; has_id = s.has_id })
      (λ q r a s. elim (In-cases s.there_is) [
        | inr j ↦ record { by = s.by; there_is = j; has_id = s.has_id }
        | inl e ↦ let si : Since w y (Made q r) = among_since w y a in
            absurd (not_yet x p t w l y rc (record { by = q.header; there_is = header-stands G l.2 si.moment; has_id = sym s.has_id ∙ ap (λ (z : Message). z.id) e }))
      ]) in
      elim (present (part_for p.parts y)) [
        | gives_none d ↦ record {
          qx = k.qx;
          qy = k.qy;
          joint = subst (λ z. Joint G.primitives (card_of G x) (card_of G y) z (events G y x (log_of w y)) k.qx k.qy) (sym (events-made x y p t (log_of w x) ∙ ap (λ z. sent_part G.primitives y t z (events G x y (log_of w x))) d)) k.joint;
          to_y = u_no_part (not_yet x p t w l y rc) d k.to_y;
          to_x = to_x';
        }
        | gives part d ↦
            let o : PartFor G x (log_of w x) p t y part = only_due G mk y part d in
            let a : PostedPart x y (log_of w x) p t part = posted_part x y (log_of w x) p t part o.value o.due d o.is in
            let z : Sending = a.z in
            record {
              qx = k.qx ++ z ∷ [];
              qy = k.qy;
              joint = subst (λ r. Joint G.primitives (card_of G x) (card_of G y) r (events G y x (log_of w y)) (k.qx ++ z ∷ []) k.qy)
                  (sym (events-made x y p t (log_of w x) ∙ ap (λ r. sent_part G.primitives y t r (events G x y (log_of w x))) a.posted.there_is
                  ∙ ap (λ r. with_draws r (events G x y (log_of w x))) a.posted.drawn))
                  (a_sends a.posted.d a.posted.value z a.posted.sent k.joint);
              to_y = u_part (not_yet x p t w l y rc) z a.posted k.to_y;
              to_x = to_x';
            }
      ]

  -- after a packet of y was taken from what was under way
  pair_heard : (x y : Id) (p : Packet) (t : Given) (lx lx' ly l1 : Log) → p.header.sender ≡ y → events G x y lx' ≡ heard G.primitives (card_of G x) x y p (events G x y lx)
      → (k : PairOf x y lx ly) → Unread x y (hist ly) lx' k.qx → Taken y x (hist lx') ly k.qy p t l1 → PairOf x y lx' ly
  pair_heard x y p t lx lx' ly l1 s e k to_y' (no_part_taken d u) = record {
    qx = k.qx;
    qy = k.qy;
    to_y = to_y';
    to_x = u;
    joint = subst (λ z. Joint G.primitives (card_of G x) (card_of G y) z (events G y x ly) k.qx k.qy) (sym (e ∙ heard-own x y p (events G x y lx) s ∙ ap (λ z. heard_part G.primitives (card_of G x) z (events G x y lx)) d)) k.joint;
  }
  pair_heard x y p t lx lx' ly l1 s e k to_y' (part_taken q' z a f u) =
      let j : Joint G.primitives (card_of G x) (card_of G y) (events G x y lx) (events G y x ly) k.qx (z ∷ q') = subst (λ r. Joint G.primitives (card_of G x) (card_of G y) (events G x y lx) (events G y x ly) k.qx r) f k.joint in
      record {
        qx = k.qx;
        qy = q';
        to_y = to_y';
        to_x = u;
        joint = subst (λ r. Joint G.primitives (card_of G x) (card_of G y) r (events G y x ly) k.qx q')
            (sym (e ∙ heard-own x y p (events G x y lx) s ∙ ap (λ r. heard_part G.primitives (card_of G x) r (events G x y lx)) a.there_is
            ∙ ap (λ r. with_opened z.part r (events G x y lx)) (opens_for_a G.primitives z j))) (a_takes z j);
      }

  -- the packet that x takes from y, out of what is under way
  take_took : (x : Id) (p : Packet) (w : Turns) (l : Law (and_then x (Took p) w)) (t : Given) (v : Turns) → Moment w p.header.sender (Made p t) v → (q : List Sending) → Unread p.header.sender x (H w x) (log_of w p.header.sender) q
      → Taken p.header.sender x (p.header ∷ H w x) (log_of w p.header.sender) q p t (log_of v p.header.sender)
  take_took x p w l t v k q u =
      let fresh : Stands (H w x) p.header.id → ⊥ = l.0.0.history.1 in
      let gw : Good G (H w x) = good G w l.2 x in
      let lv : Law v = (lawful_at G l.2 k).1 in
      take p.header.sender x (H w x) (p.header ∷ H w x) p t k refl l.2 q u fresh (record { by = p.header; there_is = here; has_id = refl })
      (λ i s. record { by = s.by; there_is = there s.there_is; has_id = s.has_id })
      (λ q1 u1. Unread-read u1 (λ p' t' a.
      let si : Since v p.header.sender (Made p' t') = among_since v p.header.sender a in
      let i : In p'.header (H v p.header.sender) = header-stands G lv si.moment in
      let j : In p'.header (past (H (and_then x (Took p) w) x) p.header.predecessors) = past_here G x p (Took p) refl w l t v k i in
      record {
        by = p'.header;
        has_id = refl;
        there_is = past-within (H w x) p.header.predecessors (subst (λ z. In p'.header z) (past-self p.header (H w x) l.0.0.history)
            (subst (λ z. In p'.header (past (hist z) p.header.predecessors)) (log-own x (Took p) w) j));
      }))
      (λ p' t' v' m i s.
      let later_one : In s.by (H (and_then x (Took p) w) x) = subst (λ z. In s.by (hist z)) (sym (log-own x (Took p) w)) s.there_is in
      let same : s.by ≡ p'.header = l.1.same x p.header.sender s.by p'.header later_one (hist-more G _ w l p.header.sender (header-stands G l.2 m)) s.has_id in
      let mk : Makes G p.header.sender (log_of v' p.header.sender) p' t' = (lawful_at G l.2 m).0 in
      elim (In-cases s.there_is) [
        | inl e ↦ mk.history.1 (record { by = p.header; there_is = i; has_id = ap (λ (z : Message). z.id) (sym e ∙ same) })
        | inr j ↦ fresh (record { by = p.header; has_id = refl; there_is = past-within (H w x) p'.header.predecessors (past_forth G {e = Made p' t'} l.2 m x (subst (λ z. In z (H w x)) same j) (makes_all G mk p.header i)) })
      ])

  pair_took : (x y : Id) (p : Packet) (w : Turns) → Law (and_then x (Took p) w) → x ≢ y → In y G.members → PairOf x y (log_of w x) (log_of w y) → PairOf x y (Took p ∷ log_of w x) (log_of w y)
  pair_took x y p w l ne iy k = elim (same_or_not p.header.sender y) [
    | inl s ↦ let wm : WasMade w p = l.0.1.made (subst (λ z. In z G.members) (sym s) iy) in pair_heard x y p wm.given (log_of w x) (Took p ∷ log_of w x) (log_of w y) (log_of wm.before y) s (events-took x y p (log_of w x)) k (u_took k.to_y)
        (subst (λ z. Unread z x (H w x) (log_of w z) k.qy → Taken z x (p.header ∷ H w x) (log_of w z) k.qy p wm.given (log_of wm.before z)) s
        (take_took x p w l wm.given wm.before wm.moment k.qy) k.to_x)
    | inr n ↦ record {
      qx = k.qx;
      qy = k.qy;
      to_y = u_took k.to_y;
      joint = subst (λ z. Joint G.primitives (card_of G x) (card_of G y) z (events G y x (log_of w y)) k.qx k.qy) (sym (events-took x y p (log_of w x) ∙ heard-other x y p (events G x y (log_of w x)) n)) k.joint;
      to_x = Unread-same k.to_x
          (λ q r a s. record { by = s.by; there_is = there s.there_is; has_id = s.has_id })
          (λ q r a s. elim (In-cases s.there_is) [
            | inr j ↦ record { by = s.by; there_is = j; has_id = s.has_id }
            | inl e ↦ let si : Since w y (Made q r) = among_since w y a in
                let here_it : In p.header (H (and_then x (Took p) w) x) = header-stands G {e = Took p} l now in
                let same : p.header ≡ q.header = l.1.same x y p.header q.header here_it (hist-more G _ w l y (header-stands G l.2 si.moment)) (ap (λ (z : Message). z.id) (sym e) ∙ s.has_id) in
                absurd (n (ap (λ (z : Message). z.sender) same ∙ sender_is G si.moment l.2))
          ]);
    }
  ]

  -- what a row's maker sent holds no part for who joins
  no_part_in_rows : (x : Id) (p : Packet) (w : Turns) (l : Law (and_then x (Joined p) w)) {y : Id} {v : Turns} (q : Packet) (r : Given) → Moment w y (Made q r) v → In q.header p.rows → part_for q.parts x ≡ None
  no_part_in_rows x p w l {y} {v} q r m i = elim (present (part_for q.parts x)) [
    | gives_none d ↦ d
    | gives part d ↦
        let mk : Makes G y (log_of v y) q r = (lawful_at G l.2 m).0 in
        let o : PartFor G y (log_of v y) q r x part = only_due G mk x part d in
        let nm : Named (with_past (q.header ∷ H v y) q.header) x = due_named y (log_of v y) q.header r q.header.kind x o.value refl o.due in
        let at_x : In q.header (H (and_then x (Joined p) w) x) = subst (λ z. In q.header (hist z)) (sym (log-own x (Joined p) w)) (there i) in
        absurd (row_unnamed G l now i (record {
          by = nm.by;
          names = nm.names;
          there_is = elim (In-cases nm.there_is) [
            | inl e ↦ In-head (past (H (and_then x (Joined p) w) x) q.header.predecessors) e
            | inr j ↦ there (past_forth G {e = Made q r} l (once m) x at_x (subst (λ z. In nm.by z) (past-self q.header (H v y) mk.history) j))
          ];
        }))
  ]

  Stands_or_not : (h : History) (i : Id) → Stands h i ⊎ (Stands h i → ⊥)
  Stands_or_not [] i = inr (λ s. In-nothing s.there_is)
  Stands_or_not (m ∷ h) i = elim (same_or_not m.id i) [
    | inl e ↦ inl (record { by = m; there_is = here; has_id = e })
    | inr n ↦ elim (Stands_or_not h i) [
      | inl s ↦ inl (record { by = s.by; there_is = there s.there_is; has_id = s.has_id })
      | inr o ↦ inr (λ s. elim (In-cases s.there_is) [
        | inl e ↦ n (ap (λ (z : Message). z.id) (sym e) ∙ s.has_id)
        | inr j ↦ o (record { by = s.by; there_is = j; has_id = s.has_id })
      ])
    ]
  ]

  -- an entry with what came before it
  data Ends (e : LogEntry) (l1 : Log) : Log → Type 0 where
    ends : Ends e l1 (e ∷ l1)
    ends_on : {f : LogEntry} {l : Log} → Ends e l1 l → Ends e l1 (f ∷ l)

  -- rows with no part for x leave what is under way
  Unread-rows : {s x : Id} {h h' : History} {l : Log} {q : List Sending} → Unread s x h l q → ((p : Packet) (t : Given) → Among (Made p t) l → Stands h p.header.id → ⊥)
      → ((p : Packet) (t : Given) (l2 : Log) → Ends (Made p t) l2 l → Stands h' p.header.id → (p2 : Packet) (t2 : Given) → Among (Made p2 t2) (Made p t ∷ l2) → part_for p2.parts x ≡ None) → Unread s x h' l q
  Unread-rows u_none f g = u_none
  Unread-rows (u_joined u) f g = u_joined (Unread-rows u (λ p t a. f p t (further a)) (λ p t l2 a. g p t l2 (ends_on a)))
  Unread-rows (u_took u) f g = u_took (Unread-rows u (λ p t a. f p t (further a)) (λ p t l2 a. g p t l2 (ends_on a)))
  Unread-rows (u_read {p = p} {t = t} i) f g = absurd (f p t first i)
  Unread-rows {s = s} {x = x} {h' = h'} (u_no_part {l = l} {q = q} {p = p} {t = t} n d u) f g = elim (Stands_or_not h' p.header.id) [
    | inl i ↦ subst (λ z. Unread s x h' (Made p t ∷ l) z) (sym (Unread-empty u (λ p2 t2 a. g p t l ends i p2 t2 (further a)))) (u_read i)
    | inr o ↦ u_no_part o d (Unread-rows u (λ p t a. f p t (further a)) (λ p t l2 a. g p t l2 (ends_on a)))
  ]
  Unread-rows {s = s} {x = x} {h' = h'} (u_part {l = l} {q = q} {p = p} {t = t} n z k u) f g = elim (Stands_or_not h' p.header.id) [
    | inl i ↦ absurd (let e = sym (g p t l ends i p t first) ∙ k.there_is in cc)
    | inr o ↦ u_part o z k (Unread-rows u (λ p t a. f p t (further a)) (λ p t l2 a. g p t l2 (ends_on a)))
  ]

  record SinceLog (w : Turns) (y : Id) (e : LogEntry) (l1 : Log) : Type 0 where
    world : Turns
    moment : Moment w y e world
    log : log_of world y ≡ l1

  ends_since : (w : Turns) (y : Id) {e : LogEntry} {l1 : Log} → Ends e l1 (log_of w y) → SinceLog w y e l1
  ends_since [] y {e} {l1} a = absurd (nothing (subst (λ z. Ends e l1 z) (log-none y) a))
    where
      nothing : Ends e l1 [] → ⊥
      nothing a = elim a [ ]
  ends_since (u ∷ w) y {e} {l1} a = elim (log_case u w y) [
    | apart n f ↦ further_one (ends_since w y (subst (λ z. Ends e l1 z) f a))
    | own n f ↦ elim (at_front (subst (λ z. Ends e l1 z) f a)) [
      | inl d ↦ record { world = w; moment = subst (λ z. Moment (u ∷ w) z e w) n (subst (λ z. Moment (u ∷ w) u.who z w) d.0 (moment_now u w)); log = d.1 }
      | inr b ↦ further_one (ends_since w y b)
    ]
  ]
    where
      further_one : SinceLog w y e l1 → SinceLog (u ∷ w) y e l1
      further_one s = record { world = s.world; moment = once s.moment; log = s.log }

      at_front : {f : LogEntry} {l : Log} → Ends e l1 (f ∷ l) → ((f ≡ e) × (l ≡ l1)) ⊎ Ends e l1 l
      at_front ends = inl (refl, refl)
      at_front (ends_on b) = inr b

  take_joined : (x : Id) (p : Packet) (w : Turns) (l : Law (and_then x (Joined p) w)) → RowsClean G w p.header.sender → (t : Given) (v : Turns) → Moment w p.header.sender (Made p t) v → (q : List Sending) → Unread p.header.sender x (H w x) (log_of w p.header.sender) q
      → Taken p.header.sender x (p.header ∷ p.rows) (log_of w p.header.sender) q p t (log_of v p.header.sender)
  take_joined x p w l rc t v k q u =
      let nothing : (a : Message) → In a (H w x) → ⊥ = λ a i. In-nothing (subst (λ z. In a (hist z)) l.0.0.fresh i) in
      let mk : Makes G p.header.sender (log_of v p.header.sender) p t = (lawful_at G l.2 k).0 in
      let lv : Law v = (lawful_at G l.2 k).1 in
      take p.header.sender x (H w x) (p.header ∷ p.rows) p t k refl l.2 q u (λ s. nothing s.by s.there_is) (record { by = p.header; there_is = here; has_id = refl })
      (λ i s. absurd (nothing s.by s.there_is))
      (λ q1 u1. Unread-empty u1 (λ p' t' a.
      let si : Since v p.header.sender (Made p' t') = among_since v p.header.sender a in
      no_part_in_rows x p w l p' t' (moment_on k si.moment) (subst (λ z. In p'.header z) (sym (mk.rows x l.0.0.adds)) (header-stands G lv si.moment))))
      (λ p' t' v' m i s.
      let mk' : Makes G p.header.sender (log_of v' p.header.sender) p' t' = (lawful_at G l.2 m).0 in
      let same : s.by ≡ p'.header = l.1.same x p.header.sender s.by p'.header (subst (λ z. In s.by (hist z)) (sym (log-own x (Joined p) w)) s.there_is) (hist-more G _ w l p.header.sender (header-stands G l.2 m)) s.has_id in
      elim (In-cases s.there_is) [
        | inl e ↦ mk'.history.1 (record { by = p.header; there_is = i; has_id = ap (λ (z : Message). z.id) (sym e ∙ same) })
        | inr j ↦
            let old : In p'.header (H v p.header.sender) = subst (λ z. In z (H v p.header.sender)) same (subst (λ z. In s.by z) (mk.rows x l.0.0.adds) j) in
            let made : MadeIn G v p'.header = made_here v lv p.header.sender (RowsClean-back k rc) old (subst (λ z. In z G.members) (sym (sender_is G m l.2)) (inside_at G l.2 k)) in
            let m2 : Moment v p.header.sender (Made made.packet made.given) made.before = subst (λ z. Moment v z (Made made.packet made.given) made.before) (sender_is G m l.2) made.moment in
            let one : SameMoment G made.packet p' made.given t' made.before v' = one_moment G (moment_on k m2) m l.2 made.is in
            mk.history.1 (record { by = p.header; has_id = refl; there_is = hist-since G lv m2 p.header.sender (subst (λ z. In p.header (H z p.header.sender)) (sym one.worlds) i) })
      ])

  pair_joined : (x y : Id) (p : Packet) (w : Turns) → Law (and_then x (Joined p) w) → x ≢ y → In y G.members → RowsClean G w y → PairOf x y (log_of w x) (log_of w y) → PairOf x y (Joined p ∷ log_of w x) (log_of w y)
  pair_joined x y p w l ne iy rc k = elim (same_or_not p.header.sender y) [
    | inl s ↦ let wm : WasMade w p = l.0.1.made (subst (λ z. In z G.members) (sym s) iy) in pair_heard x y p wm.given (log_of w x) (Joined p ∷ log_of w x) (log_of w y) (log_of wm.before y) s (events-joined x y p (log_of w x)) k (u_joined k.to_y)
        (subst (λ z. Unread z x (H w x) (log_of w z) k.qy → Taken z x (p.header ∷ p.rows) (log_of w z) k.qy p wm.given (log_of wm.before z)) s
        (take_joined x p w l (subst (λ z. RowsClean G w z) (sym s) rc) wm.given wm.before wm.moment k.qy) k.to_x)
    | inr n ↦ record {
      qx = k.qx;
      qy = k.qy;
      to_y = u_joined k.to_y;
      joint = subst (λ z. Joint G.primitives (card_of G x) (card_of G y) z (events G y x (log_of w y)) k.qx k.qy) (sym (events-joined x y p (log_of w x) ∙ heard-other x y p (events G x y (log_of w x)) n)) k.joint;
      to_x = Unread-rows k.to_x (λ q r a s. In-nothing (subst (λ z. In s.by (hist z)) l.0.0.fresh s.there_is)) (λ q r l2 a s q2 r2 b. none n q r l2 a s q2 r2 b);
    }
  ]
    where
      at_front : (q : Packet) (r : Given) (q2 : Packet) (r2 : Given) (l2 : Log) → Among (Made q2 r2) (Made q r ∷ l2) → (q2 ≡ q) ⊎ Among (Made q2 r2) l2
      at_front q r q2 r2 l2 b = split b refl
        where
          split : {e : LogEntry} {l3 : Log} → Among e (Made q r ∷ l3) → e ≡ Made q2 r2 → (q2 ≡ q) ⊎ Among (Made q2 r2) l3
          split first d = inl (let f : Made q r ≡ Made q2 r2 = d in cc)
          split {l3 = l3} (further c') d = inr (subst (λ z. Among z l3) d c')

      in_rows : p.header.sender ≢ y → (q : Packet) (r : Given) (v : Turns) → Moment w y (Made q r) v → Stands (p.header ∷ p.rows) q.header.id → In q.header p.rows
      in_rows n q r v m s =
          let same : s.by ≡ q.header = l.1.same x y s.by q.header (subst (λ z. In s.by (hist z)) (sym (log-own x (Joined p) w)) s.there_is) (hist-more G _ w l y (header-stands G l.2 m)) s.has_id in
          elim (In-cases s.there_is) [
            | inl e ↦ absurd (n (ap (λ (z : Message). z.sender) (sym e ∙ same) ∙ sender_is G m l.2))
            | inr j ↦ subst (λ z. In z p.rows) same j
          ]

      none : p.header.sender ≢ y → (q : Packet) (r : Given) (l2 : Log) → Ends (Made q r) l2 (log_of w y) → Stands (p.header ∷ p.rows) q.header.id → (q2 : Packet) (r2 : Given) → Among (Made q2 r2) (Made q r ∷ l2) → part_for q2.parts x ≡ None
      none n q r l2 a s q2 r2 b =
          let si : SinceLog w y (Made q r) l2 = ends_since w y a in
          let i : In q.header p.rows = in_rows n q r si.world si.moment s in
          let lv : Law si.world = (lawful_at G l.2 si.moment).1 in
          let mk : Makes G y (log_of si.world y) q r = (lawful_at G l.2 si.moment).0 in
          elim (at_front q r q2 r2 l2 b) [
            | inl e ↦ subst (λ (z : Packet). part_for z.parts x ≡ None) (sym e) (no_part_in_rows x p w l q r si.moment i)
            | inr j ↦
                let s2 : Since si.world y (Made q2 r2) = among_since si.world y (subst (λ z. Among (Made q2 r2) z) (sym si.log) j) in
                let old : In q2.header (H si.world y) = header-stands G lv s2.moment in
                let up : In q2.header p.rows = past-within p.rows q.header.predecessors (past-apart (H si.world y) p.rows (good G si.world lv y).history l.0.0.history.2
                (record { same = λ g h i' j' e'. l.1.same y x g h (hist-more G _ w l y (hist-since G l.2 si.moment y i')) (subst (λ z. In h (hist z)) (sym (log-own x (Joined p) w)) (there j')) e' })
                q.header.predecessors (deps-stand p.rows l.0.0.history.2 i) (makes_all G mk q2.header old)) in
                no_part_in_rows x p w l q2 r2 (moment_on si.moment s2.moment) up
          ]

  pair_turn : (x y : Id) (e : LogEntry) (w : Turns) → Law (and_then x e w) → x ≢ y → In y G.members → RowsClean G w y → PairOf x y (log_of w x) (log_of w y) → PairOf x y (e ∷ log_of w x) (log_of w y)
  pair_turn x y (Joined p) w l ne iy rc k = pair_joined x y p w l ne iy rc k
  pair_turn x y (Took p) w l ne iy rc k = pair_took x y p w l ne iy k
  pair_turn x y (Made p t) w l ne iy rc k = pair_made x y p t w l ne rc k

  -- each two members of a world
  pair_of : (w : Turns) → Law w → (x y : Id) → x ≢ y → In x G.members → In y G.members → RowsClean G w x → RowsClean G w y → PairOf x y (log_of w x) (log_of w y)
  pair_of [] l x y ne ix iy rx ry = subst (λ z. PairOf x y z (log_of [] y)) (sym (log-none x)) (subst (λ z. PairOf x y [] z) (sym (log-none y))
      (record {
        qx = [];
        qy = [];
        to_y = u_none;
        to_x = u_none;
        joint = subst (λ z. Joint G.primitives (card_of G x) (card_of G y) z (events G y x []) [] []) (sym (events-none x y)) (subst (λ z. Joint G.primitives (card_of G x) (card_of G y) [] z [] []) (sym (events-none y x)) (start (G.tested x ix) (G.tested y iy)));
      }))
  pair_of (u ∷ w) l x y ne ix iy rx ry =
      let rx' : RowsClean G w x = RowsClean-back (moment_now u w) rx in
      let ry' : RowsClean G w y = RowsClean-back (moment_now u w) ry in
      let old : PairOf x y (log_of w x) (log_of w y) = pair_of w l.2 x y ne ix iy rx' ry' in
      elim (log_case u w x) [
        | own n f ↦ elim (log_case u w y) [
          | own n' f' ↦ absurd (ne (sym n ∙ n'))
          | apart n' f' ↦ subst (λ z. PairOf x y z (log_of (u ∷ w) y)) (sym f) (subst (λ z. PairOf x y (u.entry ∷ log_of w x) z) (sym f')
              (subst (λ z. PairOf z y (log_of w z) (log_of w y) → PairOf z y (u.entry ∷ log_of w z) (log_of w y)) n (pair_turn u.who y u.entry w l n' iy ry') old))
        ]
        | apart n f ↦ elim (log_case u w y) [
          | own n' f' ↦ subst (λ z. PairOf x y z (log_of (u ∷ w) y)) (sym f) (subst (λ z. PairOf x y (log_of w x) z) (sym f')
              (PairOf-flip (subst (λ z. PairOf z x (log_of w z) (log_of w x) → PairOf z x (u.entry ∷ log_of w z) (log_of w x)) n' (pair_turn u.who x u.entry w l n ix rx') (PairOf-flip old))))
          | apart n' f' ↦ subst (λ z. PairOf x y z (log_of (u ∷ w) y)) (sym f) (subst (λ z. PairOf x y (log_of w x) z) (sym f') old)
        ]
      ]

  -- who has made a message joined before it
  joined_of : {w v u : Turns} {s s' : Id} {p : Packet} {q : Packet} {r : Given} {e f : LogEntry} → Moment w s e v → Moment w s' f u → Law w → s ≡ s' → e ≡ Joined p → f ≡ Made q r → Moment u s e v
  joined_of now now l n d g = absurd (let h : Joined _ ≡ Made _ _ = sym d ∙ g in cc)
  joined_of {s' = s'} {f = f} (now {x = x} {w = w}) (once m) l n d g =
      absurd (no_log w x l.0 d (subst (λ z. In (header_of f) (H w z)) (sym n) (header-stands G l.2 m)))
    where
      no_log : (w : Turns) (x : Id) {k : LogEntry} {p : Packet} {a : Message} → MayLeave G w x k → k ≡ Joined p → In a (H w x) → ⊥
      no_log w x {k} {p} {a} fits d i = let j = subst (λ z. MayLeave G w x z) d fits in In-nothing (subst (λ z. In a (hist z)) j.0.fresh i)
  joined_of (once m) now l n d g = m
  joined_of (once m) (once k) l n d g = joined_of m k l.2 n d g

  rows_of_maker : {w u : Turns} {s : Id} {q : Packet} {r : Given} → Law w → Moment w s (Made q r) u → Cl G u s → RowsClean G w s
  rows_of_maker {w} {u} {s} l k cu = record {
    rows = λ p1 v1 m1 a i.
        let lu : Law u = (lawful_at G l k).1 in
        let m2 : Moment u s (Joined p1) v1 = joined_of m1 k l refl refl refl in
        let m : MadeIn G (and_then s (Joined p1) v1) a = (clean_on G lu m2 s (λ b j. cu.all b (hist_under G lu m2 s j))).all a
        (subst (λ z. In a (hist z)) (sym (log-own s (Joined p1) v1)) (there i)) in
        record { packet = m.packet; given = m.given; before = m.before; is = m.is; moment = WhenMade joins_only m.moment };
  }

  -- each part opens to its payload
  pays_taken : (x : Id) (p : Packet) (w : Turns) (h : History) → (t : Given) (u : Turns) → (k : PairOf x p.header.sender (log_of w x) (log_of w p.header.sender)) → Taken p.header.sender x h (log_of w p.header.sender) k.qy p t (log_of u p.header.sender)
      → (mk : Makes G p.header.sender (log_of u p.header.sender) p t) → (b : Bytes)
      → IsDue G p.header.sender (log_of u p.header.sender) p.header t p.header.kind x b → payload G x (log_of w x) p ≡ Some b
  pays_taken x p w h t u k (no_part_taken d un) mk b due = (let o = each_due G mk x b due in let e : None ≡ Some o.part = sym d ∙ o.there_is in cc)
  pays_taken x p w h t u k (part_taken q' z a f un) mk b due =
      let j : Joint G.primitives (card_of G x) (card_of G p.header.sender) (events G x p.header.sender (log_of w x)) (events G p.header.sender x (log_of w p.header.sender)) k.qx (z ∷ q') =
      subst (λ r. Joint G.primitives (card_of G x) (card_of G p.header.sender) (events G x p.header.sender (log_of w x)) (events G p.header.sender x (log_of w p.header.sender)) k.qx r) f k.joint in
      ap (payload_in G.primitives (card_of G x) (events G x p.header.sender (log_of w x))) a.there_is
      ∙ ap (option_map (λ (o : Content). o.payload)) (opens_for_a G.primitives z j)
      ∙ ap (λ (r : Content). Some r.payload) a.sent.content
      ∙ ap (λ r. Some r) (due_one p.header.sender (log_of u p.header.sender) p.header t p.header.kind x a.value b a.due due)

  pub pays : (x : Id) (e : LogEntry) (w : Turns) → Law (and_then x e w) → Pays G w x (packet_of e)
  pays x (Took p) w l = record {
    pays = λ t u m rc cu b due.
        let mk : Makes G p.header.sender (log_of u p.header.sender) p t = (lawful_at G l.2 m).0 in
        let k : PairOf x p.header.sender (log_of w x) (log_of w p.header.sender) = pair_of w l.2 x p.header.sender (λ z. l.0.0.other (sym z)) l.3 (inside_at G l.2 m) rc (rows_of_maker l.2 m cu) in
        pays_taken x p w _ t u k (take_took x p w l t u m k.qy k.to_x) mk b due;
  }
  pays x (Joined p) w l = record {
    pays = λ t u m rc cu b due.
        let mk : Makes G p.header.sender (log_of u p.header.sender) p t = (lawful_at G l.2 m).0 in
        let rs : RowsClean G w p.header.sender = rows_of_maker l.2 m cu in
        let k : PairOf x p.header.sender (log_of w x) (log_of w p.header.sender) = pair_of w l.2 x p.header.sender (λ z. l.0.0.other (sym z)) l.3 (inside_at G l.2 m) rc rs in
        pays_taken x p w _ t u k (take_joined x p w l rs t u m k.qy k.to_x) mk b due;
  }
  pays x (Made p t) w l = record {
    pays = λ r u m rc cu b due. absurd (l.0.history.1 (record {
      by = p.header;
      has_id = refl;
      there_is = subst (λ z. In p.header (H w z)) l.0.sender (header-stands G l.2 m);
    }));
  }
