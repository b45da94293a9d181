use Rattle.std.proofs.Common.{◌≡◌, ◌≢◌, ◌⊎◌, inl, inr, List, [], ◌∷◌, Some, refl, sym, ◌∙◌, subst, ap}
use Rattle.std.specs.Str.{bytes_eq}
use Rattle.std.proofs.lemmas.Slice.Eq.{bytes_eq-Decides}
use Rattle.group_model.specs.Sets.{Id, In, here, there}
use Rattle.group_model.specs.Messages.{Kind, Create, Update, Remove, Add, Ack, AddAck, Text, Message, History, past, IsHistory}
use Rattle.group_model.specs.Membership.{Names, Named, NamedOnce}
use Rattle.group_model.specs.Validity.{MeetsKind, AllValid}
use Rattle.group_model.specs.Settings.{owner_in, Setting}
use Rattle.group_model.specs.Packets.{Packet, Given}
use Rattle.group_model.specs.Logs.{LogEntry, Joined, Took, Made, header_of, Log, hist}
use Rattle.group_model.specs.Worlds.{Turn, Turns, log_of, Moment, now, once}
use Rattle.group_model.specs.LawfulWorlds.{WasMade, MayLeave, IsLawful}
use Rattle.group_model.proofs.InSetting.{Makes}
use Rattle.group_model.proofs.ListFacts.{yes_is, no_is, test, In-nothing, In-cases, some_same}
use Rattle.group_model.proofs.Pasts.{heads-lead_back}
use Rattle.group_model.proofs.Valids.{valid-from, each-valid, one_create, rooted}
use Rattle.group_model.proofs.Views.{Rooted, EachValid}
use Rattle.group_model.specs.LawfulLogs.{MayEnter, IsLawfulLog}
use Rattle.group_model.proofs.LogLaws.{log_kept}

-- a log over one more turn
pub data LogCase (u : Turn) (w : Turns) (x : Id) : Type 0 where
  own : u.who ≡ x → log_of (u ∷ w) x ≡ u.entry ∷ log_of w x → LogCase u w x
  apart : u.who ≢ x → log_of (u ∷ w) x ≡ log_of w x → LogCase u w x

pub log_case : (u : Turn) (w : Turns) (x : Id) → LogCase u w x
unfolding log_of
log_case u w x = elim (test (bytes_eq u.who x)) [
  | yes_is e ↦ own ((bytes_eq-Decides u.who x).0 e) (rw e refl)
  | no_is e ↦ apart (λ q. let d = (bytes_eq-Decides u.who x).1 q in cc) (rw e refl)
]

pub log-own : (x : Id) (e : LogEntry) (w : Turns) → log_of (record { who = x; entry = e } ∷ w) x ≡ e ∷ log_of w x
log-own x e w = elim (log_case (record { who = x; entry = e }) w x) [ own p q ↦ q | apart p q ↦ absurd (p refl) ]

pub log-none : (x : Id) → log_of [] x ≡ []
unfolding log_of
log-none x = refl

pub when_of : {u : Turn} {w v : Turns} {x : Id} {e : LogEntry} → Moment (u ∷ w) x e v → ((u.who ≡ x) × (u.entry ≡ e) × (v ≡ w)) ⊎ Moment w x e v
when_of now = inl (refl, refl, refl)
when_of (once m) = inr m

pub moment_now : (u : Turn) (w : Turns) → Moment (u ∷ w) u.who u.entry w
moment_now u w = now

module _ (G : Setting) where
  -- a log keeps its history
  pub record Good (h : History) : Type 0 where
    pub history : IsHistory h
    pub valid : AllValid G.rule G.inviter h

  -- each member's log is lawful
  pub lawful_log : (w : Turns) → IsLawful G w → (x : Id) → IsLawfulLog (owner_in G x) (log_of w x)
  lawful_log [] l x = rw (log-none x) tt
  lawful_log (u ∷ w) l x = elim (log_case u w x) [
    | apart p q ↦ rw q (lawful_log w l.2 x)
    | own p q ↦ rw q (may_enter u.entry (subst (λ z. MayLeave G w z u.entry) p l.0), lawful_log w l.2 x)
  ]
    where
      may_enter : (e : LogEntry) → MayLeave G w x e → MayEnter (owner_in G x) (log_of w x) e
      may_enter (Joined p) f = f.0
      may_enter (Took p) f = f.0
      may_enter (Made p t) f = f

  pub good : (w : Turns) → IsLawful G w → (x : Id) → Good (hist (log_of w x))
  good w l x = let k = log_kept (owner_in G x) (log_of w x) (lawful_log w l x) in
      record { history = k.history; valid = k.valid }

  -- what stands in a member's history stays there
  pub hist-more : (u : Turn) (w : Turns) → IsLawful G (u ∷ w) → (x : Id) {a : Message} → In a (hist (log_of w x)) → In a (hist (log_of (u ∷ w) x))
  hist-more u w l x {a} i = elim (log_case u w x) [
    | apart p q ↦ rw q i
    | own p q ↦ rw q (own_more u.entry (subst (λ z. MayLeave G w z u.entry) p l.0) i)
  ]
    where
      own_more : (e : LogEntry) → MayLeave G w x e → In a (hist (log_of w x)) → In a (hist (e ∷ log_of w x))
      own_more (Joined p) f i = absurd (In-nothing (subst (λ z. In a (hist z)) f.0.fresh i))
      own_more (Took p) f i = there i
      own_more (Made p t) f i = there i

  pub lawful_at : {w v : Turns} {x : Id} {e : LogEntry} → IsLawful G w → Moment w x e v → MayLeave G v x e × IsLawful G v
  lawful_at l now = (l.0, l.2)
  lawful_at l (once m) = lawful_at l.2 m

  -- who leaves an entry is a member
  pub inside_at : {w v : Turns} {x : Id} {e : LogEntry} → IsLawful G w → Moment w x e v → In x G.members
  inside_at l now = l.3
  inside_at l (once m) = inside_at l.2 m

  pub hist-since : {w v : Turns} {x : Id} {e : LogEntry} → IsLawful G w → Moment w x e v → (y : Id) {a : Message} → In a (hist (log_of v y)) → In a (hist (log_of w y))
  hist-since {w} l now y i = hist-more _ _ l y i
  hist-since l (once m) y i = hist-more _ _ l y (hist-since l.2 m y i)

  pub header-stands : {w v : Turns} {x : Id} {e : LogEntry} → IsLawful G w → Moment w x e v → In (header_of e) (hist (log_of w x))
  header-stands {x = x} {e = e} l (now {w = w}) = rw (log-own x e w) here
  header-stands l (once m) = hist-more _ _ l _ (header-stands l.2 m)

  -- every message of a history was made by its sender
  pub record MadeIn (w : Turns) (a : Message) : Type 0 where
    pub packet : Packet
    pub given : Given
    pub before : Turns
    pub moment : Moment w a.sender (Made packet given) before
    pub is : packet.header ≡ a

  pub MadeIn-once : {w : Turns} {u : Turn} {a : Message} → MadeIn w a → MadeIn (u ∷ w) a
  MadeIn-once m = record { packet = m.packet; given = m.given; before = m.before; moment = once m.moment; is = m.is }

  pub MadeIn-since : {w v : Turns} {x : Id} {e : LogEntry} → Moment w x e v → {a : Message} → MadeIn v a → MadeIn w a
  MadeIn-since now m = MadeIn-once m
  MadeIn-since (once k) m = MadeIn-once (MadeIn-since k m)

  -- who made a message is a member of the world
  pub inside : {w : Turns} → IsLawful G w → {a : Message} → MadeIn w a → In a.sender G.members
  inside l m = inside_at l m.moment

  -- each message of the history was made
  pub record Clean (w : Turns) (x : Id) : Type 0 where
    pub all : (a : Message) → In a (hist (log_of w x)) → MadeIn w a

  -- a member's messages that are made at all, by Q, were made before they stood in a history
  pub record Early (Q : Message → Type 0) (w : Turns) : Type 0 where
    pub at_once : (x : Id) → ((a : Message) → In a (hist (log_of w x)) → Q a) → Clean w x
    pub back : (z : Id) (e : LogEntry) (v : Turns) → Moment w z e v → (x : Id) → ((a : Message) → In a (hist (log_of v x)) → Q a) → Clean v x
    pub back_on : (z : Id) (e : LogEntry) (v : Turns) → Moment w z e v → (x : Id) → ((a : Message) → In a (hist (log_of (record { who = z; entry = e } ∷ v) x)) → Q a) → Clean (record { who = z; entry = e } ∷ v) x

  pub early : (Q : Message → Type 0) → ((a : Message) → Q a → In a.sender G.members) → (w : Turns) → IsLawful G w → Early Q w
  early Q member [] l = record { at_once = λ x q. record { all = λ a i. absurd (In-nothing (rw (log-none x) at i)) }; back = λ z e v m. elim m [ ]; back_on = λ z e v m. elim m [ ] }
  early Q member (u ∷ w) l =
      let ih : Early Q w = early Q member w l.2 in
      let here_now : (x : Id) → ((a : Message) → In a (hist (log_of (u ∷ w) x)) → Q a) → Clean (u ∷ w) x = λ x q. record { all = λ a i. step ih x q a i } in
      record {
        at_once = here_now;
        back = λ z e v m. elim (when_of m) [ inl d ↦ subst (λ y. (x : Id) → ((a : Message) → In a (hist (log_of y x)) → Q a) → Clean y x) (sym d.2) ih.at_once | inr k ↦ ih.back z e v k ];
        back_on = λ z e v m. elim (when_of m) [
          | inl d ↦ subst (λ y. (x : Id) → ((a : Message) → In a (hist (log_of (record { who = z; entry = e } ∷ y) x)) → Q a) → Clean (record { who = z; entry = e } ∷ y) x) (sym d.2)
              (subst (λ y. (x : Id) → ((a : Message) → In a (hist (log_of (record { who = y; entry = e } ∷ w) x)) → Q a) → Clean (record { who = y; entry = e } ∷ w) x) d.0
              (subst (λ y. (x : Id) → ((a : Message) → In a (hist (log_of (record { who = u.who; entry = y } ∷ w) x)) → Q a) → Clean (record { who = u.who; entry = y } ∷ w) x) d.1 here_now))
          | inr k ↦ ih.back_on z e v k
        ];
      }
    where
      from_packet : {a : Message} (p : Packet) → WasMade w p → a ≡ p.header → MadeIn (u ∷ w) a
      from_packet {a} p m e = record { packet = p; given = m.given; before = m.before; moment = once (subst (λ z. Moment w z (Made p m.given) m.before) (ap (λ z. z.sender) (sym e)) m.moment); is = sym e }

      own_made : Early Q w → (x : Id) → {a : Message} → (e : LogEntry) → u.who ≡ x → u.entry ≡ e → MayLeave G w x e → ((b : Message) → In b (hist (e ∷ log_of w x)) → Q b) → In a (hist (e ∷ log_of w x)) → MadeIn (u ∷ w) a
      own_made ih x {a} (Made p t) o g f q i = elim (In-cases i) [
        | inl e ↦ record {
          packet = p;
          given = t;
          before = w;
          is = sym e;
          moment = subst (λ z. Moment (u ∷ w) z (Made p t) w) (o ∙ sym f.sender ∙ ap (λ z. z.sender) (sym e)) (subst (λ z. Moment (u ∷ w) u.who z w) g (moment_now u w));
        }
        | inr j ↦ MadeIn-once ((ih.at_once x (λ b k. q b (there k))).all a j)
      ]
      own_made ih x {a} (Took p) o g f q i = elim (In-cases i) [
        | inl e ↦ from_packet p (f.1.made (member p.header (q p.header here))) e
        | inr j ↦ MadeIn-once ((ih.at_once x (λ b k. q b (there k))).all a j)
      ]
      own_made ih x {a} (Joined p) o g f q i = elim (In-cases i) [
        | inl e ↦ from_packet p (f.1.made (member p.header (q p.header here))) e
        | inr j ↦
            let m : WasMade w p = f.1.made (member p.header (q p.header here)) in
            let mk : Makes G p.header.sender (log_of m.before p.header.sender) p m.given = (lawful_at l.2 m.moment).0 in
            MadeIn-once (MadeIn-since m.moment ((ih.back p.header.sender (Made p m.given) m.before m.moment p.header.sender (λ b k. q b (there (subst (λ z. In b z) (sym (mk.rows x f.0.adds)) k)))).all a (subst (λ z. In a z) (mk.rows x f.0.adds) j)))
      ]

      step : Early Q w → (x : Id) → ((b : Message) → In b (hist (log_of (u ∷ w) x)) → Q b) → (a : Message) → In a (hist (log_of (u ∷ w) x)) → MadeIn (u ∷ w) a
      step ih x q a i = elim (log_case u w x) [
        | apart n g ↦ MadeIn-once ((ih.at_once x (λ b k. q b (subst (λ z. In b (hist z)) (sym g) k))).all a (subst (λ z. In a (hist z)) g i))
        | own n g ↦ own_made ih x u.entry n refl (subst (λ z. MayLeave G w z u.entry) n l.0) (λ b k. q b (subst (λ z. In b (hist z)) (sym g) k)) (subst (λ z. In a (hist z)) g i)
      ]

  -- a clean history was clean before
  pub clean_back : {w v : Turns} {z : Id} {e : LogEntry} → IsLawful G w → Moment w z e v → (x : Id) → ((a : Message) → In a (hist (log_of v x)) → MadeIn w a) → Clean v x
  clean_back {w} {v} {z} {e} l m x q = (early (λ a. MadeIn w a) (λ a k. inside l k) w l).back z e v m x q

  pub clean_on : {w v : Turns} {z : Id} {e : LogEntry} → IsLawful G w → Moment w z e v → (x : Id) → ((a : Message) → In a (hist (log_of (record { who = z; entry = e } ∷ v) x)) → MadeIn w a) → Clean (record { who = z; entry = e } ∷ v) x
  clean_on {w} {v} {z} {e} l m x q = (early (λ a. MadeIn w a) (λ a k. inside l k) w l).back_on z e v m x q

  -- two messages of one maker: one, or one before the other
  pub data Chain (s : Id) (p q : Packet) (v u : Turns) : Type 0 where
    one : p.header ≡ q.header → Chain s p q v u
    before : In p.header (hist (log_of u s)) → Chain s p q v u
    later : In q.header (hist (log_of v s)) → Chain s p q v u

  moved : (v : Turns) {y z : Id} {a b : Message} → y ≡ z → a ≡ b → In a (hist (log_of v y)) → In b (hist (log_of v z))
  moved v {y} {b = b} e d i = subst (λ x. In b (hist (log_of v x))) e (subst (λ x. In x (hist (log_of v y))) d i)

  chain_of : {w v u : Turns} {s s' : Id} {p q : Packet} {t r : Given} {e f : LogEntry} → Moment w s e v → Moment w s' f u → IsLawful G w → s ≡ s' → e ≡ Made p t → f ≡ Made q r → Chain s p q v u
  chain_of {p = p} {q = q} {t = t} {r = r} now now l n d e = one (let g : Made p t ≡ Made q r = sym d ∙ e in ap header_of g)
  chain_of (now {w = w}) (once m) l n d e = later (moved w (sym n) (ap header_of e) (header-stands l.2 m))
  chain_of (once m) (now {w = w}) l n d e = before (moved w refl (ap header_of d) (header-stands l.2 m))
  chain_of (once m) (once k) l n d e = chain_of m k l.2 n d e

  pub chain : {w v u : Turns} {s : Id} {p q : Packet} {t r : Given} → Moment w s (Made p t) v → Moment w s (Made q r) u → IsLawful G w → Chain s p q v u
  chain m k l = chain_of m k l refl refl refl

  -- what a member makes has its whole history in its past
  pub makes_all : {x : Id} {l : Log} {p : Packet} {t : Given} → Makes G x l p t → (a : Message) → In a (hist l)
      → In a (past (hist l) p.header.predecessors)
  makes_all {l = l} {p = p} m a i = heads-lead_back (hist l) m.history.2 p.header.predecessors m.heads i

  -- an add of a valid history names who was named before nowhere in its past, and is its inviter's
  pub add_suits : {h : History} → Good h → {a : Message} {y : Id} → In a h → a.kind ≡ Add y → (Named (past h a.predecessors) y → ⊥) × (G.inviter y ≡ Some a.sender)
  add_suits {h} g {a} {y} i e = elim (each-valid G.rule G.inviter h g.history g.valid i) [
    | inl o ↦ absurd (let f : Add y ≡ Create o.members = sym e ∙ o.creates in cc)
    | inr v ↦ let s = subst (λ k. MeetsKind G.rule G.inviter (past h a.predecessors) a.sender k) e v.suits in (s.0, s.1)
  ]

  pub no_double : {x : Id} {l : Log} {p : Packet} {t : Given} → Makes G x l p t → {a : Message} {y : Id} → In a (hist l) → Names a.kind y → p.header.kind ≡ Add y → ⊥
  no_double {l = l} {p = p} m {a} {y} i n e = elim (valid-from G.rule G.inviter (hist l) p.header m.valid) [
    | inl o ↦ (let f : Add y ≡ Create o.members = sym e ∙ o.creates in cc)
    | inr v ↦ (subst (λ k. MeetsKind G.rule G.inviter (past (hist l) p.header.predecessors) p.header.sender k) e v.suits).0 (record { by = a; there_is = makes_all m a i; names = n })
  ]

  pub two_adds : (w : Turns) → IsLawful G w → (x : Id) → Clean w x → Good (hist (log_of w x)) → {a b : Message} {y : Id}
      → In a (hist (log_of w x)) → In b (hist (log_of w x)) → a.kind ≡ Add y → b.kind ≡ Add y → a ≡ b
  two_adds w l x cl g {a} {b} {y} i j d e =
      let m : MadeIn w a = cl.all a i in
      let n : MadeIn w b = cl.all b j in
      let s : b.sender ≡ a.sender = some_same (sym (add_suits g j e).1 ∙ (add_suits g i d).1) in
      let k : Moment w a.sender (Made n.packet n.given) n.before = subst (λ z. Moment w z (Made n.packet n.given) n.before) s n.moment in
      elim (chain m.moment k l) [
        | one r ↦ sym m.is ∙ r ∙ n.is
        | before r ↦ absurd (no_double {t = n.given} (lawful_at l k).0 r (subst (λ z. Names z y) (sym (ap (λ (z : Message). z.kind) m.is ∙ d)) refl) (ap (λ (z : Message). z.kind) n.is ∙ e))
        | later r ↦ absurd (no_double {t = m.given} (lawful_at l m.moment).0 r (subst (λ z. Names z y) (sym (ap (λ (z : Message). z.kind) n.is ∙ e)) refl) (ap (λ (z : Message). z.kind) m.is ∙ d))
      ]

  -- a create and an add name nobody together
  pub create_then_add : {h : History} → Good h → {a b : Message} {y : Id} {k : List Id} → In a h → In b h → a.kind ≡ Create k → Names a.kind y → b.kind ≡ Add y → ⊥
  create_then_add {h} g {a} {b} {y} {k} i j d n e = elim (In-cases (rooted G.rule G.inviter h g.history g.valid k i d j)) [
    | inl r ↦ (let f : Create k ≡ Add y = sym d ∙ ap (λ (z : Message). z.kind) r ∙ e in cc)
    | inr r ↦ (add_suits g j e).0 (record { by = a; there_is = r; names = n })
  ]

  pub data Naming (k : Kind) (y : Id) : Type 0 where
    creates : (members : List Id) → k ≡ Create members → Naming k y
    adds : k ≡ Add y → Naming k y

  pub naming : (k : Kind) (y : Id) → Names k y → Naming k y
  naming (Create members) y n = creates members refl
  naming Update y n = absurd n
  naming (Remove z) y n = absurd n
  naming (Add z) y n = adds (ap Add n)
  naming (Ack i took) y n = absurd n
  naming (AddAck i) y n = absurd n
  naming Text y n = absurd n

  pub named_once : (w : Turns) → IsLawful G w → (x : Id) → Clean w x → NamedOnce (hist (log_of w x))
  named_once w l x cl = let g : Good (hist (log_of w x)) = good w l x in record {
    once = λ a b y i j m n.
        elim (naming a.kind y m) [
          | creates p d ↦ elim (naming b.kind y n) [
            | creates q e ↦ one_create G.rule G.inviter (hist (log_of w x)) g.valid i j d e
            | adds e ↦ absurd (create_then_add g i j d m e)
          ]
          | adds d ↦ elim (naming b.kind y n) [
            | creates q e ↦ absurd (create_then_add g j i e n d)
            | adds e ↦ two_adds w l x cl g i j d e
          ]
        ];
  }

  pub rooted_at : (w : Turns) → IsLawful G w → (x : Id) → Rooted (hist (log_of w x))
  rooted_at w l x = let g : Good (hist (log_of w x)) = good w l x in record { root = λ a m k i e j. rooted G.rule G.inviter (hist (log_of w x)) g.history g.valid k i e j }

  pub each_at : (w : Turns) → IsLawful G w → (x : Id) → EachValid G.rule G.inviter (hist (log_of w x))
  each_at w l x = let g : Good (hist (log_of w x)) = good w l x in record { history = g.history; valid = λ m i. each-valid G.rule G.inviter (hist (log_of w x)) g.history g.valid i }
