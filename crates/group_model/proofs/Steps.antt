-- One more turn keeps what members know right.
use Rattle.std.proofs.Common.{◌≡◌, ◌≢◌, cond, ◌⊎◌, inl, inr, List, [], ◌∷◌, Option, Some, None, refl, sym, ◌∙◌, subst, ap, true, false}
use Rattle.std.specs.Str.{bytes_eq}
use Rattle.group_model.specs.Sets.{Id, In, here, there, Bytes}
use Rattle.group_model.specs.Messages.{with_past, Kind, Create, Update, Remove, Add, Ack, AddAck, Text, Message, History, past, Stands, IsHistory}
use Rattle.group_model.specs.Membership.{IsMembershipRule, Named, Names, Removes, InView}
use Rattle.group_model.specs.Validity.{MeetsKind}
use Rattle.group_model.specs.KeyTerms.{bytes}
use Rattle.group_model.specs.Packets.{Packet, part_for, Given}
use Rattle.group_model.specs.Logs.{LogEntry, Joined, Took, Made, packet_of, header_of, rows_of, hist}
use Rattle.group_model.specs.Settings.{Setting, card_of}
use Rattle.group_model.specs.Knowledge.{payload_in, or_else, handed_by}
use Rattle.group_model.specs.Worlds.{Turn, Turns, log_of, Moment, now, once}
use Rattle.group_model.specs.SharedSecrets.{ratchet}
use Rattle.group_model.specs.LawfulWorlds.{WasMade, MayLeave, IsLawful}
use Rattle.group_model.proofs.InSetting.{events, payload, known, ratchet_before, IsDue, Makes}
use Rattle.group_model.proofs.ListFacts.{yes_is, no_is, test, In-nothing, In-cases, In-head, same_id-true, some_same}
use Rattle.group_model.proofs.Pasts.{with_past-history, past-twice, past-of_none, past-within, past-apart, deps-stand, Agree}
use Rattle.group_model.proofs.Valids.{past-self}
use Rattle.group_model.proofs.Views.{EachValid, LastOf, Hands, by_add, by_answer, first_view}
use Rattle.group_model.proofs.Worlds.{makes_all, own, apart, log_case, log-own, log-none, moment_now, Good, good, hist-more, lawful_at, hist-since, header-stands, MadeIn, MadeIn-since, inside, Clean, clean_back, clean_on, one, before, later, chain, add_suits, no_double, create_then_add, creates, adds, naming, named_once, rooted_at, each_at, inside_at}
use Rattle.group_model.proofs.Latest.{moment_on, known-none, known-apart, ratchet-apart, ratchet-none, ratchet-kept, joins_only, takes_only, WhenMade, made_none, made_last, latest_made, distinct_at, past_forth, row_unseen, none_in, rows_in, last_in, latest_in}
use Rattle.group_model.proofs.Parts.{gives, gives_none, present, PartFor, only_due}
use Rattle.group_model.proofs.Agreement.{and_then, view_moved, AllRight, known_after, SameMoment, one_moment, as_entry, as_row, stood, sender_is}
use Rattle.group_model.proofs.Knowing.{known_rows-none}

pub moment_under : {w v u : Turns} {x y : Id} {f g : LogEntry} → Moment w x f v → Moment (and_then x f v) y g u → Moment w y g u
moment_under now k = k
moment_under (once m) k = once (moment_under m k)

-- a member sees its own message
pub sender_sees : (rule : History → List Id) → IsMembershipRule rule → (inviter : Id → Option Id) (h : History) → EachValid rule inviter h
    → {m : Message} → In m h → InView rule h m m.sender
sender_sees rule law inviter h each {m} i = elim (each.valid m i) [
  | inl o ↦ subst (λ z. In m.sender (rule (m ∷ z))) (sym (ap (past h) o.first ∙ past-of_none h))
      (law.opening m o.members m.sender o.creates o.among)
  | inr v ↦ law.sender_stays (past h m.predecessors) m (with_past-history h each.history i)
      (record { each = past-twice h each.history m.predecessors }) v.member (self m.kind v.suits)
]
  where
    self : (k : Kind) → MeetsKind rule inviter (past h m.predecessors) m.sender k → Removes k m.sender → ⊥
    self (Create members) s r = r
    self Update s r = r
    self (Remove y) s r = s.1 r
    self (Add y) s r = r
    self (Ack o took) s r = r
    self (AddAck o) s r = r
    self Text s r = r

module _ (G : Setting) where
  abbrev Law : Turns → Type 0
  Law = IsLawful G

  abbrev H : Turns → Id → History
  H w x = hist (log_of w x)

  pub hist_under : {w v : Turns} {x : Id} {f : LogEntry} → Law w → Moment w x f v → (y : Id) {a : Message} → In a (H (and_then x f v) y) → In a (H w y)
  hist_under l now y i = i
  hist_under l (once m) y i = hist-more G _ _ l y (hist_under l.2 m y i)

  pub lawful_under : {w v : Turns} {x : Id} {f : LogEntry} → Law w → Moment w x f v → Law (and_then x f v)
  lawful_under l now = l
  lawful_under l (once m) = lawful_under l.2 m

  -- the maker of what an entry has
  pub record MakerOf (x : Id) (f : LogEntry) (v : Turns) : Type 0 where
    pub given : Given
    pub world : Turns
    pub moment : Moment (and_then x f v) (header_of f).sender (Made (packet_of f) given) world

  pub maker_of : (x : Id) (f : LogEntry) (v : Turns) → MayLeave G v x f → In (header_of f).sender G.members → MakerOf x f v
  maker_of x (Joined p) v k i = let m = k.1.made i in record { given = m.given; world = m.before; moment = once m.moment }
  maker_of x (Took p) v k i = let m = k.1.made i in record { given = m.given; world = m.before; moment = once m.moment }
  maker_of x (Made p t) v k i = record { given = t; world = v; moment = subst (λ z. Moment (and_then x (Made p t) v) z (Made p t) v) (sym k.sender) now }

  abbrev pub Made? : Turns → Message → Type 0
  Made? w a = MadeIn G w a

  abbrev pub Cl : Turns → Id → Type 0
  Cl w x = Clean G w x

  abbrev pub CM : (s : Id) → Packet → Given → Turns → Type 0
  CM s p t u = Clean G (and_then s (Made p t) u) s

  -- a member's message that stands as an entry was made
  pub entry_made : {w b : Turns} {x : Id} {f : LogEntry} → Law w → Moment w x f b → In (header_of f).sender G.members → Made? w (header_of f)
  entry_made {x = x} {f = f} l m i = let mk : MakerOf x f _ = maker_of x f _ (lawful_at G l m).0 i in
      record { packet = packet_of f; given = mk.given; before = mk.world; moment = moment_under m mk.moment; is = refl }

  pub made_under : {w b : Turns} {x : Id} {f : LogEntry} {a : Message} → Moment w x f b → Made? (and_then x f b) a → Made? w a
  made_under m k = record { packet = k.packet; given = k.given; before = k.before; moment = moment_under m k.moment; is = k.is }

  -- the maker's history before a clean message is clean
  pub cm_before : {w u : Turns} {s : Id} {p : Packet} {t : Given} → Law w → Moment w s (Made p t) u → CM s p t u → Cl u s
  cm_before {u = u} {s = s} {p = p} {t = t} l m cl = clean_back G (lawful_under l m) now s (λ a i. cl.all a (hist-more G (record { who = s; entry = Made p t }) u (lawful_under l m) s i))

  -- a message of a clean history is clean
  pub cm_of : {u b : Turns} {s z : Id} {q : Packet} {r : Given} → Law u → Cl u s → Moment u z (Made q r) b → In q.header (H u s) → CM z q r b
  cm_of {u} {b} {s} {z} {q} {r} l cl m i = clean_on G l m z (λ a j. elim (In-cases (subst (λ y. In a (hist y)) (log-own z (Made q r) b) j)) [
    | inl e ↦ subst (λ y. Made? u y) (sym e) (cl.all q.header i)
    | inr k ↦ let mk : Makes G z (log_of b z) q r = (lawful_at G l m).0 in
        cl.all a (past-within (H u s) q.header.predecessors (past_forth G {e = Made q r} l m s i (makes_all G mk a k)))
  ])

  pub cm_same : {s s' : Id} {p q : Packet} {t r : Given} {v u : Turns} → SameMoment G p q t r v u → s ≡ s' → CM s' q r u → CM s p t v
  cm_same {s} {s'} {p} {q} {t} {r} {v} {u} is_one e cl = subst (λ z. CM z p t v) (sym e) (subst (λ z. CM s' z t v) (sym is_one.packets) (subst (λ z. CM s' q z v) (sym is_one.randoms) (subst (λ z. CM s' q r z) (sym is_one.worlds) cl)))

  -- the rows of a welcome were made before it
  pub record RowsClean (w : Turns) (x : Id) : Type 0 where
    pub rows : (p : Packet) (v : Turns) → Moment w x (Joined p) v → (a : Message) → In a p.rows → Made? v a

  pub AllRight-before : {u : Turn} {w : Turns} → AllRight G (u ∷ w) → AllRight G w
  AllRight-before a = record { right = λ x e v m. a.right x e v (once m) }

  pub AllRight-at : {w v : Turns} {x : Id} {e : LogEntry} → AllRight G w → Moment w x e v → AllRight G v
  AllRight-at a m = record { right = λ y f u k. a.right y f u (moment_on m k) }

  own_case : (x : Id) (e : LogEntry) (w : Turns) → Law (and_then x e w) → AllRight G (and_then x e w) → Cl (and_then x e w) x → known G x (log_of w x) x ≡ Some (bytes G.primitives (ratchet G.primitives w x))
      → known G x (log_of (and_then x e w) x) x ≡ Some (bytes G.primitives (ratchet G.primitives (and_then x e w) x))
  own_case x (Made p t) w l a cl ih =
      let s : p.header.sender ≡ x = l.0.sender in
      let m : Moment (and_then x (Made p t) w) p.header.sender (Made p t) w = subst (λ z. Moment (and_then x (Made p t) w) z (Made p t) w) (sym s) now in
      let i : In p.header (H (and_then x (Made p t) w) x) = header-stands G {e = Made p t} l now in
      subst (λ z. known G x (log_of (and_then x (Made p t) w) x) z ≡ Some (bytes G.primitives (ratchet G.primitives (and_then z (Made p t) w) z))) s
      (known_after G (a.right x (Made p t) w now) t w m (subst (λ z. CM z p t w) (sym s) cl)
      (subst (λ z. InView G.rule (H (and_then x (Made p t) w) x) p.header z) s (sender_sees G.rule G.is_rule G.inviter (H (and_then x (Made p t) w) x) (each_at G (and_then x (Made p t) w) l x) i)))
  own_case x (Took p) w l a cl ih =
      ap (λ z. known G x z x) (log-own x (Took p) w) ∙ known-apart G x (Took p) (log_of w x) x l.0.0.other ∙ ih ∙ ap (λ z. Some (bytes G.primitives z)) (sym (ratchet-kept G x (Took p) w x takes_only))
  own_case x (Joined p) w l a cl ih =
      ap (λ z. known G x z x) (log-own x (Joined p) w) ∙ known-apart G x (Joined p) (log_of w x) x l.0.0.other
      ∙ known_rows-none p.rows x (λ b i d.
      let n0 : Made? (and_then x (Joined p) w) b = cl.all b (subst (λ z. In b (hist z)) (sym (log-own x (Joined p) w)) (there i)) in
      let n : Made? w b = record { packet = n0.packet; given = n0.given; before = n0.before; is = n0.is; moment = WhenMade joins_only n0.moment } in
      let j : In n.packet.header (H w b.sender) = header-stands G l.2 n.moment in
      In-nothing (subst (λ z. In n.packet.header (hist z)) l.0.0.fresh (subst (λ z. In n.packet.header (H w z)) d j)))
      ∙ sym (known-none G x x) ∙ ap (λ z. known G x z x) (sym l.0.0.fresh) ∙ ih ∙ ap (λ z. Some (bytes G.primitives z)) (sym (ratchet-kept G x (Joined p) w x joins_only))

  pub cleaner : (u : Turn) (w : Turns) → Law (u ∷ w) → (s : Id) → Cl (u ∷ w) s → Cl w s
  cleaner u w l s cl = clean_back G l (moment_now u w) s (λ a i. cl.all a (hist-more G u w l s i))

  -- a member knows its own ratchet
  pub own_known : (w : Turns) → Law w → AllRight G w → (s : Id) → Cl w s → known G s (log_of w s) s ≡ Some (bytes G.primitives (ratchet G.primitives w s))
  own_known [] l a s cl = ap (λ z. known G s z s) (log-none s) ∙ known-none G s s ∙ ap (λ z. Some (bytes G.primitives z)) (sym (ratchet-none G s))
  own_known (u ∷ w) l a s cl = elim (log_case u w s) [
    | apart n q ↦ ap (λ z. known G s z s) q ∙ own_known w l.2 (AllRight-before a) s (cleaner u w l s cl) ∙ ap (λ z. Some (bytes G.primitives z)) (sym (ratchet-apart G u w s n))
    | own n q ↦ subst (λ z. known G z (log_of (u ∷ w) z) z ≡ Some (bytes G.primitives (ratchet G.primitives (u ∷ w) z))) n (own_case u.who u.entry w l a (subst (λ z. Cl (u ∷ w) z) (sym n) cl) (own_known w l.2 (AllRight-before a) u.who (cleaner u w l u.who (subst (λ z. Cl (u ∷ w) z) (sym n) cl))))
  ]

  -- each part that the maker puts for x opens to its payload
  pub record Pays (v : Turns) (x : Id) (p : Packet) : Type 0 where
    pub pays : (t : Given) (u : Turns) → Moment v p.header.sender (Made p t) u → RowsClean v x → Cl u p.header.sender → (b : Bytes)
        → IsDue G p.header.sender (log_of u p.header.sender) p.header t p.header.kind x b → payload G x (log_of v x) p ≡ Some b

  -- what opens was put
  pub record Put (v : Turns) (x : Id) (p : Packet) (t : Given) (u : Turns) (b : Bytes) : Type 0 where
    pub due : IsDue G p.header.sender (log_of u p.header.sender) p.header t p.header.kind x b

  pub put : (v : Turns) (x : Id) (p : Packet) → Law v → Pays v x p → RowsClean v x → (t : Given) (u : Turns) → Moment v p.header.sender (Made p t) u → Cl u p.header.sender → (b : Bytes) → payload G x (log_of v x) p ≡ Some b → Put v x p t u b
  put v x p l pay rc t u m cu b e = elim (present (part_for p.parts x)) [
    | gives_none d ↦ absurd (let f : None ≡ Some b = sym (ap (payload_in G.primitives (card_of G x) (events G x p.header.sender (log_of v x))) d) ∙ e in cc)
    | gives part d ↦
        let mk : Makes G p.header.sender (log_of u p.header.sender) p t = (lawful_at G l m).0 in
        let o : PartFor G p.header.sender (log_of u p.header.sender) p t x part = only_due G mk x part d in
        let f : Some o.value ≡ Some b = sym (pay.pays t u m rc cu o.value o.due) ∙ e in
        record { due = subst (λ z. IsDue G p.header.sender (log_of u p.header.sender) p.header t p.header.kind x z) (let g : o.value ≡ b = cc in g) o.due }
  ]

  -- what is handed is what its maker knew
  pub handed_right : (v : Turns) (x : Id) (p : Packet) → Law v → Pays v x p → RowsClean v x → (t : Given) (u : Turns) → Moment v p.header.sender (Made p t) u → Cl u p.header.sender → (b : Bytes)
      → handed_by x p.header.kind (payload G x (log_of v x) p) ≡ Some b → known G p.header.sender (log_of u p.header.sender) p.header.sender ≡ Some b
  handed_right v x p l pay rc t u m cu b e = by p.header.kind (λ d. (put v x p l pay rc t u m cu b d).due) e
    where
      by : (k : Kind) → (payload G x (log_of v x) p ≡ Some b → IsDue G p.header.sender (log_of u p.header.sender) p.header t k x b)
          → handed_by x k (payload G x (log_of v x) p) ≡ Some b → known G p.header.sender (log_of u p.header.sender) p.header.sender ≡ Some b
      by (Create members) f e = cc
      by Update f e = cc
      by (Remove y) f e = cc
      by (Add y) f e = elim (test (bytes_eq y x)) [
        | yes_is d ↦ (f (subst (λ z. cond z (payload G x (log_of v x) p) None ≡ Some b) d e)).1
        | no_is d ↦ (let g : None ≡ Some b = subst (λ z. cond z (payload G x (log_of v x) p) None ≡ Some b) d e in cc)
      ]
      by (Ack i true) f e = cc
      by (Ack i false) f e = cc
      by (AddAck i) f e = (f e).1
      by Text f e = cc

  -- who is handed the ratchet has it
  pub handed_now : (v : Turns) (x : Id) (p : Packet) (h : History) → Law v → Pays v x p → RowsClean v x → (t : Given) (u : Turns) → Moment v p.header.sender (Made p t) u → Cl u p.header.sender
      → Hands h p.header x → ((o : Message) → In o (past h p.header.predecessors) → In o (H u p.header.sender)) → InView G.rule (p.header ∷ H u p.header.sender) p.header x
      → (b : Bytes) → known G p.header.sender (log_of u p.header.sender) p.header.sender ≡ Some b → handed_by x p.header.kind (payload G x (log_of v x) p) ≡ Some b
  handed_now v x p h l pay rc t u m cu (by_add q) into see b e =
      subst (λ k. handed_by x k (payload G x (log_of v x) p) ≡ Some b) (sym q)
      (rw (same_id-true x) (pay.pays t u m rc cu b (subst (λ k. IsDue G p.header.sender (log_of u p.header.sender) p.header t k x b) (sym q) (refl, e))))
  handed_now v x p h l pay rc t u m cu (by_answer o i q a) into see b e =
      subst (λ k. handed_by x k (payload G x (log_of v x) p) ≡ Some b) (sym q)
      (pay.pays t u m rc cu b (subst (λ k. IsDue G p.header.sender (log_of u p.header.sender) p.header t k x b) (sym q)
      (record { operation = o; there_is = there (into o i); has_id = refl; adds = a; in_view = see }, e)))

  -- the maker's history and a reader's
  module _ (x : Id) (p : Packet) (e : LogEntry) (has_packet : packet_of e ≡ p) (w : Turns) (l : Law (and_then x e w)) (t : Given) (u : Turns) (k : Moment w p.header.sender (Made p t) u) where
    pub makes_it : Makes G p.header.sender (log_of u p.header.sender) p t
    makes_it = (lawful_at G l.2 k).0

    pub read_here : In p.header (H (and_then x e w) x)
    read_here = subst (λ z. In z.header (H (and_then x e w) x)) has_packet (header-stands G {e = e} l now)

    pub good_here : Good G (H (and_then x e w) x)
    good_here = good G (and_then x e w) l x

    pub maker_hist : {a : Message} → In a (p.header ∷ H u p.header.sender) → In a (H (and_then x e w) p.header.sender)
    maker_hist {a} i = elim (In-cases i) [
      | inl d ↦ subst (λ z. In z (H (and_then x e w) p.header.sender)) (sym d) (header-stands G {e = Made p t} l (once k))
      | inr j ↦ hist-since G l (once k) p.header.sender j
    ]

    agree_to : Agree (H (and_then x e w) x) (p.header ∷ H u p.header.sender)
    agree_to = record { same = λ a b i j d. (distinct_at G (and_then x e w) l).same x p.header.sender a b i (maker_hist j) d }

    agree_from : Agree (p.header ∷ H u p.header.sender) (H (and_then x e w) x)
    agree_from = record { same = λ a b i j d. (distinct_at G (and_then x e w) l).same p.header.sender x a b (maker_hist i) j d }

    pub see_back : {a : Message} {y : Id} → In a (H (and_then x e w) x) → In a (p.header ∷ H u p.header.sender) → InView G.rule (H (and_then x e w) x) a y → InView G.rule (p.header ∷ H u p.header.sender) a y
    see_back i j v = view_moved G (H (and_then x e w) x) (p.header ∷ H u p.header.sender) good_here.history makes_it.history agree_to agree_from i j v

    pub see_forth : {a : Message} {y : Id} → In a (p.header ∷ H u p.header.sender) → In a (H (and_then x e w) x) → InView G.rule (p.header ∷ H u p.header.sender) a y → InView G.rule (H (and_then x e w) x) a y
    see_forth i j v = view_moved G (p.header ∷ H u p.header.sender) (H (and_then x e w) x) makes_it.history good_here.history agree_from agree_to i j v

    pub past_here : {a : Message} → In a (H u p.header.sender) → In a (past (H (and_then x e w) x) p.header.predecessors)
    past_here {a} i = past_forth G {e = Made p t} l (once k) x read_here (makes_all G makes_it a i)

    pub past_there : {a : Message} → In a (past (H (and_then x e w) x) p.header.predecessors) → In a (H u p.header.sender)
    past_there {a} i = past-within (H u p.header.sender) p.header.predecessors (past-apart (H (and_then x e w) x) (H u p.header.sender) good_here.history makes_it.history.2
        (record { same = λ b d j n q. agree_to.same b d j (there n) q }) p.header.predecessors makes_it.history.0 i)

    pub to_maker : (z : Message) → In z (p.header ∷ H u p.header.sender) → In z (H (and_then p.header.sender (Made p t) u) p.header.sender)
    to_maker z i = subst (λ y. In z (hist y)) (sym (log-own p.header.sender (Made p t) u)) i

    -- the rows of the reader's welcome were made, where the reader is in the view of a clean message
    pub rows_made : CM p.header.sender p t u → InView G.rule (H (and_then x e w) x) p.header x → (p0 : Packet) (v0 : Turns) → Moment (and_then x e w) x (Joined p0) v0 → (a : Message) → In a p0.rows → Made? v0 a
    rows_made cl see p0 v0 m0 a i =
        let sn : Named (with_past (H (and_then x e w) x) p.header) x = G.is_rule.named (with_past (H (and_then x e w) x) p.header) x see in
        let b : Message = sn.by in
        let f0 : MayLeave G v0 x (Joined p0) = (lawful_at G l m0).0 in
        let b_here : In b (H (and_then x e w) x) = elim (In-cases sn.there_is) [ inl d ↦ subst (λ z. In z (H (and_then x e w) x)) (sym d) read_here | inr j ↦ past-within (H (and_then x e w) x) p.header.predecessors j ] in
        let b_there : In b (p.header ∷ H u p.header.sender) = elim (In-cases sn.there_is) [ inl d ↦ In-head (H u p.header.sender) d | inr j ↦ there (past_there j) ] in
        let mb : Made? (and_then p.header.sender (Made p t) u) b = cl.all b (to_maker b b_there) in
        let lm : Law (and_then p.header.sender (Made p t) u) = lawful_under l.2 k in
        let kb : Moment (and_then x e w) b.sender (Made mb.packet mb.given) mb.before = once (moment_under k mb.moment) in
        let p0_here : In p0.header (H (and_then x e w) x) = header-stands G l m0 in
        elim (naming G b.kind x sn.names) [
          | creates ms d ↦ absurd (create_then_add G good_here b_here p0_here d sn.names f0.0.adds)
          | adds d ↦
              let s0 : b.sender ≡ p0.header.sender = some_same (sym (add_suits G good_here b_here d).1 ∙ (add_suits G good_here p0_here f0.0.adds).1) in
              let wm : WasMade v0 p0 = f0.1.made (subst (λ z. In z G.members) s0 (inside G lm mb)) in
              let k0 : Moment (and_then x e w) p0.header.sender (Made p0 wm.given) wm.before = moment_on m0 wm.moment in
              let kb' : Moment (and_then x e w) p0.header.sender (Made mb.packet mb.given) mb.before = subst (λ z. Moment (and_then x e w) z (Made mb.packet mb.given) mb.before) s0 kb in
              let mk0 : Makes G p0.header.sender (log_of wm.before p0.header.sender) p0 wm.given = (lawful_at G l k0).0 in
              let mkb : Makes G p0.header.sender (log_of mb.before p0.header.sender) mb.packet mb.given = (lawful_at G l kb').0 in
              let kind_b : mb.packet.header.kind ≡ Add x = ap (λ (z : Message). z.kind) mb.is ∙ d in
              elim (chain G k0 kb' l) [
                | before j ↦ absurd (no_double G {t = mb.given} mkb j (subst (λ z. Names z x) (sym f0.0.adds) refl) kind_b)
                | later j ↦ absurd (no_double G {t = wm.given} mk0 j (subst (λ z. Names z x) (sym kind_b) refl) f0.0.adds)
                | one g ↦
                    let same0 : SameMoment G p0 mb.packet wm.given mb.given wm.before mb.before = one_moment G k0 kb' l g in
                    let mbm : Moment (and_then p.header.sender (Made p t) u) p0.header.sender (Made mb.packet mb.given) mb.before = subst (λ z. Moment (and_then p.header.sender (Made p t) u) z (Made mb.packet mb.given) mb.before) s0 mb.moment in
                    let b_hm : In mb.packet.header (H (and_then p.header.sender (Made p t) u) p.header.sender) = subst (λ z. In z (H (and_then p.header.sender (Made p t) u) p.header.sender)) (sym mb.is) (to_maker b b_there) in
                    let all_made : (y : Message) → In y (H wm.before p0.header.sender) → Made? (and_then x e w) y = λ y j. made_under (once k) (cl.all y
                    (past-within (H (and_then p.header.sender (Made p t) u) p.header.sender) mb.packet.header.predecessors
                    (past_forth G {e = Made mb.packet mb.given} lm mbm p.header.sender b_hm (makes_all G mkb y (subst (λ z. In y (H z p0.header.sender)) same0.worlds j))))) in
                    MadeIn-since G wm.moment ((clean_back G l k0 p0.header.sender all_made).all a (subst (λ z. In a z) (mk0.rows x f0.0.adds) i))
              ]
        ]

    -- no later message of the sender stands in the reader's history before
    pub none_later : (fresh : Stands (H w x) p.header.id → ⊥) → {a : Message} → In a (H w x) → a.sender ≡ p.header.sender → (q : Packet) (r : Given) (v : Turns) → Moment w p.header.sender (Made q r) v → q.header ≡ a → In q.header (H u p.header.sender)
    none_later fresh {a} i d q r v n f = elim (chain G k n l.2) [
      | one g ↦ absurd (fresh (record { by = a; there_is = i; has_id = ap (λ (z : Message). z.id) (sym (g ∙ f)) }))
      | before j ↦ absurd (fresh (record {
        by = p.header;
        has_id = refl;
        there_is = past-within (H w x) a.predecessors (past_forth G {e = Made q r} l.2 n x i
            (subst (λ (z : Message). In p.header (past (H v p.header.sender) z.predecessors)) f ((let mk : Makes G p.header.sender (log_of v p.header.sender) q r = (lawful_at G l.2 n).0 in makes_all G mk p.header j))));
      }))
      | later j ↦ j
    ]

  -- in the maker's history
  module _ (s : Id) (p : Packet) (t : Given) (u : Turns) (lm : Law (and_then s (Made p t) u)) (cu : Cl u s) where
    hm_is : H (and_then s (Made p t) u) s ≡ p.header ∷ H u s
    hm_is = ap hist (log-own s (Made p t) u)

    in_hm : {a : Message} → In a (past (H u s) p.header.predecessors) → In a (past (H (and_then s (Made p t) u) s) p.header.predecessors)
    in_hm {a} i = subst (λ z. In a (past z p.header.predecessors)) (sym hm_is) (subst (λ z. In a z) (sym (past-self p.header (H u s) lm.0.history)) i)

    pub out_hm : {a : Message} → In a (past (H (and_then s (Made p t) u) s) p.header.predecessors) → In a (H u s)
    out_hm {a} i = past-within (H u s) p.header.predecessors (subst (λ z. In a z) (past-self p.header (H u s) lm.0.history) (subst (λ z. In a (past z p.header.predecessors)) hm_is i))

    pub deep_hm : {a : Message} → In a (H u s) → In a (past (H (and_then s (Made p t) u) s) p.header.predecessors)
    deep_hm {a} i = in_hm (makes_all G lm.0 a i)

    pub last_of : (q : Packet) (r : Given) (v : Turns) → Moment u s (Made q r) v
        → ((q' : Packet) (r' : Given) (v' : Turns) → Moment u s (Made q' r') v' → (q'.header ≡ q.header) ⊎ In q'.header (H v s))
        → LastOf (H (and_then s (Made p t) u) s) p.header q.header
    last_of q r v n all = record {
      there_is = deep_hm (header-stands G {e = Made q r} lm.2 n);
      sender = sender_is G n lm.2 ∙ sym lm.0.sender;
      last = λ a i d.
          let made : Made? u a = cu.all a (out_hm i) in
          let mk : Makes G s (log_of v s) q r = (lawful_at G lm.2 n).0 in
          let stands_here : In q.header (H (and_then s (Made p t) u) s) = hist-more G (record { who = s; entry = Made p t }) u lm s (header-stands G {e = Made q r} lm.2 n) in
          elim (all made.packet made.given made.before (subst (λ z. Moment u z (Made made.packet made.given) made.before) (d ∙ lm.0.sender) made.moment)) [
            | inl f ↦ In-head (past (H (and_then s (Made p t) u) s) q.header.predecessors) (sym made.is ∙ f)
            | inr j ↦ there (past_forth G {e = Made q r} lm (once n) s stands_here (makes_all G mk a (subst (λ z. In z (H v s)) made.is j)))
          ];
    }

  -- what was known before a packet of its sender, where the packet hands nothing
  module _ (x : Id) (p : Packet) (w : Turns) (l : Law (and_then x (Took p) w)) (right : AllRight G w) (pay : Pays w x p) (t : Given) (u : Turns) (k : Moment w p.header.sender (Made p t) u) (cl : CM p.header.sender p t u)
      (see : InView G.rule (H (and_then x (Took p) w) x) p.header x) where
    whole : History
    whole = H (and_then x (Took p) w) x

    pub fresh_here : Stands (H w x) p.header.id → ⊥
    fresh_here = l.0.0.history.1

    pub lu : Law u
    lu = (lawful_at G l.2 k).1

    pub cu : Cl u p.header.sender
    cu = cm_before l.2 k cl

    pub rc : RowsClean w x
    rc = record { rows = λ p0 v0 m0 a i. rows_made x p (Took p) refl w l t u k cl see p0 v0 (once m0) a i }

    own_there : known G p.header.sender (log_of u p.header.sender) p.header.sender ≡ Some (bytes G.primitives (ratchet G.primitives u p.header.sender))
    own_there = own_known u lu (AllRight-at right k) p.header.sender cu

    pub in_earlier : {a : Message} → In a (past (H (and_then x (Took p) w) x) p.header.predecessors) → In a (H w x)
    in_earlier {a} i = past-within (H w x) p.header.predecessors (subst (λ z. In a z) (past-self p.header (H w x) l.0.0.history)
        (subst (λ z. In a (past (hist z) p.header.predecessors)) (log-own x (Took p) w) i))

    pub see_there : InView G.rule (p.header ∷ H u p.header.sender) p.header x
    see_there = see_back x p (Took p) refl w l t u k (read_here x p (Took p) refl w l t u k) here see

    pub here_inside : In p.header.sender G.members
    here_inside = inside_at G l.2 k

    -- the entry of the last message of the sender
    last_entry : (q : Packet) (r : Given) (v : Turns) → Moment u p.header.sender (Made q r) v → ratchet G.primitives u p.header.sender ≡ ratchet G.primitives (and_then p.header.sender (Made q r) v) p.header.sender
        → ((q' : Packet) (r' : Given) (v' : Turns) → Moment u p.header.sender (Made q' r') v' → (q'.header ≡ q.header) ⊎ In q'.header (H v p.header.sender))
        → InView G.rule (H (and_then x (Took p) w) x) q.header x
        → (f : LogEntry) (b : Turns) → Moment w x f b → header_of f ≡ q.header
        → known G x (log_of (and_then x f b) x) p.header.sender ≡ Some (bytes G.primitives (ratchet G.primitives u p.header.sender))
    last_entry q r v n same all seen f b mf d =
        let sd : (header_of f).sender ≡ p.header.sender = ap (λ (z : Message). z.sender) d ∙ sender_is G n lu in
        let mk : MakerOf x f b = maker_of x f b (lawful_at G l.2 mf).0 (subst (λ z. In z G.members) (sym sd) here_inside) in
        let old : Moment w p.header.sender (Made (packet_of f) mk.given) mk.world = subst (λ z. Moment w z (Made (packet_of f) mk.given) mk.world) sd (moment_under mf mk.moment) in
        let one : SameMoment G (packet_of f) q mk.given r mk.world v = one_moment G old (moment_on k n) l.2 d in
        let lf : Law (and_then x f b) = lawful_under l.2 mf in
        let view : InView G.rule (H (and_then x f b) x) (header_of f) x = view_moved G (H (and_then x (Took p) w) x) (H (and_then x f b) x) (good G (and_then x (Took p) w) l x).history (good G (and_then x f b) lf x).history
        (record { same = λ y z i j g. (distinct_at G (and_then x (Took p) w) l).same x x y z i (hist_under l (once mf) x j) g })
        (record { same = λ y z i j g. (distinct_at G (and_then x (Took p) w) l).same x x y z (hist_under l (once mf) x i) j g })
        (header-stands G {e = f} l (once mf)) (header-stands G {e = f} lf now) (subst (λ z. InView G.rule (H (and_then x (Took p) w) x) z x) (sym d) seen) in
        subst (λ z. known G x (log_of (and_then x f b) x) z ≡ Some (bytes G.primitives (ratchet G.primitives (and_then z (Made (packet_of f) mk.given) mk.world) z))) sd
        (known_after G (right.right x f b mf) mk.given mk.world mk.moment (cm_same one sd (cm_of lu cu n (header-stands G {e = Made q r} lu n))) view)
        ∙ ap (λ z. Some (bytes G.primitives (ratchet G.primitives (and_then p.header.sender (Made z mk.given) mk.world) p.header.sender))) one.packets
        ∙ ap (λ z. Some (bytes G.primitives (ratchet G.primitives (and_then p.header.sender (Made q z) mk.world) p.header.sender))) one.randoms
        ∙ ap (λ z. Some (bytes G.primitives (ratchet G.primitives (and_then p.header.sender (Made q r) z) p.header.sender))) one.worlds
        ∙ ap (λ z. Some (bytes G.primitives z)) (sym same)

    -- an entry of the sender is the last message of its maker
    pub is_last : (q : Packet) (r : Given) (v : Turns) → Moment u p.header.sender (Made q r) v
        → ((q' : Packet) (r' : Given) (v' : Turns) → Moment u p.header.sender (Made q' r') v' → (q'.header ≡ q.header) ⊎ In q'.header (H v p.header.sender))
        → (f : LogEntry) (b : Turns) → Moment w x f b → (header_of f).sender ≡ p.header.sender → (q.header ≡ header_of f) ⊎ In q.header (rows_of f (H b x)) → header_of f ≡ q.header
    is_last q r v n all f b mf d either =
        let i : In (header_of f) (H w x) = header-stands G {e = f} l.2 mf in
        let made : Made? w (header_of f) = entry_made l.2 mf (subst (λ z. In z G.members) (sym d) here_inside) in
        let early : In made.packet.header (H u p.header.sender) = none_later x p (Took p) refl w l t u k fresh_here i d made.packet made.given made.before
        (subst (λ z. Moment w z (Made made.packet made.given) made.before) d made.moment) made.is in
        let again : Made? u made.packet.header = cu.all made.packet.header early in
        let sd : made.packet.header.sender ≡ p.header.sender = ap (λ (z : Message). z.sender) made.is ∙ d in
        let hf : IsHistory (header_of f ∷ rows_of f (H b x)) = subst (λ z. IsHistory (hist z)) (log-own x f b) (good G (and_then x f b) (lawful_under l.2 mf) x).history in
        elim either [
          | inl e ↦ sym e
          | inr j ↦ elim (all again.packet again.given again.before (subst (λ z. Moment u z (Made again.packet again.given) again.before) sd again.moment)) [
            | inl g ↦ sym made.is ∙ sym again.is ∙ g
            | inr g ↦
                let mq : Makes G p.header.sender (log_of v p.header.sender) q r = (lawful_at G lu n).0 in
                let g' : In (header_of f) (H v p.header.sender) = subst (λ z. In z (H v p.header.sender)) (again.is ∙ made.is) g in
                let there_too : In (header_of f) (rows_of f (H b x)) = past-within (rows_of f (H b x)) q.header.predecessors (past-apart (H v p.header.sender) (rows_of f (H b x)) mq.history.2 hf.2
                (record {
                  same = λ y z i' j' e'. (distinct_at G w l.2).same p.header.sender x y z (hist-since G l.2 (moment_on k n) p.header.sender i')
                      (hist_under l.2 mf x (subst (λ o. In z (hist o)) (sym (log-own x f b)) (there j'))) e';
                })
                q.header.predecessors (deps-stand (rows_of f (H b x)) hf.2 j) (makes_all G mq (header_of f) g')) in
                absurd (hf.1 (record { by = header_of f; there_is = there_too; has_id = refl }))
          ]
        ]

    pub of_sender : {a : Message} → In a (H w x) → a.sender ≡ p.header.sender → Made? w a
    of_sender {a} i d = elim (stood G w x i) [
      | as_entry f b mf e ↦ subst (λ z. Made? w z) e (entry_made l.2 mf (subst (λ z. In z G.members) (sym (ap (λ (z : Message). z.sender) e ∙ d)) here_inside))
      | as_row p0 v0 m0 j ↦ MadeIn-since G m0 (rc.rows p0 v0 m0 a j)
    ]

    prior_right : handed_by x p.header.kind (payload G x (log_of w x) p) ≡ None → known G x (log_of w x) p.header.sender ≡ Some (bytes G.primitives (ratchet G.primitives u p.header.sender))
    prior_right nothing = elim (latest_made G u lu p.header.sender) [
      | made_none r none quiet ↦
          let lone : (a : Message) → In a (H w x) → a.sender ≢ p.header.sender = λ a i d.
          let made : Made? w a = of_sender i d in
          let early : In made.packet.header (H u p.header.sender) = none_later x p (Took p) refl w l t u k fresh_here i d made.packet made.given made.before
          (subst (λ z. Moment w z (Made made.packet made.given) made.before) d made.moment) made.is in
          let again : Made? u made.packet.header = cu.all made.packet.header early in
          none again.packet again.given again.before (subst (λ z. Moment u z (Made again.packet again.given) again.before) (ap (λ (z : Message). z.sender) made.is ∙ d) again.moment) in
          elim (latest_in G w l.2 x p.header.sender) [
            | none_in kn f ↦ kn ∙ ap (λ z. Some (bytes G.primitives z)) (sym r)
            | rows_in p0 v0 m0 r0 i0 e0 f0 ↦ absurd (lone r0 i0 e0)
            | last_in f v m e kn a y ↦ absurd (lone (header_of f) (header-stands G {e = f} l.2 m) e)
          ]
      | made_last q r v n same all quiet ↦
          let lm : Law (and_then p.header.sender (Made p t) u) = lawful_under l.2 k in
          let last : LastOf (H (and_then p.header.sender (Made p t) u) p.header.sender) p.header q.header = last_of p.header.sender p t u lm cu q r v n all in
          let q_u : In q.header (H u p.header.sender) = out_hm p.header.sender p t u lm cu last.there_is in
          let q_here : In q.header (past (H (and_then x (Took p) w) x) p.header.predecessors) = past_here x p (Took p) refl w l t u k q_u in
          let old : In q.header (H w x) = in_earlier q_here in
          let m_hm : In p.header (H (and_then p.header.sender (Made p t) u) p.header.sender) = to_maker x p (Took p) refl w l t u k p.header here in
          elim (first_view G.rule G.is_rule G.inviter (H (and_then p.header.sender (Made p t) u) p.header.sender) (good G (and_then p.header.sender (Made p t) u) lm p.header.sender).history
          (named_once G (and_then p.header.sender (Made p t) u) lm p.header.sender cl) (rooted_at G (and_then p.header.sender (Made p t) u) lm p.header.sender) (each_at G (and_then p.header.sender (Made p t) u) lm p.header.sender)
          m_hm last (λ z. l.0.0.other (sym z)) (subst (λ z. InView G.rule (hist z) p.header x) (sym (log-own p.header.sender (Made p t) u)) see_there)) [
            | inl seen_hm ↦
                let seen : InView G.rule (H (and_then x (Took p) w) x) q.header x = see_forth x p (Took p) refl w l t u k (there q_u) (past-within (H (and_then x (Took p) w) x) p.header.predecessors q_here) (subst (λ z. InView G.rule (hist z) q.header x) (log-own p.header.sender (Made p t) u) seen_hm) in
                elim (latest_in G w l.2 x p.header.sender) [
                  | none_in kn f ↦ absurd (f q.header old last.sender)
                  | rows_in p0 v0 m0 r0 i0 e0 f0 ↦ absurd (row_unseen G l (once m0) (f0 q.header old last.sender) seen)
                  | last_in f b mf e kn a y ↦ kn ∙ last_entry q r v n same all seen f b mf (is_last q r v n all f b mf e (a q.header old last.sender))
                ]
            | inr hands ↦ absurd (let g = sym nothing ∙ handed_now w x p (H (and_then p.header.sender (Made p t) u) p.header.sender) l.2 pay rc t u k cu hands (λ o i. out_hm p.header.sender p t u (lawful_under l.2 k) cu i) see_there (bytes G.primitives (ratchet G.primitives u p.header.sender)) own_there in cc)
          ]
    ]

    pub took_before : ratchet_before G x (Took p) (log_of w x) (known G x (log_of w x) p.header.sender) ≡ Some (bytes G.primitives (ratchet G.primitives u p.header.sender))
    took_before = elim (present (handed_by x p.header.kind (payload G x (log_of w x) p))) [
      | gives b e ↦ ap (λ z. or_else z (known G x (log_of w x) p.header.sender)) e ∙ sym (handed_right w x p l.2 pay rc t u k cu b e) ∙ own_there
      | gives_none e ↦ ap (λ z. or_else z (known G x (log_of w x) p.header.sender)) e ∙ prior_right e
    ]
