-- A play: events that leave entries in the members' logs where each is one that its member may leave. Whatever is played
-- is a lawful world.
use Rattle.std.proofs.Common.{◌≡◌, Bool, true, false, inl, inr, List, [], ◌∷◌, ◌++◌, Option, Some, None, refl, sym, ◌∙◌, subst, ap, option_map, nat_eq}
use Rattle.std.specs.Option.{option_and_then}
use Rattle.std.specs.Str.{bytes_eq}
use Rattle.group_model.specs.Sets.{Bytes, Id, In, here, there, has}
use Rattle.group_model.specs.Messages.{Kind, Create, Update, Remove, Add, Ack, AddAck, Text, Message, History, with_past, IsHistory, AreHeads}
use Rattle.group_model.specs.Membership.{named_by, IsAddressee}
use Rattle.group_model.specs.Pairing.{Part}
use Rattle.group_model.specs.Validity.{Answers, MayFollow, AllValid, IsUnforked, AreUnforked}
use Rattle.group_model.specs.Settings.{Setting}
use Rattle.group_model.specs.Packets.{Addressed, Packet, Given, part_for}
use Rattle.group_model.specs.Logs.{LogEntry, Joined, Took, Made, Log, hist}
use Rattle.group_model.specs.Knowledge.{text_sealed}
use Rattle.group_model.specs.Worlds.{Turn, Turns, log_of, Moment, now, once}
use Rattle.group_model.specs.LawfulWorlds.{WasMade, AreHashesDistinct, IsAuthentic, MayLeave, IsLawful}
use Rattle.group_model.specs.Conduct.{waiting, Follows, AnswersAtOnce}
use Rattle.group_model.specs.Agreement.{MadeBy, IsEntitled}
use Rattle.group_model.proofs.InSetting.{answer_known, chain_known, Makes}
use Rattle.group_model.proofs.ListFacts.{yes_is, no_is, test, In-cases, In-nothing, In-left, In-right, In-either}
use Rattle.group_model.proofs.RemoveWins.{In-Names}
use Rattle.group_model.proofs.Parts.{gives, gives_none, present}
use Rattle.group_model.proofs.Worlds.{own, apart, log_case, log-none, good, lawful_at}
use Rattle.group_model.proofs.Says.{both, either, opposite, any, each, both-true, either-true, any-true, each-true, says-not, says-and, says-each, says-same, says-has}
use Rattle.group_model.proofs.Verdicts.{says-equal, answers, says-answers, adds, says-adds, comes_next, says-comes_next, are_heads, heads-where}
use Rattle.group_model.proofs.Judged.{message_eq, same-message_eq, may_follow, follow-where, is_in_view, says-view, is_addressee, says-addressee, are_addressees, addressees-where}
use Rattle.group_model.proofs.Quick.{quick_answer, quick_answer-known, quick_chain, quick_chain-known, quick_payload, quick_parts, quick_parts-sent}

-- the messages that a turn brings, and all of a world
abbrev pub brought : LogEntry → List Message
brought (Joined p) = p.header ∷ p.rows
brought (Took p) = p.header ∷ []
brought (Made p t) = p.header ∷ []

abbrev pub messages_of : Turns → List Message
messages_of [] = []
messages_of (u ∷ w) = brought u.entry ++ messages_of w

-- one message for an id
pub record IsDistinct (ms : List Message) : Type 0 where
  pub same : (a b : Message) → In a ms → In b ms → a.id ≡ b.id → a ≡ b

abbrev agrees : List Message → Message → Bool
agrees ms a = each (λ (b : Message). either (opposite (bytes_eq a.id b.id)) (message_eq a b)) ms

agrees-where : (ms : List Message) (a : Message) → agrees ms a ≡ true → (b : Message) → In b ms → a.id ≡ b.id → a ≡ b
agrees-where ms a e b i d = elim (either-true _ _ (each-true (λ (b : Message). either (opposite (bytes_eq a.id b.id)) (message_eq a b)) ms e b i)) [
  | inl n ↦ absurd ((says-not (says-same a.id b.id)).holds n d)
  | inr q ↦ same-message_eq a b q
]

-- the new messages agree with all
abbrev pub fits : List Message → Turns → Bool
fits new w = each (λ (a : Message). agrees (new ++ messages_of w) a) new

fits-where : (new : List Message) (w : Turns) → IsDistinct (messages_of w) → fits new w ≡ true → IsDistinct (new ++ messages_of w)
fits-where new w k e = record {
  same = λ a b i j d. elim (In-either new i) [
    | inl p ↦ agrees-where (new ++ messages_of w) a (each-true (λ (a : Message). agrees (new ++ messages_of w) a) new e a p) b j d
    | inr p ↦ elim (In-either new j) [
      | inl q ↦ sym (agrees-where (new ++ messages_of w) b (each-true (λ (a : Message). agrees (new ++ messages_of w) a) new e b q) a i (sym d))
      | inr q ↦ k.same a b p q d
    ]
  ];
}

hist-brought : (w : Turns) (x : Id) {a : Message} → In a (hist (log_of w x)) → In a (messages_of w)
hist-brought [] x i = absurd (In-nothing (rw (log-none x) at i))
hist-brought (u ∷ w) x {a} i = elim (log_case u w x) [
  | apart p q ↦ In-right (brought u.entry) (hist-brought w x (rw q at i))
  | own p q ↦ by u.entry (λ k. hist-brought w x k) (rw q at i)
]
  where
    by : (e : LogEntry) → (In a (hist (log_of w x)) → In a (messages_of w)) → In a (hist (e ∷ log_of w x)) → In a (brought e ++ messages_of w)
    by (Joined p) f i = In-left (messages_of w) i
    by (Took p) f i = elim (In-cases i) [ inl d ↦ subst (λ z. In z (p.header ∷ messages_of w)) (sym d) here | inr j ↦ there (f j) ]
    by (Made p t) f i = elim (In-cases i) [ inl d ↦ subst (λ z. In z (p.header ∷ messages_of w)) (sym d) here | inr j ↦ there (f j) ]

hashes-distinct : (w : Turns) → IsDistinct (messages_of w) → AreHashesDistinct w
hashes-distinct w k = record { same = λ x y a b i j e. k.same a b (hist-brought w x i) (hist-brought w y j) e }

-- the packet of the world with this id
abbrev packet_here : Id → LogEntry → Id → Option Packet → Option Packet
packet_here who (Joined p) i older = older
packet_here who (Took p) i older = older
packet_here who (Made p t) i older = elim (both (bytes_eq p.header.id i) (bytes_eq who p.header.sender)) [ true ↦ Some p | false ↦ older ]

abbrev pub packet_made : Turns → Id → Option Packet
packet_made [] i = None
packet_made (u ∷ w) i = packet_here u.who u.entry i (packet_made w i)

WasMade-once : (u : Turn) (w : Turns) (p : Packet) → WasMade w p → WasMade (u ∷ w) p
WasMade-once u w p m = record { given = m.given; before = m.before; moment = once m.moment }

packet_made-where : (w : Turns) (i : Id) (p : Packet) → packet_made w i ≡ Some p → WasMade w p
packet_made-where [] i p e = cc
packet_made-where (u ∷ w) i p e = by u.who u.entry (λ d. packet_made-where w i p d) e
  where
    by : (x : Id) (f : LogEntry) → (packet_made w i ≡ Some p → WasMade w p) → packet_here x f i (packet_made w i) ≡ Some p
        → WasMade (record { who = x; entry = f } ∷ w) p
    by x (Joined q) k e = WasMade-once _ w p (k e)
    by x (Took q) k e = WasMade-once _ w p (k e)
    by x (Made q t) k e = elim (test (both (bytes_eq q.header.id i) (bytes_eq x q.header.sender))) [
      | no_is n ↦ WasMade-once _ w p (k (rw (n, packet_here) at e))
      | yes_is y ↦
          let d : q ≡ p = (let g : Some q ≡ Some p = rw (y, packet_here) at e in cc) in
          let s : x ≡ q.header.sender = (says-same x q.header.sender).holds (both-true (bytes_eq q.header.id i) _ y).1 in
          subst (λ z. WasMade (record { who = x; entry = Made q t } ∷ w) z) d (record {
            given = t;
            before = w;
            moment = subst (λ z. Moment (record { who = x; entry = Made q t } ∷ w) z (Made q t) w) s now;
          })
    ]

-- the message was made in the world
abbrev made_it : Id → LogEntry → Message → Bool
made_it who (Joined p) a = false
made_it who (Took p) a = false
made_it who (Made p t) a = both (bytes_eq who a.sender) (message_eq p.header a)

abbrev pub is_made : Turns → Message → Bool
is_made [] a = false
is_made (u ∷ w) a = either (made_it u.who u.entry a) (is_made w a)

made-where : (w : Turns) (a : Message) → is_made w a ≡ true → MadeBy w a
made-where [] a e = cc
made-where (u ∷ w) a e = elim (either-true (made_it u.who u.entry a) (is_made w a) e) [
  | inl k ↦ by u.who u.entry k
  | inr k ↦ let m = made-where w a k in record { packet = m.packet; given = m.given; before = m.before; moment = once m.moment; is = m.is }
]
  where
    by : (x : Id) (f : LogEntry) → made_it x f a ≡ true → MadeBy (record { who = x; entry = f } ∷ w) a
    by x (Joined p) k = cc
    by x (Took p) k = cc
    by x (Made p t) k = let l = both-true (bytes_eq x a.sender) (message_eq p.header a) k in record {
      packet = p;
      given = t;
      before = w;
      is = same-message_eq p.header a l.1;
      moment = subst (λ z. Moment (record { who = x; entry = Made p t } ∷ w) z (Made p t) w) ((says-same x a.sender).holds l.0) now;
    }

-- the rows that a packet of this kind brings
abbrev rows_for : Kind → History → History
rows_for (Create members) h = []
rows_for Update h = []
rows_for (Remove y) h = []
rows_for (Add y) h = h
rows_for (Ack i took) h = []
rows_for (AddAck i) h = []
rows_for Text h = []

rows_for-add : (k : Kind) (y : Id) (h : History) → k ≡ Add y → rows_for k h ≡ h
rows_for-add k y h e = subst (λ z. rows_for z h ≡ h) (sym e) refl

abbrev pub there_is : Option Bytes → Bool
there_is None = false
there_is (Some b) = true

is-there : (o : Option Bytes) → there_is o ≡ true → (b : Bytes) × (o ≡ Some b)
is-there None e = cc
is-there (Some b) e = (b, refl)

abbrev pub value_of : Option Bytes → Bytes
value_of None = []
value_of (Some b) = b

pub value-there : (o : Option Bytes) → there_is o ≡ true → o ≡ Some (value_of o)
value-there None e = cc
value-there (Some b) e = refl

abbrev is_fresh : Log → Bool
is_fresh [] = true
is_fresh (e ∷ l) = false

fresh-where : (l : Log) → is_fresh l ≡ true → l ≡ []
fresh-where [] e = refl
fresh-where (f ∷ l) e = cc

-- no message of the history has the sender and the number of another
abbrev is_unforked : History → Message → Bool
is_unforked h m = each (λ (a : Message). opposite (both (bytes_eq a.sender m.sender) (nat_eq a.seq m.seq))) h

unforked-where : (h : History) (m : Message) → is_unforked h m ≡ true → IsUnforked h m
unforked-where h m e a i s n =
    (says-each (λ (a : Message). says-not (says-and (says-same a.sender m.sender) (says-equal a.seq m.seq))) h).holds e a i (s, n)

abbrev are_unforked : History → Bool
are_unforked [] = true
are_unforked (m ∷ h) = both (is_unforked h m) (are_unforked h)

all_unforked-where : (h : History) → are_unforked h ≡ true → AreUnforked h
all_unforked-where [] e = tt
all_unforked-where (m ∷ h) e = let k = both-true (is_unforked h m) (are_unforked h) e in
    (unforked-where h m k.0, all_unforked-where h k.1)

abbrev has_no_part : Option Part → Bool
has_no_part None = true
has_no_part (Some q) = false

-- what a play has: a member makes a message with parts for these ids; a member takes a packet that was made, or joins by
-- it; a member takes a packet of an outsider
pub data PlayEvent : Type 0 where
  Makes_it : (message : Message) → (to : List Id) → (given : Given) → PlayEvent
  Takes_it : (who : Id) → (id : Id) → PlayEvent
  Joins_by : (who : Id) → (id : Id) → PlayEvent
  Hears_it : (who : Id) → (packet : Packet) → PlayEvent

module _ (G : Setting) where
  -- an ack that took knows its secret, and a text has a key
  abbrev is_ready : Id → Log → Kind → Bool
  is_ready x l (Create members) = true
  is_ready x l Update = true
  is_ready x l (Remove y) = true
  is_ready x l (Add y) = true
  is_ready x l (Ack i true) = there_is (quick_answer G x l i x None)
  is_ready x l (Ack i false) = true
  is_ready x l (AddAck i) = true
  is_ready x l Text = there_is (quick_chain G x l x)

  ready-took : (x : Id) (l : Log) (k : Kind) → is_ready x l k ≡ true → (i : Id) → k ≡ Ack i true → (v : Bytes) × (answer_known G x l i x None ≡ Some v)
  ready-took x l k e i d =
      let r = is-there (quick_answer G x l i x None) (subst (λ z. is_ready x l z ≡ true) d e) in
      (r.0, sym (quick_answer-known G x l i x None) ∙ r.1)

  abbrev sealed_by : Option Bytes → Given → Bytes
  sealed_by chain t = value_of (text_sealed G.primitives chain t.text)

  sealed-there : (chain : Option Bytes) (t : Given) → there_is chain ≡ true → text_sealed G.primitives chain t.text ≡ Some (sealed_by chain t)
  sealed-there None t e = cc
  sealed-there (Some k) t e = refl

  ready-text : (x : Id) (l : Log) (k : Kind) (t : Given) → is_ready x l k ≡ true → k ≡ Text
      → text_sealed G.primitives (chain_known G x l x) t.text ≡ Some (sealed_by (quick_chain G x l x) t)
  ready-text x l k t e d = ap (λ z. text_sealed G.primitives z t.text) (sym (quick_chain-known G x l x))
      ∙ sealed-there (quick_chain G x l x) t (subst (λ z. is_ready x l z ≡ true) d e)

  unfoldable pub can_make : Turns → Message → List Id → Bool
  can_make w m to =
      both (has G.members m.sender) (both (comes_next (hist (log_of w m.sender)) m) (both (are_heads (hist (log_of w m.sender)) m.predecessors)
      (both (may_follow G.rule G.inviter (hist (log_of w m.sender)) m) (both (are_addressees G.rule (m ∷ hist (log_of w m.sender)) m to)
      (both (is_ready m.sender (log_of w m.sender) m.kind) (fits (m ∷ []) w))))))

  abbrev made_packet : Turns → Message → Given → List Addressed → Packet
  made_packet w m t parts = record {
    header = m;
    parts = parts;
    rows = rows_for m.kind (hist (log_of w m.sender));
    sealed = sealed_by (quick_chain G m.sender (log_of w m.sender) m.sender) t;
  }

  -- a part for x is one that the message is to have
  abbrev has_no_other_part : History → Packet → Id → Bool
  has_no_other_part h p x = either (has_no_part (part_for p.parts x)) (is_addressee G.rule (p.header ∷ h) p.header p.header.kind x)

  part-due : (h : History) (p : Packet) (x : Id) → has_no_other_part h p x ≡ true → (q : Part) → part_for p.parts x ≡ Some q
      → IsAddressee G.rule (p.header ∷ h) p.header p.header.kind x
  part-due h p x e q d = elim (either-true (has_no_part (part_for p.parts x)) _ e) [
    | inl n ↦ (let f : has_no_part (Some q) ≡ true = subst (λ z. has_no_part z ≡ true) d n in cc)
    | inr a ↦ (says-addressee G.rule (p.header ∷ h) p.header p.header.kind x).holds a
  ]

  -- what one side of a packet taken asks
  unfoldable pub can_take : Turns → Id → Packet → Bool
  can_take w x p = both (opposite (bytes_eq p.header.sender x)) (both (has G.members x) (both (comes_next (hist (log_of w x)) p.header)
      (both (may_follow G.rule G.inviter (hist (log_of w x)) p.header)
      (both (either (opposite (is_fresh (log_of w x))) (has (named_by p.header.kind) x))
      (both (is_unforked (hist (log_of w x)) p.header) (both (has_no_other_part (hist (log_of w x)) p x) (fits (p.header ∷ []) w)))))))

  unfoldable pub can_join : Turns → Id → Packet → Bool
  can_join w x p = both (is_fresh (log_of w x)) (both (opposite (bytes_eq p.header.sender x)) (both (has G.members x)
      (both (adds p.header.kind x) (both (is_unforked p.rows p.header) (both (are_unforked p.rows) (fits (p.header ∷ p.rows) w))))))

  unfoldable pub is_outsider : Id → Bool
  is_outsider s = opposite (has G.members s)

  unfoldable pub step : Turns → PlayEvent → Option Turns
  step w (Makes_it m to t) = elim (can_make w m to) [
    | true ↦ option_map (λ parts. record { who = m.sender; entry = Made (made_packet w m t parts) t } ∷ w)
        (quick_parts G m.sender (log_of w m.sender) t (quick_payload G m.sender (log_of w m.sender) t m.kind) to)
    | false ↦ None
  ]
  step w (Takes_it x i) = option_and_then (λ (p : Packet). elim (can_take w x p) [
    | true ↦ Some (record { who = x; entry = Took p } ∷ w)
    | false ↦ None
  ]) (packet_made w i)
  step w (Joins_by x i) = option_and_then (λ (p : Packet). elim (can_join w x p) [
    | true ↦ Some (record { who = x; entry = Joined p } ∷ w)
    | false ↦ None
  ]) (packet_made w i)
  step w (Hears_it x p) = elim (both (is_outsider p.header.sender) (can_take w x p)) [
    | true ↦ Some (record { who = x; entry = Took p } ∷ w)
    | false ↦ None
  ]

  -- a lawful world with one message for an id
  pub record Sound (w : Turns) : Type 0 where
    pub lawful : IsLawful G w
    pub distinct : IsDistinct (messages_of w)

  sound-more : (u : Turn) (w : Turns) → Sound w → In u.who G.members → MayLeave G w u.who u.entry → fits (brought u.entry) w ≡ true → Sound (u ∷ w)
  sound-more u w s i f e = let d = fits-where (brought u.entry) w s.distinct e in record {
    distinct = d;
    lawful = (f, hashes-distinct (u ∷ w) d, s.lawful, i);
  }

  making : (w : Turns) (m : Message) (to : List Id) (t : Given) (parts : List Addressed) → Sound w → can_make w m to ≡ true
      → quick_parts G m.sender (log_of w m.sender) t (quick_payload G m.sender (log_of w m.sender) t m.kind) to ≡ Some parts
      → Sound (record { who = m.sender; entry = Made (made_packet w m t parts) t } ∷ w)
  unfolding can_make
  making w m to t parts s e d =
      let h = hist (log_of w m.sender) in
      let k = both-true (has G.members m.sender) _ e in
      let l = both-true (comes_next (hist (log_of w m.sender)) m) _ k.1 in
      let n = both-true (are_heads (hist (log_of w m.sender)) m.predecessors) _ l.1 in
      let o = both-true (may_follow G.rule G.inviter (hist (log_of w m.sender)) m) _ n.1 in
      let p = both-true (are_addressees G.rule (m ∷ hist (log_of w m.sender)) m to) _ o.1 in
      let q = both-true (is_ready m.sender (log_of w m.sender) m.kind) _ p.1 in
      let c = (says-comes_next (hist (log_of w m.sender)) m).holds l.0 in
      sound-more (record { who = m.sender; entry = Made (made_packet w m t parts) t }) w s ((says-has G.members m.sender).holds k.0) (record {
        sender = refl;
        history = (c.0, c.1, (good G w s.lawful m.sender).history);
        heads = heads-where (hist (log_of w m.sender)) m.predecessors n.0;
        valid = follow-where G.rule G.inviter (hist (log_of w m.sender)) m o.0;
        rows = λ y a. rows_for-add m.kind y (hist (log_of w m.sender)) a;
        addressees = to;
        to_whom = addressees-where G.rule G.is_rule (m ∷ hist (log_of w m.sender)) m to here p.0;
        parts = sym (quick_parts-sent G m.sender (log_of w m.sender) t m.kind to) ∙ d;
        took = ready-took m.sender (log_of w m.sender) m.kind q.0;
        text = λ a. ready-text m.sender (log_of w m.sender) m.kind t q.0 a;
      }) q.1

  taking : (w : Turns) (x : Id) (p : Packet) → Sound w → IsAuthentic G w p → can_take w x p ≡ true
      → Sound (record { who = x; entry = Took p } ∷ w)
  unfolding can_take
  taking w x p s a e =
      let k = both-true (opposite (bytes_eq p.header.sender x)) _ e in
      let l = both-true (has G.members x) _ k.1 in
      let m = both-true (comes_next (hist (log_of w x)) p.header) _ l.1 in
      let n = both-true (may_follow G.rule G.inviter (hist (log_of w x)) p.header) _ m.1 in
      let o = both-true (either (opposite (is_fresh (log_of w x))) (has (named_by p.header.kind) x)) _ n.1 in
      let q = both-true (is_unforked (hist (log_of w x)) p.header) _ o.1 in
      let r = both-true (has_no_other_part (hist (log_of w x)) p x) _ q.1 in
      let c = (says-comes_next (hist (log_of w x)) p.header).holds m.0 in
      sound-more (record { who = x; entry = Took p }) w s ((says-has G.members x).holds l.0) (
        record {
          other = (says-not (says-same p.header.sender x)).holds k.0;
          history = (c.0, c.1, (good G w s.lawful x).history);
          valid = follow-where G.rule G.inviter (hist (log_of w x)) p.header n.0;
          invited = λ f. elim (either-true _ _ o.0) [
            | inl z ↦ absurd (let y : opposite (is_fresh []) ≡ true = subst (λ v. opposite (is_fresh v) ≡ true) f z in cc)
            | inr z ↦ In-Names p.header.kind x ((says-has (named_by p.header.kind) x).holds z)
          ];
          unforked = unforked-where (hist (log_of w x)) p.header q.0;
          part_due = part-due (hist (log_of w x)) p x r.0;
        },
        a,
      ) r.1

  joining : (w : Turns) (x : Id) (p : Packet) → Sound w → WasMade w p → can_join w x p ≡ true
      → Sound (record { who = x; entry = Joined p } ∷ w)
  unfolding can_join
  joining w x p s made e =
      let k = both-true (is_fresh (log_of w x)) _ e in
      let l = both-true (opposite (bytes_eq p.header.sender x)) _ k.1 in
      let m = both-true (has G.members x) _ l.1 in
      let n = both-true (adds p.header.kind x) _ m.1 in
      let at = lawful_at G s.lawful made.moment in
      let mk : Makes G p.header.sender (log_of made.before p.header.sender) p made.given = at.0 in
      let o = both-true (is_unforked p.rows p.header) _ n.1 in
      let q = both-true (are_unforked p.rows) _ o.1 in
      let add : p.header.kind ≡ Add x = (says-adds p.header.kind x).holds n.0 in
      let r : hist (log_of made.before p.header.sender) ≡ p.rows = sym (mk.rows x add) in
      sound-more (record { who = x; entry = Joined p }) w s ((says-has G.members x).holds m.0) (
        record {
          fresh = fresh-where (log_of w x) k.0;
          other = (says-not (says-same p.header.sender x)).holds l.0;
          adds = add;
          heads = subst (λ z. AreHeads z p.header.predecessors) r mk.heads;
          history = subst (λ z. IsHistory (p.header ∷ z)) r mk.history;
          all_valid = subst (λ z. AllValid G.rule G.inviter z) r (good G made.before at.1 p.header.sender).valid;
          valid = subst (λ z. MayFollow G.rule G.inviter z p.header) r mk.valid;
          unforked = unforked-where p.rows p.header o.0;
          rows_unforked = all_unforked-where p.rows q.0;
        },
        record { made = λ i. made },
      ) q.1

  step-sound : (w : Turns) (e : PlayEvent) (v : Turns) → Sound w → step w e ≡ Some v → Sound v
  unfolding step is_outsider
  step-sound w (Makes_it m to t) v s e = elim (test (can_make w m to)) [
    | no_is n ↦ let d : None ≡ Some v = rw (n, step) at e in cc
    | yes_is y ↦ elim (present (quick_parts G m.sender (log_of w m.sender) t (quick_payload G m.sender (log_of w m.sender) t m.kind) to)) [
      | gives_none n ↦ let d : None ≡ Some v = rw n at (rw (y, step) at e) in cc
      | gives parts g ↦
          let d : Some (record { who = m.sender; entry = Made (made_packet w m t parts) t } ∷ w) ≡ Some v = rw g at (rw (y, step) at e) in
          let f : (record { who = m.sender; entry = Made (made_packet w m t parts) t } ∷ w) ≡ v = cc in
          subst (λ z. Sound z) f (making w m to t parts s y g)
    ]
  ]
  step-sound w (Takes_it x i) v s e = elim (present (packet_made w i)) [
    | gives_none n ↦ let d : None ≡ Some v = rw (n, step) at e in cc
    | gives p g ↦ elim (test (can_take w x p)) [
      | no_is n ↦ let d : None ≡ Some v = rw (n, option_and_then) at (rw (g, step) at e) in cc
      | yes_is y ↦
          let d : Some (record { who = x; entry = Took p } ∷ w) ≡ Some v = rw (y, option_and_then) at (rw (g, step) at e) in
          let f : (record { who = x; entry = Took p } ∷ w) ≡ v = cc in
          subst (λ z. Sound z) f (taking w x p s (record { made = λ j. packet_made-where w i p g }) y)
    ]
  ]
  step-sound w (Joins_by x i) v s e = elim (present (packet_made w i)) [
    | gives_none n ↦ let d : None ≡ Some v = rw (n, step) at e in cc
    | gives p g ↦ elim (test (can_join w x p)) [
      | no_is n ↦ let d : None ≡ Some v = rw (n, option_and_then) at (rw (g, step) at e) in cc
      | yes_is y ↦
          let d : Some (record { who = x; entry = Joined p } ∷ w) ≡ Some v = rw (y, option_and_then) at (rw (g, step) at e) in
          let f : (record { who = x; entry = Joined p } ∷ w) ≡ v = cc in
          subst (λ z. Sound z) f (joining w x p s (packet_made-where w i p g) y)
    ]
  ]
  step-sound w (Hears_it x p) v s e = elim (test (both (opposite (has G.members p.header.sender)) (can_take w x p))) [
    | no_is n ↦ let d : None ≡ Some v = rw (n, step) at e in cc
    | yes_is y ↦
        let k = both-true (opposite (has G.members p.header.sender)) (can_take w x p) y in
        let d : Some (record { who = x; entry = Took p } ∷ w) ≡ Some v = rw (y, step) at e in
        let f : (record { who = x; entry = Took p } ∷ w) ≡ v = cc in
        subst (λ z. Sound z) f (taking w x p s (record { made = λ i. absurd ((says-not (says-has G.members p.header.sender)).holds k.0 i) }) k.1)
  ]

  -- the newest event first
  abbrev pub play : List PlayEvent → Option Turns
  play [] = Some []
  play (e ∷ es) = option_and_then (λ w. step w e) (play es)

  abbrev pub world_of : Option Turns → Turns
  world_of None = []
  world_of (Some w) = w

  play-sound : (es : List PlayEvent) (w : Turns) → play es ≡ Some w → Sound w
  play-sound [] w e = subst (λ z. Sound z) (let d : [] ≡ w = cc in d) (record { lawful = tt; distinct = record { same = λ a b i j d. elim i [ ] } })
  play-sound (f ∷ es) w e = elim (present (play es)) [
    | gives_none n ↦ let d : None ≡ Some w = rw n at e in cc
    | gives v g ↦ step-sound v f w (play-sound es v g) (rw g at e)
  ]

  -- what is played is lawful
  pub played-lawful : (es : List PlayEvent) → IsLawful G (world_of (play es))
  played-lawful es = elim (present (play es)) [
    | gives_none n ↦ rw n tt
    | gives w g ↦ rw g (play-sound es w g).lawful
  ]

  -- who is entitled to a message
  abbrev pub is_entitled : Turns → Id → Message → Bool
  is_entitled w x m = both (any (λ (a : Message). message_eq a m) (hist (log_of w x)))
      (both (each (λ (a : Message). is_made w a) (with_past (hist (log_of w x)) m)) (is_in_view G.rule (hist (log_of w x)) m x))

  pub entitled-where : (w : Turns) (x : Id) (m : Message) → is_entitled w x m ≡ true → IsEntitled G w x m
  entitled-where w x m e =
      let k = both-true (any (λ (a : Message). message_eq a m) (hist (log_of w x))) _ e in
      let l = both-true (each (λ (a : Message). is_made w a) (with_past (hist (log_of w x)) m)) _ k.1 in
      let f = any-true (λ (a : Message). message_eq a m) (hist (log_of w x)) k.0 in
      record {
        there_is = subst (λ z. In z (hist (log_of w x))) (same-message_eq f.0 m f.2) f.1;
        honest = record { made = λ a i. made-where w a (each-true (λ (a : Message). is_made w a) (with_past (hist (log_of w x)) m) l.0 a i) };
        in_view = (says-view G.rule (hist (log_of w x)) m x).holds l.1;
      }

-- who answers each operation at once
abbrev answers_nothing : Kind → Bool
answers_nothing (Create members) = true
answers_nothing Update = true
answers_nothing (Remove y) = true
answers_nothing (Add y) = true
answers_nothing (Ack o took) = false
answers_nothing (AddAck o) = false
answers_nothing Text = true

nothing-where : (k : Kind) → answers_nothing k ≡ true → (i : Id) → Answers k i → ⊥
nothing-where (Create members) e i a = a
nothing-where Update e i a = a
nothing-where (Remove y) e i a = a
nothing-where (Add y) e i a = a
nothing-where (Ack o took) e i a = cc
nothing-where (AddAck o) e i a = cc
nothing-where Text e i a = a

abbrev comes_after : Option Id → LogEntry → Bool
comes_after None (Joined p) = true
comes_after None (Took p) = true
comes_after None (Made p t) = answers_nothing p.header.kind
comes_after (Some o) (Joined p) = false
comes_after (Some o) (Took p) = false
comes_after (Some o) (Made p t) = answers p.header.kind o

after-where : (o : Option Id) (e : LogEntry) → comes_after o e ≡ true → Follows o e
after-where None (Joined p) e = tt
after-where None (Took p) e = tt
after-where None (Made p t) e = nothing-where p.header.kind e
after-where (Some o) (Joined p) e = cc
after-where (Some o) (Took p) e = cc
after-where (Some o) (Made p t) e = (says-answers p.header.kind o).holds e

abbrev pub at_once : Log → Bool
at_once [] = true
at_once (e ∷ l) = both (comes_after (waiting l) e) (at_once l)

pub at_once-where : (l : Log) → at_once l ≡ true → AnswersAtOnce l
at_once-where [] e = tt
at_once-where (f ∷ l) e = let k = both-true (comes_after (waiting l) f) (at_once l) e in
    (after-where (waiting l) f k.0, at_once-where l k.1)

-- the last welcome of a member
abbrev welcome_here : Id → LogEntry → Id → Option Packet → Option Packet
welcome_here who (Joined p) x older = elim (bytes_eq who x) [ true ↦ Some p | false ↦ older ]
welcome_here who (Took p) x older = older
welcome_here who (Made p t) x older = older

abbrev pub welcome_of : Turns → Id → Option Packet
welcome_of [] x = None
welcome_of (u ∷ w) x = welcome_here u.who u.entry x (welcome_of w x)

pub welcome-where : (w : Turns) (x : Id) (p : Packet) → welcome_of w x ≡ Some p → (v : Turns) × Moment w x (Joined p) v
welcome-where [] x p e = cc
welcome-where (u ∷ w) x p e = by u.who u.entry (λ d. welcome-where w x p d) e
  where
    by : (y : Id) (f : LogEntry) → (welcome_of w x ≡ Some p → (v : Turns) × Moment w x (Joined p) v) → welcome_here y f x (welcome_of w x) ≡ Some p
        → (v : Turns) × Moment (record { who = y; entry = f } ∷ w) x (Joined p) v
    by y (Took q) k e = let m = k e in (m.0, once m.1)
    by y (Made q t) k e = let m = k e in (m.0, once m.1)
    by y (Joined q) k e = elim (test (bytes_eq y x)) [
      | no_is n ↦ let m = k (rw (n, welcome_here) at e) in (m.0, once m.1)
      | yes_is d ↦
          let f : q ≡ p = (let g : Some q ≡ Some p = rw (d, welcome_here) at e in cc) in (
            w,
            subst (λ z. Moment (record { who = y; entry = Joined q } ∷ w) x (Joined z) w) f
                (subst (λ z. Moment (record { who = y; entry = Joined q } ∷ w) z (Joined q) w) ((says-same y x).holds d) now),
          )
    ]
