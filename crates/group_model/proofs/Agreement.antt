-- What a member knows of a message that it sees is what its maker's terms say.
use Rattle.std.proofs.Common.{◌≡◌, ◌≢◌, inl, inr, [], ◌∷◌, Option, Some, refl, sym, ◌∙◌, subst, ap}
use Rattle.std.specs.Option.{option_map}
use Rattle.group_model.specs.Sets.{Id, In, there, Bytes}
use Rattle.group_model.specs.Messages.{Message, History, past, with_past, IsHistory}
use Rattle.group_model.specs.Membership.{IsSeeded, InView}
use Rattle.group_model.specs.KeyTerms.{Term, bytes, seed_of, turned_bytes, turned, secret, secret_bytes, Motion, Stays, Once, Twice}
use Rattle.group_model.specs.Packets.{Packet, Given}
use Rattle.group_model.specs.Logs.{LogEntry, Joined, Took, Made, packet_of, header_of, Log, rows_of, hist}
use Rattle.group_model.specs.Settings.{Setting, card_of}
use Rattle.group_model.specs.Knowledge.{answer_by, prior_of, motion_known}
use Rattle.group_model.specs.Worlds.{Turn, Turns, log_of, Moment, now, once}
use Rattle.group_model.specs.SharedSecrets.{ratchet, answer_term, answer_entry, answer_term_by, motion_of}
use Rattle.group_model.specs.LawfulWorlds.{MayLeave, IsLawful}
use Rattle.group_model.proofs.InSetting.{known, seed_known, forwarded, ratchet_before, answer_known, Makes}
use Rattle.group_model.proofs.ListFacts.{In-nothing, In-cases, In-head, same_id-true, other_id, equal_id}
use Rattle.group_model.proofs.Pasts.{with_past-history, past-apart, deps-stand, Agree}
use Rattle.group_model.proofs.Views.{same_or_not}
use Rattle.group_model.proofs.Worlds.{own, apart, log_case, log-own, log-none, moment_now, hist-more, lawful_at, header-stands, Clean}
use Rattle.group_model.proofs.Latest.{at_head, before_it, when, known-own}
use Rattle.group_model.proofs.Knowing.{answer-none as none_answer, answer-own as own_answer, answer-apart as apart_answer}
use Rattle.group_model.specs.Primitives.{Primitives}

-- one more turn
abbrev pub and_then : Id → LogEntry → Turns → Turns
and_then x e v = record { who = x; entry = e } ∷ v

-- a view is the same in each history that has the message
pub view_moved : (G : Setting) (h k : History) → IsHistory h → IsHistory k → Agree h k → Agree k h → {m : Message} → In m h → In m k
    → {x : Id} → InView G.rule h m x → InView G.rule k m x
view_moved G h k g f a b {m} i j {x} v = G.is_rule.set_alone (with_past h m) (with_past k m) x (with_past-history h g i) (with_past-history k f j)
    (record {
      each = λ z. elim (In-cases z) [
        | inl e ↦ In-head (past k m.predecessors) e
        | inr q ↦ there (past-apart h k g f a m.predecessors (deps-stand k f j) q)
      ];
    })
    (record {
      each = λ z. elim (In-cases z) [
        | inl e ↦ In-head (past h m.predecessors) e
        | inr q ↦ there (past-apart k h f g b m.predecessors (deps-stand h g i) q)
      ];
    }) v

-- a motion of terms, in bytes
abbrev pub motion_bytes : Primitives → Motion Term → Motion Bytes
motion_bytes K Stays = Stays
motion_bytes K (Once i) = Once (bytes K i)
motion_bytes K Twice = Twice

pub turned-bytes : (G : Setting) → (m : Motion Term) (r : Term) → turned_bytes G.primitives (motion_bytes G.primitives m) (bytes G.primitives r) ≡ bytes G.primitives (turned m r)
turned-bytes G Stays r = refl
turned-bytes G (Once i) r = refl
turned-bytes G Twice r = refl

pub secret-bytes : (G : Setting) (m : Motion Term) (r : Term) → secret_bytes G.primitives (motion_bytes G.primitives m) (bytes G.primitives r)
    ≡ option_map (bytes G.primitives) (secret m r)
secret-bytes G Stays r = refl
secret-bytes G (Once i) r = refl
secret-bytes G Twice r = refl

pub ratchet-own : (G : Setting) → (s : Id) (p : Packet) (t : Given) (u : Turns) → ratchet G.primitives (and_then s (Made p t) u) s ≡ turned (motion_of G.primitives p.header.kind s t (λ i. answer_term G.primitives u i s)) (ratchet G.primitives u s)
unfolding ratchet answer_term
ratchet-own G s p t u = rw (same_id-true s) refl

module _ (G : Setting) where
  -- the whole history of the message was made by members
  abbrev pub CleanMade : (s : Id) → Packet → Given → Turns → Type 0
  CleanMade s p t u = Clean G (and_then s (Made p t) u) s

  -- the three things that a member knows of a message that it sees
  pub record Right (x : Id) (e : LogEntry) (v : Turns) : Type 0 where
    pub before_is : (t : Given) (u : Turns) → Moment (and_then x e v) (header_of e).sender (Made (packet_of e) t) u → CleanMade (header_of e).sender (packet_of e) t u → InView G.rule (hist (log_of (and_then x e v) x)) (header_of e) x
        → ratchet_before G x e (log_of v x) (prior_of e (known G x (log_of v x) (header_of e).sender) (header_of e).sender) ≡ Some (bytes G.primitives (ratchet G.primitives u (header_of e).sender))
    pub seed_is : (t : Given) (u : Turns) → Moment (and_then x e v) (header_of e).sender (Made (packet_of e) t) u → CleanMade (header_of e).sender (packet_of e) t u → InView G.rule (hist (log_of (and_then x e v) x)) (header_of e) x
        → IsSeeded (header_of e).kind → seed_known G x e (log_of v x) ≡ Some (seed_of G.primitives t.random)
    pub motion_is : (t : Given) (u : Turns) → Moment (and_then x e v) (header_of e).sender (Made (packet_of e) t) u → CleanMade (header_of e).sender (packet_of e) t u → InView G.rule (hist (log_of (and_then x e v) x)) (header_of e) x
        → motion_known G.primitives (header_of e).kind (header_of e).sender (seed_known G x e (log_of v x)) (λ i. answer_known G x (log_of v x) i (header_of e).sender (forwarded G x e (log_of v x)))
        ≡ Some (motion_bytes G.primitives (motion_of G.primitives (header_of e).kind (header_of e).sender t (λ i. answer_term G.primitives u i (header_of e).sender)))

  pub record AllRight (w : Turns) : Type 0 where
    pub right : (x : Id) (e : LogEntry) (v : Turns) → Moment w x e v → Right x e v

  -- what is known after the message
  pub known_after : {x : Id} {e : LogEntry} {v : Turns} → Right x e v → (t : Given) (u : Turns) → Moment (and_then x e v) (header_of e).sender (Made (packet_of e) t) u → CleanMade (header_of e).sender (packet_of e) t u → InView G.rule (hist (log_of (and_then x e v) x)) (header_of e) x
      → known G x (log_of (and_then x e v) x) (header_of e).sender ≡ Some (bytes G.primitives (ratchet G.primitives (and_then (header_of e).sender (Made (packet_of e) t) u) (header_of e).sender))
  known_after {x} {e} {v} r t u m cl see =
      ap (λ z. known G x z (header_of e).sender) (log-own x e v)
      ∙ known-own G x e (log_of v x) (header_of e).sender refl
      ∙ rw (r.motion_is t u m cl see, r.before_is t u m cl see) (ap (λ z. Some z) (turned-bytes G (motion_of G.primitives (packet_of e).header.kind (header_of e).sender t (λ i. answer_term G.primitives u i (header_of e).sender)) (ratchet G.primitives u (header_of e).sender) ∙ ap (bytes G.primitives) (sym (ratchet-own G (header_of e).sender (packet_of e) t u))))

  -- one moment for a made message
  pub record SameMoment (p q : Packet) (t r : Given) (v u : Turns) : Type 0 where
    pub packets : p ≡ q
    pub randoms : t ≡ r
    pub worlds : v ≡ u

  fresh_made : (w : Turns) {x s : Id} {p : Packet} {t : Given} {k : LogEntry} {a : Message} → MayLeave G w x k → k ≡ Made p t → x ≡ s → In a (hist (log_of w s)) → a.id ≡ p.header.id → ⊥
  fresh_made w {x} {s} {p} {t = t} {k} {a} fits d n i h =
      let mk : Makes G x (log_of w x) p t = subst (λ z. MayLeave G w x z) d fits in
      mk.history.1 (record { by = a; there_is = subst (λ z. In a (hist (log_of w z))) (sym n) i; has_id = h })

  one_moment_of : {w v u : Turns} {s s' : Id} {p q : Packet} {t r : Given} {e f : LogEntry} → Moment w s e v → Moment w s' f u → IsLawful G w → s ≡ s' → e ≡ Made p t → f ≡ Made q r → p.header ≡ q.header → SameMoment p q t r v u
  one_moment_of now now l n d e h = let g : Made _ _ ≡ Made _ _ = sym d ∙ e in record { packets = cc; randoms = cc; worlds = refl }
  one_moment_of (now {w = w}) (once m) l n d e h = absurd (fresh_made w l.0 d n (header-stands G l.2 m) (ap (λ z. (header_of z).id) e ∙ ap (λ (z : Message). z.id) (sym h)))
  one_moment_of (once m) (now {w = w}) l n d e h = absurd (fresh_made w l.0 e (sym n) (header-stands G l.2 m) (ap (λ z. (header_of z).id) d ∙ ap (λ (z : Message). z.id) h))
  one_moment_of (once m) (once k) l n d e h = one_moment_of m k l.2 n d e h

  pub one_moment : {w v u : Turns} {s : Id} {p q : Packet} {t r : Given} → Moment w s (Made p t) v → Moment w s (Made q r) u → IsLawful G w → p.header ≡ q.header → SameMoment p q t r v u
  one_moment m k l h = one_moment_of m k l refl refl refl h

  -- a message of a history is an entry or a row
  pub data Stood (w : Turns) (x : Id) (a : Message) : Type 0 where
    as_entry : (e : LogEntry) (v : Turns) → Moment w x e v → header_of e ≡ a → Stood w x a
    as_row : (p : Packet) (v : Turns) → Moment w x (Joined p) v → In a p.rows → Stood w x a

  Stood-once : {w : Turns} {u : Turn} {x : Id} {a : Message} → Stood w x a → Stood (u ∷ w) x a
  Stood-once (as_entry e v m i) = as_entry e v (once m) i
  Stood-once (as_row p v m i) = as_row p v (once m) i

  mine : (u : Turn) (w : Turns) (x : Id) (e : LogEntry) → u.entry ≡ e → u.who ≡ x → Moment (u ∷ w) x e w
  mine u w x e d n = subst (λ z. Moment (u ∷ w) z e w) n (subst (λ z. Moment (u ∷ w) u.who z w) d (moment_now u w))

  pub stood : (w : Turns) (x : Id) {a : Message} → In a (hist (log_of w x)) → Stood w x a
  stood [] x {a} i = absurd (In-nothing (subst (λ z. In a (hist z)) (log-none x) i))
  stood (u ∷ w) x {a} i = elim (log_case u w x) [
    | apart n q ↦ Stood-once (stood w x (subst (λ z. In a (hist z)) q i))
    | own n q ↦ elim (In-cases (subst (λ z. In a (hist z)) q i)) [
      | inl e ↦ as_entry u.entry w (mine u w x u.entry refl n) (sym e)
      | inr j ↦ below u.entry refl n j (λ k. Stood-once (stood w x k))
    ]
  ]
    where
      below : (e : LogEntry) → u.entry ≡ e → u.who ≡ x → In a (rows_of u.entry (hist (log_of w x))) → (In a (hist (log_of w x)) → Stood (u ∷ w) x a) → Stood (u ∷ w) x a
      below (Joined p) d n j k = as_row p w (mine u w x (Joined p) d n) (subst (λ z. In a (rows_of z (hist (log_of w x)))) d j)
      below (Took p) d n j k = k (subst (λ z. In a (rows_of z (hist (log_of w x)))) d j)
      below (Made p t) d n j k = k (subst (λ z. In a (rows_of z (hist (log_of w x)))) d j)

  -- the knowledge that an entry adds on an operation
  abbrev pub from_entry : (x : Id) → LogEntry → Turns → (s : Id) → Option Bytes → Option Bytes
  from_entry x e v s forward = answer_by G.primitives (header_of e).kind s (seed_known G x e (log_of v x))
      (ratchet_before G x e (log_of v x) (prior_of e (known G x (log_of v x) (header_of e).sender) (header_of e).sender)) forward

  pub data Answered (w : Turns) (x i s : Id) (forward : Option Bytes) : Type 0 where
    from_one : (e : LogEntry) (v : Turns) → Moment w x e v → (header_of e).id ≡ i → answer_known G x (log_of w x) i s forward ≡ from_entry x e v s forward → Answered w x i s forward
    from_none : answer_known G x (log_of w x) i s forward ≡ forward → ((e : LogEntry) (v : Turns) → Moment w x e v → (header_of e).id ≢ i) → Answered w x i s forward

  answer-none : (x i s : Id) (forward : Option Bytes) → answer_known G x [] i s forward ≡ forward
  answer-none x i s forward = none_answer G.primitives (card_of G x) x i s forward

  answer-own : (x i s : Id) (forward : Option Bytes) (e : LogEntry) (v : Turns) → (header_of e).id ≡ i → answer_known G x (e ∷ log_of v x) i s forward ≡ from_entry x e v s forward
  answer-own x i s forward e v d = own_answer G.primitives (card_of G x) x e (log_of v x) i s forward d

  answer-apart : (x i s : Id) (forward : Option Bytes) (e : LogEntry) (l : Log) → (header_of e).id ≢ i → answer_known G x (e ∷ l) i s forward ≡ answer_known G x l i s forward
  answer-apart x i s forward e l d = apart_answer G.primitives (card_of G x) x e l i s forward d

  pub answer_of : (w : Turns) (x i s : Id) (forward : Option Bytes) → Answered w x i s forward
  answer_of [] x i s forward = from_none (ap (λ z. answer_known G x z i s forward) (log-none x) ∙ answer-none x i s forward) (λ e v m. elim m [ ])
  answer_of (u ∷ w) x i s forward = elim (log_case u w x) [
    | apart n q ↦ elim (answer_of w x i s forward) [
      | from_one e v m d k ↦ from_one e v (once m) d (ap (λ z. answer_known G x z i s forward) q ∙ k)
      | from_none k f ↦ from_none (ap (λ z. answer_known G x z i s forward) q ∙ k) (λ e v m. elim (when m) [ at_head a b d ↦ absurd (n a) | before_it j ↦ f e v j ])
    ]
    | own n q ↦ elim (same_or_not (header_of u.entry).id i) [
      | inl d ↦ from_one u.entry w (mine u w x u.entry refl n) d (ap (λ z. answer_known G x z i s forward) q ∙ answer-own x i s forward u.entry w d)
      | inr d ↦ elim (answer_of w x i s forward) [
        | from_one e v m g k ↦ from_one e v (once m) g (ap (λ z. answer_known G x z i s forward) q ∙ answer-apart x i s forward u.entry (log_of w x) d ∙ k)
        | from_none k f ↦ from_none (ap (λ z. answer_known G x z i s forward) q ∙ answer-apart x i s forward u.entry (log_of w x) d ∙ k)
            (λ e v m. elim (when m) [ at_head a b g ↦ (λ z. d (ap (λ y. (header_of y).id) b ∙ z)) | before_it j ↦ f e v j ])
      ]
    ]
  ]

  -- the term that a made operation gives to its answers
  answer_term-made : (x : Id) (p : Packet) (t : Given) (w : Turns) (i s : Id) → p.header.id ≡ i → answer_term G.primitives (and_then x (Made p t) w) i s ≡ answer_term_by G.primitives p.header.kind t (ratchet G.primitives w x) s
  unfolding ratchet answer_term
  answer_term-made x p t w i s d = rw (equal_id p.header.id i d) refl

  answer_term-kept : (u : Turn) (w : Turns) (i s : Id) → ((p : Packet) (t : Given) → u.entry ≡ Made p t → p.header.id ≢ i) → answer_term G.primitives (u ∷ w) i s ≡ answer_term G.primitives w i s
  unfolding ratchet answer_term
  answer_term-kept u w i s f = by u.entry f
    where
      by : (e : LogEntry) → ((p : Packet) (t : Given) → e ≡ Made p t → p.header.id ≢ i) → answer_entry G.primitives e i (ratchet G.primitives w u.who) s (answer_term G.primitives w i s) ≡ answer_term G.primitives w i s
      by (Joined p) f = refl
      by (Took p) f = refl
      by (Made p t) f = rw (other_id p.header.id i (f p t refl)) refl

  pub sender_is : {w v : Turns} {z : Id} {q : Packet} {t : Given} → Moment w z (Made q t) v → IsLawful G w → q.header.sender ≡ z
  sender_is {v = v} {z} {q} {t} m l = let mk : Makes G z (log_of v z) q t = (lawful_at G l m).0 in mk.sender

  pub answer_term-at : {w v : Turns} {z : Id} {q : Packet} {t : Given} {e : LogEntry} → Moment w z e v → e ≡ Made q t → IsLawful G w → (s : Id) → answer_term G.primitives w q.header.id s ≡ answer_term_by G.primitives q.header.kind t (ratchet G.primitives v z) s
  answer_term-at {z = z} {q} {t} (now {w = w}) d l s = ap (λ k. answer_term G.primitives (and_then z k w) q.header.id s) d ∙ answer_term-made z q t w q.header.id s refl
  answer_term-at {z = z} {q} {t} (once {w = w} {v = v} {u = u} m) d l s =
      answer_term-kept u w q.header.id s (λ p r g h.
      let mk : Makes G u.who (log_of w u.who) p r = subst (λ k. MayLeave G w u.who k) g l.0 in
      let k : Moment w z (Made q t) v = subst (λ k. Moment w z k v) d m in
      let i : In p.header (hist (log_of (u ∷ w) u.who)) = subst (λ k. In (header_of k) (hist (log_of (u ∷ w) u.who))) g (header-stands G l (moment_now u w)) in
      let j : In q.header (hist (log_of (u ∷ w) z)) = hist-more G u w l z (header-stands G l.2 k) in
      let same : p.header ≡ q.header = l.1.same u.who z p.header q.header i j h in
      fresh_made w l.0 g (sym mk.sender ∙ ap (λ (k : Message). k.sender) same ∙ sender_is k l.2) (header-stands G l.2 k) (ap (λ (z : Message). z.id) (sym same)))
      ∙ answer_term-at m d l.2 s
