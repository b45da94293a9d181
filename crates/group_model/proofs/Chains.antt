-- The text chains.

use Rattle.std.proofs.Common.{◌≡◌, ◌≢◌, true, false, inl, inr, [], ◌∷◌, Option, None, refl, sym, ◌∙◌, subst, ap}
use Rattle.std.specs.Str.{bytes_eq}
use Rattle.std.specs.Option.{option_map}
use Rattle.group_model.specs.Sets.{Id, In, here, there, Bytes}
use Rattle.group_model.specs.Messages.{Kind, Create, Update, Remove, Add, Ack, AddAck, Text, Message, History, past}
use Rattle.group_model.specs.Membership.{InView}
use Rattle.group_model.specs.KeyTerms.{bytes, secret, chain_after, first_chain, next_chain}
use Rattle.group_model.specs.Packets.{Packet, Given}
use Rattle.group_model.specs.Logs.{LogEntry, Joined, Took, Made, packet_of, header_of, Log, hist}
use Rattle.group_model.specs.Settings.{Setting, card_of}
use Rattle.group_model.specs.Knowledge.{prior_chain}
use Rattle.group_model.specs.Worlds.{Turn, Turns, log_of, Moment, now, once}
use Rattle.group_model.specs.SharedSecrets.{ratchet, answer_term, motion_of}
use Rattle.group_model.specs.LawfulWorlds.{IsLawful}
use Rattle.group_model.proofs.InSetting.{learnt_at, chain_known}
use Rattle.group_model.proofs.ListFacts.{yes_is, no_is, test, same_id-true, other_id}
use Rattle.group_model.proofs.Pasts.{past-within}
use Rattle.group_model.proofs.Views.{LastOf, Hands, by_add, by_answer, first_view}
use Rattle.group_model.proofs.Worlds.{own, apart, log_case, log-own, log-none, moment_now, good, lawful_at, header-stands, MadeIn, named_once, rooted_at, each_at, inside_at}
use Rattle.group_model.proofs.Latest.{moment_on, at_head, before_it, when, MakesNone, joins_only, takes_only, WhenMade, QuietMade, q_here, q_who, q_none, Plain, QuietIn, i_here, i_who, i_other, made_none, made_last, latest_made, row_unseen, none_in, rows_in, last_in, latest_in}
use Rattle.group_model.proofs.Agreement.{secret-bytes, and_then, Right, AllRight, SameMoment, one_moment, sender_is}
use Rattle.group_model.proofs.Steps.{moment_under, sender_sees, lawful_under, MakerOf, maker_of, AllRight-before, cleaner, Cl, CM, cm_before, cm_of, cm_same, Pays, see_forth, past_here, to_maker, out_hm, in_earlier, see_there, of_sender, is_last, none_later, last_of}
use Rattle.group_model.proofs.Moves.{view_at}
use Rattle.group_model.proofs.Knowing.{chain-none as none_chain, chain-own as own_chain_known, chain-apart as apart_chain}
use Rattle.group_model.proofs.MadeChains.{chain_made}

-- the kind leaves the chain, or takes the next key of it
abbrev pub Keeps : Kind → Type 0
Keeps (Create members) = ⊥
Keeps Update = ⊥
Keeps (Remove y) = ⊥
Keeps (Add y) = ⊥
Keeps (Ack i true) = ⊥
Keeps (Ack i false) = Unit {0}
Keeps (AddAck i) = ⊥
Keeps Text = Unit {0}

chain_step-same : (G : Setting) (k : Kind) (a b p q : Option Bytes) → a ≡ b → (Keeps k → p ≡ q) → chain_after G.primitives k a p ≡ chain_after G.primitives k b q
chain_step-same G (Create members) a b p q e f = ap (option_map (first_chain G.primitives)) e
chain_step-same G Update a b p q e f = ap (option_map (first_chain G.primitives)) e
chain_step-same G (Remove y) a b p q e f = ap (option_map (first_chain G.primitives)) e
chain_step-same G (Add y) a b p q e f = ap (option_map (first_chain G.primitives)) e
chain_step-same G (Ack i true) a b p q e f = ap (option_map (first_chain G.primitives)) e
chain_step-same G (Ack i false) a b p q e f = f tt
chain_step-same G (AddAck i) a b p q e f = ap (option_map (first_chain G.primitives)) e
chain_step-same G Text a b p q e f = ap (option_map (next_chain G.primitives)) (f tt)

chain_made-none : (G : Setting) → (s : Id) → chain_made G.primitives [] s ≡ None
unfolding chain_made
chain_made-none G s = refl

chain_made-apart : (G : Setting) → (u : Turn) (w : Turns) (s : Id) → u.who ≢ s → chain_made G.primitives (u ∷ w) s ≡ chain_made G.primitives w s
unfolding chain_made
chain_made-apart G u w s n = rw (other_id u.who s n) refl

chain_made-kept : (G : Setting) → (x : Id) (e : LogEntry) (w : Turns) (s : Id) → MakesNone e → chain_made G.primitives (and_then x e w) s ≡ chain_made G.primitives w s
unfolding chain_made
chain_made-kept G x (Joined p) w s joins_only = elim (test (bytes_eq x s)) [ yes_is e ↦ rw e refl | no_is e ↦ rw e refl ]
chain_made-kept G x (Made p t) w s n = elim n [ ]
chain_made-kept G x (Took p) w s takes_only = elim (test (bytes_eq x s)) [ yes_is e ↦ rw e refl | no_is e ↦ rw e refl ]

chain_made-own : (G : Setting) → (s : Id) (p : Packet) (t : Given) (u : Turns) → chain_made G.primitives (and_then s (Made p t) u) s ≡ chain_after G.primitives p.header.kind (option_map (bytes G.primitives) (secret (motion_of G.primitives p.header.kind s t (λ i. answer_term G.primitives u i s)) (ratchet G.primitives u s))) (chain_made G.primitives u s)
unfolding chain_made
chain_made-own G s p t u = rw (same_id-true s) refl

chain-quiet_made : (G : Setting) → {s : Id} {from w : Turns} → QuietMade s from w → chain_made G.primitives w s ≡ chain_made G.primitives from s
chain-quiet_made G q_here = refl
chain-quiet_made G {s = s} (q_who {u = u} {w = w} n q) = chain_made-apart G u w s n ∙ chain-quiet_made G q
chain-quiet_made G {s = s} (q_none {u = u} {w = w} n q) = chain_made-kept G u.who u.entry w s n ∙ chain-quiet_made G q

module _ (G : Setting) where
  abbrev Law : Turns → Type 0
  Law = IsLawful G

  abbrev H : Turns → Id → History
  H w x = hist (log_of w x)

  chain_known-none : (x s : Id) → chain_known G x [] s ≡ None
  chain_known-none x s = none_chain G.primitives (card_of G x) x s

  chain_known-apart : (x : Id) (e : LogEntry) (l : Log) (s : Id) → (header_of e).sender ≢ s → chain_known G x (e ∷ l) s ≡ prior_chain e (chain_known G x l s)
  chain_known-apart x e l s n = apart_chain G.primitives (card_of G x) x e l s n

  chain_known-own : (x : Id) (e : LogEntry) (l : Log) → chain_known G x (e ∷ l) (header_of e).sender ≡ chain_after G.primitives (header_of e).kind (learnt_at G x e l) (prior_chain e (chain_known G x l (header_of e).sender))
  chain_known-own x e l = own_chain_known G.primitives (card_of G x) x e l (header_of e).sender refl

  plain_prior : (e : LogEntry) (k : Option Bytes) → Plain e → prior_chain e k ≡ k
  plain_prior (Joined p) k n = elim n [ ]
  plain_prior (Took p) k n = refl
  plain_prior (Made p t) k n = refl

  chain-quiet_in : {x s : Id} {from w : Turns} → QuietIn x s from w → chain_known G x (log_of w x) s ≡ chain_known G x (log_of from x) s
  chain-quiet_in i_here = refl
  chain-quiet_in {x = x} {s = s} (i_who {u = u} {w = w} n q) = elim (log_case u w x) [
    | apart m f ↦ ap (λ z. chain_known G x z s) f ∙ chain-quiet_in q
    | own m f ↦ absurd (n m)
  ]
  chain-quiet_in {x = x} {s = s} (i_other {u = u} {w = w} pl n q) = elim (log_case u w x) [
    | apart m f ↦ ap (λ z. chain_known G x z s) f ∙ chain-quiet_in q
    | own m f ↦ ap (λ z. chain_known G x z s) f ∙ chain_known-apart x u.entry (log_of w x) s n ∙ plain_prior u.entry _ pl ∙ chain-quiet_in q
  ]

  chain-alone : (x : Id) (l : Log) (s : Id) → ((a : Message) → In a (hist l) → a.sender ≢ s) → chain_known G x l s ≡ None
  chain-alone x [] s f = chain_known-none x s
  chain-alone x (Joined p ∷ l) s f = chain_known-apart x (Joined p) l s (f p.header here)
  chain-alone x (Took p ∷ l) s f = chain_known-apart x (Took p) l s (f p.header here) ∙ chain-alone x l s (λ a i. f a (there i))
  chain-alone x (Made p t ∷ l) s f = chain_known-apart x (Made p t) l s (f p.header here) ∙ chain-alone x l s (λ a i. f a (there i))

  -- the chain that is known after a message is that of its maker
  pub record RightChain (x : Id) (e : LogEntry) (v : Turns) : Type 0 where
    pub chain_is : (t : Given) (u : Turns) → Moment (and_then x e v) (header_of e).sender (Made (packet_of e) t) u → CM G (header_of e).sender (packet_of e) t u → InView G.rule (H (and_then x e v) x) (header_of e) x
        → chain_known G x (log_of (and_then x e v) x) (header_of e).sender ≡ chain_made G.primitives (and_then (header_of e).sender (Made (packet_of e) t) u) (header_of e).sender

  pub record AllChain (w : Turns) : Type 0 where
    pub right : (x : Id) (e : LogEntry) (v : Turns) → Moment w x e v → RightChain x e v

  learnt_right : {x : Id} {e : LogEntry} {v : Turns} → Right G x e v → (t : Given) (u : Turns) → Moment (and_then x e v) (header_of e).sender (Made (packet_of e) t) u → CM G (header_of e).sender (packet_of e) t u → InView G.rule (H (and_then x e v) x) (header_of e) x
      → learnt_at G x e (log_of v x) ≡ option_map (bytes G.primitives) (secret (motion_of G.primitives (header_of e).kind (header_of e).sender t (λ i. answer_term G.primitives u i (header_of e).sender)) (ratchet G.primitives u (header_of e).sender))
  learnt_right {x} {e} {v} r t u m cl see = rw (r.motion_is t u m cl see, r.before_is t u m cl see)
      (secret-bytes G (motion_of G.primitives (header_of e).kind (header_of e).sender t (λ i. answer_term G.primitives u i (header_of e).sender)) (ratchet G.primitives u (header_of e).sender))

  -- from the chain before the message
  chain_from : {x : Id} {e : LogEntry} {v : Turns} → Right G x e v → ((t : Given) (u : Turns) → Moment (and_then x e v) (header_of e).sender (Made (packet_of e) t) u → CM G (header_of e).sender (packet_of e) t u → InView G.rule (H (and_then x e v) x) (header_of e) x
      → Keeps (header_of e).kind → prior_chain e (chain_known G x (log_of v x) (header_of e).sender) ≡ chain_made G.primitives u (header_of e).sender) → RightChain x e v
  chain_from {x} {e} {v} r f = record {
    chain_is = λ t u m cl see.
        ap (λ z. chain_known G x z (header_of e).sender) (log-own x e v) ∙ chain_known-own x e (log_of v x)
        ∙ chain_step-same G (header_of e).kind _ _ _ _ (learnt_right r t u m cl see) (f t u m cl see)
        ∙ sym (chain_made-own G (header_of e).sender (packet_of e) t u);
  }

  AllChain-before : {u : Turn} {w : Turns} → AllChain (u ∷ w) → AllChain w
  AllChain-before a = record { right = λ x e v m. a.right x e v (once m) }

  pub AllChain-at : {w v : Turns} {x : Id} {e : LogEntry} → AllChain w → Moment w x e v → AllChain v
  AllChain-at a m = record { right = λ y f u k. a.right y f u (moment_on m k) }

  own_case : (x : Id) (e : LogEntry) (w : Turns) → Law (and_then x e w) → AllChain (and_then x e w) → Cl G (and_then x e w) x → chain_known G x (log_of w x) x ≡ chain_made G.primitives w x
      → chain_known G x (log_of (and_then x e w) x) x ≡ chain_made G.primitives (and_then x e w) x
  own_case x (Made p t) w l a cl ih =
      let s : p.header.sender ≡ x = l.0.sender in
      let m : Moment (and_then x (Made p t) w) p.header.sender (Made p t) w = subst (λ z. Moment (and_then x (Made p t) w) z (Made p t) w) (sym s) now in
      let i : In p.header (H (and_then x (Made p t) w) x) = header-stands G {e = Made p t} l now in
      let r : RightChain x (Made p t) w = a.right x (Made p t) w now in
      subst (λ z. chain_known G x (log_of (and_then x (Made p t) w) x) z ≡ chain_made G.primitives (and_then z (Made p t) w) z) s
      (r.chain_is t w m (subst (λ z. CM G z p t w) (sym s) cl)
      (subst (λ z. InView G.rule (H (and_then x (Made p t) w) x) p.header z) s (sender_sees G.rule G.is_rule G.inviter (H (and_then x (Made p t) w) x) (each_at G (and_then x (Made p t) w) l x) i)))
  own_case x (Took p) w l a cl ih =
      ap (λ z. chain_known G x z x) (log-own x (Took p) w) ∙ chain_known-apart x (Took p) (log_of w x) x l.0.0.other ∙ ih ∙ sym (chain_made-kept G x (Took p) w x takes_only)
  own_case x (Joined p) w l a cl ih =
      ap (λ z. chain_known G x z x) (log-own x (Joined p) w) ∙ chain_known-apart x (Joined p) (log_of w x) x l.0.0.other
      ∙ sym (chain_known-none x x) ∙ ap (λ z. chain_known G x z x) (sym l.0.0.fresh) ∙ ih ∙ sym (chain_made-kept G x (Joined p) w x joins_only)

  pub own_chain : (w : Turns) → Law w → AllChain w → (s : Id) → Cl G w s → chain_known G s (log_of w s) s ≡ chain_made G.primitives w s
  own_chain [] l a s cl = ap (λ z. chain_known G s z s) (log-none s) ∙ chain_known-none s s ∙ sym (chain_made-none G s)
  own_chain (u ∷ w) l a s cl = elim (log_case u w s) [
    | apart n q ↦ ap (λ z. chain_known G s z s) q ∙ own_chain w l.2 (AllChain-before a) s (cleaner G u w l s cl) ∙ sym (chain_made-apart G u w s n)
    | own n q ↦ subst (λ z. chain_known G z (log_of (u ∷ w) z) z ≡ chain_made G.primitives (u ∷ w) z) n
        (own_case u.who u.entry w l a (subst (λ z. Cl G (u ∷ w) z) (sym n) cl) (own_chain w l.2 (AllChain-before a) u.who (cleaner G u w l u.who (subst (λ z. Cl G (u ∷ w) z) (sym n) cl))))
  ]

  -- who is handed the ratchet gets it by a message that begins a chain
  hands_moves : {h : History} {m : Message} {x : Id} → Hands h m x → Keeps m.kind → ⊥
  hands_moves (by_add e) k = subst Keeps e k
  hands_moves (by_answer o i e a) k = subst Keeps e k

  module _ (x : Id) (p : Packet) (w : Turns) (l : Law (and_then x (Took p) w)) (right : AllRight G w) (chains : AllChain w) (pay : Pays G w x p) (t : Given) (u : Turns) (k : Moment w p.header.sender (Made p t) u) (cl : CM G p.header.sender p t u)
      (see : InView G.rule (H (and_then x (Took p) w) x) p.header x) where
    lw : Law u
    lw = (lawful_at G l.2 k).1

    clu : Cl G u p.header.sender
    clu = cm_before G l.2 k cl

    chain_entry : (q : Packet) (r : Given) (v : Turns) → Moment u p.header.sender (Made q r) v → InView G.rule (H (and_then x (Took p) w) x) q.header x
        → (f : LogEntry) (b : Turns) → Moment w x f b → header_of f ≡ q.header → chain_known G x (log_of (and_then x f b) x) p.header.sender ≡ chain_made G.primitives (and_then p.header.sender (Made q r) v) p.header.sender
    chain_entry q r v n seen f b mf d =
        let sd : (header_of f).sender ≡ p.header.sender = ap (λ (z : Message). z.sender) d ∙ sender_is G n lw in
        let mk : MakerOf G x f b = maker_of G x f b (lawful_at G l.2 mf).0 (subst (λ z. In z G.members) (sym sd) (inside_at G l.2 k)) in
        let old : Moment w p.header.sender (Made (packet_of f) mk.given) mk.world = subst (λ z. Moment w z (Made (packet_of f) mk.given) mk.world) sd (moment_under mf mk.moment) in
        let same : SameMoment G (packet_of f) q mk.given r mk.world v = one_moment G old (moment_on k n) l.2 d in
        let view : InView G.rule (H (and_then x f b) x) (header_of f) x = view_at G l (once mf) (subst (λ z. InView G.rule (H (and_then x (Took p) w) x) z x) (sym d) seen) in
        let rc' : RightChain x f b = chains.right x f b mf in
        subst (λ z. chain_known G x (log_of (and_then x f b) x) z ≡ chain_made G.primitives (and_then z (Made (packet_of f) mk.given) mk.world) z) sd
        (rc'.chain_is mk.given mk.world mk.moment (cm_same G same sd (cm_of G lw clu n (header-stands G {e = Made q r} lw n))) view)
        ∙ ap (λ z. chain_made G.primitives (and_then p.header.sender (Made z mk.given) mk.world) p.header.sender) same.packets
        ∙ ap (λ z. chain_made G.primitives (and_then p.header.sender (Made q z) mk.world) p.header.sender) same.randoms
        ∙ ap (λ z. chain_made G.primitives (and_then p.header.sender (Made q r) z) p.header.sender) same.worlds

    pub prior_right : Keeps p.header.kind → chain_known G x (log_of w x) p.header.sender ≡ chain_made G.primitives u p.header.sender
    prior_right keeps = elim (latest_made G u lw p.header.sender) [
      | made_none r none quiet ↦
          let lone : (a : Message) → In a (H w x) → a.sender ≢ p.header.sender = λ a i d.
          let made : MadeIn G w a = of_sender G x p w l right pay t u k cl see i d in
          let early' : In made.packet.header (H u p.header.sender) = none_later G x p (Took p) refl w l t u k l.0.0.history.1 i d made.packet made.given made.before
          (subst (λ z. Moment w z (Made made.packet made.given) made.before) d made.moment) made.is in
          let again : MadeIn G u made.packet.header = clu.all made.packet.header early' in
          none again.packet again.given again.before (subst (λ z. Moment u z (Made again.packet again.given) again.before) (ap (λ (z : Message). z.sender) made.is ∙ d) again.moment) in
          chain-alone x (log_of w x) p.header.sender lone ∙ sym (chain_made-none G p.header.sender) ∙ sym (chain-quiet_made G quiet)
      | made_last q r v n same all quiet ↦
          let lm : Law (and_then p.header.sender (Made p t) u) = lawful_under G l.2 k in
          let last : LastOf (H (and_then p.header.sender (Made p t) u) p.header.sender) p.header q.header = last_of G p.header.sender p t u lm clu q r v n all in
          let q_u : In q.header (H u p.header.sender) = out_hm G p.header.sender p t u lm clu last.there_is in
          let q_here : In q.header (past (H (and_then x (Took p) w) x) p.header.predecessors) = past_here G x p (Took p) refl w l t u k q_u in
          let old : In q.header (H w x) = in_earlier G x p w l right pay t u k cl see q_here in
          let m_hm : In p.header (H (and_then p.header.sender (Made p t) u) p.header.sender) = to_maker G x p (Took p) refl w l t u k p.header here in
          elim (first_view G.rule G.is_rule G.inviter (H (and_then p.header.sender (Made p t) u) p.header.sender) (good G (and_then p.header.sender (Made p t) u) lm p.header.sender).history
          (named_once G (and_then p.header.sender (Made p t) u) lm p.header.sender cl) (rooted_at G (and_then p.header.sender (Made p t) u) lm p.header.sender) (each_at G (and_then p.header.sender (Made p t) u) lm p.header.sender)
          m_hm last (λ z. l.0.0.other (sym z)) (subst (λ z. InView G.rule (hist z) p.header x) (sym (log-own p.header.sender (Made p t) u)) (see_there G x p w l right pay t u k cl see))) [
            | inr hands ↦ absurd (hands_moves hands keeps)
            | inl seen_hm ↦
                let seen : InView G.rule (H (and_then x (Took p) w) x) q.header x = see_forth G x p (Took p) refl w l t u k (there q_u) (past-within (H (and_then x (Took p) w) x) p.header.predecessors q_here) (subst (λ z. InView G.rule (hist z) q.header x) (log-own p.header.sender (Made p t) u) seen_hm) in
                elim (latest_in G w l.2 x p.header.sender) [
                  | none_in kn f ↦ absurd (f q.header old last.sender)
                  | rows_in p0 v0 m0 r0 i0 e0 f0 ↦ absurd (row_unseen G l (once m0) (f0 q.header old last.sender) seen)
                  | last_in f b mf e kn a still ↦ chain-quiet_in still
                      ∙ chain_entry q r v n seen f b mf (is_last G x p w l right pay t u k cl see q r v n all f b mf e (a q.header old last.sender)) ∙ sym (chain-quiet_made G quiet)
                ]
          ]
    ]

  step : (x : Id) (e : LogEntry) (w : Turns) → Law (and_then x e w) → AllRight G w → Right G x e w → AllChain w → Pays G w x (packet_of e) → RightChain x e w
  step x (Took p) w l right r chains pay = chain_from r (λ t u m cl see keeps. prior_right x p w l right chains pay t u (WhenMade takes_only m) cl see keeps)
  step x (Joined p) w l right r chains pay = chain_from r (λ t u m cl see keeps. absurd (subst Keeps l.0.0.adds keeps))
  step x (Made p t) w l right r chains pay =
      let mine : Moment (and_then x (Made p t) w) p.header.sender (Made p t) w = subst (λ z. Moment (and_then x (Made p t) w) z (Made p t) w) (sym l.0.sender) now in
      chain_from r (λ t' u m cl see keeps.
      let same : SameMoment G p p t t' w u = one_moment G mine m l refl in
      subst (λ z. chain_known G x (log_of w x) z ≡ chain_made G.primitives w z) (sym l.0.sender) (own_chain w l.2 chains x (cleaner G _ w l x (cm_same G same (sym l.0.sender) cl)))
      ∙ ap (λ z. chain_made G.primitives z p.header.sender) same.worlds)

  pub all_chain : (w : Turns) → Law w → AllRight G w → ((x : Id) (e : LogEntry) (v : Turns) → Moment w x e v → Pays G v x (packet_of e)) → AllChain w
  all_chain [] l a pay = record { right = λ x e v m. elim m [ ] }
  all_chain (u ∷ w) l a pay =
      let ih : AllChain w = all_chain w l.2 (AllRight-before G a) (λ x e v m. pay x e v (once m)) in
      record {
        right = λ x e v m. elim (when m) [
          | before_it k ↦ ih.right x e v k
          | at_head d g h ↦ subst (λ z. RightChain z e v) d (subst (λ z. RightChain u.who z v) g (subst (λ z. RightChain u.who u.entry z) (sym h)
              (step u.who u.entry w l (AllRight-before G a) (a.right u.who u.entry w (moment_now u w)) ih (pay u.who u.entry w (moment_now u w)))))
        ];
      }
