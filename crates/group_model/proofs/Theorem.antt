-- The agreement theorem.
use Rattle.std.proofs.Common.{Option, None, ◌≡◌, ◌≢◌, inl, inr, ◌∷◌, Some, refl, sym, ◌∙◌, subst, ap}
use Rattle.std.specs.Option.{option_map}
use Rattle.group_model.specs.Sets.{Id, In, here, there, Bytes}
use Rattle.group_model.specs.Messages.{Add, Text, Message, past}
use Rattle.group_model.specs.Membership.{InView}
use Rattle.group_model.specs.KeyTerms.{bytes, secret, message_key}
use Rattle.group_model.specs.Packets.{Packet, Given}
use Rattle.group_model.specs.Logs.{LogEntry, Joined, Took, Made, packet_of, header_of, Log, hist}
use Rattle.group_model.specs.Settings.{Setting, card_of}
use Rattle.group_model.specs.Knowledge.{text_by, text_sealed, text_opened}
use Rattle.group_model.specs.Worlds.{Turns, log_of, Turn, Moment, now, once}
use Rattle.group_model.specs.SharedSecrets.{ratchet, answer_term, motion_of}
use Rattle.group_model.specs.LawfulWorlds.{MayLeave, IsLawful}
use Rattle.group_model.specs.Agreement.{IsEntitled, MadeBy, HasHonestPast, ratchet_after, secret_made, EqualSecrets, AuthenticTexts}
use Rattle.group_model.proofs.InSetting.{text_at, text_of, chain_known, known, known_of, learnt_at, learnt_of, Makes}
use Rattle.group_model.proofs.Latest.{WhenMade, takes_only}
use Rattle.group_model.proofs.Agreement.{AllRight}
use Rattle.group_model.proofs.Steps.{AllRight-at}
use Rattle.group_model.proofs.Chains.{own_chain, Keeps, AllChain, AllChain-at, all_chain, prior_right}
use Rattle.group_model.proofs.ListFacts.{In-cases, In-head, In-nothing}
use Rattle.group_model.proofs.Worlds.{makes_all, own, apart, log_case, log-own, lawful_at, header-stands, clean_on, inside_at}
use Rattle.group_model.proofs.Latest.{past_forth, row_unseen}
use Rattle.group_model.proofs.Agreement.{secret-bytes, sender_is, and_then, known_after, Right, one_moment, SameMoment, stood, as_entry, as_row}
use Rattle.group_model.proofs.Steps.{moment_under, MakerOf, maker_of, lawful_under, CM, cm_before, cm_same}
use Rattle.group_model.proofs.Moves.{all_right, view_at}
use Rattle.group_model.proofs.Queues.{pays}
use Rattle.group_model.proofs.Knowing.{known_of-own as own_known_of, known_of-apart as apart_known_of, learnt_of-own as own_learnt_of, learnt_of-apart as apart_learnt_of, text_of-own as own_text_of, text_of-apart as apart_text_of}
use Rattle.group_model.proofs.MadeChains.{chain_made}

-- what was sealed under a chain opens under it
opened-sealed : (G : Setting) (chain : Option Bytes) (text sealed : Bytes) → text_sealed G.primitives chain text ≡ Some sealed
    → text_opened G.primitives chain sealed ≡ Some text
opened-sealed G None text sealed e = cc
opened-sealed G (Some k) text sealed e =
    let f : G.primitives.seal (message_key G.primitives k) text ≡ sealed = cc in
    ap (λ z. G.primitives.unseal (message_key G.primitives k) z) (sym f) ∙ G.primitives.unseal_seal (message_key G.primitives k) text

module _ (G : Setting) where
  known_of-own : (x : Id) (e : LogEntry) (l : Log) (m : Message) → (header_of e).id ≡ m.id → known_of G x (e ∷ l) m ≡ known G x (e ∷ l) m.sender
  known_of-own x e l m d = own_known_of G.primitives (card_of G x) x e l m d

  known_of-apart : (x : Id) (e : LogEntry) (l : Log) (m : Message) → (header_of e).id ≢ m.id → known_of G x (e ∷ l) m ≡ known_of G x l m
  known_of-apart x e l m d = apart_known_of G.primitives (card_of G x) x e l m d

  learnt_of-own : (x : Id) (e : LogEntry) (l : Log) (m : Message) → (header_of e).id ≡ m.id → learnt_of G x (e ∷ l) m ≡ learnt_at G x e l
  learnt_of-own x e l m d = own_learnt_of G.primitives (card_of G x) x e l m d

  learnt_of-apart : (x : Id) (e : LogEntry) (l : Log) (m : Message) → (header_of e).id ≢ m.id → learnt_of G x (e ∷ l) m ≡ learnt_of G x l m
  learnt_of-apart x e l m d = apart_learnt_of G.primitives (card_of G x) x e l m d

  -- a later entry has another id
  later_other : (u : Turn) (w : Turns) (x : Id) → IsLawful G (u ∷ w) → u.who ≡ x → log_of (u ∷ w) x ≡ u.entry ∷ log_of w x → {m : Message} → In m (hist (log_of w x)) → (header_of u.entry).id ≢ m.id
  later_other u w x l n q {m} i d = by u.entry (subst (λ z. MayLeave G w z u.entry) n l.0) d
    where
      by : (e : LogEntry) → MayLeave G w x e → (header_of e).id ≡ m.id → ⊥
      by (Joined p) f d = In-nothing (subst (λ z. In m (hist z)) f.0.fresh i)
      by (Took p) f d = f.0.history.1 (record { by = m; there_is = i; has_id = sym d })
      by (Made p t) f d = f.history.1 (record { by = m; there_is = i; has_id = sym d })

  pub known_of-at : {w v : Turns} {x : Id} {e : LogEntry} → Moment w x e v → IsLawful G w → (known_of G x (log_of w x) (header_of e) ≡ known G x (log_of (and_then x e v) x) (header_of e).sender)
      × (learnt_of G x (log_of w x) (header_of e) ≡ learnt_at G x e (log_of v x))
  known_of-at (now {x = x} {w = w} {e = e}) l = (
    ap (λ z. known_of G x z (header_of e)) (log-own x e w) ∙ known_of-own x e (log_of w x) (header_of e) refl ∙ ap (λ z. known G x z (header_of e).sender) (sym (log-own x e w)),
    ap (λ z. learnt_of G x z (header_of e)) (log-own x e w) ∙ learnt_of-own x e (log_of w x) (header_of e) refl,
  )
  known_of-at {x = x} {e = e} (once {w = w} {u = u} m) l =
      let ih = known_of-at m l.2 in
      let i : In (header_of e) (hist (log_of w x)) = header-stands G {e = e} l.2 m in
      elim (log_case u w x) [
        | apart n q ↦ (ap (λ z. known_of G x z (header_of e)) q ∙ ih.0, ap (λ z. learnt_of G x z (header_of e)) q ∙ ih.1)
        | own n q ↦ (
          ap (λ z. known_of G x z (header_of e)) q ∙ known_of-apart x u.entry (log_of w x) (header_of e) (later_other u w x l n q i) ∙ ih.0,
          ap (λ z. learnt_of G x z (header_of e)) q ∙ learnt_of-apart x u.entry (log_of w x) (header_of e) (later_other u w x l n q i) ∙ ih.1,
        )
      ]

  -- what a reader's honest past says of the maker's history
  pub honest_clean : (w : Turns) (x : Id) (m : Message) → IsLawful G w → In m (hist (log_of w x)) → HasHonestPast w (hist (log_of w x)) m → (k : MadeBy w m) → CM G m.sender k.packet k.given k.before
  honest_clean w x m l i hp k = clean_on G l k.moment m.sender (λ a j.
      let mk : Makes G m.sender (log_of k.before m.sender) k.packet k.given = (lawful_at G l k.moment).0 in
      let b : MadeBy w a = hp.made a (elim (In-cases (subst (λ z. In a (hist z)) (log-own m.sender (Made k.packet k.given) k.before) j)) [
        | inl e ↦ In-head (past (hist (log_of w x)) m.predecessors) (e ∙ k.is)
        | inr n ↦ there (past_forth G {e = Made k.packet k.given} l k.moment x i (subst (λ (z : Message). In a (past (hist (log_of k.before m.sender)) z.predecessors)) k.is (makes_all G mk a n)))
      ]) in
      record { packet = b.packet; given = b.given; before = b.before; moment = b.moment; is = b.is })

  record Both (x : Id) (w : Turns) (m : Message) (k : MadeBy w m) : Type 0 where
    ratchet_known : known_of G x (log_of w x) m ≡ Some (bytes G.primitives (ratchet_after G.primitives k))
    secret_learnt : learnt_of G x (log_of w x) m ≡ option_map (bytes G.primitives) (secret_made G.primitives k)

  -- at the entry of the message
  at_entry : (w : Turns) → IsLawful G w → (x : Id) (e : LogEntry) (v : Turns) → Moment w x e v → (k : MadeBy w (header_of e))
      → CM G (header_of e).sender k.packet k.given k.before → InView G.rule (hist (log_of w x)) (header_of e) x → Both x w (header_of e) k
  at_entry w l x e v mo k cl see =
      let right : Right G x e v = (all_right G w l (record { each = λ y f b n. pays G y f b (lawful_under G l n) })).right x e v mo in
      let mk : MakerOf G x e v = maker_of G x e v (lawful_at G l mo).0 (inside_at G l k.moment) in
      let same : SameMoment G (packet_of e) k.packet mk.given k.given mk.world k.before = one_moment G (moment_under mo mk.moment) k.moment l (sym k.is) in
      let ce : CM G (header_of e).sender (packet_of e) mk.given mk.world = cm_same G same refl cl in
      let seen = view_at G l mo see in
      let found = known_of-at mo l in
      record {
        ratchet_known = found.0 ∙ known_after G right mk.given mk.world mk.moment ce seen
            ∙ ap (λ z. Some (bytes G.primitives (ratchet G.primitives (and_then (header_of e).sender (Made z mk.given) mk.world) (header_of e).sender))) same.packets
            ∙ ap (λ z. Some (bytes G.primitives (ratchet G.primitives (and_then (header_of e).sender (Made k.packet z) mk.world) (header_of e).sender))) same.randoms
            ∙ ap (λ z. Some (bytes G.primitives (ratchet G.primitives (and_then (header_of e).sender (Made k.packet k.given) z) (header_of e).sender))) same.worlds;
        secret_learnt = found.1 ∙ rw (right.motion_is mk.given mk.world mk.moment ce seen, right.before_is mk.given mk.world mk.moment ce seen)
            (secret-bytes G (motion_of G.primitives (header_of e).kind (header_of e).sender mk.given (λ i. answer_term G.primitives mk.world i (header_of e).sender)) (ratchet G.primitives mk.world (header_of e).sender))
            ∙ ap (λ z. option_map (bytes G.primitives) (secret (motion_of G.primitives (header_of e).kind (header_of e).sender z (λ i. answer_term G.primitives mk.world i (header_of e).sender)) (ratchet G.primitives mk.world (header_of e).sender))) same.randoms
            ∙ ap (λ z. option_map (bytes G.primitives) (secret (motion_of G.primitives (header_of e).kind (header_of e).sender k.given (λ i. answer_term G.primitives z i (header_of e).sender)) (ratchet G.primitives z (header_of e).sender))) same.worlds;
      }

  agreed : (w : Turns) → IsLawful G w → (x : Id) (m : Message) → In m (hist (log_of w x)) → HasHonestPast w (hist (log_of w x)) m → InView G.rule (hist (log_of w x)) m x → (k : MadeBy w m) → Both x w m k
  agreed w l x m i hp see k = elim (stood G w x i) [
    | as_row p v n j ↦ absurd (row_unseen G l n j see)
    | as_entry e v mo d ↦ subst (λ z. (kz : MadeBy w z) → CM G z.sender kz.packet kz.given kz.before → InView G.rule (hist (log_of w x)) z x → Both x w z kz) d
        (λ kz cz sz. at_entry w l x e v mo kz cz sz) k (honest_clean w x m l i hp k) see
  ]

pub agreement : EqualSecrets
agreement G w l x m e k = let b = agreed G w l x m e.there_is e.honest e.in_view k in (b.ratchet_known, b.secret_learnt)

module _ (G : Setting) where
  text_of-own : (x : Id) (e : LogEntry) (l : Log) (m : Message) → (header_of e).id ≡ m.id → text_of G x (e ∷ l) m ≡ text_at G x e l
  text_of-own x e l m d = own_text_of G.primitives (card_of G x) x e l m d

  text_of-apart : (x : Id) (e : LogEntry) (l : Log) (m : Message) → (header_of e).id ≢ m.id → text_of G x (e ∷ l) m ≡ text_of G x l m
  text_of-apart x e l m d = apart_text_of G.primitives (card_of G x) x e l m d

  pub text_of-at : {w v : Turns} {x : Id} {e : LogEntry} → Moment w x e v → IsLawful G w
      → text_of G x (log_of w x) (header_of e) ≡ text_at G x e (log_of v x)
  text_of-at (now {x = x} {w = w} {e = e}) l =
      ap (λ z. text_of G x z (header_of e)) (log-own x e w) ∙ text_of-own x e (log_of w x) (header_of e) refl
  text_of-at {x = x} {e = e} (once {w = w} {u = u} m) l =
      let ih = text_of-at m l.2 in
      let i : In (header_of e) (hist (log_of w x)) = header-stands G {e = e} l.2 m in
      elim (log_case u w x) [
        | apart n q ↦ ap (λ z. text_of G x z (header_of e)) q ∙ ih
        | own n q ↦ ap (λ z. text_of G x z (header_of e)) q
            ∙ text_of-apart x u.entry (log_of w x) (header_of e) (later_other G u w x l n q i) ∙ ih
      ]

  -- a text at its reader's or its maker's entry
  text_here : (w : Turns) → IsLawful G w → (x : Id) (e : LogEntry) (v : Turns) → Moment w x e v → (header_of e).kind ≡ Text
      → (k : MadeBy w (header_of e)) → CM G (header_of e).sender k.packet k.given k.before
      → InView G.rule (hist (log_of w x)) (header_of e) x → text_at G x e (log_of v x) ≡ Some k.given.text
  text_here w l x (Joined p) v mo text k cl see =
      let f : MayLeave G v x (Joined p) = (lawful_at G l mo).0 in
      let n : Add x ≡ Text = sym f.0.adds ∙ text in cc
  text_here w l x (Made p t) v mo text k cl see =
      let s : p.header.sender ≡ x = sender_is G mo l in
      let same : SameMoment G k.packet p k.given t k.before v =
      one_moment G (subst (λ z. Moment w z (Made k.packet k.given) k.before) s k.moment) mo l k.is in
      ap (λ z. text_by z (Some t.text)) text ∙ ap (λ (z : Given). Some z.text) (sym same.randoms)
  text_here w l x (Took p) v mo text k cl see =
      let right : AllRight G w = all_right G w l (record { each = λ y f b n. pays G y f b (lawful_under G l n) }) in
      let chains : AllChain G w = all_chain G w l right (λ y f b n. pays G y f b (lawful_under G l n)) in
      let lv : IsLawful G (and_then x (Took p) v) = lawful_under G l mo in
      let lk : IsLawful G k.before = (lawful_at G l k.moment).1 in
      let mq : Makes G p.header.sender (log_of k.before p.header.sender) k.packet k.given = (lawful_at G l k.moment).0 in
      let mk : MakerOf G x (Took p) v = maker_of G x (Took p) v (lawful_at G l mo).0 (inside_at G l k.moment) in
      let same : SameMoment G p k.packet mk.given k.given mk.world k.before = one_moment G (moment_under mo mk.moment) k.moment l (sym k.is) in
      let ce : CM G p.header.sender p mk.given mk.world = cm_same G same refl cl in
      let reader : chain_known G x (log_of v x) p.header.sender ≡ chain_made G.primitives k.before p.header.sender =
      prior_right G x p v lv (AllRight-at G right mo) (AllChain-at G chains mo) (pays G x (Took p) v lv)
      mk.given mk.world (WhenMade takes_only mk.moment) ce (view_at G l mo see) (subst Keeps (sym text) tt)
      ∙ ap (λ z. chain_made G.primitives z p.header.sender) same.worlds in
      let maker : chain_known G p.header.sender (log_of k.before p.header.sender) p.header.sender ≡ chain_made G.primitives k.before p.header.sender =
      own_chain G k.before lk (AllChain-at G chains k.moment) p.header.sender (cm_before G l k.moment cl) in
      let sealed : text_sealed G.primitives (chain_known G x (log_of v x) p.header.sender) k.given.text ≡ Some p.sealed =
      ap (λ z. text_sealed G.primitives z k.given.text) (reader ∙ sym maker)
      ∙ mq.text (ap (λ (z : Message). z.kind) k.is ∙ text) ∙ ap (λ (z : Packet). Some z.sealed) (sym same.packets) in
      ap (λ z. text_by z (text_opened G.primitives (chain_known G x (log_of v x) p.header.sender) p.sealed)) text
      ∙ opened-sealed G (chain_known G x (log_of v x) p.header.sender) k.given.text p.sealed sealed

  texts_agreed : (w : Turns) → IsLawful G w → (x : Id) (m : Message) → IsEntitled G w x m → m.kind ≡ Text → (k : MadeBy w m)
      → text_of G x (log_of w x) m ≡ Some k.given.text
  texts_agreed w l x m en text k = elim (stood G w x en.there_is) [
    | as_row p v n j ↦ absurd (row_unseen G l n j en.in_view)
    | as_entry e v mo d ↦ subst (λ z. (kz : MadeBy w z) → CM G z.sender kz.packet kz.given kz.before → InView G.rule (hist (log_of w x)) z x
        → z.kind ≡ Text → text_of G x (log_of w x) z ≡ Some kz.given.text) d
        (λ kz cz sz tz. text_of-at mo l ∙ text_here w l x e v mo tz kz cz sz) k
        (honest_clean G w x m l en.there_is en.honest k) en.in_view text
  ]

pub text_agreement : AuthenticTexts
text_agreement G w l x m e text k = texts_agreed G w l x m e text k

-- two members that are entitled to a message know the same of it
pub agreement_between : (G : Setting) (w : Turns) (x y : Id) (m : Message) → IsLawful G w → IsEntitled G w x m → IsEntitled G w y m
    → (known_of G x (log_of w x) m ≡ known_of G y (log_of w y) m) × (learnt_of G x (log_of w x) m ≡ learnt_of G y (log_of w y) m)
agreement_between G w x y m l e f =
    let k : MadeBy w m = e.honest.made m here in
    let a = agreement G w l x m e k in
    let b = agreement G w l y m f k in
    (a.0 ∙ sym b.0, a.1 ∙ sym b.1)
