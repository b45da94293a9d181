-- The law of a step: the book after an entry keeps what the longer log says.
use Rattle.std.proofs.Common.{◌≡◌, ◌≢◌, true, false, inl, inr, [], ◌∷◌, Some, None, refl, sym, ◌∙◌, ap, subst}
use Rattle.std.specs.Option.{option_and_then}
use Rattle.group_model.specs.Sets.{Bytes, Id, In, here}
use Rattle.group_model.specs.Messages.{Kind, Create, Update, Remove, Add, Ack, AddAck, Text}
use Rattle.group_model.specs.KeyTerms.{empty_ratchet, turned_known, secret_known, chain_after}
use Rattle.group_model.specs.Pairing.{draws, Draws, part_to}
use Rattle.group_model.specs.Settings.{Owner}
use Rattle.group_model.specs.Packets.{Packet, Given, part_for}
use Rattle.group_model.specs.Logs.{LogEntry, Joined, Took, Made, header_of, rows_of, Log, hist}
use Rattle.group_model.specs.Knowledge.{or_else, prior_of, prior_chain, handed_by, heard_part, heard, sent_part, payload_in, answer_by, motion_known, text_by, text_opened}
use Rattle.group_model.proofs.ListFacts.{In-nothing}
use Rattle.group_model.proofs.Parts.{gives, gives_none, present}
use Rattle.group_model.proofs.Views.{same_or_not}
use Rattle.group_model.proofs.ListFacts.{same_id-true, other_id}
use Rattle.member_book.proofs.Logs.{known-none, known-own, known-apart}
use Rattle.member_book.specs.Books.{BookState, welcomed, open_from}
use Rattle.member_book.specs.BooksAfter.{payload_of, part_by, part_opens, seed_at, forward_at, readied, book_after, learned, text_in}
use Rattle.member_book.specs.Standing.{MayStill, BookStands, Fits, StartKeeps}
use Rattle.member_book.proofs.Moved.{put-own, put-apart, moved-ratchet, moved-chain, gained-secret, moved-apart, moved-events, welcomed-ratchet, welcomed-chain, welcomed-events, welcomed-kept}
use Rattle.member_book.proofs.Logs.{answer-none, answer-own, answer-apart, chain-none, chain-own, chain-apart, events-none, events-joined, events-took, events-made, motion-same, answer-forward}
use Rattle.member_book.proofs.Kept.{moved-kept, moved-less, moved-due, moved-named, moved-spent, still-due, still-older, due-still, older-still}
use Rattle.member_book.proofs.OfOwner.{events, payload, seed_known, forwarded, ratchet_before, known, answer_known, chain_known, learnt_at, text_at, payload_sent, part_with}

pub start_keeps : StartKeeps
start_keeps O = record {
  ratchets = λ s. sym (known-none O s);
  chains = λ s. sym (chain-none O s);
  pairings = λ y. sym (events-none O y);
  whole = λ i s y. sym (answer-none O i s None);
  only = λ i s v e. cc;
}

module _ (O : Owner) (l : Log) (b : BookState) (k : BookStands O l b) where
  pub same-payload : (p : Packet) → part_opens O p b ≡ payload O l p
  same-payload p = ap (λ z. payload_in O.primitives O.card z (part_for p.parts O.id)) (k.pairings p.header.sender)

  same-seed : (e : LogEntry) → seed_at O e b ≡ seed_known O e l
  same-seed (Joined p) = refl
  same-seed (Took p) = same-payload p
  same-seed (Made p t) = refl

  same-forward : (e : LogEntry) → forward_at O e b ≡ forwarded O e l
  same-forward (Joined p) = refl
  same-forward (Took p) = same-payload p
  same-forward (Made p t) = refl

  -- before the first entry nothing is known
  first-ratchet : l ≡ [] → (t : Id) → b.ratchet t ≡ Some empty_ratchet
  first-ratchet e t = k.ratchets t ∙ ap (λ z. known O z t) e ∙ known-none O t

  first-chain : l ≡ [] → (t : Id) → b.chain t ≡ None
  first-chain e t = k.chains t ∙ ap (λ z. chain_known O z t) e ∙ chain-none O t

  first-kept : l ≡ [] → (i s : Id) → b.kept i s ≡ None
  first-kept e i s = elim (present (b.kept i s)) [
    | gives_none d ↦ d
    | gives v d ↦ absurd (In-nothing (subst (λ z. In (k.only i s v d).operation (hist z)) e (k.only i s v d).there_is))
  ]

  -- what the parts of an entry do to the book
  readied-own : (e : LogEntry) → Fits O l e → (readied O e b).ratchet (header_of e).sender
      ≡ ratchet_before O e l (prior_of e (known O l (header_of e).sender) (header_of e).sender)
  readied-own (Joined p) f =
      put-own (welcomed O.primitives p.rows b).ratchet p.header.sender _
      ∙ ap (λ z. or_else (handed_by O.id p.header.kind (payload_in O.primitives O.card z (part_for p.parts O.id))) ((welcomed O.primitives p.rows b).ratchet p.header.sender))
      (welcomed-events O p.rows b p.header.sender ∙ k.pairings p.header.sender)
      ∙ ap (λ z. or_else (handed_by O.id p.header.kind (payload O l p)) z)
      (welcomed-ratchet O p.rows b p.header.sender (first-ratchet (f.fresh p refl) p.header.sender))
  readied-own (Took p) f =
      put-own b.ratchet p.header.sender _
      ∙ ap (λ z. or_else (handed_by O.id p.header.kind z) (b.ratchet p.header.sender)) (same-payload p)
      ∙ ap (λ z. or_else (handed_by O.id p.header.kind (payload O l p)) z) (k.ratchets p.header.sender)
  readied-own (Made p t) f = k.ratchets p.header.sender

  readied-apart : (e : LogEntry) → Fits O l e → (t : Id) → (header_of e).sender ≢ t
      → (readied O e b).ratchet t ≡ prior_of e (known O l t) t
  readied-apart (Joined p) f t n =
      put-apart (welcomed O.primitives p.rows b).ratchet p.header.sender _ t (other_id p.header.sender t n)
      ∙ welcomed-ratchet O p.rows b t (first-ratchet (f.fresh p refl) t)
  readied-apart (Took p) f t n = put-apart b.ratchet p.header.sender _ t (other_id p.header.sender t n) ∙ k.ratchets t
  readied-apart (Made p r) f t n = k.ratchets t

  readied-chain : (e : LogEntry) → Fits O l e → (t : Id) → (readied O e b).chain t ≡ prior_chain e (chain_known O l t)
  readied-chain (Joined p) f t = welcomed-chain O p.rows b t (first-chain (f.fresh p refl) t)
  readied-chain (Took p) f t = k.chains t
  readied-chain (Made p r) f t = k.chains t

  opened-events : (p : Packet) (c : BookState) → ((y : Id) → c.events y ≡ events O y l) → (y : Id)
      → (open_from O.primitives O.card p.header.sender (part_for p.parts O.id) c).events y ≡ heard O.primitives O.card O.id y p (events O y l)
  opened-events p c q y = elim (same_or_not p.header.sender y) [
    | inr n ↦ put-apart c.events p.header.sender _ y (other_id p.header.sender y n) ∙ q y
        ∙ rw (other_id p.header.sender y n) refl
    | inl d ↦ subst (λ z. (open_from O.primitives O.card p.header.sender (part_for p.parts O.id) c).events z ≡ heard O.primitives O.card O.id z p (events O z l)) d
        (put-own c.events p.header.sender _
        ∙ ap (λ z. heard_part O.primitives O.card (part_for p.parts O.id) z) (q p.header.sender)
        ∙ rw (same_id-true p.header.sender) refl)
  ]

  readied-events : (e : LogEntry) (y : Id) → (readied O e b).events y ≡ events O y (e ∷ l)
  readied-events (Joined p) y = opened-events p (welcomed O.primitives p.rows b) (λ z. welcomed-events O p.rows b z ∙ k.pairings z) y
      ∙ sym (events-joined O y p l)
  readied-events (Took p) y = opened-events p b k.pairings y ∙ sym (events-took O y p l)
  readied-events (Made p t) y = ap (λ z. sent_part O.primitives y t (part_for p.parts y) z) (k.pairings y) ∙ sym (events-made O y p t l)

  readied-kept : (e : LogEntry) (i t : Id) → (readied O e b).kept i t ≡ b.kept i t
  readied-kept (Joined p) i t = welcomed-kept O p.rows b i t
  readied-kept (Took p) i t = refl
  readied-kept (Made p r) i t = refl

  -- what is kept is of the history below the entry's message
  only_older : (e : LogEntry) → Fits O l e → (i t : Id) (v : Bytes) → b.kept i t ≡ Some v → MayStill O.rule (rows_of e (hist l)) i t
  only_older (Joined p) f i t v q = let n : None ≡ Some v = sym (first-kept (f.fresh p refl) i t) ∙ q in absurd (cc)
  only_older (Took p) f i t v q = k.only i t v q
  only_older (Made p r) f i t v q = k.only i t v q

  whole_older : (e : LogEntry) → Fits O l e → (i t : Id) → (header_of e).id ≢ i → MayStill O.rule (header_of e ∷ rows_of e (hist l)) i t
      → b.kept i t ≡ answer_known O l i t None
  whole_older (Joined p) f i t n y = first-kept (f.fresh p refl) i t ∙ sym (ap (λ z. answer_known O z i t None) (f.fresh p refl) ∙ answer-none O i t None)
  whole_older (Took p) f i t n y = k.whole i t (still-older O (hist l) p.header i t f.history n y)
  whole_older (Made p r) f i t n y = k.whole i t (still-older O (hist l) p.header i t f.history n y)

  module _ (e : LogEntry) (f : Fits O l e) where
    same-answer : (i : Id) → (header_of e).kind ≡ Ack i true
        → or_else ((readied O e b).kept i (header_of e).sender) (forward_at O e b)
        ≡ answer_known O l i (header_of e).sender (forwarded O e l)
    same-answer i n =
        ap (λ z. or_else z (forward_at O e b)) (readied-kept e i (header_of e).sender ∙ k.whole i (header_of e).sender (f.may i n))
        ∙ ap (λ z. or_else (answer_known O l i (header_of e).sender None) z) (same-forward e)
        ∙ sym (answer-forward O l i (header_of e).sender (forwarded O e l))

    same-motion : motion_known O.primitives (header_of e).kind (header_of e).sender (seed_at O e b)
        (λ i. or_else ((readied O e b).kept i (header_of e).sender) (forward_at O e b))
        ≡ motion_known O.primitives (header_of e).kind (header_of e).sender (seed_known O e l)
        (λ i. answer_known O l i (header_of e).sender (forwarded O e l))
    same-motion = motion-same O.primitives (header_of e).kind (header_of e).sender (seed_at O e b) _ _ same-answer
        ∙ ap (λ z. motion_known O.primitives (header_of e).kind (header_of e).sender z (λ i. answer_known O l i (header_of e).sender (forwarded O e l))) (same-seed e)

    pub learns_same : learned O e b ≡ learnt_at O e l
    learns_same = gained-secret O (header_of e).kind (header_of e) (seed_at O e b) (forward_at O e b) (readied O e b)
        ∙ ap (λ z. secret_known O.primitives z ((readied O e b).ratchet (header_of e).sender)) same-motion
        ∙ ap (λ z. secret_known O.primitives (motion_known O.primitives (header_of e).kind (header_of e).sender (seed_known O e l)
        (λ i. answer_known O l i (header_of e).sender (forwarded O e l))) z) (readied-own e f)

    abbrev after : BookState
    after = book_after O (hist l) e b

    after-ratchet : (t : Id) → after.ratchet t ≡ known O (e ∷ l) t
    after-ratchet t = elim (same_or_not (header_of e).sender t) [
      | inr n ↦ (moved-apart O (header_of e).kind (header_of e ∷ rows_of e (hist l)) (header_of e) (seed_at O e b) (forward_at O e b) (readied O e b) t (other_id _ t n)).0
          ∙ readied-apart e f t n ∙ sym (known-apart O e l t n)
      | inl d ↦ subst (λ z. after.ratchet z ≡ known O (e ∷ l) z) d
          (moved-ratchet O (header_of e).kind (header_of e ∷ rows_of e (hist l)) (header_of e) (seed_at O e b) (forward_at O e b) (readied O e b)
          ∙ ap (λ z. turned_known O.primitives z ((readied O e b).ratchet (header_of e).sender)) same-motion
          ∙ ap (λ z. turned_known O.primitives (motion_known O.primitives (header_of e).kind (header_of e).sender (seed_known O e l)
          (λ i. answer_known O l i (header_of e).sender (forwarded O e l))) z) (readied-own e f)
          ∙ sym (known-own O e l (header_of e).sender refl))
    ]

    after-chain : (t : Id) → after.chain t ≡ chain_known O (e ∷ l) t
    after-chain t = elim (same_or_not (header_of e).sender t) [
      | inr n ↦ (moved-apart O (header_of e).kind (header_of e ∷ rows_of e (hist l)) (header_of e) (seed_at O e b) (forward_at O e b) (readied O e b) t (other_id _ t n)).1
          ∙ readied-chain e f t ∙ sym (chain-apart O e l t n)
      | inl d ↦ subst (λ z. after.chain z ≡ chain_known O (e ∷ l) z) d
          (moved-chain O (header_of e).kind (header_of e ∷ rows_of e (hist l)) (header_of e) (seed_at O e b) (forward_at O e b) (readied O e b)
          ∙ ap (λ z. chain_after O.primitives (header_of e).kind z ((readied O e b).chain (header_of e).sender)) learns_same
          ∙ ap (λ z. chain_after O.primitives (header_of e).kind (learnt_at O e l) z) (readied-chain e f (header_of e).sender)
          ∙ sym (chain-own O e l (header_of e).sender refl))
    ]

    after-events : (y : Id) → after.events y ≡ events O y (e ∷ l)
    after-events y = moved-events O (header_of e).kind (header_of e ∷ rows_of e (hist l)) (header_of e) (seed_at O e b) (forward_at O e b) (readied O e b) y
        ∙ readied-events e y

    -- nothing is kept of the new message yet
    new-kept : (t : Id) → (readied O e b).kept (header_of e).id t ≡ None
    new-kept t = elim (present ((readied O e b).kept (header_of e).id t)) [
      | gives_none d ↦ d
      | gives v d ↦ (let y = only_older e f (header_of e).id t v (sym (readied-kept e (header_of e).id t) ∙ d) in
          absurd (f.history.1 (record { by = y.operation; there_is = y.there_is; has_id = y.has_id })))
    ]

    new-answer : (t : Id) → answer_by O.primitives (header_of e).kind t (seed_at O e b) ((readied O e b).ratchet (header_of e).sender) None
        ≡ answer_known O (e ∷ l) (header_of e).id t None
    new-answer t =
        ap (λ z. answer_by O.primitives (header_of e).kind t z ((readied O e b).ratchet (header_of e).sender) None) (same-seed e)
        ∙ ap (λ z. answer_by O.primitives (header_of e).kind t (seed_known O e l) z None) (readied-own e f)
        ∙ sym (answer-own O e l (header_of e).id t None refl)

    after-whole : (i t : Id) → MayStill O.rule (hist (e ∷ l)) i t → after.kept i t ≡ answer_known O (e ∷ l) i t None
    after-whole i t y = elim (same_or_not (header_of e).id i) [
      | inl d ↦ subst (λ z. after.kept z t ≡ answer_known O (e ∷ l) z t None) d
          (moved-due O (header_of e).kind (header_of e ∷ rows_of e (hist l)) (header_of e) (seed_at O e b) (forward_at O e b) (readied O e b) t (new-kept t)
          (still-due O (rows_of e (hist l)) (header_of e) t f.history (subst (λ z. MayStill O.rule (hist (e ∷ l)) z t) (sym d) y))
          ∙ new-answer t)
      | inr n ↦ moved-kept O (header_of e).kind (header_of e ∷ rows_of e (hist l)) (header_of e) (seed_at O e b) (forward_at O e b) (readied O e b) i t n
          (λ j took c q r. y.unacked (header_of e) took here r (subst (λ z. (header_of e).kind ≡ Ack z took) q c))
          ∙ readied-kept e i t ∙ whole_older e f i t n y ∙ sym (answer-apart O e l i t None n)
    ]

    after-only : (i t : Id) (v : Bytes) → after.kept i t ≡ Some v → MayStill O.rule (hist (e ∷ l)) i t
    after-only i t v q = elim (same_or_not (header_of e).id i) [
      | inl d ↦ subst (λ z. MayStill O.rule (hist (e ∷ l)) z t) d (due-still O (rows_of e (hist l)) (header_of e) t f.new
          (moved-named O (header_of e).kind (header_of e ∷ rows_of e (hist l)) (header_of e) (seed_at O e b) (forward_at O e b) (readied O e b) t v (new-kept t)
          (subst (λ z. after.kept z t ≡ Some v) (sym d) q)))
      | inr n ↦ older-still O (rows_of e (hist l)) (header_of e) i t f.history
          (λ took r c. let x : after.kept i t ≡ None = subst (λ z. after.kept i z ≡ None) r
          (moved-spent O took (header_of e).kind (header_of e ∷ rows_of e (hist l)) (header_of e) (seed_at O e b) (forward_at O e b) (readied O e b) i c) in
          let y : None ≡ Some v = sym x ∙ q in cc)
          (only_older e f i t v (sym (readied-kept e i t)
          ∙ moved-less O (header_of e).kind (header_of e ∷ rows_of e (hist l)) (header_of e) (seed_at O e b) (forward_at O e b) (readied O e b) i t v n q))
    ]

    pub step_keeps : BookStands O (e ∷ l) after
    step_keeps = record {
      ratchets = after-ratchet;
      chains = after-chain;
      pairings = after-events;
      whole = after-whole;
      only = after-only;
    }

  pub opens_same : (e : LogEntry) → text_in O e b ≡ text_at O e l
  opens_same (Joined p) = refl
  opens_same (Took p) =
      ap (λ z. text_by p.header.kind (text_opened O.primitives z p.sealed)) (k.chains p.header.sender)
  opens_same (Made p t) = refl

  pub sends_same : (t : Given) (kind : Kind) → ((i : Id) → kind ≡ Ack i true → MayStill O.rule (hist l) i O.id)
      → payload_of O t kind b ≡ payload_sent O l t kind
  sends_same t (Create members) y = refl
  sends_same t Update y = refl
  sends_same t (Remove x) y = refl
  sends_same t (Add x) y = k.ratchets O.id
  sends_same t (Ack i true) y = k.whole i O.id (y i refl)
  sends_same t (Ack i false) y = refl
  sends_same t (AddAck i) y = k.ratchets O.id
  sends_same t Text y = refl

  pub parts_same : (t : Given) (y : Id) (v : Bytes) → part_by O t y v b ≡ part_with O l t y v
  parts_same t y v = ap (λ z. option_and_then (λ (d : Draws). part_to O.primitives (O.public_key y) z d v) (draws O.primitives t.random y)) (k.pairings y)
