-- Lawful logs meet what the law of a step asks.
use Rattle.std.proofs.Common.{◌≡◌, true, false, inl, inr, List, [], ◌∷◌, Option, Some, None, refl, sym, ◌∙◌, ap, subst}
use Rattle.std.specs.Option.{option_and_then}
use Rattle.group_model.specs.Sets.{Bytes, Id, In, here, there}
use Rattle.group_model.specs.Messages.{Kind, Create, Update, Remove, Add, Ack, AddAck, Text, Message, History, past, IsHistory}
use Rattle.group_model.specs.Membership.{Named, IsAddressee}
use Rattle.group_model.specs.Validity.{Answers, MeetsKind, IsInTurn, AnswersOne, MayAck, MayAddAck, MayFollow, AllValid, IsUnforked, AreUnforked}
use Rattle.group_model.specs.Pairing.{Part}
use Rattle.group_model.specs.Settings.{Setting, Owner, owner_in}
use Rattle.group_model.specs.Packets.{Packet, Given, part_for}
use Rattle.group_model.specs.Logs.{LogEntry, Joined, Took, Made, header_of, Log, hist}
use Rattle.group_model.specs.Parts.{parts_of}
use Rattle.group_model.specs.LawfulLogs.{MakesPacket, MayEnter, IsLawfulLog}
use Rattle.group_model.specs.Worlds.{Turns, log_of}
use Rattle.group_model.specs.LawfulWorlds.{IsLawful}
use Rattle.group_model.proofs.ListFacts.{other_id}
use Rattle.group_model.proofs.Pasts.{past-within, same-message}
use Rattle.group_model.proofs.Valids.{valid-from}
use Rattle.group_model.proofs.PastsInside.{view-of_inner}
use Rattle.group_model.proofs.Unforked.{all_seen}
use Rattle.group_model.proofs.LogLaws.{Kept, log_kept, made_unforked}
use Rattle.group_model.proofs.Conduct.{answers-stand}
use Rattle.group_model.proofs.Worlds.{log-own, lawful_log}
use Rattle.group_model.proofs.Parts.{gives, gives_none, present, part_for-made}
use Rattle.group_model.proofs.Theorem.{agreement, text_agreement}
use Rattle.member_book.specs.Books.{BookState}
use Rattle.member_book.specs.BooksAfter.{book_after, learned, payload_of, part_by}
use Rattle.member_book.specs.Standing.{MayStill, BookStands, Fits}
use Rattle.member_book.specs.Laws.{book_of, part_of, and_then, BookAgrees, BookReads, NoneToSelf}
use Rattle.member_book.proofs.OfOwner.{learnt_at, learnt_of, text_of, payload_sent, part_with, part_sent}
use Rattle.member_book.proofs.Logs.{events-none, events-joined, events-took, events-made, learnt_of-newest, text_of-newest}
use Rattle.member_book.proofs.Step.{start_keeps, step_keeps, learns_same, opens_same, parts_same}

and_then-same : (f g : Bytes → Option Part) → ((v : Bytes) → f v ≡ g v) → (o : Option Bytes) → option_and_then f o ≡ option_and_then g o
and_then-same f g e None = refl
and_then-same f g e (Some v) = e v

-- lists of parts by functions that agree on the ids
parts-same : (f g : Id → Option Part) (ids : List Id) → ((y : Id) → In y ids → f y ≡ g y) → parts_of f ids ≡ parts_of g ids
parts-same f g [] e = refl
parts-same f g (y ∷ ids) e = rw (e y here) (rw (parts-same f g ids (λ z i. e z (there i))) refl)

module _ (O : Owner) where
  -- an ack with `took` that may follow, and that is not forked, is one that its sender may still make
  may-still : (h : History) (m : Message) → IsHistory h → MayFollow O.rule O.inviter h m → AllValid O.rule O.inviter h
      → AreUnforked h → IsUnforked h m → (i : Id) → m.kind ≡ Ack i true → MayStill O.rule h i m.sender
  may-still [] m g v w u n i e = let c : Ack i true ≡ Create v.members = sym e ∙ v.creates in absurd (cc)
  may-still (a ∷ h) m g v w u n i e =
      let p : History = past (a ∷ h) m.predecessors in
      let one : AnswersOne p m.sender i = subst (λ k. IsInTurn p m.sender k) e v.in_turn in
      let suits : MayAck O.rule p m.sender i true = subst (λ k. MeetsKind O.rule O.inviter p m.sender k) e v.suits in
      let o : Message = one.operation in
      let j : In o p = one.waits.there_is in
      record {
        operation = o;
        there_is = past-within (a ∷ h) m.predecessors j;
        has_id = one.has_id;
        suits = elim (suits o j one.has_id) [
          | inr d ↦ inr d
          | inl d ↦ (let q = d.1 refl in inl (d.0, (view-of_inner O.rule (a ∷ h) m.predecessors o m.sender g j).0 q.0, q.1))
        ];
        unacked = λ b took c d r. one.waits.unmet b (all_seen O.rule O.inviter (a ∷ h) m v w u n c d) d
            (subst (λ z. Answers z one.operation.id) (sym r) (sym one.has_id));
      }

  -- no message answers one that comes later
  new-id : (h : History) (m : Message) → IsHistory (m ∷ h) → Kept O h → (a : Message) → In a h → Answers a.kind m.id → ⊥
  new-id h m g k a i n = g.1 ((answers-stand O h k).stands_too a m.id i n)

  fits : (l : Log) → Kept O (hist l) → (e : LogEntry) → MayEnter O l e → Fits O l e
  fits l s (Joined p) f = record {
    history = f.history;
    fresh = λ q e. f.fresh;
    new = new-id p.rows p.header f.history (record { history = f.history.2; valid = f.all_valid; unforked = f.rows_unforked });
    may = λ i e. let c : Ack i true ≡ Add O.id = sym e ∙ f.adds in absurd (cc);
  }
  fits l s (Took p) f = record {
    history = f.history;
    fresh = λ q e. absurd (cc);
    new = new-id (hist l) p.header f.history s;
    may = may-still (hist l) p.header s.history f.valid s.valid s.unforked f.unforked;
  }
  fits l s (Made p t) f = record {
    history = f.history;
    fresh = λ q e. absurd (cc);
    new = new-id (hist l) p.header f.history s;
    may = may-still (hist l) p.header s.history f.valid s.valid s.unforked (made_unforked O l p t s f);
  }

  pub entry_keeps : (l : Log) (e : LogEntry) (b : BookState) → IsLawfulLog O l → MayEnter O l e → BookStands O l b
      → BookStands O (e ∷ l) (book_after O (hist l) e b) × (learned O e b ≡ learnt_at O e l)
  entry_keeps l e b g f k =
      let n : Fits O l e = fits l (log_kept O l g) e f in
      (step_keeps O l b k e n, learns_same O l b k e n)

  pub log_keeps : (l : Log) → IsLawfulLog O l → BookStands O l (book_of O l)
  log_keeps [] f = start_keeps O
  log_keeps (e ∷ l) f = (entry_keeps l e (book_of O l) f.1 f.0 (log_keeps l f.1)).0

  -- an ack that has a part has `took`
  payload_due : (l : Log) (p : Packet) (t : Given) (b : BookState) → Kept O (hist l) → MakesPacket O l p t → BookStands O l b
      → (kind : Kind) → p.header.kind ≡ kind → (y : Id) → IsAddressee O.rule (p.header ∷ hist l) p.header kind y
      → payload_of O t kind b ≡ payload_sent O l t kind
  payload_due l p t b s f k (Create members) e y i = refl
  payload_due l p t b s f k Update e y i = refl
  payload_due l p t b s f k (Remove z) e y i = refl
  payload_due l p t b s f k (Add z) e y i = k.ratchets O.id
  payload_due l p t b s f k (Ack o true) e y i = k.whole o O.id (subst (λ z. MayStill O.rule (hist l) o z) f.sender
      (may-still (hist l) p.header s.history f.valid s.valid s.unforked (made_unforked O l p t s f) o e))
  payload_due l p t b s f k (Ack o false) e y i = absurd i
  payload_due l p t b s f k (AddAck o) e y i = k.ratchets O.id
  payload_due l p t b s f k Text e y i = refl

  pub makes_same : (l : Log) (p : Packet) (t : Given) (b : BookState) → IsLawfulLog O l → (f : MakesPacket O l p t) → BookStands O l b
      → parts_of (part_of O p t b) f.addressees ≡ Some p.parts
  makes_same l p t b g f k = parts-same (part_of O p t b) (part_sent O l t p.header.kind) f.addressees (λ y i.
      ap (λ z. option_and_then (λ v. part_by O t y v b) z) (payload_due l p t b (log_kept O l g) f k p.header.kind refl y (f.to_whom.only y i))
      ∙ and_then-same (λ v. part_by O t y v b) (λ v. part_with O l t y v) (λ v. parts_same O l b k t y v) (payload_sent O l t p.header.kind)) ∙ f.parts

  -- a member is no addressee of its own message
  no_own_part : (l : Log) (p : Packet) (t : Given) → MakesPacket O l p t → (k : Kind) → p.header.kind ≡ k
      → IsAddressee O.rule (p.header ∷ hist l) p.header k O.id → ⊥
  no_own_part l p t f (Create members) e a = a.other (sym f.sender)
  no_own_part l p t f Update e a = a.other (sym f.sender)
  no_own_part l p t f (Remove y) e a = a.other (sym f.sender)
  no_own_part l p t f (Add y) e a = elim (valid-from O.rule O.inviter (hist l) p.header f.valid) [
    | inl o ↦ (let c : Add y ≡ Create o.members = sym e ∙ o.creates in cc)
    | inr v ↦ (let c : MeetsKind O.rule O.inviter (past (hist l) p.header.predecessors) p.header.sender (Add y)
        = subst (λ z. MeetsKind O.rule O.inviter (past (hist l) p.header.predecessors) p.header.sender z) e v.suits in
        c.0 (subst (λ z. Named (past (hist l) p.header.predecessors) z) (f.sender ∙ sym a) v.named))
  ]
  no_own_part l p t f (Ack i true) e a = a.other (sym f.sender)
  no_own_part l p t f (Ack i false) e a = a
  no_own_part l p t f (AddAck i) e a = elim (valid-from O.rule O.inviter (hist l) p.header f.valid) [
    | inl o ↦ (let c : AddAck i ≡ Create o.members = sym e ∙ o.creates in cc)
    | inr v ↦ (
        let q : History = past (hist l) p.header.predecessors in
        let one : AnswersOne q p.header.sender i = subst (λ z. IsInTurn q p.header.sender z) e v.in_turn in
        let may : MayAddAck q p.header.sender i = subst (λ z. MeetsKind O.rule O.inviter q p.header.sender z) e v.suits in
        let b = may one.operation one.waits.there_is one.has_id in
        let same : one.operation ≡ a.operation = same-message (p.header ∷ hist l) f.history
        (there (past-within (hist l) p.header.predecessors one.waits.there_is)) a.there_is (one.has_id ∙ sym a.has_id) in
        let adds : Add b.0 ≡ Add O.id = sym b.1 ∙ ap (λ (z : Message). z.kind) same ∙ a.adds in
        let who : b.0 ≡ O.id = cc in
        b.2 (who ∙ sym f.sender))
  ]
  no_own_part l p t f Text e a = a

pub none_to_self : NoneToSelf
none_to_self O [] n = events-none O O.id
none_to_self O (Joined p ∷ l) n = events-joined O O.id p l
    ∙ rw (other_id p.header.sender O.id n.0.other) (none_to_self O l n.1)
none_to_self O (Took p ∷ l) n = events-took O O.id p l
    ∙ rw (other_id p.header.sender O.id n.0.other) (none_to_self O l n.1)
none_to_self O (Made p t ∷ l) n = events-made O O.id p t l ∙ elim (present (part_for p.parts O.id)) [
  | gives_none d ↦ rw d (none_to_self O l n.1)
  | gives q d ↦ absurd (no_own_part O l p t n.0 p.header.kind refl (n.0.to_whom.only O.id
      (part_for-made (part_sent O l t p.header.kind) n.0.addressees p.parts n.0.parts O.id q d).0))
]

-- the newest entry of a lawful world
last_lawful : (G : Setting) (w : Turns) (x : Id) (e : LogEntry) → IsLawful G (and_then x e w) → IsLawfulLog (owner_in G x) (e ∷ log_of w x)
last_lawful G w x e l = subst (λ z. IsLawfulLog (owner_in G x) z) (log-own x e w) (lawful_log G (and_then x e w) l x)

pub book_agrees : BookAgrees
book_agrees G w x e l i k =
    let O : Owner = owner_in G x in
    let n : IsLawfulLog O (e ∷ log_of w x) = last_lawful G w x e l in
    (entry_keeps O (log_of w x) e (book_of O (log_of w x)) n.1 n.0 (log_keeps O (log_of w x) n.1)).1
    ∙ sym (learnt_of-newest O e (log_of w x)) ∙ ap (λ z. learnt_of O z (header_of e)) (sym (log-own x e w))
    ∙ (agreement G (and_then x e w) l x (header_of e) i k).1

pub book_reads : BookReads
book_reads G w x e l i d k =
    let O : Owner = owner_in G x in
    let n : IsLawfulLog O (e ∷ log_of w x) = last_lawful G w x e l in
    opens_same O (log_of w x) (book_of O (log_of w x)) (log_keeps O (log_of w x) n.1) e
    ∙ sym (text_of-newest O e (log_of w x)) ∙ ap (λ z. text_of O z (header_of e)) (sym (log-own x e w))
    ∙ text_agreement G (and_then x e w) l x (header_of e) i d k
