-- Whom answers are due to.
use Rattle.std.proofs.Common.{◌≡◌, ◌↔◌, ℕ, zero, suc, ◌<◌, ◌≤◌, Bool, true, false, List, [], ◌∷◌, length, refl, sym, ◌∙◌, ap, subst, arith}
use Rattle.group_fields.specs.declared.header.Header.{Header}
use Rattle.group_fields.specs.declared.ids.Digest.{Digest}
use Rattle.group_model.specs.Sets.{Id, In, IsBelow, here, there}
use Rattle.group_model.specs.Messages.{Ack, Add, AddAck, Message, History, IsHistory, AreHeads}
use Rattle.group_model.specs.Membership.{IsAddressee, IsForwardedTo, IsHandedTo, IsMembershipRule, MovesNobody, ids_named, joined, named_by}
use Rattle.group_model.specs.Marks.{IsCrowd, IsPlace}
use Rattle.group_model.proofs.Ascending.{below-not_self}
use Rattle.group_model.proofs.ListFacts.{test, yes_is, no_is}
use Rattle.group_model.proofs.Pasts.{same-message}
use Rattle.group_messages.specs.Messages.{ids_of, kind_of, message_of}
use Rattle.causal_history.specs.Rows.{Row, history_of}
use Rattle.causal_cast.proofs.CrowdSets.{crowd-by}
use Rattle.body_parts.specs.declared.addressing.Receiver.{Receiver}
use Rattle.body_parts.specs.Receivers.{AreReceivers, id_to, ids_to}
use Rattle.forwarding.specs.Answers.{IsAnswerOf}
use Rattle.next_messages.specs.Due.{IsDueTo, IsNew, message_with}
use Rattle.next_messages.proofs.Addressed.{addressed-placed, heads-stand}
use Rattle.next_messages.proofs.Drawing.{receiver-at}

below : (ids : List Id) (p : ℕ) (x : Id) → IsPlace ids p x → p < length ids
below [] p x e = absurd cc
below (i ∷ ids) zero x e = omega arith
below (i ∷ ids) (suc p) x e = let k = below ids p x e in omega arith

-- the pasts serve for the whole history
abbrev pub OverItself : Type 0
OverItself = (rule : History → List Id) (h : History) (m : Message) → IsHistory (m ∷ h) → (y : Id)
    → IsAddressee rule (m ∷ h) m m.kind y ↔ IsAddressee rule h m m.kind y

module _ (rule : History → List Id) (rows : List Row) (header : Header) (bits : ℕ → Bool) (me : ℕ) (o : Id)
    (kind : kind_of header ≡ Ack o true) (history : IsHistory (history_of rows))
    (heads : AreHeads (history_of rows) (ids_of header.predecessors))
    (place : IsPlace (ids_named (history_of rows)) me header.sender.0.0)
    (crowd : (m : Message) → IsAnswerOf (history_of rows) me m
    → IsCrowd (ids_named (history_of rows)) bits (λ y. IsForwardedTo rule (history_of rows) o m y))
    (digest : Digest) (new : IsNew rows (message_with header digest)) where
  abbrev h : History
  h = history_of rows

  abbrev m : Message
  m = message_with header digest

  stands : IsHistory (m ∷ h)
  stands = (heads-stand h (ids_of header.predecessors) heads, new, history)

  answers : IsAnswerOf h me m
  answers = record {
    history = stands;
    heads = heads;
    sender = place;
    moves_nobody = subst MovesNobody (sym kind) (record { names_nobody = λ y n. n; removes_nobody = λ y r. r });
  }

  named : ids_named (m ∷ h) ≡ ids_named h
  named = ap (λ k. joined (ids_named h) (named_by k)) kind

  pub forwarded-crowd : OverItself → IsCrowd (ids_named h) bits (λ y. IsAddressee rule (m ∷ h) m m.kind y)
  forwarded-crowd serve = crowd-by (ids_named h) bits (λ y. IsForwardedTo rule h o m y) (λ y. IsAddressee rule (m ∷ h) m m.kind y)
      (crowd m answers)
      (λ y a. (serve rule h m stands y).1 (subst (λ k. IsAddressee rule h m k y) (sym kind) a))
      (λ y a. subst (λ k. IsAddressee rule h m k y) kind ((serve rule h m stands y).0 a))

  pub forwarded-placed : IsMembershipRule rule → (y : Id) → IsAddressee rule (m ∷ h) m m.kind y → In y (ids_named h)
  forwarded-placed is_rule y a = subst (λ l. In y l) named (addressed-placed rule is_rule h m y a)

  own-out : bits me ≡ false
  own-out = elim (test (bits me)) [
    | no_is e ↦ e
    | yes_is e ↦ absurd ((((crowd m answers).each me m.sender place).0 e).other refl)
  ]

  pub forwarded-few : (to : List Receiver) → AreReceivers (ids_named h) bits to → length to ≤ 31
  forwarded-few to are = are.fewer me (below (ids_named h) me m.sender place) own-out

-- who is handed the ratchet is whom the add names
handed-one : (rule : History → List Id) (h : History) → IsHistory h → (i : Id) (m n : Message) (y z : Id) → IsHandedTo rule h i m y
    → IsHandedTo rule h i n z → y ≡ z
handed-one rule h history i m n y z a b =
    let same : a.operation ≡ b.operation = same-message h history a.there_is b.there_is (a.has_id ∙ sym b.has_id) in
    let adds : Add y ≡ Add z = sym a.adds ∙ ap (λ (w : Message). w.kind) same ∙ b.adds in
    cc

-- ids that are one and ascend are one at most
one-at_most : (to : List Receiver) (ids : List Id) (bits : ℕ → Bool) → AreReceivers ids bits to
    → ((y z : Id) → In y (ids_to to) → In z (ids_to to) → y ≡ z) → length to ≤ 1
one-at_most [] ids bits are one = omega arith
one-at_most (r ∷ []) ids bits are one = omega arith
one-at_most (r ∷ (s ∷ to)) ids bits are one =
    absurd (below-not_self (id_to r) (subst (λ z. IsBelow (id_to r) z) (one (id_to s) (id_to r) (there here) here) are.ascending.0))

pub handed-few : (rule : History → List Id) (rows : List Row) (header : Header) (bits : ℕ → Bool) → IsDueTo rule rows header bits
    → IsHistory (history_of rows) → AreHeads (history_of rows) (ids_of header.predecessors)
    → (o : Id) → kind_of header ≡ AddAck o
    → (to : List Receiver) → AreReceivers (ids_named (message_of header ∷ history_of rows)) bits to → length to ≤ 1
handed-few rule rows header bits due history heads o kind to are =
    let h = history_of rows in
    let m = message_of header in
    let ids = ids_named (m ∷ h) in
    let stands : IsHistory (m ∷ h) = (heads-stand h (ids_of header.predecessors) heads, due.new, history) in
    one-at_most to ids bits are (λ y z i j.
    (let p = receiver-at ids bits to are y i in
    let q = receiver-at ids bits to are z j in
    let crowd = due.crowd header.body due.new in
    handed-one rule (m ∷ h) stands o m m y z
    (subst (λ k. IsAddressee rule (m ∷ h) m k y) kind ((crowd.each p.0 y p.1).0 p.2))
    (subst (λ k. IsAddressee rule (m ∷ h) m k z) kind ((crowd.each q.0 z q.1).0 q.2))))
