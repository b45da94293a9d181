-- A history of one sender after the other has at most as many heads as it names ids.
use Rattle.std.proofs.Common.{◌≡◌, ◌≤◌, inl, inr, List, [], ◌∷◌, length, Option, refl, sym, ◌∙◌, ap, subst, arith}
use Rattle.group_model.specs.Sets.{Id, In, here, there, IsDistinct}
use Rattle.group_model.specs.Messages.{Message, History, past, IsHead, AreHeads}
use Rattle.group_model.specs.Membership.{Named, Names, ids_named}
use Rattle.group_model.proofs.ListFacts.{In-cases, In-nothing}
use Rattle.group_model.proofs.Pasts.{past-within}
use Rattle.group_model.proofs.RemoveWins.{Named-ids_named}
use Rattle.group_model.proofs.Senders.{Chained}
use Rattle.group_model.proofs.Unforked.{all_seen}
use Rattle.group_model.proofs.Valids.{each-valid, past-older, past-self}
use Rattle.group_messages.proofs.HeaderFacts.{ascending-distinct}
use Rattle.member_view.proofs.KindLaws.{distinct-length}

module _ (rule : History → List Id) (inviter : Id → Option Id) where
  -- the messages are one, or one has the other in its past
  pub data Chain (h : History) (a b : Message) : Type 0 where
    one : a ≡ b → Chain h a b
    before : In a (past h b.predecessors) → Chain h a b
    behind : In b (past h a.predecessors) → Chain h a b

  -- the newest message has those of its sender in its past
  newest : (m : Message) (h : History) → Chained rule inviter (m ∷ h) → {a : Message} → In a h → a.sender ≡ m.sender
      → In a (past (m ∷ h) m.predecessors)
  newest m h c {a} i e = subst (λ z. In a z) (sym (past-self m h c.history))
      (all_seen rule inviter h m c.valid.0 c.valid.1 c.unforked.1 c.unforked.0 i e)

  chain : (h : History) → Chained rule inviter h → {a b : Message} → In a h → In b h → a.sender ≡ b.sender → Chain h a b
  chain [] c i j e = elim i [ ]
  chain (m ∷ h) c {a} {b} i j e = elim (In-cases i) [
    | inl p ↦ elim (In-cases j) [
      | inl q ↦ one (p ∙ sym q)
      | inr q ↦ behind (subst (λ (z : Message). In b (past (m ∷ h) z.predecessors)) (sym p)
          (newest m h c q (sym e ∙ ap (λ (z : Message). z.sender) p)))
    ]
    | inr p ↦ elim (In-cases j) [
      | inl q ↦ before (subst (λ (z : Message). In a (past (m ∷ h) z.predecessors)) (sym q)
          (newest m h c p (e ∙ ap (λ (z : Message). z.sender) q)))
      | inr q ↦ elim (chain h (record { history = c.history.2; valid = c.valid.1; unforked = c.unforked.1 }) p q e) [
        | one d ↦ one d
        | before d ↦ before (subst (λ z. In a z) (sym (past-older m h c.history q)) d)
        | behind d ↦ behind (subst (λ z. In b z) (sym (past-older m h c.history p)) d)
      ]
    ]
  ]

  module _ (h : History) (c : Chained rule inviter h) where
    -- each sender is named
    sender-named : {m : Message} → In m h → Named h m.sender
    sender-named {m} i = elim (each-valid rule inviter h c.history c.valid i) [
      | inl o ↦ record { by = m; there_is = i; names = subst (λ k. Names k m.sender) (sym o.creates) o.among }
      | inr v ↦ record { by = v.named.by; there_is = past-within h m.predecessors v.named.there_is; names = v.named.names }
    ]

    -- and has one head at most
    one-head : {a b : Message} → IsHead h a → IsHead h b → a.sender ≡ b.sender → a ≡ b
    one-head {a} {b} k l e = elim (chain h c k.there_is l.there_is e) [
      | one d ↦ d
      | before d ↦ absurd (k.last b l.there_is d)
      | behind d ↦ absurd (l.last a k.there_is d)
    ]

    -- the senders of the heads with these ids
    record Senders (ids : List Id) : Type 0 where
      senders : List Id
      size : length senders ≡ length ids
      whose : (s : Id) → In s senders → (a : Message) × IsHead h a × In a.id ids × (a.sender ≡ s)
      distinct : IsDistinct senders

    senders-of : (ids : List Id) → IsDistinct ids → ((i : Id) → In i ids → (a : Message) × IsHead h a × (a.id ≡ i)) → Senders ids
    senders-of [] d only = record { senders = []; size = refl; whose = λ s k. absurd (In-nothing k); distinct = tt }
    senders-of (i ∷ ids) d only =
        let a = only i here in
        let rest = senders-of ids d.1 (λ j k. only j (there k)) in
        record {
          senders = a.0.sender ∷ rest.senders;
          size = let same = rest.size in omega arith;
          whose = λ s k. elim (In-cases k) [
            | inl e ↦ (a.0, a.1, subst (λ z. In z (i ∷ ids)) (sym a.2) here, sym e)
            | inr j ↦ (let w = rest.whose s j in (w.0, w.1, there w.2, w.3))
          ];
          distinct = (
            λ k. (let w = rest.whose a.0.sender k in
                d.0 (subst (λ z. In z ids) (ap (λ (z : Message). z.id) (one-head w.1 a.1 w.3) ∙ a.2) w.2)),
            rest.distinct,
          );
        }

    pub heads-named : (ids : List Id) → AreHeads h ids → length ids ≤ length (ids_named h)
    heads-named ids heads =
        let s = senders-of ids (ascending-distinct ids heads.ascending) heads.only in
        let few = distinct-length s.senders (ids_named h) s.distinct (λ x k.
        (let w = s.whose x k in subst (λ z. In z (ids_named h)) w.3 (Named-ids_named h w.0.sender (sender-named w.1.there_is)))) in
        let size = s.size in
        omega arith
