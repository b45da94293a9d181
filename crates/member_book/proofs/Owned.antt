-- A member knows its own ratchet, and its own text chain.
use Rattle.std.proofs.Common.{◌≡◌, true, false, inl, inr, [], ◌∷◌, Option, Some, None, refl, ◌∙◌, ap, subst}
use Rattle.std.specs.Option.{option_map}
use Rattle.group_model.specs.Sets.{Bytes, Id}
use Rattle.group_model.specs.Messages.{Kind, Create, Update, Remove, Add, Ack, AddAck, Text, Message, History}
use Rattle.group_model.specs.Validity.{StepsRatchet, HasStepped}
use Rattle.group_model.specs.KeyTerms.{empty_ratchet, seed_of, turned_known, secret_known, chain_after, first_chain, next_chain}
use Rattle.group_model.specs.Settings.{Owner}
use Rattle.group_model.specs.Logs.{Joined, Took, Made, Log, hist}
use Rattle.group_model.specs.Knowledge.{motion_known}
use Rattle.group_model.proofs.ListFacts.{In-cases, In-nothing}
use Rattle.member_book.proofs.Logs.{known-none, known-own, known-apart}
use Rattle.group_model.proofs.Knowing.{known_rows-none}
use Rattle.member_book.specs.Laws.{OwnKnown}
use Rattle.group_model.specs.LawfulLogs.{IsLawfulLog}
use Rattle.group_model.specs.Primitives.{Primitives}
use Rattle.group_model.proofs.LogLaws.{rows-alone}
use Rattle.member_book.proofs.Logs.{chain-own, chain-apart}
use Rattle.member_book.proofs.OfOwner.{known, answer_known, chain_known, learnt_at}

-- a ratchet that is known, and the update secret where there is one
record Goes (K : Primitives) (k : Kind) (s : Id) (seed : Option Bytes) (answer : Id → Option Bytes) (r : Bytes) : Type 0 where
  next : (b : Bytes) × (turned_known K (motion_known K k s seed answer) (Some r) ≡ Some b)
  gives : StepsRatchet k → (u : Bytes) × (secret_known K (motion_known K k s seed answer) (Some r) ≡ Some u)

goes : (K : Primitives) (k : Kind) (s : Id) (seed : Bytes) (answer : Id → Option Bytes) (r : Bytes)
    → ((i : Id) → k ≡ Ack i true → (v : Bytes) × (answer i ≡ Some v)) → Goes K k s (Some seed) answer r
goes K (Create members) s seed answer r f = record { next = (_, refl); gives = λ n. (_, refl) }
goes K Update s seed answer r f = record { next = (_, refl); gives = λ n. (_, refl) }
goes K (Remove y) s seed answer r f = record { next = (_, refl); gives = λ n. (_, refl) }
goes K (Add y) s seed answer r f = record { next = (_, refl); gives = λ n. (_, refl) }
goes K (Ack i true) s seed answer r f = let v = f i refl in record {
  next = (K.next r v.0, rw v.1 refl);
  gives = λ n. (K.out r v.0, rw v.1 refl);
}
goes K (Ack i false) s seed answer r f = record { next = (r, refl); gives = λ n. absurd n }
goes K (AddAck i) s seed answer r f = record { next = (_, refl); gives = λ n. (_, refl) }
goes K Text s seed answer r f = record { next = (r, refl); gives = λ n. absurd n }

-- a stepping kind starts the chain, and others keep one
chain-goes : (K : Primitives) (k : Kind) (u c : Option Bytes) → (StepsRatchet k → (v : Bytes) × (u ≡ Some v))
    → ((StepsRatchet k → ⊥) → (v : Bytes) × (c ≡ Some v)) → (w : Bytes) × (chain_after K k u c ≡ Some w)
chain-goes K (Create members) u c f g = let v = f tt in (first_chain K v.0, ap (option_map (first_chain K)) v.1)
chain-goes K Update u c f g = let v = f tt in (first_chain K v.0, ap (option_map (first_chain K)) v.1)
chain-goes K (Remove y) u c f g = let v = f tt in (first_chain K v.0, ap (option_map (first_chain K)) v.1)
chain-goes K (Add y) u c f g = let v = f tt in (first_chain K v.0, ap (option_map (first_chain K)) v.1)
chain-goes K (Ack i true) u c f g = let v = f tt in (first_chain K v.0, ap (option_map (first_chain K)) v.1)
chain-goes K (Ack i false) u c f g = g (λ n. n)
chain-goes K (AddAck i) u c f g = let v = f tt in (first_chain K v.0, ap (option_map (first_chain K)) v.1)
chain-goes K Text u c f g = let v = g (λ n. n) in (next_chain K v.0, ap (option_map (next_chain K)) v.1)

module _ (O : Owner) where
  owned : (l : Log) → IsLawfulLog O l → (r : Bytes) × (known O l O.id ≡ Some r)
  owned [] n = (empty_ratchet, known-none O O.id)
  owned (Joined p ∷ l) n = (
    empty_ratchet,
    known-apart O (Joined p) l O.id n.0.other
        ∙ known_rows-none p.rows O.id (rows-alone O l p n.0),
  )
  owned (Took p ∷ l) n = let o = owned l n.1 in (o.0, known-apart O (Took p) l O.id n.0.other ∙ o.1)
  owned (Made p t ∷ l) n =
      let o = owned l n.1 in
      let g : Goes O.primitives p.header.kind O.id (Some (seed_of O.primitives t.random)) (λ i. answer_known O l i O.id None) o.0 =
      goes O.primitives p.header.kind O.id (seed_of O.primitives t.random) (λ i. answer_known O l i O.id None) o.0 n.0.took in (
        g.next.0,
        known-own O (Made p t) l O.id n.0.sender
            ∙ ap (λ z. turned_known O.primitives (motion_known O.primitives p.header.kind O.id (Some (seed_of O.primitives t.random))
            (λ i. answer_known O l i O.id None)) z) o.1 ∙ g.next.1,
      )

  -- a step of the member that is older than the entry's message
  older : (m : Message) (h : History) → (m.sender ≡ O.id → StepsRatchet m.kind → ⊥) → HasStepped (m ∷ h) O.id → HasStepped h O.id
  older m h n s = elim (In-cases s.there_is) [
    | inl e ↦ absurd (n (subst (λ (z : Message). z.sender ≡ O.id) e s.own) (subst (λ (z : Message). StepsRatchet z.kind) e s.steps))
    | inr i ↦ record { by = s.by; there_is = i; own = s.own; steps = s.steps }
  ]

  chained : (l : Log) → IsLawfulLog O l → HasStepped (hist l) O.id → (k : Bytes) × (chain_known O l O.id ≡ Some k)
  chained [] n s = absurd (In-nothing s.there_is)
  chained (Joined p ∷ l) n s =
      let o = older p.header p.rows (λ e q. n.0.other e) s in absurd (rows-alone O l p n.0 o.by o.there_is o.own)
  chained (Took p ∷ l) n s =
      let o = chained l n.1 (older p.header (hist l) (λ e q. n.0.other e) s) in
      (o.0, chain-apart O (Took p) l O.id n.0.other ∙ o.1)
  chained (Made p t ∷ l) n s =
      let o = owned l n.1 in
      let g : Goes O.primitives p.header.kind O.id (Some (seed_of O.primitives t.random)) (λ i. answer_known O l i O.id None) o.0 =
      goes O.primitives p.header.kind O.id (seed_of O.primitives t.random) (λ i. answer_known O l i O.id None) o.0 n.0.took in
      let c = chain-goes O.primitives p.header.kind (learnt_at O (Made p t) l) (chain_known O l O.id)
      (λ q. (let u = g.gives q in (
        u.0,
        ap (λ z. secret_known O.primitives
            (motion_known O.primitives p.header.kind z (Some (seed_of O.primitives t.random)) (λ i. answer_known O l i z None)) (known O l z)) n.0.sender
            ∙ ap (λ z. secret_known O.primitives (motion_known O.primitives p.header.kind O.id (Some (seed_of O.primitives t.random))
            (λ i. answer_known O l i O.id None)) z) o.1 ∙ u.1,
      )))
      (λ q. chained l n.1 (older p.header (hist l) (λ e r. q r) s)) in
      (c.0, chain-own O (Made p t) l O.id n.0.sender ∙ c.1)

pub own_known : OwnKnown
own_known O l n = (owned O l n, chained O l n)
