-- What a member makes that answers at once is valid, and a member knows its own ratchet.
use Rattle.std.proofs.Common.{◌≡◌, ◌+◌, inl, inr, List, [], ◌∷◌, Option, Some, None, refl, sym, ◌∙◌, subst, ap, true, false}
use Rattle.group_model.specs.Sets.{Bytes, Id, In}
use Rattle.group_model.specs.Messages.{Kind, Create, Update, Remove, Add, Ack, AddAck, Text, Message, History, past, Stands}
use Rattle.group_model.specs.Primitives.{Primitives}
use Rattle.group_model.specs.Validity.{IsOperation, Answers, AnswersOne, AnswersNone, IsInTurn, MeetsKind, GoesOn, count_of}
use Rattle.group_model.specs.Settings.{Owner, owner_in}
use Rattle.group_model.specs.Packets.{Packet, Given}
use Rattle.group_model.specs.Logs.{LogEntry, Joined, Took, Made, Log, hist}
use Rattle.group_model.specs.KeyTerms.{empty_ratchet, seed_of, turned_known}
use Rattle.group_model.specs.Knowledge.{answer_known, motion_known}
use Rattle.group_model.specs.LawfulLogs.{MakesPacket, TakesPacket, MayEnter, IsLawfulLog}
use Rattle.group_model.specs.Worlds.{log_of}
use Rattle.group_model.specs.Conduct.{asks, waiting, Follows, AnswersAtOnce, MadeIsValid, MadeIsValidInWorlds, OwnRatchetKnown, OwnRatchetKnownInWorlds}
use Rattle.group_model.proofs.ListFacts.{In-nothing}
use Rattle.group_model.proofs.Pasts.{past-within, past-all, heads-lead_back}
use Rattle.group_model.proofs.Valids.{each-valid}
use Rattle.group_model.proofs.Knowing.{known-none, known-apart, known-own, known_rows-none}
use Rattle.group_model.proofs.LogLaws.{Kept, log_kept, rows-alone}
use Rattle.group_model.proofs.Worlds.{lawful_log}
use Rattle.group_model.proofs.Settled.{AnswersStand, settled_more, takes_one, answer_settles, joins_one}

-- where a member stands
abbrev Stand : Option Id → History → Id → Type 0
Stand None h x = AnswersNone h x
Stand (Some i) h x = AnswersOne h x i

-- an operation asks, and nothing else does
asks-stand : (m : Message) (h : History) (x : Id) (k : Kind) → (IsOperation k → AnswersOne h x m.id)
    → ((IsOperation k → ⊥) → AnswersNone h x) → Stand (asks k m.id) h x
asks-stand m h x (Create members) f g = f tt
asks-stand m h x Update f g = f tt
asks-stand m h x (Remove y) f g = f tt
asks-stand m h x (Add y) f g = f tt
asks-stand m h x (Ack o took) f g = g (λ i. i)
asks-stand m h x (AddAck o) f g = g (λ i. i)
asks-stand m h x Text f g = g (λ i. i)

module _ (O : Owner) where
  -- an answer of a valid history answers what stands in it
  pub answers-stand : (h : History) → Kept O h → AnswersStand h
  answers-stand h g = record {
    stands_too = λ a i j n. elim (each-valid O.rule O.inviter h g.history g.valid j) [
      | inl o ↦ absurd (subst (λ k. Answers k i) o.creates n)
      | inr v ↦ by a.predecessors a.sender i a.kind v.in_turn n
    ];
  }
    where
      found : (p : List Id) (s : Id) {i : Id} → AnswersOne (past h p) s i → Stands h i
      found p s one = record { by = one.operation; has_id = one.has_id; there_is = past-within h p one.waits.there_is }

      by : (p : List Id) (s : Id) (i : Id) (k : Kind) → IsInTurn (past h p) s k → Answers k i → Stands h i
      by p s i (Create members) t n = absurd n
      by p s i Update t n = absurd n
      by p s i (Remove y) t n = absurd n
      by p s i (Add y) t n = absurd n
      by p s i (Ack o took) t n = subst (λ z. Stands h z) n (found p s t)
      by p s i (AddAck o) t n = subst (λ z. Stands h z) n (found p s t)
      by p s i Text t n = absurd n

  made_settles : (l : Log) (p : Packet) (t : Given) → MakesPacket O l p t → (o : Option Id) → Stand o (hist l) O.id → Follows o (Made p t)
      → AnswersNone (p.header ∷ hist l) O.id
  made_settles l p t f None s k = settled_more p.header (hist l) f.history O.id s (λ op n. n f.sender)
  made_settles l p t f (Some i) s k = answer_settles p.header (hist l) f.history O.id i s f.sender k

  took_settles : (l : Log) (p : Packet) → Kept O (hist l) → TakesPacket O l p → (o : Option Id) → Stand o (hist l) O.id → Follows o (Took p)
      → Stand (asks p.header.kind p.header.id) (p.header ∷ hist l) O.id
  took_settles l p g f None s k = asks-stand p.header (p.header ∷ hist l) O.id p.header.kind
      (λ op. takes_one p.header (hist l) f.history O.id s (answers-stand (hist l) g) op f.other)
      (λ n. settled_more p.header (hist l) f.history O.id s (λ op d. n op))
  took_settles l p g f (Some i) s k = absurd k

  entry_settles : (l : Log) (e : LogEntry) → Kept O (hist l) → MayEnter O l e → (o : Option Id) → Stand o (hist l) O.id → Follows o e
      → Stand (waiting (e ∷ l)) (hist (e ∷ l)) O.id
  entry_settles l (Made p t) g f o s k = made_settles l p t f o s k
  entry_settles l (Took p) g f o s k = took_settles l p g f o s k
  entry_settles l (Joined p) g f o s k = joins_one p.header p.rows f.history O.id f.adds f.other
      (λ a i. heads-lead_back p.rows f.history.2 p.header.predecessors f.heads i) (rows-alone O l p f)

  settled : (l : Log) → IsLawfulLog O l → AnswersAtOnce l → Stand (waiting l) (hist l) O.id
  settled [] f a = λ o u. In-nothing u.there_is
  settled (e ∷ l) f a = entry_settles l e (log_kept O l f.1) f.0 (waiting l) (settled l f.1 a.1) a.0

  in_turn : (h : History) (x : Id) (k : Kind) (p : Packet) (t : Given) → p.header.kind ≡ k → (o : Option Id) → Stand o h x
      → Follows o (Made p t) → IsInTurn h x k
  in_turn h x (Create members) p t e None s f = s
  in_turn h x Update p t e None s f = s
  in_turn h x (Remove y) p t e None s f = s
  in_turn h x (Add y) p t e None s f = s
  in_turn h x (Ack o took) p t e None s f = absurd (f o (subst (λ k. Answers k o) (sym e) refl))
  in_turn h x (AddAck o) p t e None s f = absurd (f o (subst (λ k. Answers k o) (sym e) refl))
  in_turn h x Text p t e None s f = s
  in_turn h x (Create members) p t e (Some i) s f = absurd (subst (λ k. Answers k i) e f)
  in_turn h x Update p t e (Some i) s f = absurd (subst (λ k. Answers k i) e f)
  in_turn h x (Remove y) p t e (Some i) s f = absurd (subst (λ k. Answers k i) e f)
  in_turn h x (Add y) p t e (Some i) s f = absurd (subst (λ k. Answers k i) e f)
  in_turn h x (Ack o took) p t e (Some i) s f = subst (λ z. AnswersOne h x z) (sym (subst (λ k. Answers k i) e f)) s
  in_turn h x (AddAck o) p t e (Some i) s f = subst (λ z. AnswersOne h x z) (sym (subst (λ k. Answers k i) e f)) s
  in_turn h x Text p t e (Some i) s f = absurd (subst (λ k. Answers k i) e f)

pub made_is_valid : MadeIsValid
made_is_valid O l p t f a k m =
    let h : History = hist l in
    let g : Kept O h = log_kept O l f in
    let s : O.id ≡ p.header.sender = sym m.sender in
    let turn : IsInTurn h O.id p.header.kind = in_turn O h O.id p.header.kind p t refl (waiting l) (settled O l f a) k in
    subst (λ z. GoesOn O.rule O.inviter z p.header)
    (sym (past-all h g.history p.header.predecessors (λ b i. heads-lead_back h g.history p.header.predecessors m.heads i)))
    (record {
      named = O.is_rule.named h p.header.sender (subst (λ z. In z (O.rule h)) s m.member);
      member = subst (λ z. In z (O.rule h)) s m.member;
      next = m.number ∙ ap (λ z. count_of z h + 1) s;
      suits = subst (λ z. MeetsKind O.rule O.inviter h z p.header.kind) s m.suits;
      in_turn = subst (λ z. IsInTurn h z p.header.kind) s turn;
      heads = m.heads;
    })

pub made_is_valid_in_worlds : MadeIsValidInWorlds
made_is_valid_in_worlds G w x p t l a k m = made_is_valid (owner_in G x) (log_of w x) p t (lawful_log G w l x) a k m

-- a message whose input is known moves what is known of the ratchet
moves-known : (K : Primitives) (k : Kind) (s : Id) (seed : Bytes) (answer : Id → Option Bytes) (r : Bytes)
    → ((i : Id) → k ≡ Ack i true → (v : Bytes) × (answer i ≡ Some v))
    → (b : Bytes) × (turned_known K (motion_known K k s (Some seed) answer) (Some r) ≡ Some b)
moves-known K (Create members) s seed answer r f = (_, refl)
moves-known K Update s seed answer r f = (_, refl)
moves-known K (Remove y) s seed answer r f = (_, refl)
moves-known K (Add y) s seed answer r f = (_, refl)
moves-known K (Ack i true) s seed answer r f = let v = f i refl in
    (K.next r v.0, rw v.1 refl)
moves-known K (Ack i false) s seed answer r f = (r, refl)
moves-known K (AddAck i) s seed answer r f = (_, refl)
moves-known K Text s seed answer r f = (r, refl)

pub own_ratchet_known : OwnRatchetKnown
own_ratchet_known O [] f = (empty_ratchet, known-none O.primitives O.card O.id O.id)
own_ratchet_known O (Joined p ∷ l) f = (
  empty_ratchet,
  known-apart O.primitives O.card O.id (Joined p) l O.id f.0.other ∙ known_rows-none p.rows O.id (rows-alone O l p f.0),
)
own_ratchet_known O (Took p ∷ l) f = let o = own_ratchet_known O l f.1 in
    (o.0, known-apart O.primitives O.card O.id (Took p) l O.id f.0.other ∙ o.1)
own_ratchet_known O (Made p t ∷ l) f =
    let o = own_ratchet_known O l f.1 in
    let m = moves-known O.primitives p.header.kind O.id (seed_of O.primitives t.random)
    (λ i. answer_known O.primitives O.card O.id l i O.id None) o.0 f.0.took in (
      m.0,
      known-own O.primitives O.card O.id (Made p t) l O.id f.0.sender
          ∙ ap (λ z. turned_known O.primitives (motion_known O.primitives p.header.kind O.id (Some (seed_of O.primitives t.random))
          (λ i. answer_known O.primitives O.card O.id l i O.id None)) z) o.1 ∙ m.1,
    )

pub own_ratchet_known_in_worlds : OwnRatchetKnownInWorlds
own_ratchet_known_in_worlds G w x l = own_ratchet_known (owner_in G x) (log_of w x) (lawful_log G w l x)
