-- Knowledge, one entry at a time: what an entry adds, and what it leaves.
use Rattle.std.proofs.Common.{◌≡◌, ◌≢◌, [], ◌∷◌, Option, Some, None, refl}
use Rattle.group_model.specs.Sets.{Bytes, Id, In, here, there}
use Rattle.group_model.specs.Messages.{Message, History}
use Rattle.group_model.specs.Primitives.{KeyPair, Primitives}
use Rattle.group_model.specs.KeyTerms.{empty_ratchet, turned_known, chain_after}
use Rattle.group_model.specs.Packets.{Packet, Given, part_for}
use Rattle.group_model.specs.Logs.{LogEntry, Joined, Took, Made, header_of, Log}
use Rattle.group_model.specs.Knowledge.{known_rows, prior_of, prior_chain, sent_part, heard, events, answer_by, motion_known, seed_known, forwarded, ratchet_before, known, answer_known, known_of, learnt_at, learnt_of, chain_known, text_at, text_of}
use Rattle.group_model.proofs.ListFacts.{other_id, equal_id}

-- of a sender without rows the empty ratchet is known
pub known_rows-none : (h : History) (s : Id) → ((a : Message) → In a h → a.sender ≢ s) → known_rows h s ≡ Some empty_ratchet
known_rows-none [] s f = refl
known_rows-none (m ∷ h) s f = rw (other_id m.sender s (f m here)) (known_rows-none h s (λ a i. f a (there i)))

module _ (K : Primitives) (card : KeyPair) (self : Id) where
  pub events-none : (y : Id) → events K card self y [] ≡ []
  unfolding events
  events-none y = refl

  pub events-joined : (y : Id) (p : Packet) (l : Log)
      → events K card self y (Joined p ∷ l) ≡ heard K card self y p (events K card self y l)
  unfolding events
  events-joined y p l = refl

  pub events-took : (y : Id) (p : Packet) (l : Log)
      → events K card self y (Took p ∷ l) ≡ heard K card self y p (events K card self y l)
  unfolding events
  events-took y p l = refl

  pub events-made : (y : Id) (p : Packet) (t : Given) (l : Log)
      → events K card self y (Made p t ∷ l) ≡ sent_part K y t (part_for p.parts y) (events K card self y l)
  unfolding events
  events-made y p t l = refl

  pub known-none : (s : Id) → known K card self [] s ≡ Some empty_ratchet
  unfolding known answer_known
  known-none s = refl

  pub known-own : (e : LogEntry) (l : Log) (s : Id) → (header_of e).sender ≡ s → known K card self (e ∷ l) s
      ≡ turned_known K (motion_known K (header_of e).kind s (seed_known K card self e l)
      (λ i. answer_known K card self l i s (forwarded K card self e l)))
      (ratchet_before K card self e l (prior_of e (known K card self l s) s))
  unfolding known answer_known
  known-own e l s n = rw (equal_id (header_of e).sender s n) refl

  pub known-apart : (e : LogEntry) (l : Log) (s : Id) → (header_of e).sender ≢ s
      → known K card self (e ∷ l) s ≡ prior_of e (known K card self l s) s
  unfolding known answer_known
  known-apart e l s n = rw (other_id (header_of e).sender s n) refl

  pub answer-none : (i s : Id) (forward : Option Bytes) → answer_known K card self [] i s forward ≡ forward
  unfolding known answer_known
  answer-none i s forward = refl

  pub answer-own : (e : LogEntry) (l : Log) (i s : Id) (forward : Option Bytes) → (header_of e).id ≡ i
      → answer_known K card self (e ∷ l) i s forward ≡ answer_by K (header_of e).kind s (seed_known K card self e l)
      (ratchet_before K card self e l (prior_of e (known K card self l (header_of e).sender) (header_of e).sender)) forward
  unfolding known answer_known
  answer-own e l i s forward n = rw (equal_id (header_of e).id i n) refl

  pub answer-apart : (e : LogEntry) (l : Log) (i s : Id) (forward : Option Bytes) → (header_of e).id ≢ i
      → answer_known K card self (e ∷ l) i s forward ≡ answer_known K card self l i s forward
  unfolding known answer_known
  answer-apart e l i s forward n = rw (other_id (header_of e).id i n) refl

  pub known_of-own : (e : LogEntry) (l : Log) (m : Message) → (header_of e).id ≡ m.id
      → known_of K card self (e ∷ l) m ≡ known K card self (e ∷ l) m.sender
  unfolding known_of
  known_of-own e l m n = rw (equal_id (header_of e).id m.id n) refl

  pub known_of-apart : (e : LogEntry) (l : Log) (m : Message) → (header_of e).id ≢ m.id
      → known_of K card self (e ∷ l) m ≡ known_of K card self l m
  unfolding known_of
  known_of-apart e l m n = rw (other_id (header_of e).id m.id n) refl

  pub learnt_of-own : (e : LogEntry) (l : Log) (m : Message) → (header_of e).id ≡ m.id
      → learnt_of K card self (e ∷ l) m ≡ learnt_at K card self e l
  unfolding learnt_of
  learnt_of-own e l m n = rw (equal_id (header_of e).id m.id n) refl

  pub learnt_of-apart : (e : LogEntry) (l : Log) (m : Message) → (header_of e).id ≢ m.id
      → learnt_of K card self (e ∷ l) m ≡ learnt_of K card self l m
  unfolding learnt_of
  learnt_of-apart e l m n = rw (other_id (header_of e).id m.id n) refl

  pub chain-none : (s : Id) → chain_known K card self [] s ≡ None
  unfolding chain_known
  chain-none s = refl

  pub chain-own : (e : LogEntry) (l : Log) (s : Id) → (header_of e).sender ≡ s → chain_known K card self (e ∷ l) s
      ≡ chain_after K (header_of e).kind (learnt_at K card self e l) (prior_chain e (chain_known K card self l s))
  unfolding chain_known
  chain-own e l s n = rw (equal_id (header_of e).sender s n) refl

  pub chain-apart : (e : LogEntry) (l : Log) (s : Id) → (header_of e).sender ≢ s
      → chain_known K card self (e ∷ l) s ≡ prior_chain e (chain_known K card self l s)
  unfolding chain_known
  chain-apart e l s n = rw (other_id (header_of e).sender s n) refl

  pub text_of-own : (e : LogEntry) (l : Log) (m : Message) → (header_of e).id ≡ m.id
      → text_of K card self (e ∷ l) m ≡ text_at K card self e l
  unfolding text_of
  text_of-own e l m n = rw (equal_id (header_of e).id m.id n) refl

  pub text_of-apart : (e : LogEntry) (l : Log) (m : Message) → (header_of e).id ≢ m.id
      → text_of K card self (e ∷ l) m ≡ text_of K card self l m
  unfolding text_of
  text_of-apart e l m n = rw (other_id (header_of e).id m.id n) refl
