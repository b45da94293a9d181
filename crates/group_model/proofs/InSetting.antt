-- The words of knowledge, of parts and of lawful logs at a member of a setting: with its primitives, and the pair of its card.
use Rattle.std.proofs.Common.{◌≡◌, ◌∷◌, List, Option, Some}
use Rattle.group_model.specs.Sets.{Bytes, Id}
use Rattle.group_model.specs.Messages.{Kind, Message}
use Rattle.group_model.specs.Membership.{IsAddressee}
use Rattle.group_model.specs.Pairing.{Part, PairEvent}
use Rattle.group_model.specs.Settings.{Setting, card_of, owner_in}
use Rattle.group_model.specs.Packets.{Packet, Given}
use Rattle.group_model.specs.Logs.{LogEntry, Log, hist}
use Rattle.group_model.specs.Knowledge.{events as events_by, payload as payload_by, ratchet_before as ratchet_before_by, seed_known as seed_known_by, forwarded as forwarded_by, known as known_by, answer_known as answer_known_by, known_of as known_of_by, learnt_at as learnt_at_by, learnt_of as learnt_of_by, chain_known as chain_known_by, text_at as text_at_by, text_of as text_of_by}
use Rattle.group_model.specs.Parts.{payload_sent as payload_sent_by, part_with as part_with_by, part_sent as part_sent_by}
use Rattle.group_model.specs.LawfulLogs.{MakesPacket}

module _ (G : Setting) (x : Id) where
  abbrev pub events : (peer : Id) → Log → List PairEvent
  events peer l = events_by G.primitives (card_of G x) x peer l

  abbrev pub payload : Log → Packet → Option Bytes
  payload l p = payload_by G.primitives (card_of G x) x l p

  abbrev pub ratchet_before : LogEntry → Log → Option Bytes → Option Bytes
  ratchet_before e l prior = ratchet_before_by G.primitives (card_of G x) x e l prior

  abbrev pub seed_known : LogEntry → Log → Option Bytes
  seed_known e l = seed_known_by G.primitives (card_of G x) x e l

  abbrev pub forwarded : LogEntry → Log → Option Bytes
  forwarded e l = forwarded_by G.primitives (card_of G x) x e l

  abbrev pub known : Log → Id → Option Bytes
  known l s = known_by G.primitives (card_of G x) x l s

  abbrev pub answer_known : Log → (i s : Id) → (forward : Option Bytes) → Option Bytes
  answer_known l i s forward = answer_known_by G.primitives (card_of G x) x l i s forward

  abbrev pub known_of : Log → Message → Option Bytes
  known_of l m = known_of_by G.primitives (card_of G x) x l m

  abbrev pub learnt_at : LogEntry → Log → Option Bytes
  learnt_at e l = learnt_at_by G.primitives (card_of G x) x e l

  abbrev pub learnt_of : Log → Message → Option Bytes
  learnt_of l m = learnt_of_by G.primitives (card_of G x) x l m

  abbrev pub chain_known : Log → Id → Option Bytes
  chain_known l s = chain_known_by G.primitives (card_of G x) x l s

  abbrev pub text_at : LogEntry → Log → Option Bytes
  text_at e l = text_at_by G.primitives (card_of G x) x e l

  abbrev pub text_of : Log → Message → Option Bytes
  text_of l m = text_of_by G.primitives (card_of G x) x l m

  abbrev pub payload_sent : Log → Given → Kind → Option Bytes
  payload_sent l t k = payload_sent_by G.primitives (card_of G x) x l t k

  abbrev pub part_with : Log → Given → (y : Id) → (payload : Bytes) → Option Part
  part_with l t y v = part_with_by G.primitives (card_of G x) x (G.public_key y) l t y v

  abbrev pub part_sent : Log → Given → Kind → (y : Id) → Option Part
  part_sent l t k y = part_sent_by G.primitives (card_of G x) x G.public_key l t k y

  abbrev pub Makes : Log → Packet → Given → Type 0
  Makes l p t = MakesPacket (owner_in G x) l p t

  -- the message of this kind has a part for y with this payload
  abbrev pub IsDue : Log → Message → Given → Kind → Id → Bytes → Type 0
  IsDue l m t k y v = IsAddressee G.rule (m ∷ hist l) m k y × (payload_sent l t k ≡ Some v)
