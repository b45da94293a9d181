-- The parts of a packet, as a function of its maker's log and the step's random bytes. K are the primitives,
-- self is the maker, and card the key pair of its own card.
-- docs/GROUP.md, "Parts".
use Rattle.std.specs.Prelude.{List, [], ◌∷◌, Option, Some, None, option_map}
use Rattle.std.specs.Option.{option_and_then}
use Rattle.group_model.specs.Sets.{Bytes, Id}
use Rattle.group_model.specs.Messages.{Kind}
use Rattle.group_model.specs.Primitives.{KeyPair, Primitives}
use Rattle.group_model.specs.KeyTerms.{KeyUse, SendsSeed, AddsMember, TakesSecret, HandsRatchet, SpendsKey}
use Rattle.group_model.specs.KeyTerms.{LeavesKeys, key_use, seed_of}
use Rattle.group_model.specs.Pairing.{Part, Draws, draws, part_to}
use Rattle.group_model.specs.Packets.{Addressed, Given}
use Rattle.group_model.specs.Logs.{Log}
use Rattle.group_model.specs.Knowledge.{events, known, answer_known}

-- a part for each of the ids, in their order, where all of them can be made
abbrev pub parts_of : (Id → Option Part) → List Id → Option (List Addressed)
parts_of part [] = Some []
parts_of part (y ∷ ids) =
    option_and_then (λ (q : Part). option_map (λ (rest : List Addressed). record { to = y; part = q } ∷ rest)
    (parts_of part ids)) (part y)

module _ (K : Primitives) (card : KeyPair) (self : Id) where
  -- what a message's parts carry: a seed, its sender's ratchet before it, or its sender's member secret
  abbrev pub payload_by_use : Log → Given → KeyUse → Option Bytes
  payload_by_use l t SendsSeed = Some (seed_of K t.random)
  payload_by_use l t (AddsMember y) = known K card self l self
  payload_by_use l t (TakesSecret i) = answer_known K card self l i self None
  payload_by_use l t HandsRatchet = known K card self l self
  payload_by_use l t SpendsKey = None
  payload_by_use l t LeavesKeys = None

  abbrev pub payload_sent : Log → Given → Kind → Option Bytes
  payload_sent l t k = payload_by_use l t (key_use k)

  -- the part of self for y, whose card has the public key `theirs`, with this payload
  abbrev pub part_with : (theirs : Bytes) → Log → Given → (y : Id) → (payload : Bytes) → Option Part
  part_with theirs l t y v =
      option_and_then (λ (d : Draws). part_to K theirs (events K card self y l) d v) (draws K t.random y)

  abbrev pub part_sent : (public_key : Id → Bytes) → Log → Given → Kind → (y : Id) → Option Part
  part_sent public_key l t k y = option_and_then (λ v. part_with (public_key y) l t y v) (payload_sent l t k)
