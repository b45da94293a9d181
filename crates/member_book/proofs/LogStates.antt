-- Each pairing of a log has a state.
use Rattle.std.proofs.Common.{List, [], ◌∷◌, Option, Some, None, sym, ◌∙◌, subst}
use Rattle.std.specs.Str.{bytes_eq}
use Rattle.group_model.specs.Sets.{Bytes, Id}
use Rattle.group_model.specs.Primitives.{KeyPair, Primitives}
use Rattle.group_model.specs.Pairing.{Part, Draws, PairEvent, draws, opened}
use Rattle.group_model.specs.Settings.{Owner}
use Rattle.group_model.specs.Packets.{Packet, Given, part_for}
use Rattle.group_model.specs.Logs.{Joined, Took, Made, Log}
use Rattle.group_model.specs.Knowledge.{with_draws, heard_part, heard, sent_part}
use Rattle.group_model.proofs.ListFacts.{yes_is, no_is, test}
use Rattle.group_model.proofs.Parts.{gives, gives_none, present}
use Rattle.member_book.specs.PairStates.{PairState, PairStands, at_start, after_send, after_open}
use Rattle.member_book.proofs.OfOwner.{events}
use Rattle.member_book.proofs.Logs.{events-none, events-joined, events-took, events-made}
use Rattle.member_book.proofs.PairStates.{stands-start, stands-send, stands-opened, opens_to-is}

-- a state that stands for the events
record HasState (card : KeyPair) (theirs : Bytes) (es : List PairEvent) : Type 0 where
  state : PairState
  stands : PairStands card theirs es state

module _ (K : Primitives) (card : KeyPair) (theirs : Bytes) (es : List PairEvent) (k : HasState card theirs es) where
  with_heard : (o : Option Part) → HasState card theirs (heard_part K card o es)
  with_heard None = k
  with_heard (Some part) = elim (present (opened K card es part)) [
    | gives_none d ↦ rw d k
    | gives content d ↦ rw d (record {
      state = after_open k.state part.made_by_sender part.number content;
      stands = stands-opened k.stands K part content (opens_to-is k.stands K part ∙ d);
    })
  ]

  with_drawn : (o : Option Draws) → HasState card theirs (with_draws o es)
  with_drawn None = k
  with_drawn (Some d) = record { state = after_send k.state d; stands = stands-send k.stands d }

  with_sent : (peer : Id) (t : Given) (o : Option Part) → HasState card theirs (sent_part K peer t o es)
  with_sent peer t None = k
  with_sent peer t (Some part) = with_drawn (draws K t.random peer)

module _ (O : Owner) (y : Id) where
  hears : (p : Packet) (es : List PairEvent) → HasState O.card (O.public_key y) es
      → HasState O.card (O.public_key y) (heard O.primitives O.card O.id y p es)
  hears p es k = elim (test (bytes_eq p.header.sender y)) [
    | yes_is d ↦ rw d (with_heard O.primitives O.card (O.public_key y) es k (part_for p.parts O.id))
    | no_is d ↦ rw d k
  ]

  has_state : (l : Log) → HasState O.card (O.public_key y) (events O y l)
  has_state [] = subst (λ z. HasState O.card (O.public_key y) z) (sym (events-none O y))
      (record { state = at_start O.card.secret (O.public_key y); stands = stands-start O.card (O.public_key y) })
  has_state (Joined p ∷ l) = subst (λ z. HasState O.card (O.public_key y) z) (sym (events-joined O y p l)) (hears p (events O y l) (has_state l))
  has_state (Took p ∷ l) = subst (λ z. HasState O.card (O.public_key y) z) (sym (events-took O y p l)) (hears p (events O y l) (has_state l))
  has_state (Made p t ∷ l) = subst (λ z. HasState O.card (O.public_key y) z) (sym (events-made O y p t l))
      (with_sent O.primitives O.card (O.public_key y) (events O y l) (has_state l) y t (part_for p.parts y))

  pub state_of_log : (l : Log) → (k : PairState) × PairStands O.card (O.public_key y) (events O y l) k
  state_of_log l = let s = has_state l in (s.state, s.stands)
