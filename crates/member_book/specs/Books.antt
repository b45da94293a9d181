-- The book: what one member carries of the others in place of its log, and one definition for each thing that a call
-- does to it. docs/GROUP.md, "The book of a member".
use Rattle.std.specs.Prelude.{cond, List, [], ◌∷◌, Option, Some, None, bytes_eq, option_map}
use Rattle.group_model.specs.Sets.{Bytes, Id, has}
use Rattle.group_model.specs.Messages.{History}
use Rattle.group_model.specs.Primitives.{KeyPair, Primitives}
use Rattle.group_model.specs.KeyTerms.{Once, turned_known, secret_known, empty_ratchet, first_chain, next_chain}
use Rattle.group_model.specs.KeyTerms.{message_key}
use Rattle.group_model.specs.Pairing.{Part, PairEvent}
use Rattle.group_model.specs.Packets.{Given, Addressed, part_for}
use Rattle.group_model.specs.Knowledge.{or_else, heard_part, sent_part}

-- the function with another value at one id
abbrev pub put : {A : Type 0} → (Id → A) → Id → A → Id → A
put f s v t = cond (bytes_eq s t) v (f t)

-- Of each id its ratchet and its text chain, where they are known, and what was sent to it and opened from it; and the
-- inputs of answers that are kept: of an operation, and of who may answer it
pub record BookState : Type 0 where
  pub ratchet : Id → Option Bytes
  pub chain : Id → Option Bytes
  pub events : Id → List PairEvent
  pub kept : (of : Id) → Id → Option Bytes

-- An id that was not met has the ratchet that `meet` gives it, so that meeting it leaves the book as it is
abbrev pub start : BookState
start = record {
  ratchet = λ s. Some empty_ratchet;
  chain = λ s. None;
  events = λ s. [];
  kept = λ i s. None;
}

-- a ratchet is handed, where there is one
abbrev pub hand : Id → Option Bytes → BookState → BookState
hand s r b = record b { ratchet = put b.ratchet s (or_else r (b.ratchet s)) }

-- inputs are kept for the answers of these ids to the operation, where they are known
abbrev pub keep : (of : Id) → List Id → (Id → Option Bytes) → BookState → BookState
keep i ids f b = record b {
  kept = λ j t. cond (bytes_eq i j) (cond (has ids t) (or_else (f t) (b.kept j t)) (b.kept j t)) (b.kept j t);
}

-- an input is taken out
abbrev pub spent : (of : Id) → Id → BookState → BookState
spent i s b = record b { kept = λ j t. cond (bytes_eq i j) (cond (bytes_eq s t) None (b.kept j t)) (b.kept j t) }

module _ (K : Primitives) where
  -- the update secret that a step gives
  abbrev pub step_gives : Id → (input : Option Bytes) → BookState → Option Bytes
  step_gives s input b = secret_known K (option_map (λ k. Once k) input) (b.ratchet s)

  -- a step of the ratchet of s, which starts its text chain anew; without an input both are forgotten
  abbrev pub step : Id → (input : Option Bytes) → BookState → BookState
  step s input b = record b {
    ratchet = put b.ratchet s (turned_known K (option_map (λ k. Once k) input) (b.ratchet s));
    chain = put b.chain s (option_map (first_chain K) (step_gives s input b));
  }

  -- the text chain of s is moved on; the key of the text is that of the chain before
  abbrev pub text_key : Id → BookState → Option Bytes
  text_key s b = option_map (message_key K) (b.chain s)

  abbrev pub chained : Id → BookState → BookState
  chained s b = record b { chain = put b.chain s (option_map (next_chain K) (b.chain s)) }

  -- the senders of rows are forgotten
  abbrev pub welcomed : History → BookState → BookState
  welcomed [] b = b
  welcomed (m ∷ rows) b = step m.sender None (welcomed rows b)

  -- each part of the list was sealed to its addressee, with draws from the step's bytes
  abbrev pub sealed_to : Given → List Addressed → BookState → BookState
  sealed_to t parts b = record b { events = λ y. sent_part K y t (part_for parts y) (b.events y) }

-- a part of s is opened, where it opens, by the member with this pair on its card
abbrev pub open_from : Primitives → (card : KeyPair) → (s : Id) → Option Part → BookState → BookState
open_from K card s part b = record b { events = put b.events s (heard_part K card part (b.events s)) }
