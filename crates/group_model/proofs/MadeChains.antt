-- The text chain of a sender by its own messages alone.
use Rattle.std.proofs.Common.{cond, [], ◌∷◌, Option, None}
use Rattle.std.specs.Option.{option_map}
use Rattle.std.specs.Str.{bytes_eq}
use Rattle.group_model.specs.Sets.{Bytes, Id}
use Rattle.group_model.specs.Primitives.{Primitives}
use Rattle.group_model.specs.KeyTerms.{Term, secret, bytes, chain_after}
use Rattle.group_model.specs.Logs.{LogEntry, Joined, Took, Made}
use Rattle.group_model.specs.Worlds.{Turns}
use Rattle.group_model.specs.SharedSecrets.{motion_of, ratchet, answer_term}

module _ (K : Primitives) where
  abbrev pub chain_by : Id → LogEntry → (answer : Id → Term) → Term → Option Bytes → Option Bytes
  chain_by s (Joined p) answer r k = k
  chain_by s (Took p) answer r k = k
  chain_by s (Made p t) answer r k =
      chain_after K p.header.kind (option_map (bytes K) (secret (motion_of K p.header.kind s t answer) r)) k

  -- the text chain of s after its last message
  unfoldable pub chain_made : Turns → Id → Option Bytes
  chain_made [] s = None
  chain_made (u ∷ w) s =
      cond (bytes_eq u.who s) (chain_by s u.entry (λ i. answer_term K w i s) (ratchet K w s) (chain_made w s)) (chain_made w s)
