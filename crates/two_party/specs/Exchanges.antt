-- Two sides of a pair and the parts under way between them, by any list of sends and receipts.
use Rattle.std.specs.Prelude.{◌≡◌, true, List, [], ◌∷◌, ◌++◌, Some, option_map}
use Rattle.kem_trait.specs.declared.kem.Kem.{Ghosts}
use Rattle.group_model.specs.Sets.{Bytes}
use Rattle.group_model.specs.Pairing.{Draws}
use Rattle.group_parts.specs.KeyPairs.{is_pair}
use Rattle.group_parts.specs.Parts.{part_bytes}
use Rattle.group_keys.specs.Primitives.{primitives_of}
use Rattle.member_book.specs.PairStates.{PairState, at_start, after_send, next_part}
use Rattle.two_party.specs.Received.{after_part}

-- a part under way: its bytes, and the payload that was sent in it
pub record UnderWay : Type 0 where
  pub bytes : Bytes
  pub payload : Bytes

module _ {K P : Type 0} (kem : Ghosts K P) where
  -- the part is what a side in this state sends, with draws of tested pairs
  pub record IsSent (k : PairState) (d : Draws) (part : UnderWay) : Type 0 where
    pub own_tested : is_pair kem d.own.secret d.own.public ≡ true
    pub other_tested : is_pair kem d.other.secret d.other.public ≡ true
    pub bytes : option_map (part_bytes kem) (next_part (primitives_of kem) k d part.payload) ≡ Some part.bytes

  -- What two sides with these secret keys on their cards come to: the states of the first and of the second, and the
  -- parts that are under way to the second and to the first, oldest first. Each takes the other's parts in the order
  -- sent.
  pub data Exchange (a b : Bytes) : PairState → PairState → List UnderWay → List UnderWay → Type 0 where
    start : kem.is_secret a ≡ true → kem.is_secret b ≡ true
        → Exchange a b (at_start a (kem.public_in b)) (at_start b (kem.public_in a)) [] []
    first_sends : {ka kb : PairState} {to_second to_first : List UnderWay} (d : Draws) (part : UnderWay)
        → IsSent ka d part → Exchange a b ka kb to_second to_first
        → Exchange a b (after_send ka d) kb (to_second ++ part ∷ []) to_first
    second_sends : {ka kb : PairState} {to_second to_first : List UnderWay} (d : Draws) (part : UnderWay)
        → IsSent kb d part → Exchange a b ka kb to_second to_first
        → Exchange a b ka (after_send kb d) to_second (to_first ++ part ∷ [])
    second_takes : {ka kb : PairState} {to_second to_first : List UnderWay} (part : UnderWay)
        → Exchange a b ka kb (part ∷ to_second) to_first
        → Exchange a b ka (after_part kem kb part.bytes) to_second to_first
    first_takes : {ka kb : PairState} {to_second to_first : List UnderWay} (part : UnderWay)
        → Exchange a b ka kb to_second (part ∷ to_first)
        → Exchange a b (after_part kem ka part.bytes) kb to_second to_first
