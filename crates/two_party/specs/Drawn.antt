-- What is drawn for the parts of one step: of each id its draws, until they are taken.
use Rattle.std.specs.Prelude.{ℕ, zero, suc, cond, List, [], ◌∷◌, map, bytes_eq, codes, Option, None}
use Rattle.kem_trait.specs.Streams.{Stream, words_of_seed}
use Rattle.hkdf_seal.specs.Keys.{kdf}
use Rattle.group_fields.specs.declared.ids.MemberId.{MemberId}
use Rattle.group_model.specs.Sets.{Bytes, Id}
use Rattle.group_model.specs.Primitives.{Primitives}
use Rattle.group_model.specs.Pairing.{Draws, draws}

-- an id and its draws, where there are any and they were not taken
pub record Drawn : Type 0 where
  pub id : Id
  pub left : Option Draws

-- the ids of members
abbrev pub ids_of : List MemberId → List Id
ids_of members = map (λ member. member.0.0) members

-- the draws for each id, from a step's random bytes
abbrev pub drawn_for : Primitives → (random : Bytes) → List Id → List Drawn
drawn_for K random ids = map (λ id. record { id = id; left = draws K random id }) ids

-- the draws that are left for an id: those of the first row with this id
abbrev pub left_for : List Drawn → Id → Option Draws
left_for [] id = None
left_for (row ∷ rows) id = cond (bytes_eq row.id id) row.left (left_for rows id)

-- the rows after the draws for an id were taken
abbrev pub after_take : List Drawn → Id → List Drawn
after_take [] id = []
after_take (row ∷ rows) id =
    cond (bytes_eq row.id id) (record { id = row.id; left = None } ∷ rows) (row ∷ after_take rows id)

-- how many rows stand before the first with this id
abbrev pub place_of : List Drawn → Id → ℕ
place_of [] id = zero
place_of (row ∷ rows) id = cond (bytes_eq row.id id) zero (suc (place_of rows id))

-- the words that make the two pairs of an id: the sender's own new pair, and the new pair of the other side
abbrev pub sources_for : (random : Bytes) → Id → List Stream
sources_for random id =
    words_of_seed (kdf random (codes "own") id) ∷ words_of_seed (kdf random (codes "other") id) ∷ []
