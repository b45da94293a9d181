-- The words that draws come from, and the rows of draws.
use Rattle.std.proofs.Common.{◌≡◌, ℕ, zero, suc, ◌+◌, ◌<◌, ◌≤◌, arith, List, [], ◌∷◌, ◌++◌, length, map, get_or, drop, codes, Option, Some, None, option_map, refl, sym, ◌∙◌, ap, ap₂, append_assoc}
use Rattle.std.specs.Option.{option_and_then, IsSome}
use Rattle.std.specs.List.{All, Any, flat_map}
use Rattle.std.proofs.lemmas.List.{at_drop_more, length-map}
use Rattle.std.proofs.lemmas.List.Elements.{All-append}
use Rattle.kem_trait.specs.Streams.{Stream, words_of_seed}
use Rattle.kem_trait.specs.declared.kem.Kem.{Ghosts}
use Rattle.hkdf_seal.specs.Keys.{kdf}
use Rattle.group_fields.specs.declared.ids.MemberId.{MemberId}
use Rattle.group_model.specs.Sets.{Bytes, Id}
use Rattle.group_model.specs.Primitives.{KeyPair}
use Rattle.group_model.specs.Pairing.{Draws, draws}
use Rattle.group_parts.specs.KeyPairs.{made_pair, pair_of}
use Rattle.group_keys.specs.Primitives.{primitives_of}
use Rattle.two_party.specs.Drawn.{Drawn, ids_of, drawn_for, sources_for}

map-some : {A B : Type 0} (f : A → B) (xs : List A) → map (λ (x : A). Some (f x)) xs ≡ map Some (map f xs)
map-some f [] = refl
map-some f (x ∷ xs) = ap (λ (z : List _). Some (f x) ∷ z) (map-some f xs)

any-later : {X : Type 0} (Q : X → Type 0) (x : X) (xs : List X) → Any Q xs → Any Q (x ∷ xs)
any-later Q x xs h = (let low : h.0 < length xs = h.2 in (suc h.0, h.1, omega arith, h.3, h.4))

all-one : {X : Type 0} (Q : X → Type 0) (x : X) → Q x → All Q (x ∷ [])
all-one Q x h zero d low = h
all-one Q x h (suc k) d low = absurd (omega arith)

pub usable-more : (rows : List Drawn) (id : Id) (d : Draws) → All (λ row. IsSome row.left) rows
    → All (λ row. IsSome row.left) (rows ++ record { id = id; left = Some d } ∷ [])
usable-more rows id d h =
    All-append (λ (row : Drawn). IsSome row.left) rows (record { id = id; left = Some d } ∷ []) h
    (all-one (λ (row : Drawn). IsSome row.left) (record { id = id; left = Some d }) refl)

map-twice : {A B C : Type 0} (f : A → B) (g : B → C) (xs : List A) → map (λ (x : A). g (f x)) xs ≡ map g (map f xs)
map-twice f g [] = refl
map-twice f g (x ∷ xs) = ap (λ (z : List _). g (f x) ∷ z) (map-twice f g xs)

module _ {K P : Type 0} (kem : Ghosts K P) where
  -- what the draws of an id are, by what its words make
  draw-is : (random : Bytes) (id : Id) (d : Draws)
      → Some d.own.secret ≡ kem.made (words_of_seed (kdf random (codes "own") id))
      → Some d.other.secret ≡ kem.made (words_of_seed (kdf random (codes "other") id))
      → d.own.public ≡ kem.public_in d.own.secret → d.other.public ≡ kem.public_in d.other.secret
      → d.encapsulation ≡ kdf random (codes "encap") id → draws (primitives_of kem) random id ≡ Some d
  unfolding draws primitives_of made_pair
  draw-is random id d own other p q s =
      ap₂ (λ (x y : Option Bytes). option_and_then (λ (a : KeyPair). option_map (λ (b : KeyPair).
      record { own = a; other = b; encapsulation = kdf random (codes "encap") id }) (option_map (pair_of kem) y)) (option_map (pair_of kem) x)) (sym own) (sym other)
      ∙ ap₂ (λ (x y : Bytes). Some (record { own = record { secret = d.own.secret; public = x }; other = record { secret = d.other.secret; public = y }; encapsulation = kdf random (codes "encap") id })) (sym p) (sym q)
      ∙ ap (λ (x : Bytes). Some (record { own = d.own; other = d.other; encapsulation = x })) (sym s)

  -- what the words of the next id make stands before what those of the others make
  made-more : (random : Bytes) (to : List MemberId) (i : ℕ) (m : MemberId) → i < length to
      → map kem.made (flat_map (sources_for random) (ids_of (drop i to)))
      ≡ kem.made (words_of_seed (kdf random (codes "own") (get_or to i m).0.0))
      ∷ (kem.made (words_of_seed (kdf random (codes "other") (get_or to i m).0.0))
      ∷ map kem.made (flat_map (sources_for random) (ids_of (drop (i + 1) to))))
  made-more random to i m h =
      at_drop_more (λ (z : List MemberId). map kem.made (flat_map (sources_for random) (ids_of z))) to i m h

  pub two-left : (random : Bytes) (to : List MemberId) (i : ℕ) (m : MemberId) (pairs : List P) → i < length to
      → map (λ (pair : P). Some (kem.secret_key pair)) pairs ≡ map kem.made (flat_map (sources_for random) (ids_of (drop i to)))
      → 2 ≤ length pairs
  two-left random to i m pairs h e =
      let n = ap length (e ∙ made-more random to i m h) in
      let same : length (map (λ (pair : P). Some (kem.secret_key pair)) pairs) ≡ length pairs = length-map pairs (λ (pair : P). Some (kem.secret_key pair)) in
      omega (arith, n, same)

  -- the next two pairs are those of the next id
  pub next-two : (random : Bytes) (to : List MemberId) (i : ℕ) (m : MemberId) (old new : List P) (d : Draws) → i < length to
      → map (λ (pair : P). Some (kem.secret_key pair)) old ≡ map kem.made (flat_map (sources_for random) (ids_of (drop i to)))
      → map kem.secret_key old ≡ d.own.secret ∷ (d.other.secret ∷ map kem.secret_key new)
      → d.own.public ≡ kem.public_in d.own.secret → d.other.public ≡ kem.public_in d.other.secret
      → d.encapsulation ≡ kdf random (codes "encap") (get_or to i m).0.0
      → (draws (primitives_of kem) random (get_or to i m).0.0 ≡ Some d)
      × (map (λ (pair : P). Some (kem.secret_key pair)) new ≡ map kem.made (flat_map (sources_for random) (ids_of (drop (i + 1) to))))
  next-two random to i m old new d h e s p q c =
      let all : Some d.own.secret ∷ (Some d.other.secret ∷ map Some (map kem.secret_key new))
      ≡ kem.made (words_of_seed (kdf random (codes "own") (get_or to i m).0.0))
      ∷ (kem.made (words_of_seed (kdf random (codes "other") (get_or to i m).0.0))
      ∷ map kem.made (flat_map (sources_for random) (ids_of (drop (i + 1) to)))) =
      ap (map Some) (sym s) ∙ sym (map-some kem.secret_key old) ∙ e ∙ made-more random to i m h in
      let own : Some d.own.secret ≡ kem.made (words_of_seed (kdf random (codes "own") (get_or to i m).0.0)) = cc in
      let other : Some d.other.secret ≡ kem.made (words_of_seed (kdf random (codes "other") (get_or to i m).0.0)) = cc in
      let rest : map Some (map kem.secret_key new) ≡ map kem.made (flat_map (sources_for random) (ids_of (drop (i + 1) to))) = cc in
      (draw-is random (get_or to i m).0.0 d own other p q c, map-some kem.secret_key new ∙ rest)

  -- one more row
  pub rows-more : (random : Bytes) (to : List MemberId) (i : ℕ) (m : MemberId) (rows : List Drawn) (d : Draws) → i < length to
      → rows ++ drawn_for (primitives_of kem) random (ids_of (drop i to)) ≡ drawn_for (primitives_of kem) random (ids_of to)
      → draws (primitives_of kem) random (get_or to i m).0.0 ≡ Some d
      → (rows ++ record { id = (get_or to i m).0.0; left = Some d } ∷ []) ++ drawn_for (primitives_of kem) random (ids_of (drop (i + 1) to))
      ≡ drawn_for (primitives_of kem) random (ids_of to)
  rows-more random to i m rows d h e is =
      let rest : List Drawn = drawn_for (primitives_of kem) random (ids_of (drop (i + 1) to)) in
      let more : drawn_for (primitives_of kem) random (ids_of (drop i to))
      ≡ record { id = (get_or to i m).0.0; left = draws (primitives_of kem) random (get_or to i m).0.0 } ∷ rest =
      at_drop_more (λ (z : List MemberId). drawn_for (primitives_of kem) random (ids_of z)) to i m h in
      append_assoc rows (record { id = (get_or to i m).0.0; left = Some d } ∷ []) rest
      ∙ ap (λ (o : Option Draws). rows ++ (record { id = (get_or to i m).0.0; left = o } ∷ rest)) (sym is)
      ∙ ap (λ (z : List Drawn). rows ++ z) (sym more) ∙ e

  -- where one of the two gives no pair there are no draws
  no-own : (random : Bytes) (id : Id) → kem.made (words_of_seed (kdf random (codes "own") id)) ≡ None
      → draws (primitives_of kem) random id ≡ None
  unfolding draws primitives_of made_pair
  no-own random id e =
      ap (λ (x : Option Bytes). option_and_then (λ (a : KeyPair). option_map (λ (b : KeyPair).
      record { own = a; other = b; encapsulation = kdf random (codes "encap") id })
      (option_map (pair_of kem) (kem.made (words_of_seed (kdf random (codes "other") id))))) (option_map (pair_of kem) x)) e

  nothing : {A B : Type 0} (f : A → Option B) (o : Option A) → ((a : A) → f a ≡ None) → option_and_then f o ≡ None
  nothing f (Some a) h = h a
  nothing f None h = refl

  no-other : (random : Bytes) (id : Id) → kem.made (words_of_seed (kdf random (codes "other") id)) ≡ None
      → draws (primitives_of kem) random id ≡ None
  unfolding draws primitives_of made_pair
  no-other random id e =
      ap (λ (y : Option Bytes). option_and_then (λ (a : KeyPair). option_map (λ (b : KeyPair).
      record { own = a; other = b; encapsulation = kdf random (codes "encap") id })
      (option_map (pair_of kem) y)) (option_map (pair_of kem) (kem.made (words_of_seed (kdf random (codes "own") id))))) e
      ∙ nothing (λ (a : KeyPair). option_map (λ (b : KeyPair). record { own = a; other = b; encapsulation = kdf random (codes "encap") id }) None)
      (option_map (pair_of kem) (kem.made (words_of_seed (kdf random (codes "own") id)))) (λ a. refl)

  -- where some stream gives no pair, some id has no draws
  pub none-drawn : {W : Type 0} (f : W → Stream) (random : Bytes) (ids : List Id) (ws : List W) → map f ws ≡ flat_map (sources_for random) ids
      → (k : ℕ) (w : W) → k < length ws → get_or ws k w ≡ w → kem.made (f w) ≡ None
      → Any (λ row. row.left ≡ None) (drawn_for (primitives_of kem) random ids)
  none-drawn f random [] [] e k w h is none = absurd (omega arith)
  none-drawn f random [] (u ∷ ws) e k w h is none = cc
  none-drawn f random (id ∷ ids) [] e k w h is none = cc
  none-drawn f random (id ∷ ids) (u ∷ []) e k w h is none = cc
  none-drawn f random (id ∷ ids) (u ∷ (v ∷ ws)) e zero w h is none =
      let same : f u ≡ words_of_seed (kdf random (codes "own") id) = cc in (
        0,
        record { id = id; left = draws (primitives_of kem) random id },
        omega arith,
        refl,
        no-own random id (ap kem.made (sym same ∙ ap f is) ∙ none),
      )
  none-drawn f random (id ∷ ids) (u ∷ (v ∷ ws)) e (suc zero) w h is none =
      let same : f v ≡ words_of_seed (kdf random (codes "other") id) = cc in (
        0,
        record { id = id; left = draws (primitives_of kem) random id },
        omega arith,
        refl,
        no-other random id (ap kem.made (sym same ∙ ap f is) ∙ none),
      )
  none-drawn f random (id ∷ ids) (u ∷ (v ∷ ws)) e (suc (suc k)) w h is none =
      let rest : map f ws ≡ flat_map (sources_for random) ids = cc in
      let later = none-drawn f random ids ws rest k w (omega arith) is none in
      any-later (λ row. row.left ≡ None) (record { id = id; left = draws (primitives_of kem) random id }) (drawn_for (primitives_of kem) random ids) later

  -- both from what the code has
  pub made-all : {W : Type 0} (f : W → Stream) (random : Bytes) (to : List MemberId) (ws slice : List W) (pairs : List P)
      → map f ws ≡ flat_map (sources_for random) (ids_of to) → slice ≡ ws
      → map (λ (pair : P). Some (kem.secret_key pair)) pairs ≡ map (λ (w : W). kem.made (f w)) slice
      → map (λ (pair : P). Some (kem.secret_key pair)) pairs ≡ map kem.made (flat_map (sources_for random) (ids_of to))
  made-all f random to ws slice pairs e s h =
      h ∙ ap (map (λ w. kem.made (f w))) s ∙ map-twice f kem.made ws ∙ ap (map kem.made) e

  pub none-made : {W : Type 0} (f : W → Stream) (random : Bytes) (to : List MemberId) (ws slice : List W)
      → map f ws ≡ flat_map (sources_for random) (ids_of to) → slice ≡ ws
      → Any (λ (w : W). kem.made (f w) ≡ None) slice
      → Any (λ row. row.left ≡ None) (drawn_for (primitives_of kem) random (ids_of to))
  none-made f random to ws slice e s h =
      none-drawn f random (ids_of to) slice (ap (map f) s ∙ e) h.0 h.1 h.2 h.3 h.4
