-- A book by places, as the program carries it, and the book by ids that it stands for.
use Rattle.std.specs.Prelude.{◌≡◌, ℕ, suc, ◌<◌, ◌≤◌, cond, List, [], ◌∷◌, ◌++◌, length, get_or, Option, Some, None}
use Rattle.std.specs.Prelude.{bytes_eq, nat_eq, option_map}
use Rattle.group_model.specs.Sets.{Bytes, Id, IsDistinct}
use Rattle.group_model.specs.Primitives.{Primitives}
use Rattle.group_model.specs.KeyTerms.{Once, turned_known, secret_known, empty_ratchet, first_chain, next_chain}
use Rattle.group_model.specs.Pairing.{PairEvent}
use Rattle.member_book.specs.Books.{BookState, put, hand, keep, spent, step, step_gives, chained}

abbrev pub put_at : {A : Type 0} → (ℕ → A) → ℕ → A → ℕ → A
put_at f p v q = cond (nat_eq p q) v (f q)

pub record PlaceBook : Type 0 where
  pub ratchet : ℕ → Option Bytes
  pub chain : ℕ → Option Bytes
  pub events : ℕ → List PairEvent
  pub kept : (of : Id) → ℕ → Option Bytes

abbrev pub hand_at : ℕ → Bytes → PlaceBook → PlaceBook
hand_at p r b = record b { ratchet = put_at b.ratchet p (Some r) }

abbrev pub keep_at : (of : Id) → ℕ → Bytes → PlaceBook → PlaceBook
keep_at i p v b = record b { kept = λ j q. cond (bytes_eq i j) (cond (nat_eq p q) (Some v) (b.kept j q)) (b.kept j q) }

abbrev pub spent_at : (of : Id) → ℕ → PlaceBook → PlaceBook
spent_at i p b = record b { kept = λ j q. cond (bytes_eq i j) (cond (nat_eq p q) None (b.kept j q)) (b.kept j q) }

abbrev pub events_at : ℕ → List PairEvent → PlaceBook → PlaceBook
events_at p es b = record b { events = put_at b.events p es }

module _ (K : Primitives) where
  abbrev pub gives_at : ℕ → (input : Option Bytes) → PlaceBook → Option Bytes
  gives_at p input b = secret_known K (option_map (λ k. Once k) input) (b.ratchet p)

  abbrev pub step_at : ℕ → (input : Option Bytes) → PlaceBook → PlaceBook
  step_at p input b = record b {
    ratchet = put_at b.ratchet p (turned_known K (option_map (λ k. Once k) input) (b.ratchet p));
    chain = put_at b.chain p (option_map (first_chain K) (gives_at p input b));
  }

  abbrev pub chained_at : ℕ → PlaceBook → PlaceBook
  chained_at p b = record b { chain = put_at b.chain p (option_map (next_chain K) (b.chain p)) }

-- the place of an id: that of its first mention, else the next one
abbrev pub place_of : List Id → Id → ℕ
place_of [] t = 0
place_of (i ∷ ids) t = cond (bytes_eq i t) 0 (suc (place_of ids t))

abbrev pub id_at : List Id → ℕ → Id
id_at ids p = get_or ids p []

-- the book by ids, of members in the order of their places
abbrev pub by_ids : List Id → PlaceBook → BookState
by_ids ids b = record {
  ratchet = λ s. b.ratchet (place_of ids s);
  chain = λ s. b.chain (place_of ids s);
  events = λ s. b.events (place_of ids s);
  kept = λ i s. b.kept i (place_of ids s);
}

-- places from n on were not met
pub record Unmet (b : PlaceBook) (n : ℕ) : Type 0 where
  pub ratchets : (p : ℕ) → n ≤ p → b.ratchet p ≡ Some empty_ratchet
  pub chains : (p : ℕ) → n ≤ p → b.chain p ≡ None
  pub events : (p : ℕ) → n ≤ p → b.events p ≡ []
  pub kept : (i : Id) (p : ℕ) → n ≤ p → b.kept i p ≡ None

-- each call at a place is that at its id
pub record ByPlaces (ids : List Id) (p : ℕ) (b : PlaceBook) : Type 0 where
  pub hands : (r : Bytes) → by_ids ids (hand_at p r b) ≡ hand (id_at ids p) (Some r) (by_ids ids b)
  pub steps : (K : Primitives) (input : Option Bytes)
      → by_ids ids (step_at K p input b) ≡ step K (id_at ids p) input (by_ids ids b)
  pub gives : (K : Primitives) (input : Option Bytes)
      → gives_at K p input b ≡ step_gives K (id_at ids p) input (by_ids ids b)
  pub chains : (K : Primitives) → by_ids ids (chained_at K p b) ≡ chained K (id_at ids p) (by_ids ids b)
  pub keeps : (i : Id) (v : Bytes)
      → by_ids ids (keep_at i p v b) ≡ keep i (id_at ids p ∷ []) (λ y. Some v) (by_ids ids b)
  pub spends : (i : Id) → by_ids ids (spent_at i p b) ≡ spent i (id_at ids p) (by_ids ids b)
  pub spent_gives : (i : Id) → b.kept i p ≡ (by_ids ids b).kept i (id_at ids p)
  pub sends : (es : List PairEvent)
      → by_ids ids (events_at p es b) ≡ record (by_ids ids b) { events = put (by_ids ids b).events (id_at ids p) es }

abbrev pub PlacesServe : Type 0
PlacesServe = (ids : List Id) (p : ℕ) (b : PlaceBook) → IsDistinct ids → p < length ids → ByPlaces ids p b

-- meeting the next id leaves the book as it is
abbrev pub MeetServes : Type 0
MeetServes = (ids : List Id) (i : Id) (b : PlaceBook) → Unmet b (length ids) → by_ids (ids ++ i ∷ []) b ≡ by_ids ids b

-- inputs that are kept one after the other are kept together
abbrev pub KeepsEach : Type 0
KeepsEach = (i y : Id) (ids : List Id) (f : Id → Option Bytes) (b : BookState)
    → keep i (y ∷ []) f (keep i ids f b) ≡ keep i (y ∷ ids) f b
