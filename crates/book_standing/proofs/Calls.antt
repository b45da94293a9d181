-- Each call at the place of a member that was met stands for the same call of the model.
use Rattle.std.proofs.Common.{◌≡◌, ℕ, ◌<◌, ◌≤◌, Bool, true, false, cond, ◌&&◌, nat_lt, List, [], ◌∷◌, length, Option, Some, None, refl, sym, ◌∙◌, ap, subst, arith, nat_eq, option_map}
use Rattle.std.specs.Prelude.{IsSome, is_some, slice_index, bytes_eq}
use Rattle.std.specs.Option.{option_and_then}
use Rattle.std.proofs.lemmas.Slice.Eq.{bytes_eq-Decides}
use Rattle.std.proofs.lemmas.Bool.{eqb-false, eqb-true}
use Rattle.kem_trait.specs.declared.kem.Kem.{Ghosts}
use Rattle.group_model.specs.Sets.{Bytes, Id}
use Rattle.group_model.specs.Knowledge.{heard_part, payload_in, with_opened}
use Rattle.group_model.specs.Pairing.{Draws, Part, PairEvent, Sent, Opened, opened, part_to}
use Rattle.group_model.specs.Primitives.{Content, KeyPair, Primitives}
use Rattle.group_model.specs.Settings.{Owner}
use Rattle.group_parts.specs.Parts.{part_bytes, part_in, part_len, part_read}
use Rattle.group_keys.specs.Primitives.{primitives_of}
use Rattle.member_book.specs.Books as model
use Rattle.member_book.specs.Books.{BookState, put}
use Rattle.member_book.specs.PairStates.{PairState, PairStands, after_send, next_part, opens_to}
use Rattle.member_book.specs.Places.{ByPlaces, PlacesServe, by_ids, id_at, place_of, put_at}
use Rattle.two_party.specs.Received.{after_part, payload_of, received}
use Rattle.secret_book.specs.HeldBooks.{HeldBook, NothingHeld, handed, stepped, secret_by, chained, text_key_of, with_kept, with_pairing, opened_at, payload_from, sealed_at, part_from}
use Rattle.secret_book.specs.Serving.{PairingsStand, SendStands, OpenStands, RefusedStays, ServesPlaces, placed}
use Rattle.book_standing.specs.Standing.{HeldStands}
use Rattle.book_standing.proofs.Places.{keep_beyond, put_beyond}

some_of : {A : Type 0} (o : Option A) → IsSome o → (a : A) × (o ≡ Some a)
some_of None h = absurd (cc)
some_of (Some a) h = (a, refl)

is_mapped : {A : Type 0} (f : A → A) (o : Option A) → IsSome o → IsSome (option_map f o)
is_mapped f None h = absurd (cc)
is_mapped f (Some a) h = refl

none_some : ◌≡◌ {A = Option Bytes} (Some []) None → ⊥
none_some e = absurd (cc)

abbrev two : Bool → Option Bytes
two t = cond t (Some []) None

pub data Tested (t : Bool) : Type 0 where
  holds : t ≡ true → Tested t
  fails : t ≡ false → Tested t

pub tested : (t : Bool) → Tested t
tested true = holds refl
tested false = fails refl

same_number : (n : ℕ) → nat_eq n n ≡ true
same_number n = elim (tested (nat_eq n n)) [
  | holds t ↦ t
  | fails f ↦ absurd (eqb-false n n f refl)
]

through : (f : Part → Option Content) (t : Bool) (x : Part) (content : Content) → option_and_then f (cond t (Some x) None) ≡ Some content
    → cond t (Some x) None ≡ Some x
through f true x content e = refl
through f false x content e = absurd (cc)

-- ---- one book that stands

module _ {K P : Type 0} (kem : Ghosts K P) (O : Owner) (ids : List Id) (p : ℕ) (b : HeldBook) (state : BookState)
    (h : HeldStands kem O ids b state) (within : p < length ids) (Places : PlacesServe)
    (Serves : (es : ℕ → List PairEvent) (q : ℕ) (x : HeldBook) → ServesPlaces es q x) where
  read_in : (f : Part → Option Content) (bytes : Bytes) (content : Content) → option_and_then f (part_read kem bytes) ≡ Some content
      → part_read kem bytes ≡ Some (part_in kem bytes)
  unfolding part_read
  read_in f bytes content e =
      through f (nat_eq (length bytes) (part_len kem) && nat_lt (slice_index bytes 0) 2) (part_in kem bytes) content e

  abbrev y : Id
  y = id_at ids p

  abbrev seen : BookState
  seen = by_ids ids (placed h.events b)

  by : ByPlaces ids p (placed h.events b)
  by = Places ids p (placed h.events b) h.distinct within

  at : ServesPlaces h.events p b
  at = Serves h.events p b

  -- the place of the id of the place
  found : place_of ids y ≡ p
  found =
      let marks : ℕ → Option Bytes = λ q. two (nat_eq q p) in
      let e : marks p ≡ marks (place_of ids y) =
      (Places ids p (record { ratchet = b.ratchet; chain = b.chain; events = h.events; kept = λ i q. marks q }) h.distinct within).spent_gives [] in
      let one : Some [] ≡ marks (place_of ids y) = ap two (sym (same_number p)) ∙ e in
      elim (tested (nat_eq (place_of ids y) p)) [
        | holds t ↦ eqb-true (place_of ids y) p t
        | fails f ↦ absurd (none_some (one ∙ ap two f))
      ]

  pub at_own : {A : Type 0} (f : ℕ → A) → f p ≡ f (place_of ids y)
  at_own f = ap f (sym found)

  moved : (x : HeldBook) → x.secret ≡ b.secret → x.met ≡ b.met → x.pairing ≡ b.pairing → NothingHeld (length ids) x → (s : BookState)
      → by_ids ids (placed h.events x) ≡ s → HeldStands kem O ids x s
  moved x secret met pairing unmet s is = record {
    primitives = h.primitives;
    secret = secret ∙ h.secret;
    distinct = h.distinct;
    met = met ∙ h.met;
    unmet = unmet;
    others = λ q lt other. subst (λ (f : ℕ → Option PairState). IsSome (f q)) (sym pairing) (h.others q lt other);
    events = h.events;
    unsent = h.unsent;
    pairings = λ q k e. h.pairings q k (ap (λ (f : ℕ → Option PairState). f q) (sym pairing) ∙ e);
    is = is;
  }

  behind : (q : ℕ) → length ids ≤ q → p < q
  behind q le = omega (arith, within, le)

  pub hands : (r : Bytes) → HeldStands kem O ids (handed p r b) (model.hand y (Some r) seen)
  hands r = moved (handed p r b) refl refl refl (record {
    ratchet = λ q le. put_beyond b.ratchet p q (Some r) (behind q le) ∙ h.unmet.ratchet q le;
    chain = h.unmet.chain;
    pairing = h.unmet.pairing;
    kept = h.unmet.kept;
  }) (model.hand y (Some r) seen) (ap (by_ids ids) (at.hands r) ∙ by.hands r)

  pub steps : (input : Option Bytes) → HeldStands kem O ids (stepped (primitives_of kem) p input b) (model.step O.primitives y input seen)
  steps input = moved (stepped (primitives_of kem) p input b) refl refl refl (record {
    ratchet = λ q le. put_beyond b.ratchet p q _ (behind q le) ∙ h.unmet.ratchet q le;
    chain = λ q le. put_beyond b.chain p q _ (behind q le) ∙ h.unmet.chain q le;
    pairing = h.unmet.pairing;
    kept = h.unmet.kept;
  }) (model.step O.primitives y input seen)
      (ap (by_ids ids) (at.steps (primitives_of kem) input) ∙ by.steps (primitives_of kem) input
      ∙ ap (λ (k : Primitives). model.step k y input seen) (sym h.primitives))

  pub gives : (input : Option Bytes) → secret_by (primitives_of kem) input (b.ratchet p) ≡ model.step_gives O.primitives y input seen
  gives input = at.gives (primitives_of kem) input ∙ by.gives (primitives_of kem) input
      ∙ ap (λ (k : Primitives). model.step_gives k y input seen) (sym h.primitives)

  pub chains : HeldStands kem O ids (chained (primitives_of kem) p b) (model.chained O.primitives y seen)
  chains = moved (chained (primitives_of kem) p b) refl refl refl (record {
    ratchet = h.unmet.ratchet;
    chain = λ q le. put_beyond b.chain p q _ (behind q le) ∙ h.unmet.chain q le;
    pairing = h.unmet.pairing;
    kept = h.unmet.kept;
  }) (model.chained O.primitives y seen)
      (ap (by_ids ids) (at.chains (primitives_of kem)) ∙ by.chains (primitives_of kem)
      ∙ ap (λ (k : Primitives). model.chained k y seen) (sym h.primitives))

  pub keys : text_key_of (primitives_of kem) (b.chain p) ≡ model.text_key O.primitives y seen
  keys = ap (text_key_of (primitives_of kem)) (at_own b.chain) ∙ ap (λ (k : Primitives). model.text_key k y seen) (sym h.primitives)

  pub keeps : (i : Id) (v : Bytes) → HeldStands kem O ids (with_kept i p (Some v) b) (model.keep i (y ∷ []) (λ z. Some v) seen)
  keeps i v = moved (with_kept i p (Some v) b) refl refl refl (record {
    ratchet = h.unmet.ratchet;
    chain = h.unmet.chain;
    pairing = h.unmet.pairing;
    kept = λ j q le. keep_beyond b.kept i j p q (Some v) (behind q le) ∙ h.unmet.kept j q le;
  }) (model.keep i (y ∷ []) (λ z. Some v) seen) (ap (by_ids ids) (at.keeps i v) ∙ by.keeps i v)

  pub spends : (i : Id) → HeldStands kem O ids (with_kept i p None b) (model.spent i y seen)
  spends i = moved (with_kept i p None b) refl refl refl (record {
    ratchet = h.unmet.ratchet;
    chain = h.unmet.chain;
    pairing = h.unmet.pairing;
    kept = λ j q le. keep_beyond b.kept i j p q None (behind q le) ∙ h.unmet.kept j q le;
  }) (model.spent i y seen) (ap (by_ids ids) (at.spends i) ∙ by.spends i)

  -- a pairing is put in place of another, with its events
  paired : (o : Option PairState) (es : List PairEvent) → IsSome o
      → PairingsStand O.card (λ q. O.public_key (id_at ids q)) (put_at h.events p es) (with_pairing p o b) → (s : BookState)
      → record seen { events = put seen.events y es } ≡ s → HeldStands kem O ids (with_pairing p o b) s
  paired o es some stand s is = record {
    primitives = h.primitives;
    secret = h.secret;
    distinct = h.distinct;
    met = h.met;
    unmet = record {
      ratchet = h.unmet.ratchet;
      chain = h.unmet.chain;
      pairing = λ q le. put_beyond b.pairing p q o (behind q le) ∙ h.unmet.pairing q le;
      kept = h.unmet.kept;
    };
    others = λ q lt other. put_some (nat_eq p q) (b.pairing q) (h.others q lt other);
    events = put_at h.events p es;
    unsent = λ q le. put_beyond h.events p q es (behind q le) ∙ h.unsent q le;
    pairings = stand;
    is = ap (by_ids ids) (at.sends o es) ∙ by.sends es ∙ is;
  }
    where
      put_some : (t : Bool) (v : Option PairState) → IsSome v → IsSome (cond t o v)
      put_some true v other = some
      put_some false v other = other

  -- what stands at the place before
  before : h.events p ≡ seen.events y
  before = at_own h.events

  module _ (Sends : (card : KeyPair) (keys : ℕ → Bytes) (es : ℕ → List PairEvent) → SendStands card keys es) where
    pub sends : (d : Draws) → IsSome (b.pairing p)
        → HeldStands kem O ids (sealed_at p d b) (record seen { events = put seen.events y (Sent d ∷ seen.events y) })
    sends d some = paired (option_map (λ k. after_send k d) (b.pairing p)) (Sent d ∷ h.events p)
        (is_mapped (λ k. after_send k d) (b.pairing p) some)
        (Sends O.card (λ q. O.public_key (id_at ids q)) h.events b p d h.pairings)
        (record seen { events = put seen.events y (Sent d ∷ seen.events y) })
        (ap (λ (es : List PairEvent). record seen { events = put seen.events y (Sent d ∷ es) }) before)

  -- a pairing that is there, with what it stands for
  stands : (k : PairState) → b.pairing p ≡ Some k → PairStands O.card (O.public_key y) (seen.events y) k
  stands k e = subst (λ (es : List PairEvent). PairStands O.card (O.public_key y) es k) before (h.pairings p k e)

  module _ (Next : (M : Primitives) (card : KeyPair) (theirs : Bytes) (es : List PairEvent) (k : PairState) (d : Draws) (payload : Bytes)
      → PairStands card theirs es k → next_part M k d payload ≡ part_to M theirs es d payload) where
    pub part : (d : Draws) (payload : Bytes) → IsSome (b.pairing p) → option_and_then (part_from kem d payload) (b.pairing p)
        ≡ option_map (part_bytes kem) (part_to O.primitives (O.public_key y) (seen.events y) d payload)
    part d payload some =
        let k = some_of (b.pairing p) some in
        ap (option_and_then (part_from kem d payload)) k.1
        ∙ ap (option_map (part_bytes kem)) (Next (primitives_of kem) O.card (O.public_key y) (seen.events y) k.0 d payload (stands k.0 k.1)
        ∙ ap (λ (M : Primitives). part_to M (O.public_key y) (seen.events y) d payload) (sym h.primitives))

  -- ---- parts that come

  module _ (Opens : (M : Primitives) (card : KeyPair) (theirs : Bytes) (es : List PairEvent) (k : PairState) (q : Part)
      → PairStands card theirs es k → opens_to M k q ≡ opened M card es q) where
    -- what a part opens to by the pairing is what it opens to by what was sent and opened
    same : (k : PairState) (e : b.pairing p ≡ Some k) (q : Part) → opens_to (primitives_of kem) k q ≡ opened O.primitives O.card (seen.events y) q
    same k e q = Opens (primitives_of kem) O.card (O.public_key y) (seen.events y) k q (stands k e)
        ∙ ap (λ (M : Primitives). opened M O.card (seen.events y) q) (sym h.primitives)

    payload_of_part : (k : PairState) (e : b.pairing p ≡ Some k) (o : Option Part)
        → option_map payload_of (option_and_then (λ (q : Part). opens_to (primitives_of kem) k q) o)
        ≡ payload_in O.primitives O.card (seen.events y) o
    payload_of_part k e None = refl
    payload_of_part k e (Some q) = ap (option_map payload_of) (same k e q)

    pub payload : (bytes : Bytes) → IsSome (b.pairing p) → option_and_then (payload_from kem bytes) (b.pairing p)
        ≡ payload_in O.primitives O.card (seen.events y) (part_read kem bytes)
    payload bytes some =
        let k = some_of (b.pairing p) some in
        ap (option_and_then (payload_from kem bytes)) k.1 ∙ payload_of_part k.0 k.1 (part_read kem bytes)

    heard_none : (k : PairState) (e : b.pairing p ≡ Some k) (o : Option Part)
        → option_and_then (λ (q : Part). opens_to (primitives_of kem) k q) o ≡ None
        → heard_part O.primitives O.card o (seen.events y) ≡ seen.events y
    heard_none k e None r = refl
    heard_none k e (Some q) r = ap (λ (c : Option Content). with_opened q c (seen.events y)) (sym (same k e q) ∙ r)

    heard_some : (k : PairState) (e : b.pairing p ≡ Some k) (o : Option Part) (q : Part) (content : Content) → o ≡ Some q
        → option_and_then (λ (x : Part). opens_to (primitives_of kem) k x) o ≡ Some content
        → heard_part O.primitives O.card o (seen.events y) ≡ Opened q content ∷ seen.events y
    heard_some k e o q content is r =
        ap (λ (x : Option Part). heard_part O.primitives O.card x (seen.events y)) is
        ∙ ap (λ (c : Option Content). with_opened q c (seen.events y))
        (sym (same k e q) ∙ ap (option_and_then (λ (x : Part). opens_to (primitives_of kem) k x)) (sym is) ∙ r)

    -- an id's events that stay
    put_same : (es : List PairEvent) → es ≡ seen.events y → put seen.events y es ≡ seen.events
    put_same es e = λ i t. each t i
      where
        each : (t : Id) → put seen.events y es t ≡ seen.events t
        each t = elim (tested (bytes_eq y t)) [
          | holds s ↦ ap (λ (z : Bool). cond z es (seen.events t)) s ∙ e ∙ ap seen.events ((bytes_eq-Decides y t).0 s)
          | fails f ↦ ap (λ (z : Bool). cond z es (seen.events t)) f
        ]

    module _ (Took : (card : KeyPair) (keys : ℕ → Bytes) (es : ℕ → List PairEvent) → OpenStands card keys es kem)
        (Stays : RefusedStays kem) where
      opens_by : (k : PairState) (e : b.pairing p ≡ Some k) (bytes : Bytes) (r : Option Content) → received kem k bytes ≡ r
          → HeldStands kem O ids (opened_at kem p bytes b) (model.open_from O.primitives O.card y (part_read kem bytes) seen)
      opens_by k e bytes None r =
          let stays : opened_at kem p bytes b ≡ b = Stays b p bytes k e r in
          let one : model.open_from O.primitives O.card y (part_read kem bytes) seen ≡ seen =
          ap (λ (f : Id → List PairEvent). record seen { events = f })
          (put_same (heard_part O.primitives O.card (part_read kem bytes) (seen.events y)) (heard_none k e (part_read kem bytes) r)) in
          subst (λ (x : HeldBook). HeldStands kem O ids x (model.open_from O.primitives O.card y (part_read kem bytes) seen)) (sym stays)
          (moved b refl refl refl h.unmet (model.open_from O.primitives O.card y (part_read kem bytes) seen) (sym one))
      opens_by k e bytes (Some content) r =
          let is : part_read kem bytes ≡ Some (part_in kem bytes) = read_in (λ (q : Part). opens_to (primitives_of kem) k q) bytes content r in
          let es : Opened (part_in kem bytes) content ∷ h.events p
          ≡ heard_part O.primitives O.card (part_read kem bytes) (seen.events y) =
          ap (λ (l : List PairEvent). Opened (part_in kem bytes) content ∷ l) before
          ∙ sym (heard_some k e (part_read kem bytes) (part_in kem bytes) content is r) in
          paired (option_map (λ (x : PairState). after_part kem x bytes) (b.pairing p)) (Opened (part_in kem bytes) content ∷ h.events p)
          (is_mapped (λ (x : PairState). after_part kem x bytes) (b.pairing p) (ap is_some e))
          (Took O.card (λ q. O.public_key (id_at ids q)) h.events b p bytes k content h.pairings e r)
          (model.open_from O.primitives O.card y (part_read kem bytes) seen)
          (ap (λ (l : List PairEvent). record seen { events = put seen.events y l }) es)

      pub opens : (bytes : Bytes) → IsSome (b.pairing p)
          → HeldStands kem O ids (opened_at kem p bytes b) (model.open_from O.primitives O.card y (part_read kem bytes) seen)
      opens bytes some = let k = some_of (b.pairing p) some in opens_by k.0 k.1 bytes (received kem k.0 bytes) refl
