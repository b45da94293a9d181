-- The parts that are made are those of the model, one for each receiver, and what is held stands for the book after them.
use Rattle.std.proofs.Common.{◌≡◌, ◌≢◌, inl, inr, ℕ, suc, ◌<◌, ◌-◌, ◌^◌, Bool, true, false, cond, ◌&&◌, nat_eq, nat_lt, List, [], ◌∷◌, length, map, get_or, Option, Some, None, refl, sym, ◌∙◌, ap, subst, option_map, bytes_eq}
use Rattle.std.specs.Prelude.{IsSome, IfSome, is_some, slice_index}
use Rattle.std.specs.Option.{option_and_then}
use Rattle.std.proofs.lemmas.Option.{get_or_from_slice_get, slice_get_within}
use Rattle.std.proofs.lemmas.Slice.Eq.{bytes_eq-Decides}
use Rattle.kem_trait.specs.declared.kem.Kem.{Ghosts}
use Rattle.wire_codec.specs.Packets.{AddressedPart}
use Rattle.group_model.specs.Sets.{Bytes, Id, In, here, there, has, IsAscending, IsBelow}
use Rattle.group_model.specs.Marks.{IsPlace}
use Rattle.group_model.specs.Knowledge.{with_draws}
use Rattle.group_model.specs.Packets.{Addressed}
use Rattle.group_model.specs.Pairing.{Draws, Part, PairEvent, Sent, draws, part_to}
use Rattle.group_model.specs.Parts.{parts_of}
use Rattle.group_model.specs.Primitives.{KeyPair, Primitives}
use Rattle.group_model.specs.Settings.{Owner}
use Rattle.group_model.proofs.Ascending.{ascending-above, below-not_self}
use Rattle.group_model.proofs.ListFacts.{test, yes_is, no_is, other_id, has-In, In-cases, In-nothing, some_same}
use Rattle.group_model.proofs.Places.{place-one}
use Rattle.group_parts.specs.Parts.{IsSized, part_bytes, part_in, part_len, part_read}
use Rattle.group_keys.specs.Primitives.{primitives_of}
use Rattle.group_packets.specs.Packets.{addressed_of, part_written}
use Rattle.member_book.specs.Books.{BookState, put}
use Rattle.member_book.specs.BooksAfter.{part_by}
use Rattle.member_book.specs.Calls.{sends_each}
use Rattle.member_book.specs.PairStates.{PairState, PairStands, next_part}
use Rattle.member_book.specs.Places.{PlacesServe, id_at}
use Rattle.two_party.specs.Drawn.{Drawn, after_take, left_for}
use Rattle.two_party.proofs.TakenOnce.{others-kept}
use Rattle.secret_book.specs.HeldBooks.{HeldBook, sealed_at}
use Rattle.secret_book.specs.Serving.{ServesPlaces}
use Rattle.book_standing.specs.Standing.{CallsStand, HeldStands}
use Rattle.book_standing.proofs.Calls.{at_own}
use Rattle.body_parts.specs.declared.addressing.Receiver.{Receiver}
use Rattle.body_parts.specs.Receivers.{ArePlaced, id_to, ids_to}
use Rattle.body_parts.specs.Sending.{AreDrawnFrom, AreMadeFor, CanSend, CanSendAll, IsSealedFor, SendsTo, given}
use Rattle.body_parts.proofs.Gathered.{In-ids}

some_of : {A : Type 0} (o : Option A) → IsSome o → (a : A) × (o ≡ Some a)
some_of None h = absurd (cc)
some_of (Some a) h = (a, refl)

-- what gives something is there
pub given_by : {A B : Type 0} (f : A → Option B) (o : Option A) (b : B) → option_and_then f o ≡ Some b → (a : A) × (o ≡ Some a) × (f a ≡ Some b)
given_by f None b e = absurd (cc)
given_by f (Some a) b e = (a, refl, e)

-- what a mapped option was
pub mapped : {A B : Type 0} (f : A → B) (o : Option A) (b : B) → option_map f o ≡ Some b → (a : A) × (o ≡ Some a) × (b ≡ f a)
mapped f None b e = absurd (cc)
mapped f (Some a) b e = (a, refl, sym (some_same e))

-- ---- the receivers that are left

module _ (ids : List Id) (r : Receiver) (others : List Receiver) (placed : ArePlaced ids (r ∷ others))
    (up : IsAscending (ids_to (r ∷ others))) where
  -- each has another id
  pub other_than : (y : Id) → In y (ids_to others) → id_to r ≡ y → ⊥
  other_than y i e =
      below-not_self y (subst (λ (z : Id). IsBelow z y) e (ascending-above (id_to r) (ids_to others) up y i))

  -- and another place
  place_apart : (q : Receiver) → In q others → q.place ≡ r.place → ⊥
  place_apart q i e =
      let at : IsPlace ids r.place (id_to q) = subst (λ (p : ℕ). IsPlace ids p (id_to q)) e (placed q (there i)) in
      other_than (id_to q) (In-ids others q i) (place-one ids r.place (id_to r) (id_to q) (placed r here) at)

  -- parts can be made for them after one for the first
  pub can_still : (before after : HeldBook) (drawn left : List Drawn) → after.met ≡ before.met
      → ((p : ℕ) → p ≢ r.place → after.pairing p ≡ before.pairing p) → left ≡ after_take drawn (id_to r)
      → CanSendAll before drawn (r ∷ others) → CanSendAll after left others
  can_still before after drawn left met same taken can q i =
      let was : CanSend before drawn q.place (id_to q) = can q (there i) in
      let pairing : before.pairing q.place ≡ after.pairing q.place = sym (same q.place (place_apart q i)) in
      let draw : left_for drawn (id_to q) ≡ left_for left (id_to q) =
      sym (ap (λ (rows : List Drawn). left_for rows (id_to q)) taken
      ∙ others-kept drawn (id_to r) (id_to q) (other_than (id_to q) (In-ids others q i))) in
      record {
        reach = record {
          met = subst (λ (n : ℕ). q.place < n) (sym met) was.reach.met;
          other = subst (λ (o : Option PairState). IsSome o) pairing was.reach.other;
          few = subst (λ (o : Option PairState). IfSome o (λ k. k.sends < 2 ^ 32 - 1)) pairing was.reach.few;
        };
        draw = subst (λ (o : Option Draws). IsSome o) draw was.draw;
      }

  -- and the draws for them are from the same bytes
  pub drawn_still : (K : Primitives) (random : Bytes) (drawn left : List Drawn) → left ≡ after_take drawn (id_to r)
      → AreDrawnFrom K random drawn (ids_to (r ∷ others)) → AreDrawnFrom K random left (ids_to others)
  drawn_still K random drawn left taken from y i =
      ap (λ (rows : List Drawn). left_for rows y) taken ∙ others-kept drawn (id_to r) y (other_than y i) ∙ from y (there i)

-- ---- the model's parts

parts_same : (f g : Id → Option Part) (ids : List Id) → ((y : Id) → In y ids → f y ≡ g y) → parts_of f ids ≡ parts_of g ids
parts_same f g [] e = refl
parts_same f g (y ∷ ids) e =
    ap (λ (o : Option Part). option_and_then (λ (q : Part). option_map (λ (rest : List Addressed). record { to = y; part = q } ∷ rest)
    (parts_of f ids)) o) (e y here)
    ∙ ap (λ (l : Option (List Addressed)). option_and_then (λ (q : Part). option_map (λ (rest : List Addressed). record { to = y; part = q } ∷ rest)
    l) (g y)) (parts_same f g ids (λ z i. e z (there i)))

-- one part, from the list of it
one_of : (f : Id → Option Part) (y : Id) (a : Addressed) → parts_of f (y ∷ []) ≡ Some (a ∷ [])
    → (q : Part) × (f y ≡ Some q) × (record { to = y; part = q } ≡ a)
one_of f y a e = of_option (f y) refl e
  where
    of_option : (o : Option Part) → f y ≡ o
        → option_and_then (λ (q : Part). option_map (λ (rest : List Addressed). record { to = y; part = q } ∷ rest) (Some [])) o ≡ Some (a ∷ [])
        → (q : Part) × (f y ≡ Some q) × (record { to = y; part = q } ≡ a)
    of_option None is d = absurd (cc)
    of_option (Some q) is d = (q, is, (cc))

-- a part for the first, and those for the others
parts_more : (f g : Id → Option Part) (y : Id) (ids : List Id) (a : Addressed) (rest : List Addressed) → parts_of f (y ∷ []) ≡ Some (a ∷ [])
    → ((z : Id) → In z ids → g z ≡ f z) → parts_of g ids ≡ Some rest → parts_of f (y ∷ ids) ≡ Some (a ∷ rest)
parts_more f g y ids a rest one same others =
    let q = one_of f y a one in
    ap (λ (o : Option Part). option_and_then (λ (p : Part). option_map (λ (l : List Addressed). record { to = y; part = p } ∷ l)
    (parts_of f ids)) o) q.1
    ∙ ap (λ (l : Option (List Addressed)). option_map (λ (tail : List Addressed). record { to = y; part = q.0 } ∷ tail) l)
    (sym (parts_same g f ids same) ∙ others)
    ∙ ap (λ (first : Addressed). Some (first ∷ rest)) q.2

-- ---- the book after sends

module _ (O : Owner) (random : Bytes) where
  -- one more id that gets a part
  sends_more : (y : Id) (ids : List Id) (state : BookState) → (In y ids → ⊥)
      → sends_each O random ids (sends_each O random (y ∷ []) state) ≡ sends_each O random (y ∷ ids) state
  sends_more y ids state fresh = λ i. record state { events = λ z. at z i }
    where
      at : (z : Id) → cond (has ids z)
          (with_draws (draws O.primitives random z) (cond (has (y ∷ []) z) (with_draws (draws O.primitives random z) (state.events z)) (state.events z)))
          (cond (has (y ∷ []) z) (with_draws (draws O.primitives random z) (state.events z)) (state.events z))
          ≡ cond (has (y ∷ ids) z) (with_draws (draws O.primitives random z) (state.events z)) (state.events z)
      at z = elim (test (bytes_eq y z)) [
        | yes_is e ↦ elim (test (has ids z)) [
          | yes_is t ↦ absurd (fresh (subst (λ (x : Id). In x ids) (sym ((bytes_eq-Decides y z).0 e)) (has-In ids z t)))
          | no_is f ↦ rw (e, f) refl
        ]
        | no_is e ↦ rw e refl
      ]

  -- a part for another id is that of before
  part_stays : (y z : Id) (payload : Bytes) (state : BookState) → (y ≡ z → ⊥)
      → part_by O (given random) z payload (sends_each O random (y ∷ []) state) ≡ part_by O (given random) z payload state
  part_stays y z payload state apart =
      let none : has (y ∷ []) z ≡ false = ap (λ (t : Bool). cond t true false) (other_id y z apart) in
      ap (λ (t : Bool). option_and_then (λ (d : Draws). part_to O.primitives (O.public_key z)
      (cond t (with_draws (draws O.primitives random z) (state.events z)) (state.events z)) d payload) (draws O.primitives random z)) none

  -- one send
  sent_once : (y : Id) (d : Draws) (state : BookState) → draws O.primitives random y ≡ Some d
      → record state { events = put state.events y (Sent d ∷ state.events y) } ≡ sends_each O random (y ∷ []) state
  sent_once y d state is = λ i. record state { events = λ z. at z i }
    where
      at : (z : Id) → put state.events y (Sent d ∷ state.events y) z
          ≡ cond (has (y ∷ []) z) (with_draws (draws O.primitives random z) (state.events z)) (state.events z)
      at z = elim (test (bytes_eq y z)) [
        | yes_is e ↦ (let same : y ≡ z = (bytes_eq-Decides y z).0 e in
            rw e (sym (ap (λ (o : Option Draws). with_draws o (state.events z)) (ap (draws O.primitives random) (sym same) ∙ is)
            ∙ ap (λ (x : Id). Sent d ∷ state.events x) (sym same))))
        | no_is e ↦ rw e refl
      ]

-- ---- parts that are made

module _ {K P : Type 0} (kem : Ghosts K P) where
  -- nobody gets a part
  pub none_made : (payload : Bytes) (drawn : List Drawn) (b : HeldBook) → AreMadeFor kem [] payload drawn b b []
  none_made payload drawn b = record {
    count = refl;
    met = refl;
    written = refl;
    sends = λ O ids state random h placed from. record { sent = refl; stands = h };
  }

  -- a part for the first, and then those for the others
  pub more_made : (ids : List Id) (r : Receiver) (others : List Receiver) (payload : Bytes) (drawn left : List Drawn) (before mid after : HeldBook)
      (one : AddressedPart) (parts : List AddressedPart) → ArePlaced ids (r ∷ others) → IsAscending (ids_to (r ∷ others))
      → left ≡ after_take drawn (id_to r) → AreMadeFor kem (r ∷ []) payload drawn before mid (one ∷ [])
      → AreMadeFor kem others payload left mid after parts → AreMadeFor kem (r ∷ others) payload drawn before after (one ∷ parts)
  more_made places r others payload drawn left before mid after one parts are up taken first rest = record {
    count = ap suc rest.count;
    met = rest.met ∙ first.met;
    written = ap (λ (a : AddressedPart). a ∷ map (part_written kem) (map (addressed_of kem) parts))
        (ap (λ (l : List AddressedPart). get_or l 0 one) first.written)
        ∙ ap (λ (l : List AddressedPart). one ∷ l) rest.written;
    sends = λ O ids state random h placed from.
        let y = id_to r in
        let apart : (z : Id) → In z (ids_to others) → y ≡ z → ⊥ = other_than places r others are up in
        let a : SendsTo kem O ids random payload (r ∷ []) state mid (one ∷ []) =
        first.sends O ids state random h (λ q i. placed q (elim (In-cases i) [
          | inl e ↦ subst (λ (x : Receiver). In x (r ∷ others)) (sym e) here
          | inr l ↦ absurd (In-nothing l)
        ])) (λ z i. from z (elim (In-cases i) [
          | inl e ↦ subst (λ (x : Id). In x (ids_to (r ∷ others))) (sym e) here
          | inr l ↦ absurd (In-nothing l)
        ])) in
        let b : SendsTo kem O ids random payload others (sends_each O random (y ∷ []) state) after parts =
        rest.sends O ids (sends_each O random (y ∷ []) state) random a.stands (λ q i. placed q (there i))
        (drawn_still places r others are up (primitives_of kem) random drawn left taken from) in
        record {
          sent = parts_more (λ z. part_by O (given random) z payload state) (λ z. part_by O (given random) z payload (sends_each O random (y ∷ []) state))
              y (ids_to others) (addressed_of kem one) (map (addressed_of kem) parts) a.sent
              (λ z i. part_stays O random y z payload state (apart z i)) b.sent;
          stands = subst (HeldStands kem O ids after) (sends_more O random y (ids_to others) state (λ i. apart y i refl)) b.stands;
        };
  }

  -- what bytes of a part read as
  let_through : (t : Bool) (x q : Part) → cond t (Some x) None ≡ Some q → x ≡ q
  let_through true x q e = cc
  let_through false x q e = absurd (cc)

  read_is : (bytes : Bytes) (q : Part) → part_read kem bytes ≡ Some q → part_in kem bytes ≡ q
  unfolding part_read
  read_is bytes q e = let_through (nat_eq (length bytes) (part_len kem) && nat_lt (slice_index bytes 0) 2) (part_in kem bytes) q e

  module _ (Calls : (O : Owner) (ids : List Id) (p : ℕ) (b : HeldBook) (state : BookState) → HeldStands kem O ids b state → p < length ids
      → CallsStand kem O ids p b state) (Places : PlacesServe)
      (Serves : (es : ℕ → List PairEvent) (q : ℕ) (x : HeldBook) → ServesPlaces es q x)
      (Next : (M : Primitives) (card : KeyPair) (theirs : Bytes) (es : List PairEvent) (k : PairState) (d : Draws) (payload : Bytes)
      → PairStands card theirs es k → next_part M k d payload ≡ part_to M theirs es d payload) where
    -- the part for a receiver is the model's
    part_is : (r : Receiver) (payload : Bytes) (drawn : List Drawn) (before after : HeldBook) (bytes : Bytes)
        (m : IsSealedFor kem r payload drawn before after bytes) (O : Owner) (ids : List Id) (state : BookState) (random : Bytes)
        → HeldStands kem O ids before state → IsPlace ids r.place (id_to r) → draws O.primitives random (id_to r) ≡ Some m.draw
        → part_by O (given random) (id_to r) payload state ≡ Some m.part
    part_is r payload drawn before after bytes m O ids state random h at drew =
        let y = id_to r in
        let p = r.place in
        let within : p < length ids = slice_get_within ids p y at in
        let own : id_at ids p ≡ y = get_or_from_slice_get ids p y [] at in
        let k = given_by (λ (k : PairState). next_part (primitives_of kem) k m.draw payload) (before.pairing p) m.part m.next in
        let events : h.events p ≡ state.events y = at_own kem O ids p before state h within Places Serves h.events
        ∙ ap (λ (s : BookState). s.events (id_at ids p)) h.is ∙ ap state.events own in
        let pair : PairStands O.card (O.public_key y) (state.events y) k.0 =
        subst (λ (es : List PairEvent). PairStands O.card (O.public_key y) es k.0) events
        (subst (λ (x : Id). PairStands O.card (O.public_key x) (h.events p) k.0) own (h.pairings p k.0 k.1)) in
        ap (option_and_then (λ (d : Draws). part_to O.primitives (O.public_key y) (state.events y) d payload)) drew
        ∙ ap (λ (M : Primitives). part_to M (O.public_key y) (state.events y) m.draw payload) h.primitives
        ∙ sym (Next (primitives_of kem) O.card (O.public_key y) (state.events y) k.0 m.draw payload pair) ∙ k.2

    -- and the book stands for that after one send
    sent_stands : (r : Receiver) (payload : Bytes) (drawn : List Drawn) (before after : HeldBook) (bytes : Bytes)
        (m : IsSealedFor kem r payload drawn before after bytes) (O : Owner) (ids : List Id) (state : BookState) (random : Bytes)
        → HeldStands kem O ids before state → IsPlace ids r.place (id_to r) → draws O.primitives random (id_to r) ≡ Some m.draw
        → HeldStands kem O ids after (sends_each O random (id_to r ∷ []) state)
    sent_stands r payload drawn before after bytes m O ids state random h at drew =
        let y = id_to r in
        let within : r.place < length ids = slice_get_within ids r.place y at in
        let own : id_at ids r.place ≡ y = get_or_from_slice_get ids r.place y [] at in
        let k = given_by (λ (k : PairState). next_part (primitives_of kem) k m.draw payload) (before.pairing r.place) m.part m.next in
        let calls = Calls O ids r.place before state h within in
        subst (λ (b : HeldBook). HeldStands kem O ids b (sends_each O random (y ∷ []) state)) (sym m.held)
        (subst (HeldStands kem O ids (sealed_at r.place m.draw before)) (sent_once O random y m.draw state drew)
        (subst (λ (x : Id). HeldStands kem O ids (sealed_at r.place m.draw before)
        (record state { events = put state.events x (Sent m.draw ∷ state.events x) })) own (calls.sends m.draw (ap is_some k.1))))

    -- the bytes of a part that was sealed read as that part
    read_back : ((part : Part) → IsSized kem part → part_read kem (part_bytes kem part) ≡ Some part)
        → (r : Receiver) (payload : Bytes) (drawn : List Drawn) (before after : HeldBook) (bytes : Bytes)
        → (m : IsSealedFor kem r payload drawn before after bytes) → part_in kem bytes ≡ m.part
    read_back back r payload drawn before after bytes m =
        ap (part_in kem) m.are ∙ read_is (part_bytes kem m.part) m.part (back m.part m.sized)

    pub one_made : ((part : Part) → IsSized kem part → part_read kem (part_bytes kem part) ≡ Some part)
        → (r : Receiver) (payload : Bytes) (drawn : List Drawn) (before after : HeldBook) (bytes : Bytes)
        → IsSealedFor kem r payload drawn before after bytes
        → AreMadeFor kem (r ∷ []) payload drawn before after (record { to = r.member; bytes = bytes } ∷ [])
    one_made back r payload drawn before after bytes m = record {
      count = refl;
      met = ap (λ (b : HeldBook). b.met) m.held;
      written = ap (λ (q : Part). (let a : AddressedPart = record { to = r.member; bytes = part_bytes kem q } in a ∷ [])) (read_back back r payload drawn before after bytes m)
          ∙ ap (λ (b : Bytes). (let a : AddressedPart = record { to = r.member; bytes = b } in a ∷ [])) (sym m.are);
      sends = λ O ids state random h placed from.
          let y = id_to r in
          let drew : draws O.primitives random y ≡ Some m.draw =
          ap (λ (M : Primitives). draws M random y) h.primitives ∙ sym (from y here) ∙ m.left in
          let read : part_in kem bytes ≡ m.part = read_back back r payload drawn before after bytes m in
          record {
            sent = ap (option_and_then (λ (q : Part). option_map (λ (rest : List Addressed). record { to = y; part = q } ∷ rest) (Some [])))
                (part_is r payload drawn before after bytes m O ids state random h (placed r here) drew)
                ∙ ap (λ (q : Part). let a : Addressed = record { to = y; part = q } in Some (a ∷ [])) (sym read);
            stands = sent_stands r payload drawn before after bytes m O ids state random h (placed r here) drew;
          };
    }
